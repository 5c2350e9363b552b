pub mod Sequences
pub mod Symbols
