pub mod Limits
pub mod Numbers
pub mod Lexing
pub mod Reads
pub mod Spelling
