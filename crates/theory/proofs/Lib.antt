pub mod Sorts
pub mod Spellings
