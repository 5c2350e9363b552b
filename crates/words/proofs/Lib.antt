pub mod Found
pub mod Spellings
