pub mod Names
pub mod Ranks
