pub mod Follows
pub mod Names
