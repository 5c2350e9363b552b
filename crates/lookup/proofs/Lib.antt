pub mod Shown
pub mod Names
