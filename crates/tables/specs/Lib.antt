pub mod Shorts
pub mod Stores
pub mod Views
