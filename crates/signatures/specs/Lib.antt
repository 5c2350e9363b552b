pub mod Steps
pub mod Views
