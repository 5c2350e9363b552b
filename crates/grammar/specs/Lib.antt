pub mod Marks
pub mod Machine
