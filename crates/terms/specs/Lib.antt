pub mod Terms
pub mod Records
pub mod Scoping
pub mod Sorting
