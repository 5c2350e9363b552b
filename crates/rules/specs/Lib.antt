pub mod Refusals
pub mod Records
pub mod Steps
pub mod Table
pub mod Laws
pub mod Wrong
