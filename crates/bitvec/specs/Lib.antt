pub mod Arithmetic
pub mod Examples
pub mod Laws
pub mod Names
pub mod Table
