pub mod Bitwise
pub mod Laws
pub mod Masks
