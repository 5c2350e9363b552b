pub mod Forms
pub mod Syntax
pub mod Trees
pub mod Laws
