pub mod Stacks
pub mod Lent
pub mod Histories
pub mod Depths
pub mod Tables
