pub mod Counted
pub mod Parentheses
pub mod Atoms
pub mod CutLaw
pub mod Onward
