pub mod Values
pub mod Tables
pub mod WordRuns
pub mod Figures
pub mod Only
pub mod Faults
pub mod Laws
pub mod Short
