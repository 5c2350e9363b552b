pub mod Counted
pub mod Exact
pub mod GapSpelt
pub mod GapOnly
