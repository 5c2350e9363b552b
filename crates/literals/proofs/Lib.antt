pub mod Digitwise
pub mod ReadBack
