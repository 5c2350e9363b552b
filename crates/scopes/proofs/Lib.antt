pub mod Closing
pub mod Restoring
pub mod Depths
