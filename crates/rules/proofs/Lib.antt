pub mod Bridge
pub mod Walks
pub mod Acceptance
pub mod Strikes
pub mod PushZero
pub mod Stretches
pub mod Whole
pub mod Wrongs
