pub mod State
pub mod Shown
