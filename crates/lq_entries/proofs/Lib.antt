pub mod Both
pub mod Each
pub mod Folded
pub mod Logs
pub mod Moments
