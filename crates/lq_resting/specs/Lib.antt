pub mod Asking
pub mod Resting
