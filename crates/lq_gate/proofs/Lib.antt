pub mod Crash
pub mod Gated
pub mod Gates
pub mod Written
