pub mod Crash
pub mod Forms
pub mod Plan
