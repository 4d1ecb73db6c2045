pub mod One
pub mod Plain
pub mod Stopped
