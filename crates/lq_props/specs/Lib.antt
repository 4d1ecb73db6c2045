pub mod Replaced
pub mod Props
