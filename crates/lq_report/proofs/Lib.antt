pub mod Appended
pub mod Bars
