pub mod Cuts
pub mod Forms
pub mod Lines
pub mod Rows
pub mod Starts
