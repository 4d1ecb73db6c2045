pub mod Closed
pub mod Pushed
pub mod Right
