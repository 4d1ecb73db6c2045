pub mod Files
pub mod Pushed
pub mod Worked
pub mod Small
