pub mod Journal
pub mod Work
pub mod Calls
pub mod Executor
