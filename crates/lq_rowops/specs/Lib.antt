pub mod InsertTests
pub mod Updated
