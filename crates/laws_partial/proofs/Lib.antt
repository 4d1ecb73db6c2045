pub mod AddColumn
pub mod AddNotNull
pub mod Loosened
pub mod Singles
