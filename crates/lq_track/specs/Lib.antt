pub mod Lock
pub mod Log
pub mod Database
pub mod Statements
