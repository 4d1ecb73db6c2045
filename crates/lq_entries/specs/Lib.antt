pub mod Load
pub mod Log
