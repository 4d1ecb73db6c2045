pub mod Faults
pub mod Following
pub mod Player
pub mod Drill
