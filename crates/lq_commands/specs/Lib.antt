pub mod Scripts
pub mod Works
pub mod Rehearsal
pub mod Outputs
pub mod Refusals
pub mod Jobs
pub mod Stamp
