pub mod Cut
pub mod FirstScripts
mod OneAfterAnother
mod RehearsalJobs
mod Rehearsed
pub mod Returned
pub mod Shut
mod Single
mod Unbound
