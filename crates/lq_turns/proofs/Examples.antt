-- What the definitions give for given changesets, rows and calls, computed.
pub mod Given
pub mod Kept
pub mod Conditions
pub mod Rows
pub mod Counts
pub mod Rollbacks
pub mod Faults
pub mod Calls
pub mod Schedules
