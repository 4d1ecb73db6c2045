pub mod Reports
pub mod Tasks
pub mod AtOnce
pub mod RollingBack
pub mod Syncing
pub mod Updating
pub mod AnyCommand
