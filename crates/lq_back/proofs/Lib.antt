mod Indexed
mod Laid
mod RowEntered
mod RowsBack
pub mod Spelled
mod Synced
mod Undone
pub mod Ways
