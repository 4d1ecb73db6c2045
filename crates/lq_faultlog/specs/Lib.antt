-- The line of the log for a fault of a changelog.
pub mod Lines
