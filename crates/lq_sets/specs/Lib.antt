-- The turns of a changelog.
pub mod Counting
pub mod SetTurns
