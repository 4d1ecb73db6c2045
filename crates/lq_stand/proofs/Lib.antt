pub mod Apart
pub mod Clean
pub mod Differ
pub mod FirstRows
pub mod Places
pub mod StaysApart
pub mod StaysClean
pub mod Unnamed
