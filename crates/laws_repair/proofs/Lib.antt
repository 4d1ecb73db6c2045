pub mod LastText
pub mod Marked
pub mod Mended
pub mod Parts
pub mod Repaired
pub mod Through
pub mod Unlocked
pub mod Updates
