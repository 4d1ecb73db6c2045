pub mod Listing
pub mod Moments
pub mod Moves
pub mod Taking
pub mod Tearing
