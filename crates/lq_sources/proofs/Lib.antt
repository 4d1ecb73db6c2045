pub mod Given
pub mod Listings
pub mod Sources
pub mod Steps
pub mod StillSmall
pub mod Keeps
mod Plain
