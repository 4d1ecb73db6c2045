pub mod Examples
pub mod Levels
pub mod StatedLemmas
pub mod ToldLemmas
pub mod TrackingNames
mod EachLemmas
