pub mod Levels
pub mod Measure
pub mod Parts
pub mod ReadLemmas
pub mod Runs
pub mod Shallow
pub mod SpelledLemmas
