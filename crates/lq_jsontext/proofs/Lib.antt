pub mod Trees
pub mod NoFloats
pub mod Back
pub mod Ended
pub mod Levels
pub mod ReadBack
