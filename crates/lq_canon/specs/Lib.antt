pub mod Passing
pub mod Sums
