pub mod Cuts
pub mod Defined
pub mod Lengths
