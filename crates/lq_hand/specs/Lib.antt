pub mod Hand
pub mod Way
