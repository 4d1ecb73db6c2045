pub mod WellTurned
pub mod InHand
pub mod Counted
pub mod Sighted
pub mod Expected
mod TurnLaid
