mod Works
pub mod Doing
pub mod Rooms
mod AllWorks
mod ToldCalls
pub mod Stated
mod WentOn
mod Makes
mod Takes
pub mod Known
pub mod Stepping
pub mod Losing
pub mod UnderWay
mod Names
pub mod Grows
pub mod Resting
pub mod Full
pub mod Keeping
pub mod Ending
mod Opens
pub mod Begins
pub mod Counting
pub mod Beside
pub mod Left
pub mod Whole
pub mod Stopped
pub mod Replayed
pub mod Behind
pub mod Since
mod CallCrashes
pub mod Stopping
mod Stops
pub mod RunCrashes
pub mod Scripts
