pub mod Answers
pub mod Checked
pub mod Under
pub mod Resting
pub mod Playing
