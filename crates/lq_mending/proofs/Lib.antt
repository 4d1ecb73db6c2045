pub mod Making
pub mod Onward
pub mod Crashed
pub mod Taken
pub mod Fitting
pub mod Behind
pub mod Freed
mod Barred
pub mod Whole
pub mod Undone
pub mod Passing
pub mod Marking
