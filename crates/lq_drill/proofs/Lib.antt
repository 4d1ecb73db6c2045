pub mod Crashed
mod Ended
mod Ending
mod Falling
mod Followed
pub mod FreedOnce
pub mod Machines
mod Moved
mod Players
mod Steps
mod Stopped
