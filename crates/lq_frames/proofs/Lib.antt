pub mod Appended
pub mod Frames
pub mod Numbers
pub mod Texts
