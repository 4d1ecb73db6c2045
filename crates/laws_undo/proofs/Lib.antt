pub mod Texts
pub mod Undoing
pub mod Mending
