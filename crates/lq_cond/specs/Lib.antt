pub mod Kinds
pub mod Reading
pub mod Stated
pub mod Printed
pub mod Told
