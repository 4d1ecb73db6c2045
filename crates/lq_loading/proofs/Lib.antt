pub mod Raises
pub mod TwinRows
