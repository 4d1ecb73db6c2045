pub mod Laws
pub mod Gathers
