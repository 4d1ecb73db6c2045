pub mod Laws
pub mod Meets
pub mod Words
