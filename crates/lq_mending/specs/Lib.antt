pub mod Laws
pub mod Comes
pub mod Undoes
pub mod Mends
