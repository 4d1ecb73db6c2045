pub mod Laws
pub mod SqlTree
