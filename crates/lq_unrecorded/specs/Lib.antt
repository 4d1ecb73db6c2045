pub mod Laws
pub mod Part
