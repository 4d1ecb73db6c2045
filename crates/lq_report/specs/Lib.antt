pub mod Laws
pub mod Mark
pub mod Output
