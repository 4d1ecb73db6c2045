pub mod Given
pub mod Look
pub mod Keys
pub mod Items
pub mod Values
pub mod Json
