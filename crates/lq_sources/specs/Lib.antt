pub mod Faults
pub mod Source
pub mod Items
pub mod Walk
