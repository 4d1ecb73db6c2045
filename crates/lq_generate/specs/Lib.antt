pub mod Types
pub mod Created
pub mod Generated
pub mod Faults
