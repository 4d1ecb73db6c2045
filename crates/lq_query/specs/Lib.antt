pub mod Cell
pub mod Given
pub mod Source
