pub mod AllRows
pub mod ByPlace
pub mod Names
pub mod RowParts
