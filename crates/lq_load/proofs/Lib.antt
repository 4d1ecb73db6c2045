pub mod All
pub mod Fields
pub mod Right
pub mod RowsWritten
