pub mod LoadData
pub mod LoadKeys
pub mod Rows
