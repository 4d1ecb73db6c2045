pub mod Cuts
pub mod Words
pub mod Lines
pub mod Made
pub mod File
pub mod View
