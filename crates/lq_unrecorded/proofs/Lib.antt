pub mod MarkParts
pub mod Naming
