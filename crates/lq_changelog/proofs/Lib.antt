pub mod KeysRead
pub mod Names
pub mod Short
pub mod Right
