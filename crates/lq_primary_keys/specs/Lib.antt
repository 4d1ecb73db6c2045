pub mod AddPrimaryKey
pub mod DropsLaws
pub mod DropPrimaryKey
pub mod Drops
