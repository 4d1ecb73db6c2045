pub mod Db
pub mod Load
pub mod Alone
