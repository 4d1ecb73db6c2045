pub mod Number
pub mod Kind
pub mod Moment
pub mod Value
pub mod Name
pub mod Spells
pub mod Laws
pub mod Sql
