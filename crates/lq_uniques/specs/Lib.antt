pub mod AddUnique
pub mod DropsLaws
pub mod DropUnique
pub mod Drops
