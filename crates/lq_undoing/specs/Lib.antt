pub mod Undid
