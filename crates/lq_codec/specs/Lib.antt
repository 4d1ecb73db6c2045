pub mod Codec
pub mod Words
pub mod Values
pub mod Queries
pub mod Tables
pub mod State
