-- Turns that take rows back, and rows that are inserted.
pub mod Bound
pub mod Laws
pub mod Reversal
