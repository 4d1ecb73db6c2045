pub mod Each
pub mod Written
pub mod TestLemmas
