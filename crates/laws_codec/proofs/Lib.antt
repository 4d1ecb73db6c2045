pub mod SoundLemmas
pub mod Whole
pub mod Read
