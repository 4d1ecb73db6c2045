pub mod AskedLemmas
pub mod GivenLemmas
pub mod Listed
pub mod Scaled
pub mod TestLemmas
pub mod TrackingNames
