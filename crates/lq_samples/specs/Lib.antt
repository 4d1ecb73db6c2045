pub mod NewSequenceLaws
pub mod NewSequence
