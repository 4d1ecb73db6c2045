pub mod GapLemmas
pub mod ShapeLemmas
