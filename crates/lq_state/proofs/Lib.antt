pub mod ShapedLemmas
