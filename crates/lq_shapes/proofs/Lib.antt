pub mod CreatedLemmas
pub mod KindLemmas
pub mod ShownLemmas
pub mod StatedLemmas
pub mod TestedLemmas
