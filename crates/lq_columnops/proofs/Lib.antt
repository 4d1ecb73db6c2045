pub mod Arms
pub mod NeedLemmas
pub mod RowLemmas
