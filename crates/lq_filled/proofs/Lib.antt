mod Behind
mod OrderLemmas
mod RowLemmas
mod WholeLemmas
