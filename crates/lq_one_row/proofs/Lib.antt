pub mod OnlyLemmas
