pub mod BothLemmas
pub mod EachLemmas
pub mod Faults
pub mod FormLemmas
pub mod TextLemmas
