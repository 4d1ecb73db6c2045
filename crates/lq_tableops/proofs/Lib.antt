pub mod AimedLemmas
pub mod Arms
pub mod ClashLemmas
pub mod CreateLemmas
pub mod NamingLemmas
mod TargetLemmas
