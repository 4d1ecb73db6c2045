mod EntryLemmas
pub mod OneRow
mod PartLemmas
mod SlotLemmas
mod StepLemmas
mod TakenLemmas
mod TargetLemmas
