mod ChangeLemmas
mod EditLemmas
mod InsertDecides
mod InsertSteps
mod OrphanLemmas
mod TargetLemmas
mod UpdateLemmas
