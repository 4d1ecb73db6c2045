mod Ended
mod MetLemmas
mod TableLemmas
mod TargetLemmas
