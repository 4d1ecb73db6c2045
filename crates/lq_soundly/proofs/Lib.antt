mod OrderLemmas
mod SoundLemmas
mod TestedLemmas
mod ViewLemmas
