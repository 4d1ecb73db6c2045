mod EntryLemmas
mod ReadLemmas
mod SoundShape
