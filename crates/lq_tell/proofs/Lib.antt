pub mod LineLemmas
pub mod LogLemmas
pub mod SinkLemmas
pub mod SoakTexts
