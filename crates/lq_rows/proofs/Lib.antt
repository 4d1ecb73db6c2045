pub mod Continued
mod PrintLemmas
pub mod SeenLemmas
mod WholeLemmas
