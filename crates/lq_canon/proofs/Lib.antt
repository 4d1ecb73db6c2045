pub mod AtomRead
pub mod AtomShorter
pub mod PairsLeft
pub mod PartsRead
pub mod ValuePassed
pub mod Walks
