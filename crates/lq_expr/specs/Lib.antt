pub mod Cuts
pub mod Words
pub mod Grammar
pub mod Spelled
