pub mod Laid
pub mod LessOne
