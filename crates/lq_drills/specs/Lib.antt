pub mod Drilled
pub mod Players
