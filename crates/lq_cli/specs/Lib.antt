pub mod Job
pub mod Table
pub mod Options
pub mod Line
pub mod Worked
