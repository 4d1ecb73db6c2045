pub mod Asked
mod Stayed
