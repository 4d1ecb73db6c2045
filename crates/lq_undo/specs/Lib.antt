pub mod Ago
