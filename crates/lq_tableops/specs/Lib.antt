pub mod Aimed
