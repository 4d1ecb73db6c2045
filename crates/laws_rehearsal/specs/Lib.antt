pub mod Rehearsed
