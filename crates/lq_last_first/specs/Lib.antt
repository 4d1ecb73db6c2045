pub mod LastFirst
