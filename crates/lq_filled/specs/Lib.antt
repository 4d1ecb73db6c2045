pub mod With
