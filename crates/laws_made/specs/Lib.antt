pub mod CreatedAs
