pub mod OnColumn
