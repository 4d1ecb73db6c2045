pub mod RenameColumn
