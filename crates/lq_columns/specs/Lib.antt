pub mod AddDefaultValue
pub mod DropColumn
pub mod DropDefaultValue
