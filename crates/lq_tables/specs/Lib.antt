pub mod AddColumn
pub mod AddColumnLaws
pub mod ConstraintsLaws
pub mod CreateTable
pub mod CreateTableLaws
pub mod DropTable
pub mod RenameTable
pub mod Constraints
