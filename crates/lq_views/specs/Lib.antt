pub mod CreateSequence
pub mod CreateView
pub mod QueryTextLaws
pub mod DropSequence
pub mod DropView
pub mod RenameSequence
pub mod RenameView
pub mod QueryText
