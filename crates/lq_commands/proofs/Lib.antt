pub mod BareName
mod Checked
mod Cleared
pub mod Commanded
pub mod Endings
mod Freed
pub mod Generates
mod InOneTurn
mod Inserted
pub mod Jobbed
pub mod LoadedTexts
mod MayWrite
pub mod PlainRefusals
pub mod Planned
mod Printed
mod RolledBack
mod Seen
pub mod Sequenced
mod Starts
mod Stopped
pub mod Telling
mod Updated
pub mod ViewsRead
pub mod Warned
