pub mod AddForeignKey
pub mod DropsLaws
pub mod NamedLaws
pub mod OnDeleteLaws
pub mod CreateIndex
pub mod DropForeignKey
pub mod DropIndex
pub mod OnDelete
