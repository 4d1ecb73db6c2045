use Rattle.lq_rows.proofs.Continued.{carries}
use Rattle.lq_engine.proofs.definition.define.Goals as goal

pub returns-in-CreateTable : goal.returns-in-CreateTable
returns-in-CreateTable c = rw (c.in-CreateTable.is, ← c.as_slice.ensures, ← c.as_slice-in-CreateTable.ensures, ← c.as_slice-in-CreateTable-2.ensures) (carries _ c.args.parts.now c.create_table.new.parts c.create_table.result c.create_table.ensures)

pub returns-in-DropTable : goal.returns-in-DropTable
returns-in-DropTable c = rw (c.in-DropTable.is) (carries _ c.args.parts.now c.drop_table.new.parts c.drop_table.result c.drop_table.ensures)

pub returns-in-RenameTable : goal.returns-in-RenameTable
returns-in-RenameTable c = rw (c.in-RenameTable.is) (carries _ c.args.parts.now c.rename_table.new.parts c.rename_table.result c.rename_table.ensures)
