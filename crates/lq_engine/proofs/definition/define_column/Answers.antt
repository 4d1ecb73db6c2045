use Rattle.lq_rows.proofs.Continued.{carries}
use Rattle.lq_engine.proofs.definition.define_column.Goals as goal

pub returns-in-AddColumn : goal.returns-in-AddColumn
returns-in-AddColumn c = rw (c.in-AddColumn.is) (carries _ c.args.parts.now c.add_column.new.parts c.add_column.result c.add_column.ensures)

pub returns-in-DropColumn : goal.returns-in-DropColumn
returns-in-DropColumn c = rw (c.in-DropColumn.is) (carries _ c.args.parts.now c.drop_column.new.parts c.drop_column.result c.drop_column.ensures)

pub returns-in-RenameColumn : goal.returns-in-RenameColumn
returns-in-RenameColumn c = rw (c.in-RenameColumn.is) (carries _ c.args.parts.now c.rename_column.new.parts c.rename_column.result c.rename_column.ensures)
