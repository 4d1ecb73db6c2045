use Rattle.lq_rows.proofs.Continued.{carries}
use Rattle.lq_engine.proofs.definition.change_column.Goals as goal

pub returns-in-SetNotNull : goal.returns-in-SetNotNull
returns-in-SetNotNull c = rw (c.in-SetNotNull.is) (carries _ c.args.parts.now c.set_not_null.new.parts c.set_not_null.result c.set_not_null.ensures)

pub returns-in-DropNotNull : goal.returns-in-DropNotNull
returns-in-DropNotNull c = rw (c.in-DropNotNull.is) (carries _ c.args.parts.now c.drop_not_null.new.parts c.drop_not_null.result c.drop_not_null.ensures)

pub returns-in-Modify : goal.returns-in-Modify
returns-in-Modify c = rw (c.in-Modify.is) (carries _ c.args.parts.now c.modify.new.parts c.modify.result c.modify.ensures)

pub returns-in-SetDefault : goal.returns-in-SetDefault
returns-in-SetDefault c = rw (c.in-SetDefault.is) (carries _ c.args.parts.now c.set_default.new.parts c.set_default.result c.set_default.ensures)

pub returns-in-DropDefault : goal.returns-in-DropDefault
returns-in-DropDefault c = rw (c.in-DropDefault.is) (carries _ c.args.parts.now c.drop_default.new.parts c.drop_default.result c.drop_default.ensures)
