use Rattle.lq_rows.proofs.Continued.{carries}
use Rattle.lq_engine.proofs.arms.carry_out.Goals as goal

pub returns-in-Insert : goal.returns-in-Insert
returns-in-Insert c = rw (c.in-Insert.is, ← c.as_slice.ensures, ← c.as_slice-in-Insert.ensures) (carries _ c.args.parts.now c.insert_into.new.parts c.insert_into.result c.insert_into.ensures)

pub returns-in-Update : goal.returns-in-Update
returns-in-Update c = rw (c.in-Update.is, ← c.as_slice-in-Update.ensures) c.update.ensures

pub returns-in-Delete : goal.returns-in-Delete
returns-in-Delete c = rw (c.in-Delete.is) c.delete_from.ensures
