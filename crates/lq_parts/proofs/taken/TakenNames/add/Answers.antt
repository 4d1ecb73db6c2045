use Rattle.std.specs.BTreeMap.{insert_entry}
use Rattle.lq_base.specs.Name.{name_cmp}
use Rattle.lq_parts.proofs.taken.TakenNames.add.Goals as goal

pub returns-in-Err : goal.returns-in-Err
returns-in-Err c = λ tables it is none known. c.forget.ensures (insert_entry name_cmp tables c.args.table.now it)
