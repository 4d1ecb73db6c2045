use Rattle.std.specs.Map.{set_value}
use Rattle.lq_base.specs.Name.{is_named}
use Rattle.lq_parts.proofs.taken.TakenNames.reshape.Goals as goal

pub returns-in-Err : goal.returns-in-Err
returns-in-Err c = λ tables was it old new there known. c.forget.ensures (set_value (is_named c.args.table.now) tables it)
