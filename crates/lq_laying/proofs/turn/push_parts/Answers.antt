use Rattle.std.proofs.Common.{rules}
use Rattle.std.proofs.lemmas.Result.{on_ok_weaker}
use Rattle.std.specs.Prelude.{[], ◌∷◌}
use Rattle.lq_turns.specs.declared.call.Call.TheVariants.{Execute}
use Rattle.lq_turns.specs.declared.deed.Deed.TheVariants.{Rows}
use Rattle.lq_laying.specs.Laying.{begun_calls}
use Rattle.lq_laying.proofs.Laying.{then_lays}
use Rattle.lq_laying.proofs.turn.push_parts.Goals as goal

pub returns-in_err-push : goal.returns-in_err-push
returns-in_err-push c = search rules

pub returns : goal.returns
returns c = on_ok_weaker c.push_statements.result
    (then_lays (begun_calls c.args.marking.now c.args.statements.now) (Execute (Rows c.args.row) ∷ []) c.args.calls.now c.push.new.calls c.push_statements.new.calls c.in_ok-push.ensures)
    c.push_statements.ensures
