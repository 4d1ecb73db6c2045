use Rattle.std.proofs.Common.{ap, ◌∙◌}
use Rattle.lq_model.specs.declared.statement.Statement.{Statement}
use Rattle.lq_seen.proofs.turn.run_turn.Goals as goal
use Rattle.lq_seen.specs.View.{turn_of, view}
use Rattle.lq_turns.specs.Settle.{record_in}
use Rattle.std.specs.Prelude.{List}

pub returns : goal.returns
returns c = λ options rows at.
    c.in_ok-turn.ensures
    ∙ (ap (λ (ss : List Statement). turn_of c.args.set.now ss c.args.set.now.in_transaction c.in_ok-row.row) c.in_ok-statements.ensures
    ∙ ap (turn_of c.args.set.now _ c.args.set.now.in_transaction) (c.in_ok-row.ensures options rows at ∙ ap (λ e. record_in c.args.reading c.args.what e (view options c.args.set.now) rows) c.exec_of.ensures))
