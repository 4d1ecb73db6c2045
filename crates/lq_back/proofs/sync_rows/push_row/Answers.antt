use Rattle.std.proofs.Common.{ap, ◌∙◌, ◌++◌, ◌∷◌, []}
use Rattle.lq_base.specs.declared.tracking.Exec.TheVariants.{Executed}
use Rattle.lq_seen.specs.View.{view}
use Rattle.lq_back.proofs.sync_rows.push_row.Goals as goal
use Rattle.lq_turns.specs.Settle.{row_for}

pub returns-clause-rows : goal.returns-clause-rows
returns-clause-rows c = λ options.
    c.in_ok-push.ensures.ok
    ∙ (ap (λ r. c.args.made.now.rows ++ r ∷ []) (c.in_ok-row.ensures options)
    ∙ ap (λ n. c.args.made.now.rows ++ row_for c.args.reading n Executed (view options c.args.set.now) ∷ []) c.in_ok-made.ensures)
