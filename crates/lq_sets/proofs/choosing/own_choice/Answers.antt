use Rattle.std.proofs.Common.{subst, sym, ◌∙◌}
use Rattle.lq_cond.specs.Told.{told}
use Rattle.lq_sets.proofs.Chosen.{in_dialect}
use Rattle.lq_sets.proofs.Seen.{rows_suffice}
use Rattle.lq_sets.proofs.choosing.own_choice.Goals as goal
use Rattle.lq_turns.specs.declared.choice.What.TheVariants.{New}
use Rattle.lq_verdicts.specs.Verdict.{IsTold}

pub returns : goal.returns
returns g c = λ options database same seen.
    c.in_ok-made.ensures (told c.args.dialect c.args.changelog.now.cond database.users database.rows) c.args.dialect c.args.changelog.now.cond
    (subst (λ m. IsTold m c.holds-answer.result) (sym (rows_suffice c.args.dialect c.args.changelog.now.cond c.args.rows.now database seen.rows_are)) (c.holds-answer.ensures database seen.stands))
    ∙ in_dialect New c.args.changelog.now.cond c.args.changelog.now.on_fail c.args.changelog.now.on_error database c.args.dialect options.dialect same
