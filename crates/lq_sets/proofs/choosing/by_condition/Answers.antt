use Rattle.std.proofs.Common.{subst, sym, ◌∙◌}
use Rattle.lq_cond.specs.Told.{told}
use Rattle.lq_sets.proofs.Chosen.{choice_so, in_dialect}
use Rattle.lq_sets.proofs.choosing.by_condition.Goals as goal
use Rattle.lq_seen.specs.View.{view}
use Rattle.lq_turns.specs.Deed.{contents_of}
use Rattle.lq_verdicts.specs.Verdict.{IsTold}

pub returns : goal.returns
returns g c = λ options database same stands suffice.
    c.in_ok-made.ensures (told c.args.dialect c.args.set.now.cond database.users database.rows) c.args.dialect c.args.set.now.cond
    (subst (λ m. IsTold m c.holds-answer.result) (sym suffice) (c.holds-answer.ensures database stands))
    ∙ (in_dialect c.args.what c.args.set.now.cond c.args.set.now.on_fail c.args.set.now.on_error database c.args.dialect options.dialect same
    ∙ choice_so (view options c.args.set.now) (contents_of database) c.args.what c.requires)
