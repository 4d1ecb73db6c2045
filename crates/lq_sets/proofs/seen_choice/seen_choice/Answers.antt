use Rattle.std.proofs.Common.{subst, sym}
use Rattle.lq_sets.specs.Counting.{Suffice}
use Rattle.lq_sets.proofs.seen_choice.seen_choice.Goals as goal

pub returns : goal.returns
returns g c = λ options database same stands.
    c.in_ok-made.ensures options database same stands (subst (Suffice c.args.dialect c.args.set.now.cond database) (sym c.as_slice.ensures) (c.in_ok-rows.ensures c.args.dialect database stands))
