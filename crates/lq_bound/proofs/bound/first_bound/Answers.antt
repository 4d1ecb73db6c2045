use Rattle.std.proofs.Common.{ap, rules, ◌∙◌}
use Rattle.std.specs.Prelude.{None, Some, ◌≡◌}
use Rattle.lq_bound.proofs.FirstBound.{first_found, named}
use Rattle.lq_bound.specs.Turns.{bound_in}
use Rattle.lq_bound.proofs.bound.first_bound.Goals as goal

pub returns-in-Some : goal.returns-in-Some
returns-in-Some c = λ options rows is.
    let found : Some c.in-Some.set.now ≡ bound_in c.args.sets.now c.args.turns.now = search rules in
    ap named found ∙ first_found options c.args.sets.now rows c.args.turns.now is

pub returns-in-None : goal.returns-in-None
returns-in-None c = λ options rows is.
    let found : None ≡ bound_in c.args.sets.now c.args.turns.now = search rules in
    ap named found ∙ first_found options c.args.sets.now rows c.args.turns.now is
