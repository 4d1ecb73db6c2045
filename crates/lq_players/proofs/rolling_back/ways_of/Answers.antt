use Rattle.std.proofs.Common.{ap, rules, subst}
use Rattle.std.specs.Prelude.{Err, reverse, ◌≡◌}
use Rattle.lq_back.specs.Reversal.{IsReversed}
use Rattle.lq_back.specs.declared.reverse_fault.ReverseFault.TheVariants.{Not}
use Rattle.lq_players.specs.Tasks.{if_not}
use Rattle.lq_seen.specs.View.{any_meaning, views}
use Rattle.lq_turns.specs.Script.{not_reversible}
use Rattle.lq_players.proofs.rolling_back.ways_of.Goals as goal

pub returns-in-Ok-clause-passes : goal.returns-in-Ok-clause-passes
returns-in-Ok-clause-passes c = λ options. ap if_not (c.in-Ok.ensures.reversed options)

pub returns-in-Err-Not-clause-passes : goal.returns-in-Err-Not-clause-passes
returns-in-Err-Not-clause-passes c =
    let so : c.reversible.result ≡ Err (Not c.in-Err-Not.of) = search rules in
    λ options.
    ap if_not (subst (λ r. IsReversed (not_reversible options.dialect any_meaning (views options c.args.changelog.now.sets) (reverse c.args.rows.now)) r) so (c.reversible.ensures.reversed options))

pub returns-in-Err-OutOfMemory-clause-passes : goal.returns-in-Err-OutOfMemory-clause-passes
returns-in-Err-OutOfMemory-clause-passes c = λ options. tt
