use Rattle.std.proofs.Common.{ap, rules, subst, sym, ◌∙◌}
use Rattle.std.specs.Prelude.{Err, reverse, ◌≡◌}
use Rattle.lq_back.specs.Reversal.{IsReversed}
use Rattle.lq_kinds.specs.declared.change_set.Changelog.{Changelog}
use Rattle.lq_seen.specs.View.{any_meaning, views}
use Rattle.lq_back.specs.declared.reverse_fault.ReverseFault.TheVariants.{Not}
use Rattle.lq_turns.specs.Script.{not_reversible}
use Rattle.lq_commands.proofs.Checked.{not_back, ways_pass}
use Rattle.lq_commands.proofs.checks.check_ways.Goals as goal

pub returns-in-Ok-clause-passes : goal.returns-in-Ok-clause-passes
returns-in-Ok-clause-passes c =
    let options = c.args.given.now.options in
    ways_pass _ c.in-Ok.ways
    (ap (λ (x : Changelog). not_reversible options.dialect any_meaning (views options x.sets) (reverse c.args.rows.now)) (sym c.get.ensures) ∙ c.in-Ok.ensures.reversed options)

pub returns-in-Err-Not-clause-passes : goal.returns-in-Err-Not-clause-passes
returns-in-Err-Not-clause-passes c =
    let so : c.reversible.result ≡ Err (Not c.in-Err-Not.of) = search rules in
    let options = c.args.given.now.options in
    not_back _ _ c.in-Err-Not.of
    (ap (λ (x : Changelog). not_reversible options.dialect any_meaning (views options x.sets) (reverse c.args.rows.now)) (sym c.get.ensures)
    ∙ subst (λ r. IsReversed (not_reversible options.dialect any_meaning (views options c.get.result.now.sets) (reverse c.args.rows.now)) r) so (c.reversible.ensures.reversed options))
