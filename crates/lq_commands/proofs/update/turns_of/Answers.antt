use Rattle.std.proofs.Common.{ap, subst, sym, ◌≡◌, ◌∙◌}
use Rattle.std.specs.Prelude.{[]}
use Rattle.lq_expr.specs.declared.options.Options.{Options}
use Rattle.lq_kinds.specs.ReadFor.{AreFor}
use Rattle.lq_seen.specs.Telling.{of_sets}
use Rattle.lq_seen.specs.View.{view_log}
use Rattle.lq_sets.specs.SetTurns.{IsReadFor, Knows}
use Rattle.lq_turns.specs.Faults.{faults}
use Rattle.lq_commands.proofs.update.turns_of.Goals as goal

pub of_shared-requires-clause-read : goal.of_shared-requires-clause-read
of_shared-requires-clause-read c = subst (λ (o : Options). AreFor o.dialect c.args.changelog) (sym c.in_ok-shared.ensures) c.requires.read

pub of_shared-requires-clause-faultless : goal.of_shared-requires-clause-faultless
of_shared-requires-clause-faultless c = subst (λ (o : Options). faults (view_log o c.args.changelog).sets c.args.rows.now ≡ []) (sym c.in_ok-shared.ensures) c.requires.faultless

pub returns-clause-reads : goal.returns-clause-reads
returns-clause-reads c = subst (λ (o : Options). IsReadFor c.in_ok-source.source o.dialect) c.in_ok-shared.ensures c.in_ok-source.ensures.reads

pub returns-clause-left : goal.returns-clause-left
returns-clause-left c = c.in_ok-source.ensures.left ∙ ap (λ (o : Options). (view_log o c.args.changelog).sets) c.in_ok-shared.ensures

pub returns-clause-knows : goal.returns-clause-knows
returns-clause-knows c = λ d stamp z rows small.
    subst (λ (o : Options). Knows c.in_ok-source.source d stamp (of_sets c.args.prints d stamp.reading (view_log o c.args.changelog).sets z) z) c.in_ok-shared.ensures
    (c.in_ok-source.ensures.knows d stamp z rows small)
