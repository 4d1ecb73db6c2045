use Rattle.std.proofs.Common.{ap, arith, List, refl, reverse, subst, sym, ◌++◌, ◌≤◌}
use Rattle.lq_base.specs.declared.run.Printed.{Printed}
use Rattle.lq_sets.specs.SetTurns.{ArePlanned}
use Rattle.lq_seen.proofs.Leading.{leads_begin}
use Rattle.lq_seen.specs.Telling.{shown}
use Rattle.lq_seen.specs.View.{any_meaning, views}
use Rattle.lq_turns.specs.Printed.{printed}
use Rattle.lq_turns.specs.Settle.{all_settled}
use Rattle.lq_sets.proofs.Begun.{begins_planned, places_within}
use Rattle.lq_sets.proofs.set_turns.SetTurns.of_shared.Goals as goal

pub returns-clause-reads : goal.returns-clause-reads
returns-clause-reads c =
    let room : c.min-last.result ≤ 2147483647 = omega (arith, c.min-last.ensures) in
    record { dialect = refl; read = c.requires.read; within = places_within c.args.options c.args.changelog.sets c.args.rows.now c.in_ok-items.items (rw c.get.ensures at (rw c.get-2.ensures at c.in_ok-items.ensures)); room = room }

pub returns-clause-knows : goal.returns-clause-knows
returns-clause-knows c = λ d stamp z rows small. record {
  planned = subst (λ rs. ArePlanned 0 (views c.args.options c.args.changelog.sets) (reverse c.in_ok-items.items) c.min-last.result rs) (sym rows) (begins_planned c.args.options c.args.changelog.sets c.args.rows.now c.in_ok-items.items c.min-last.result (rw c.get.ensures at (rw c.get-2.ensures at c.in_ok-items.ensures)) c.requires.faultless (rw c.greatest.ensures at c.min-last.ensures) small);
  leads = leads_begin c.new-outcome.result (all_settled d any_meaning stamp.reading (views c.args.options c.args.changelog.sets) z) c.new-outcome.ensures.done.0 c.new-outcome.ensures.done.1 c.new-outcome.ensures.done.2 c.new-outcome.ensures.unstopped.0 c.new-outcome.ensures.unstopped.1;
  prints = ap (λ (ps : List Printed). ps ++ shown c.args.prints d (printed d any_meaning stamp.reading (views c.args.options c.args.changelog.sets) z)) c.new-outcome.ensures.unprinted;
}
