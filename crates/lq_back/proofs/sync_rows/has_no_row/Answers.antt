use Rattle.std.proofs.Common.{not, sym, ◌∙◌}
use Rattle.lq_back.proofs.Synced.{chosen, not_chosen}
use Rattle.lq_back.proofs.sync_rows.has_no_row.Goals as goal
use Rattle.lq_seen.specs.View.{is_selected}
use Rattle.lq_turns.specs.Set.{has_row}

pub returns-then-is_selected : goal.returns-then-is_selected
returns-then-is_selected c = λ rows has.
    chosen (is_selected c.args.options.now c.args.set.now) (not (has_row rows c.args.set.now.identity)) (sym c.is_selected.ensures ∙ c.if-is_selected.true) (c.is_missing.ensures rows has)

pub returns-else-is_selected : goal.returns-else-is_selected
returns-else-is_selected c = λ rows has.
    c.if-is_selected.false ∙ not_chosen (is_selected c.args.options.now c.args.set.now) (not (has_row rows c.args.set.now.identity)) (sym c.is_selected.ensures ∙ c.if-is_selected.false)
