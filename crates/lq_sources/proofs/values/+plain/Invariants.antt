use Rattle.std.proofs.Common.{◌≡◌, ℕ, List, Option, map, drop}
use Rattle.lq_sources.specs.Items.{filled}
use Rattle.lq_sources.proofs.values.+plain.Given as goal

abbrev pub invariant-are_plain-loop-node : goal.invariant-are_plain-loop-node
invariant-are_plain-loop-node l = (value : List ℕ → Option (List ℕ)) → map (filled value) (drop l.node-index l.nodes) ≡ drop l.node-index l.nodes → map (filled value) l.nodes ≡ l.nodes

abbrev pub invariant-have_plain-loop-entry : goal.invariant-have_plain-loop-entry
invariant-have_plain-loop-entry l = (value : List ℕ → Option (List ℕ)) → map (λ e. (e.0, filled value e.1)) (drop l.entry-index l.entries) ≡ drop l.entry-index l.entries → map (λ e. (e.0, filled value e.1)) l.entries ≡ l.entries
