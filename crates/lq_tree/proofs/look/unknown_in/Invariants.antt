use Rattle.std.proofs.Common.{◌≡◌, map, not, drop}
use Rattle.std.specs.Map.{lookup_key}
use Rattle.lq_tree.specs.Look.{is_among}
use Rattle.lq_tree.proofs.look.unknown_in.Given as goal

abbrev pub invariant-loop-entry : goal.invariant-loop-entry
invariant-loop-entry l =
    lookup_key (λ key. not (is_among (map (λ k. k.now) l.fn.known) key)) (drop l.entry-index l.entries)
    ≡ lookup_key (λ key. not (is_among (map (λ k. k.now) l.fn.known) key)) l.entries
