use Rattle.std.proofs.Common.{◌≡◌, map, drop}
use Rattle.std.specs.List.{list_any}
use Rattle.std.specs.Str.{bytes_eq}
use Rattle.lq_tree.proofs.look.is_among.Given as goal

abbrev pub invariant-loop-name : goal.invariant-loop-name
invariant-loop-name l = list_any (bytes_eq l.fn.key) (map (λ k. k.now) (drop l.name-index l.known)) ≡ list_any (bytes_eq l.fn.key) (map (λ k. k.now) l.known)
