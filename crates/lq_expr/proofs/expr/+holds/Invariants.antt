use Rattle.std.proofs.Common.{◌≡◌, map, drop}
use Rattle.std.specs.List.{list_all, list_any}
use Rattle.lq_expr.specs.Spelled.{holds}
use Rattle.lq_expr.proofs.expr.+holds.Given as goal

abbrev pub invariant-all_hold-loop-part : goal.invariant-all_hold-loop-part
invariant-all_hold-loop-part l = list_all (λ value. value) (map (holds l.names) (drop l.part-index l.parts)) ≡ list_all (λ value. value) (map (holds l.names) l.parts)

abbrev pub invariant-some_holds-loop-part : goal.invariant-some_holds-loop-part
invariant-some_holds-loop-part l = list_any (λ value. value) (map (holds l.names) (drop l.part-index l.parts)) ≡ list_any (λ value. value) (map (holds l.names) l.parts)
