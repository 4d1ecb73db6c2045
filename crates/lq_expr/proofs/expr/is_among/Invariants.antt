use Rattle.std.proofs.Common.{◌≡◌, drop}
use Rattle.std.specs.List.{list_any}
use Rattle.lq_expr.specs.Spelled.{is_same_name}
use Rattle.lq_expr.proofs.expr.is_among.Given as goal

abbrev pub invariant-loop-given : goal.invariant-loop-given
invariant-loop-given l = list_any (is_same_name l.fn.name) (drop l.given-index l.names) ≡ list_any (is_same_name l.fn.name) l.names
