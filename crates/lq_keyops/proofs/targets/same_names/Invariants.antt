use Rattle.std.proofs.Common.{drop, ◌≡◌}
use Rattle.lq_model.specs.Catalogue as spaces
use Rattle.lq_keyops.proofs.targets.same_names.Given as goal

abbrev pub invariant-loop-x : goal.invariant-loop-x
invariant-loop-x l = spaces.same_names (drop l.x-index l.a) l.left ≡ spaces.same_names l.a l.b
