use Rattle.std.proofs.Common.{drop, ◌≡◌}
use Rattle.lq_model.specs.Catalogue.{is_in}
use Rattle.lq_primary_keys.proofs.add_primary_key.is_among.Given as goal

abbrev pub invariant-loop-one : goal.invariant-loop-one
invariant-loop-one l = is_in l.name (drop l.one-index l.names) ≡ is_in l.name l.names
