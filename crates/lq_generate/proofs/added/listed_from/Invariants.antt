use Rattle.std.proofs.Common.{◌≡◌, ◌++◌, drop}
use Rattle.std.specs.List.{flat_map}
use Rattle.lq_generate.specs.Created.{after_comma}
use Rattle.lq_generate.proofs.added.listed_from.Given as goal

abbrev pub invariant-loop-name : goal.invariant-loop-name
invariant-loop-name l = l.text ++ flat_map after_comma (drop l.name-index l.rest) ≡ l.fn.first ++ flat_map after_comma l.rest
