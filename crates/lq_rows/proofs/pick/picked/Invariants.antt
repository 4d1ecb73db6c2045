use Rattle.std.proofs.Common.{◌≡◌, take}
use Rattle.lq_model.specs.Catalogue.{picked}
use Rattle.lq_rows.proofs.pick.picked.Given as goal

abbrev pub invariant-loop-name : goal.invariant-loop-name
invariant-loop-name l = l.values.items ≡ picked l.columns (take l.name-index l.names) l.row
