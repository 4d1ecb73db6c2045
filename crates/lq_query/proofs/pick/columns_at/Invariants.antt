use Rattle.std.proofs.Common.{◌≡◌, take}
use Rattle.lq_model.specs.Views.{columns_at}
use Rattle.lq_query.proofs.pick.columns_at.Given as goal

abbrev pub invariant-loop-name : goal.invariant-loop-name
invariant-loop-name l = l.found ≡ columns_at (take l.name-index l.names) l.columns
