use Rattle.std.proofs.Common.{ap}
use Rattle.lq_model.specs.Changes.{undoing_of}
use Rattle.tests_changes.proofs.shown.append_undo.Goals as goal

pub append_statements-requires : goal.append_statements-requires
append_statements-requires g c = let held = c.requires _ (ap undoing_of c.in-Generated.is) in let seen = c.as_slice.ensures in cc
