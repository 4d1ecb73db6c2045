use Rattle.std.proofs.Common.{ap, refl, sym, ◌∙◌}
use Rattle.lq_arm.specs.Verdict.{verdict_of}
use Rattle.lq_arm.proofs.Arms.{agree}
use Rattle.lq_decide.proofs.Lists.{or-false}
use Rattle.lq_renames.proofs.table.rename_tests.Goals as goal

pub returns : goal.returns
returns c = ap verdict_of (agree c.are_reserved.ensures c.is_missing.ensures c.is_taken_to.ensures (c.is_viewed.ensures ∙ sym (or-false _)) refl refl refl refl refl refl refl)
