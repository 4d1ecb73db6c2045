use Rattle.std.proofs.Common.{ap, refl}
use Rattle.lq_arm.specs.Verdict.{verdict_of}
use Rattle.lq_arm.proofs.Arms.{agree}
use Rattle.lq_objectops.proofs.sequence.create_tests.Goals as goal

pub returns : goal.returns
returns c = λ start step. rw (c.no_tests.ensures) (ap verdict_of (agree c.is_reserved.ensures refl c.is_taken.ensures refl refl refl refl refl refl refl refl))
