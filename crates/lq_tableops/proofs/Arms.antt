-- What a statement on tables ends with.
use Rattle.std.proofs.Common.{sym, ◌∙◌, ◌≡◌}
use Rattle.std.specs.Prelude.{Ok, Result, false}
use Rattle.lq_model.specs.Plan.{Plan}
use Rattle.lq_decide.specs.Faults.{Faults}
use Rattle.lq_rows.specs.Stored.{Means}
use Rattle.lq_rows.specs.declared.fault.RunFault.{RunFault}
use Rattle.lq_arm.specs.Verdict.{tests_of, verdict_of}
use Rattle.lq_arm.specs.declared.tests.Tests.{Tests}
use Rattle.lq_arm.proofs.Arms.{good, there}

-- nothing is missing where the verdict is good
pub found : (p : Plan) (x : Faults) (tests : Tests) (verdict : Result Unit RunFault) → verdict_of tests ≡ verdict_of (tests_of p x) → Means (verdict_of tests) verdict → verdict ≡ Ok tt → p.missing ≡ false
found p x tests verdict is means at = there (tests_of p x) (sym is ∙ good (verdict_of tests) verdict means at)
