use Rattle.std.proofs.Common.{ap, is_none, refl, rules, ◌≡◌}
use Rattle.lq_model.specs.Catalogue.{view_of}
use Rattle.lq_arm.specs.Verdict.{verdict_of}
use Rattle.lq_arm.proofs.Arms.{agree}
use Rattle.lq_objectops.proofs.view.rename_tests.Goals as goal

pub returns : goal.returns
returns c =
    let missing : c.is_none.result ≡ is_none (view_of c.args.parts.now.now c.args.view.now) = search rules in
    rw (c.no_tests.ensures) (ap verdict_of (agree c.are_reserved.ensures missing c.is_taken_to.ensures refl refl refl refl refl refl refl refl))
