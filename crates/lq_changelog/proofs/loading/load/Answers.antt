use Rattle.std.proofs.Common.{subst}
use Rattle.lq_base.specs.declared.dialect.Dialect.{Dialect}
use Rattle.lq_kinds.specs.ReadFor.{AreFor}
use Rattle.lq_changelog.proofs.loading.load.Goals as goal

pub returns-in-Ok-clause-right : goal.returns-in-Ok-clause-right
returns-in-Ok-clause-right g c =
    let P : Dialect → Type 0 = λ d. AreFor d c.into_changelog.result in
    subst P c.requires.same c.into_changelog.ensures.right
