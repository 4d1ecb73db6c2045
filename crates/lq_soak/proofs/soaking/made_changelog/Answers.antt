use Rattle.std.proofs.Common.{Ok, [], subst, ◌≡◌}
use Rattle.lq_changelog.specs.Gathers.{changelog}
use Rattle.lq_sources.specs.Faults.{IsTold, Source}
use Rattle.lq_tell.specs.SoakLog.{soak_path}
use Rattle.lq_soak.proofs.soaking.made_changelog.Goals as goal

pub returns-in-Ok-clause-made : goal.returns-in-Ok-clause-made
returns-in-Ok-clause-made g c =
    subst (λ told. (source : Source) → IsTold told source → changelog source soak_path c.args.dialect [] ≡ Ok c.in-Ok.changelog) c.in_ok-files.ensures c.in-Ok.ensures.loaded
