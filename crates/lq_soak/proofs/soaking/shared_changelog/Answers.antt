use Rattle.std.proofs.Common.{subst, sym}
use Rattle.std.specs.List.{All}
use Rattle.lq_changelog.specs.Gathers.{HasShortTexts}
use Rattle.lq_kinds.specs.ReadFor.{AreFor}
use Rattle.lq_kinds.specs.declared.change_set.Changelog.{Changelog}
use Rattle.lq_soak.proofs.soaking.shared_changelog.Goals as goal
use Rattle.lq_soak.specs.Soaked.{IsMade}

pub returns-clause-read : goal.returns-clause-read
returns-clause-read g c = subst (AreFor c.args.dialect) (sym c.in_ok-shared.ensures) c.in_ok-changelog.ensures.read

pub returns-clause-short : goal.returns-clause-short
returns-clause-short g c = subst (λ (log : Changelog). All HasShortTexts log.sets) (sym c.in_ok-shared.ensures) c.in_ok-changelog.ensures.short

pub returns-clause-made : goal.returns-clause-made
returns-clause-made g c = subst (IsMade c.args.dialect c.args.seed.number c.args.seed.sets) (sym c.in_ok-shared.ensures) c.in_ok-changelog.ensures.made
