use Rattle.std.proofs.Common.{subst}
use Rattle.lq_players.specs.AtOnce.{HasShortTag, command_of}
use Rattle.lq_players.specs.declared.at_once.OneStep.{OneStep}
use Rattle.lq_players.proofs.at_once.AtOnce.outcome.Goals as goal

pub tag-requires-clause-short : goal.tag-requires-clause-short
tag-requires-clause-short g c = subst (λ (what : OneStep). HasShortTag (command_of what)) c.in-Tag.is c.requires
