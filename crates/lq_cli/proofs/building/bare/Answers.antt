use Rattle.std.proofs.Common.{rules}
use Rattle.lq_cli.specs.Options.{command_of}
use Rattle.lq_cli.proofs.building.bare.Goals as goal

pub returns : goal.returns
unfolding command_of
returns c = search rules
