use Rattle.std.proofs.Common.{◌∙◌}
use Rattle.clap.specs.Matches.{found_of}
use Rattle.lq_cli.proofs.Rows.{definitions_are}
use Rattle.lq_cli.proofs.chosen.Chosen.definitions.Goals as goal

pub returns : goal.returns
returns c = c.get_strs.ensures ∙ definitions_are (found_of c.self.inside.matches) c.args.self.now c.self.view_is
