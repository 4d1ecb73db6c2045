use Rattle.std.proofs.Common.{◌∙◌}
use Rattle.clap.specs.Matches.{found_of}
use Rattle.lq_cli.proofs.Rows.{value_is}
use Rattle.lq_cli.proofs.chosen.Chosen.value.Goals as goal

pub returns : goal.returns
returns c = c.get_str.ensures ∙ value_is (found_of c.self.inside.matches) c.args.self.now c.args.name.now c.self.view_is
