use Rattle.std.proofs.Common.{ap, ◌∙◌}
use Rattle.lq_generate.specs.Generated.{untracked}
use Rattle.lq_generate.proofs.UsersTables.{users_are}
use Rattle.lq_generate.proofs.users.users_tables.Goals as goal

pub returns : goal.returns
returns c = c.in_ok-found.ensures ∙ ap untracked c.tables.ensures ∙ users_are c.args.parts.now.now c.requires
