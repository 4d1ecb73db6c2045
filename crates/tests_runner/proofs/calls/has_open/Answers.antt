use Rattle.std.proofs.Common.{ap, ◌∙◌}
use Rattle.tests_runner.proofs.Sessions.{its_open}
use Rattle.tests_runner.specs.Open.{is_its}
use Rattle.tests_runner.proofs.calls.has_open.Goals as goal

pub returns : goal.returns
returns g c = c.is_its.ensures ∙ ap (is_its c.args.session) c.open_session.ensures ∙ its_open (g.S.Store.state c.args.store.now).begun c.args.session c.requires.numbered
