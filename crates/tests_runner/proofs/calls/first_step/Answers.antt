use Rattle.std.proofs.Common.{ap}
use Rattle.lq_hand.specs.declared.hand.Hand.{Hand}
use Rattle.lq_run.specs.Ends.{disk_failed}
use Rattle.lq_run.specs.Steps.{is_over}
use Rattle.lq_store.specs.Journal.{is_open}
use Rattle.tests_runner.proofs.Sessions.{is_ready}
use Rattle.tests_runner.proofs.calls.first_step.Goals as goal

pub step-requires-clause-begun : goal.step-requires-clause-begun
step-requires-clause-begun g c = ap (λ (hand : Hand). is_over hand.phase) c.requires.hand

pub step-requires-clause-ready : goal.step-requires-clause-ready
step-requires-clause-ready g c = is_ready c.args.runner.now.dialect (is_open c.args.session (g.S.Store.state c.args.store.now).begun) _ c.args.runner.now.hand c.requires.hand c.requires.closed

pub step-requires-clause-disk : goal.step-requires-clause-disk
step-requires-clause-disk g c = ap disk_failed c.requires.unstopped
