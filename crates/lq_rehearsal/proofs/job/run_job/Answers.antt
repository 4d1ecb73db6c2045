use Rattle.lq_cli.specs.declared.line.Job.TheVariants.{UpdateTestingRollback}
use Rattle.lq_commands.proofs.Jobbed.{did_as}
use Rattle.lq_rehearsal.proofs.Single.{is_one_run}
use Rattle.lq_rehearsal.proofs.job.run_job.Goals as goal

pub returns-in-UpdateTestingRollback-clause-did : goal.returns-in-UpdateTestingRollback-clause-did
returns-in-UpdateTestingRollback-clause-did g c =
    let ran = c.update_testing_rollback in
    did_as g.S.Store.state g.S.Store.crashes c.args.job.now UpdateTestingRollback c.in-UpdateTestingRollback.is c.args.given c.args.store.now ran.result ran.new.store ran.ensures.did

pub run_single-requires-clause-own : goal.run_single-requires-clause-own
run_single-requires-clause-own g c = is_one_run c.args.job.now c.requires.own c.in_default.not-UpdateTestingRollback
