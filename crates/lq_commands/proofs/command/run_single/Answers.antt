use Rattle.std.proofs.Common.{subst}
use Rattle.std.specs.Prelude.{IfSome, ◌≤◌}
use Rattle.lq_base.specs.Number.{char_count}
use Rattle.lq_cli.specs.declared.line.Job.{Job}
use Rattle.lq_cli.specs.declared.line.Job.TheVariants.{ClearSums, History, Run, UpdateCount, UpdateTo}
use Rattle.lq_commands.proofs.Jobbed.{cleared_did, did_as, listed_did, updated_did}
use Rattle.lq_commands.specs.Jobs.{job_tag}
use Rattle.lq_commands.proofs.command.run_single.Goals as goal

pub run_command-requires-clause-tag : goal.run_command-requires-clause-tag
run_command-requires-clause-tag g c = subst (λ (job : Job). IfSome (job_tag job) (λ tag. char_count tag ≤ 255)) c.in-Run.is c.requires.tag

pub returns-in-Run-clause-did : goal.returns-in-Run-clause-did
returns-in-Run-clause-did g c =
    let ran = c.run_command in
    did_as g.S.Store.state g.S.Store.crashes c.args.job.now (Run c.in-Run.command) c.in-Run.is c.args.given c.args.store.now ran.result ran.new.store
    (record { answers = ran.ensures.answers; refused = ran.ensures.refused; reads = ran.ensures.reads; works = ran.ensures.works; any_moment = ran.ensures.any_moment; tells = ran.ensures.tells })

pub returns-in-UpdateCount-clause-did : goal.returns-in-UpdateCount-clause-did
returns-in-UpdateCount-clause-did g c =
    did_as g.S.Store.state g.S.Store.crashes c.args.job.now (UpdateCount c.in-UpdateCount.count) c.in-UpdateCount.is c.args.given c.args.store.now c.update_count.result c.update_count.new.store c.update_count.ensures.did

pub returns-in-UpdateTo-clause-did : goal.returns-in-UpdateTo-clause-did
returns-in-UpdateTo-clause-did g c =
    let ran = c.update in
    did_as g.S.Store.state g.S.Store.crashes c.args.job.now (UpdateTo c.in-UpdateTo.field-0) c.in-UpdateTo.is c.args.given c.args.store.now ran.result ran.new.store
    (updated_did g.S.Store.state g.S.Store.crashes c.args.given c.args.store.now ran.result ran.new.store ran.ensures.answers ran.ensures.refused ran.ensures.works ran.ensures.any_moment ran.ensures.tells c.in-UpdateTo.field-0)

pub returns-in-ClearSums-clause-did : goal.returns-in-ClearSums-clause-did
returns-in-ClearSums-clause-did g c =
    let ran = c.clear_sums in
    did_as g.S.Store.state g.S.Store.crashes c.args.job.now ClearSums c.in-ClearSums.is c.args.given c.args.store.now ran.result ran.new.store
    (cleared_did g.S.Store.state g.S.Store.crashes c.args.given c.args.store.now ran.result ran.new.store ran.ensures.answers ran.ensures.refused ran.ensures.works ran.ensures.any_moment ran.ensures.tells)

pub returns-in-History-clause-did : goal.returns-in-History-clause-did
returns-in-History-clause-did g c =
    did_as g.S.Store.state g.S.Store.crashes c.args.job.now History c.in-History.is c.args.given c.args.store.now c.history.result c.args.store.now
    (listed_did g.S.Store.state g.S.Store.crashes c.args.given c.args.store.now c.history.result c.history.ensures.answers c.history.ensures.works c.history.ensures.tells)

pub returns-in-History-clause-disk : goal.returns-in-History-clause-disk
returns-in-History-clause-disk g c = λ disk. absurd (c.history.ensures.sure disk)
