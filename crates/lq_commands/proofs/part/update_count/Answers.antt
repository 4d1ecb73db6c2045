use Rattle.std.proofs.Common.{ap, refl, rules, ◌∙◌}
use Rattle.std.specs.Prelude.{List}
use Rattle.lq_base.specs.declared.tracking.Tracked.{Tracked}
use Rattle.lq_cli.specs.declared.line.Job.TheVariants.{UpdateCount}
use Rattle.lq_kinds.specs.declared.change_set.Changelog.{Changelog}
use Rattle.lq_portion.specs.Portion.{counted}
use Rattle.lq_tell.specs.declared.status.Status.TheVariants as status
use Rattle.lq_commands.proofs.Jobbed.{counted_did, memory_did}
use Rattle.lq_commands.specs.declared.given.Given.{Given}
use Rattle.lq_commands.proofs.part.update_count.Goals as goal

pub returns-in_err-rows-clause-did : goal.returns-in_err-rows-clause-did
returns-in_err-rows-clause-did g c = memory_did g.S.Store.state g.S.Store.crashes (UpdateCount c.args.count) c.args.given c.args.store.now c.in_err-rows.field-0.0 c.from_residual.result c.in_err-rows.ensures.passes (search rules)

pub returns-in_err-changelog-clause-did : goal.returns-in_err-changelog-clause-did
returns-in_err-changelog-clause-did g c = memory_did g.S.Store.state g.S.Store.crashes (UpdateCount c.args.count) c.args.given c.args.store.now status.OutOfMemory c.from_residual-in_err-changelog.result refl (search rules)

pub returns-clause-did : goal.returns-clause-did
returns-clause-did g c =
    let whole = c.args.given in
    let given : Given = record whole { changelog = c.in_ok-changelog.changelog } in
    let ran = c.update in
    let part = c.in_ok-changelog.ensures.part
    ∙ ap (λ (rows : List Tracked). counted c.args.count whole.options whole.changelog rows) c.as_slice.ensures in
    counted_did g.S.Store.state g.S.Store.crashes given c.args.store.now ran.result ran.new.store ran.ensures.answers ran.ensures.refused ran.ensures.works ran.ensures.any_moment ran.ensures.tells whole c.args.count c.in_ok-rows.rows
    (ap (λ (changelog : Changelog). record whole { changelog = changelog }) part) c.in_ok-rows.ensures.rows
