use Rattle.std.proofs.Common.{ap, is_some}
use Rattle.lq_arm.proofs.Arms.{good}
use Rattle.lq_arm.specs.Verdict.{verdict_of}
use Rattle.lq_rowops.proofs.TargetLemmas.{aimed_still}
use Rattle.lq_rowops.proofs.UpdateLemmas.{stated_refused, there, update_done, update_refused}
use Rattle.lq_rowops.proofs.updating.update.Goals as goal

pub returns-in-Err : goal.returns-in-Err
returns-in-Err c =
    stated_refused c.args.by c.args.dialect c.args.table.now c.args.sets.now c.args.test.now c.args.parts.now.now c.requires c.args.parts.now
    c.in_ok-stated.stated.tests c.verdict.result c.in-Err.fault c.in_ok-stated.ensures.tests c.verdict.ensures c.in-Err.is

pub change-requires-clause-there : goal.change-requires-clause-there
change-requires-clause-there c =
    ap is_some (there c.args.by c.args.dialect c.args.table.now c.args.sets.now c.args.test.now c.args.parts.now.now c.requires
    c.in_ok-stated.stated.tests c.verdict.result c.in_ok-stated.ensures.tests c.verdict.ensures c.in-Ok.is)

pub returns-in-Ok-verdict : goal.returns-in-Ok-verdict
returns-in-Ok-verdict c =
    update_done c.args.by c.args.dialect c.args.table.now c.args.sets.now c.args.test.now c.args.parts.now.now c.requires c.args.parts.now c.change.new.parts
    c.in_ok-changes.changes.has_null c.in_ok-changes.changes.is_stray c.in_ok-stated.stated.tests c.in_ok-tests.tests c.verdict-2.result
    c.in_ok-stated.ensures.tests (good (verdict_of c.in_ok-stated.stated.tests) c.verdict.result c.verdict.ensures c.in-Ok.is)
    c.in_ok-changes.ensures.are.nulls c.in_ok-changes.ensures.are.stray c.in_ok-changes.ensures.ok c.in_ok-tests.ensures c.verdict-2.ensures
    c.in_ok-changes.changes.count c.in_ok-changes.ensures.are.count c.in-Ok-verdict.is

pub returns : goal.returns
returns c =
    update_refused c.args.by c.args.dialect c.args.table.now c.args.sets.now c.args.test.now c.args.parts.now.now c.requires c.args.parts.now c.change.new.parts
    c.in_ok-changes.changes.has_null c.in_ok-changes.changes.is_stray c.in_ok-stated.stated.tests c.in_ok-tests.tests c.verdict-2.result
    c.in_ok-stated.ensures.tests (good (verdict_of c.in_ok-stated.stated.tests) c.verdict.result c.verdict.ensures c.in-Ok.is)
    c.in_ok-changes.ensures.are.nulls c.in_ok-changes.ensures.are.stray c.in_ok-changes.ensures.ok c.in_ok-tests.ensures c.verdict-2.ensures
    c.in-Err-verdict.fault c.in-Err-verdict.is

pub tested-requires : goal.tested-requires
tested-requires c =
    aimed_still c.args.dialect c.args.table.now c.args.parts.now.now c.args.parts.now c.change.new.parts c.args.sets.now c.args.test.now c.requires
    (there c.args.by c.args.dialect c.args.table.now c.args.sets.now c.args.test.now c.args.parts.now.now c.requires c.in_ok-stated.stated.tests c.verdict.result c.in_ok-stated.ensures.tests c.verdict.ensures c.in-Ok.is)
    c.in_ok-changes.ensures.ok
