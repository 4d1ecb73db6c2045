use Rattle.std.proofs.Common.{ap, false, is_some, length, sym, ◌-◌, ◌∙◌, ◌≡◌}
use Rattle.std.proofs.lemmas.Bool.{OnFalse_from}
use Rattle.lq_arm.proofs.Arms.{good}
use Rattle.lq_arm.specs.Verdict.{verdict_of}
use Rattle.lq_model.specs.Catalogue.{the_table}
use Rattle.lq_model.specs.Plan.{has_orphans}
use Rattle.lq_deletes.specs.Places.{is_aimed_at}
use Rattle.lq_deletes.proofs.DeleteLemmas.{delete_done, delete_refused, linked, none_goes, plain, stated_refused, there}
use Rattle.lq_deletes.proofs.TargetLemmas.{uncascaded}
use Rattle.lq_deletes.proofs.deleting.delete_from.Goals as goal

pub returns-in-Err : goal.returns-in-Err
returns-in-Err c =
    stated_refused c.args.by c.args.dialect c.args.table.now c.args.test.now c.args.parts.now.now c.requires c.args.parts.now
    c.stated-tests.result c.verdict.result c.in-Err.fault c.stated-tests.ensures c.verdict.ensures c.in-Err.is

pub remove-requires-clause-linked : goal.remove-requires-clause-linked
remove-requires-clause-linked c = linked c.args.dialect c.args.parts.now.now c.requires

pub remove-requires-clause-there : goal.remove-requires-clause-there
remove-requires-clause-there c =
    ap is_some (there c.args.by c.args.dialect c.args.table.now c.args.test.now c.args.parts.now.now c.requires c.stated-tests.result c.stated-tests.ensures (good (verdict_of c.stated-tests.result) c.verdict.result c.verdict.ensures c.in-Ok.is))

pub leaves_orphans-requires : goal.leaves_orphans-requires
leaves_orphans-requires c =
    let db = c.args.parts.now.now in
    let t = c.args.table.now in
    let test = c.args.test.now in
    let sound = linked c.args.dialect db c.requires in
    let here = there c.args.by c.args.dialect t test db c.requires c.stated-tests.result c.stated-tests.ensures (good (verdict_of c.stated-tests.result) c.verdict.result c.verdict.ensures c.in-Ok.is) in
    let aimed : c.is_aimed_at-is_aimed.result ≡ is_aimed_at t db = c.is_aimed_at-is_aimed.ensures in
    OnFalse_from c.is_aimed_at-is_aimed.result (has_orphans c.remove.new.parts.now ≡ false) (λ none.
    let apart = sym aimed ∙ none in
    ap has_orphans (c.in_ok-remove.ensures.ok ∙ none_goes t test db sound here (uncascaded t db apart)) ∙ plain t test db sound here apart)

pub returns-then-branch : goal.returns-then-branch
returns-then-branch c =
    let passed = good (verdict_of c.stated-tests.result) c.verdict.result c.verdict.ensures c.in-Ok.is in
    delete_refused c.args.by c.args.dialect c.args.table.now c.args.test.now c.args.parts.now.now c.requires c.args.parts.now c.remove.new.parts c.stated-tests.result c.stated-tests.ensures passed c.in_ok-remove.ensures.ok c.remove.ensures.goes (sym c.if-branch.true ∙ c.in_ok-leaves_orphans.ensures)

pub returns : goal.returns
returns c =
    let db = c.args.parts.now.now in
    let t = c.args.table.now in
    let e = c.remove.new.parts in
    let passed = good (verdict_of c.stated-tests.result) c.verdict.result c.verdict.ensures c.in-Ok.is in
    let before : c.len_of-before.result ≡ length (the_table db t).rows = c.len_of-before.ensures in
    let after : c.len_of.result ≡ length (the_table e.now t).rows = c.len_of.ensures in
    let count : c.saturating_sub.result ≡ length (the_table db t).rows - length (the_table e.now t).rows =
    c.saturating_sub.ensures ∙ ap (λ n. n - c.len_of.result) before ∙ ap (λ n. length (the_table db t).rows - n) after in
    delete_done c.args.by c.args.dialect t c.args.test.now db c.requires c.args.parts.now e c.stated-tests.result c.stated-tests.ensures passed c.in_ok-remove.ensures.ok c.remove.ensures.goes c.saturating_sub.result (sym c.if-branch.false ∙ c.in_ok-leaves_orphans.ensures) count

pub is_aimed_at-is_aimed-requires : goal.is_aimed_at-is_aimed-requires
is_aimed_at-is_aimed-requires c = c.requires.aimed
