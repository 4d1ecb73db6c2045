use Rattle.std.proofs.Common.{Ok, Some, ap, false, is_none, rules, subst, sym, true, unwrap_or, ◌∙◌, ◌≡◌}
use Rattle.std.proofs.Common.{length, nat_le, not, suc}
use Rattle.lq_model.specs.Catalogue.{no_table, table_of, the_table, with_table}
use Rattle.lq_model.specs.Plan.{most_rows, is_twin}
use Rattle.lq_rowops.specs.InsertTests.{new_row, Plans, PlansRow}
use Rattle.lq_decide.specs.Faults.{is_orphan}
use Rattle.lq_chain.specs.History.{changed}
use Rattle.lq_model.specs.Rows.{next_of, stated}
use Rattle.lq_rows.specs.Stored.{with_row}
use Rattle.lq_rowops.proofs.InsertDecides as lemma
use Rattle.lq_rows.proofs.Continued.{goes_on}
use Rattle.lq_rowops.proofs.InsertSteps as step
use Rattle.lq_rowops.proofs.inserting.put_row.Goals as goal

pub returns-in_default : goal.returns-in_default
returns-in_default c = (lemma.insert_none c.args.dialect c.args.table.now c.args.columns.now c.args.values.now c.args.parts.now.now (search rules), search rules)

pub returns-then-branch : goal.returns-then-branch
returns-then-branch c =
    let db = c.args.parts.now.now in
    let t = c.args.table.now in
    let d = c.args.dialect in
    let ns = c.args.columns.now in
    let ls = c.args.values.now in
    let it = c.in-Some.held.now.now in
    let here : table_of db t ≡ Some it = search rules in
    let it_is : the_table db t ≡ it = ap (λ o. unwrap_or o no_table) here in
    let there : is_none (table_of db t) ≡ false = ap is_none here in
    let row = c.in-Ok.planned.row in
    let plans : Plans d it ns ls c.in-Ok.planned = subst (PlansRow d it ns ls) c.in-Ok.is c.plan.ensures in
    let is : new_row (the_table db t) ns ls ≡ Ok row = rw (it_is) plans.row in
    let twin : is_twin (the_table db t) row ≡ true = search rules in
    (lemma.insert_twin d t ns ls db row there is twin, search rules)

pub returns-then-branch-2 : goal.returns-then-branch-2
returns-then-branch-2 c =
    let db = c.args.parts.now.now in
    let t = c.args.table.now in
    let d = c.args.dialect in
    let ns = c.args.columns.now in
    let ls = c.args.values.now in
    let it = c.in-Some.held.now.now in
    let here : table_of db t ≡ Some it = search rules in
    let it_is : the_table db t ≡ it = ap (λ o. unwrap_or o no_table) here in
    let there : is_none (table_of db t) ≡ false = ap is_none here in
    let row = c.in-Ok.planned.row in
    let plans : Plans d it ns ls c.in-Ok.planned = subst (PlansRow d it ns ls) c.in-Ok.is c.plan.ensures in
    let is : new_row (the_table db t) ns ls ≡ Ok row = rw (it_is) plans.row in
    let twin : is_twin (the_table db t) row ≡ false = search rules in
    let orphan : is_orphan db t (the_table db t) row ≡ true = search rules in
    (lemma.insert_orphan d t ns ls db row there is twin orphan, search rules)

pub returns-then-planned : goal.returns-then-planned
returns-then-planned c =
    let db = c.args.parts.now.now in
    let t = c.args.table.now in
    let d = c.args.dialect in
    let ns = c.args.columns.now in
    let ls = c.args.values.now in
    let it = c.in-Some.held.now.now in
    let here : table_of db t ≡ Some it = search rules in
    let it_is : the_table db t ≡ it = ap (λ o. unwrap_or o no_table) here in
    let there : is_none (table_of db t) ≡ false = ap is_none here in
    let row = c.in-Ok.planned.row in
    let plans : Plans d it ns ls c.in-Ok.planned = subst (PlansRow d it ns ls) c.in-Ok.is c.plan.ensures in
    let is : new_row (the_table db t) ns ls ≡ Ok row = rw (it_is) plans.row in
    let twin : is_twin (the_table db t) row ≡ false = search rules in
    let orphan : is_orphan db t (the_table db t) row ≡ false = search rules in
    let full : not (nat_le (suc (length (the_table db t).rows)) most_rows) ≡ true = rw (it_is, ← plans.full) c.if-planned.true in
    (lemma.insert_full d t ns ls db row there is twin orphan full, search rules)

pub returns-in-Err : goal.returns-in-Err
returns-in-Err c =
    let db = c.args.parts.now.now in
    let t = c.args.table.now in
    let d = c.args.dialect in
    let ns = c.args.columns.now in
    let ls = c.args.values.now in
    let it = c.in-Some.held.now.now in
    let here : table_of db t ≡ Some it = search rules in
    let it_is : the_table db t ≡ it = ap (λ o. unwrap_or o no_table) here in
    let there : is_none (table_of db t) ≡ false = ap is_none here in
    step.bad_plan d t ns ls c.args.parts.now it c.in-Err.fault it_is there (subst (PlansRow d it ns ls) c.in-Err.is c.plan.ensures)

pub returns : goal.returns
returns c =
    let db = c.args.parts.now.now in
    let t = c.args.table.now in
    let d = c.args.dialect in
    let ns = c.args.columns.now in
    let ls = c.args.values.now in
    let it = c.in-Some.held.now.now in
    let here : table_of db t ≡ Some it = search rules in
    let it_is : the_table db t ≡ it = ap (λ o. unwrap_or o no_table) here in
    let there : is_none (table_of db t) ≡ false = ap is_none here in
    let row = c.in-Ok.planned.row in
    let plans : Plans d it ns ls c.in-Ok.planned = subst (PlansRow d it ns ls) c.in-Ok.is c.plan.ensures in
    let is : new_row (the_table db t) ns ls ≡ Ok row = rw (it_is) plans.row in
    let twin : is_twin (the_table db t) row ≡ false = search rules in
    let orphan : is_orphan db t (the_table db t) row ≡ false = search rules in
    let room : not (nat_le (suc (length (the_table db t).rows)) most_rows) ≡ false = rw (it_is, ← plans.full) c.if-planned.false in
    let old = c.args.parts.now in
    let rows = with_table old.now t (with_row row c.in-Ok.planned.next (the_table db t)) in
    let grown : c.append.new.self ≡ changed old rows = search rules in
    let next : c.in-Ok.planned.next ≡ next_of d (stated (the_table db t) ns) (the_table db t).columns row (the_table db t).next = rw (it_is) plans.next in
    rw (grown) (lemma.insert_done d t ns ls db row there is twin orphan room ∙ ap (λ n. Ok (with_table old.now t (with_row row n (the_table db t)), 1)) (sym next), goes_on old rows)
