use Rattle.std.proofs.Common.{subst, sym, ◌∙◌}
use Rattle.std.specs.List.{list_all}
use Rattle.std.specs.Prelude.{List, None, Result, take, true, ◌≡◌}
use Rattle.laws_repair.specs.Repair.{repair_calls}
use Rattle.lq_model.specs.Step.{is_statement}
use Rattle.lq_model.specs.declared.statement.Statement.{Statement}
use Rattle.lq_mending.proofs.Undone.{all_first, answers_by, disk_by, full_by, leaves_by, tells_by}
use Rattle.lq_mending.specs.Comes.{back_refused}
use Rattle.lq_mending.specs.Undoes.{Answers, FullBy, LeavesBy, Made, TellsBy}
use Rattle.lq_mending.specs.declared.outcome.RepairFault.{RepairFault}
use Rattle.lq_mending.specs.declared.outcome.Repaired.{Repaired}
use Rattle.lq_mending.proofs.undoing.undo_part.Goals as goal

pub repair-end-requires-clause-statements : goal.repair-end-requires-clause-statements
repair-end-requires-clause-statements g c =
    subst (λ (ss : List Statement). list_all (is_statement c.args.dialect) (take c.args.part.count ss) ≡ true) (sym c.as_slice.ensures)
    (all_first (is_statement c.args.dialect) c.args.part.count c.args.part.statements c.requires.stated)

pub returns-clause-answers : goal.returns-clause-answers
returns-clause-answers g c = subst (λ (r : Result Repaired RepairFault). Answers None r) (sym c.answer_of.ensures) (answers_by c.args.part.identity c.args.part.count c.repair-end.result)

pub returns-clause-made : goal.returns-clause-made
returns-clause-made g c = λ database has row marked.
    let d = c.args.dialect in
    let part = c.args.part in
    let x = g.S.Store.state c.args.store.now in
    let y = g.S.Store.state c.repair-end.new.store in
    let calls = repair_calls d part.who part.identity (take part.count c.as_slice.result.now) database in
    subst (λ (ss : List Statement). Made g.S.Store.state g.S.Store.crashes d (repair_calls d part.who part.identity (take part.count ss) database) database c.args.store.now c.answer_of.result c.repair-end.new.store) c.as_slice.ensures
    (record {
      leaves = subst (λ (r : Result Repaired RepairFault). LeavesBy d calls database x r y) (sym c.answer_of.ensures) (leaves_by part.identity part.count d calls database x y c.repair-end.result (c.repair-end.ensures.leaves database has row));
      behind = c.repair-end.ensures.behind database has row;
      any_moment = c.repair-end.ensures.any_moment database has row;
      full = subst (λ (r : Result Repaired RepairFault). FullBy d calls database x r y) (sym c.answer_of.ensures) (full_by part.identity part.count d calls database x y c.repair-end.result (c.repair-end.ensures.full database has row marked));
    })

pub returns-clause-tells : goal.returns-clause-tells
returns-clause-tells g c = λ database has row.
    let part = c.args.part in
    let refused = back_refused c.args.dialect (take part.count c.as_slice.result.now) database.users in
    subst (λ (ss : List Statement). TellsBy part.identity part.count (back_refused c.args.dialect (take part.count ss) database.users) c.answer_of.result) c.as_slice.ensures
    (subst (λ (r : Result Repaired RepairFault). TellsBy part.identity part.count refused r) (sym c.answer_of.ensures) (tells_by part.identity part.count refused c.repair-end.result (c.repair-end.ensures.tells database has row)))

pub returns-clause-rose : goal.returns-clause-rose
returns-clause-rose g c = λ is. c.repair-end.ensures.rose (disk_by c.args.part.identity c.args.part.count c.repair-end.result (sym c.answer_of.ensures ∙ is))
