use Rattle.std.proofs.Common.{subst, sym}
use Rattle.std.specs.Prelude.{List, Option}
use Rattle.lq_mending.proofs.Barred.{part_barred}
use Rattle.lq_mending.proofs.Undone.{made_none, none_refused, not_disk, passed_kept, refuses, row_there, script_is, told_is, told_none}
use Rattle.lq_mending.specs.Undoes.{Answers, Made, refusal, undo_script, unrecorded}
use Rattle.lq_turns.specs.declared.call.Call.{Call}
use Rattle.lq_mending.specs.declared.outcome.RepairFault.{RepairFault}
use Rattle.lq_mending.proofs.undoing.undo_unrecorded.Goals as goal

pub undo_part-requires-clause-may : goal.undo_part-requires-clause-may
undo_part-requires-clause-may g c =
    let it = c.requires.ready in
    record {
      database = it.database;
      has = it.has;
      row = row_there c.release_fits.ensures c.args.options.now c.args.changelog.now c.args.last.now (g.S.Store.state c.args.store.now) it.database c.in-Ok.part it.has (c.in-Ok.ensures.part it.database it.has);
    }

pub returns-in-Ok-clause-answers : goal.returns-in-Ok-clause-answers
returns-in-Ok-clause-answers g c = λ database has.
    subst (λ (r : Option RepairFault). Answers r c.undo_part.result) (sym (none_refused (refusal c.args.options.now c.args.changelog.now database.lock database.rows) c.in-Ok.part (c.in-Ok.ensures.passes database has))) c.undo_part.ensures.answers

pub returns-in-Ok-clause-refused : goal.returns-in-Ok-clause-refused
returns-in-Ok-clause-refused g c = λ database has. passed_kept (refusal c.args.options.now c.args.changelog.now database.lock database.rows) (none_refused (refusal c.args.options.now c.args.changelog.now database.lock database.rows) c.in-Ok.part (c.in-Ok.ensures.passes database has))

pub returns-in-Ok-clause-made : goal.returns-in-Ok-clause-made
returns-in-Ok-clause-made g c = λ database has.
    let part = c.in-Ok.ensures.part database has in
    let row = row_there c.release_fits.ensures c.args.options.now c.args.changelog.now c.args.last.now (g.S.Store.state c.args.store.now) database c.in-Ok.part has part in
    subst (λ (calls : List Call). Made g.S.Store.state g.S.Store.crashes c.args.options.now.dialect calls database c.args.store.now c.undo_part.result c.undo_part.new.store)
    (sym (script_is c.args.options.now c.args.changelog.now c.args.last.now database c.in-Ok.part part)) (c.undo_part.ensures.made database has row (part_barred c.args.options.now c.args.changelog.now c.args.last.now database.lock database.rows (part.set, c.in-Ok.part.count) part.found_is))

pub returns-in-Ok-clause-tells : goal.returns-in-Ok-clause-tells
returns-in-Ok-clause-tells g c = λ database has.
    let part = c.in-Ok.ensures.part database has in
    let row = row_there c.release_fits.ensures c.args.options.now c.args.changelog.now c.args.last.now (g.S.Store.state c.args.store.now) database c.in-Ok.part has part in
    told_is c.args.options.now c.args.changelog.now c.args.last.now database c.in-Ok.part part c.undo_part.result (c.undo_part.ensures.tells database has row)

pub returns-in-Err-clause-answers : goal.returns-in-Err-clause-answers
returns-in-Err-clause-answers g c = λ database has. refuses (refusal c.args.options.now c.args.changelog.now database.lock database.rows) c.in-Err.fault (c.in-Err.ensures.passes database has)

pub returns-in-Err-clause-made : goal.returns-in-Err-clause-made
returns-in-Err-clause-made g c = λ database has.
    made_none g.S.Store.state g.S.Store.crashes c.args.options.now.dialect (undo_script c.args.options.now c.args.changelog.now c.args.last.now database) database c.args.store.now c.in-Err.fault has c.in-Err.ensures.checks

pub returns-in-Err-clause-tells : goal.returns-in-Err-clause-tells
returns-in-Err-clause-tells g c = λ database has.
    told_none c.args.options.now database (unrecorded c.args.options.now c.args.changelog.now c.args.last.now database.lock database.rows) c.in-Err.fault c.in-Err.ensures.checks

pub returns-in-Err-clause-rose : goal.returns-in-Err-clause-rose
returns-in-Err-clause-rose g c = λ is. absurd (not_disk c.in-Err.fault c.in-Err.ensures.checks is)
