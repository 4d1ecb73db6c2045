-- What undo-unrecorded leaves where an update was stopped.
use Rattle.std.proofs.Common.{ap, subst, sym, ◌∙◌}
use Rattle.std.specs.Prelude.{List, None, Option, Some, option_and_then, option_map, true, ℕ, ◌≡◌}
use Rattle.laws_repair.specs.Repair.{IsWhole}
use Rattle.laws_undo.specs.Undone.{PartsAreTakenBack, TakesBack, calls_on}
use Rattle.lq_base.specs.declared.identity.Identity.{Identity}
use Rattle.lq_db.specs.Db.{last_text}
use Rattle.lq_mending.specs.Comes.{back_refused}
use Rattle.lq_mending.specs.Undoes.{Standing, first_of, undo_script, unrecorded}
use Rattle.lq_mending.specs.declared.outcome.RepairFault.{RepairFault}
use Rattle.lq_tell.specs.declared.status.Status.{Status}
use Rattle.lq_tell.specs.declared.status.Status.TheVariants as status
use Rattle.lq_top.proofs.Said.{is_taken_by}
use Rattle.lq_jobs.specs.Asks.{Asks, Files}
use Rattle.lq_jobs.specs.Run.{EndsBy}
use Rattle.lq_jobs.specs.Headline.{TakesPartBack, point_of}
use Rattle.lq_jobs.specs.Undone.{RunsUndone, SaysPart, SaysUndone, last_on, undo_calls}
use Rattle.lq_track.specs.Database.{Database}
use Rattle.lq_turns.specs.Session.{left_by}
use Rattle.lq_turns.specs.declared.call.Call.{Call}
use Rattle.lq_turns.specs.declared.stop.Refusal.{Refusal}
use Rattle.lq_undoing.specs.Undid.{status_of}

pub has_taken_back : PartsAreTakenBack → {words : List (List ℕ)} {files : Files} (asks : Asks words files) (told : Option (List ℕ)) (s : Status) (after shown now : Option (List ℕ)) → RunsUndone asks told s after shown now → TakesPartBack asks told s after
has_taken_back law asks told s after shown now runs = λ database opens was.
    let o = asks.line.options in
    let g = asks.changelog in
    let ran = runs was.is_undo database opens in
    let it : TakesBack o g (point_of was) was.gives.set was.entries database = law o g was.stamp was.log was.start was.before was.first was.cut was.gives was.stops was.entries database was.since in
    let last : last_on o.dialect told ≡ last_text was.entries = ap (option_and_then last_text) was.told_are in
    let calls : undo_calls o g told database ≡ calls_on o g was.entries database = ap (λ text. undo_script o g text database) last in
    let part = it.accepted in
    let there : unrecorded o g (last_on o.dialect told) database.lock database.rows ≡ Some part.0 = ap (λ text. unrecorded o g text database.lock database.rows) last ∙ part.1 in
    record {
      leaves = λ over. (left_by o.dialect (undo_calls o g told database) database, (ran.works over).holds, subst (λ (cs : List Call). IsWhole (point_of was) (left_by o.dialect cs database)) (sym calls) it.leaves);
      ends = λ none no_block.
          let not_refused = subst (λ (r : Option RepairFault). EndsBy (option_map status_of r) s) (it.passes none no_block) ran.ends in
          is_taken_by s not_refused (λ finished.
          (subst (λ (r : Option Refusal). SaysPart part.0.0.identity part.0.1 r s shown now) part.2 (subst (λ (p : Option Standing). SaysUndone o database p s shown now) there ran.says finished)).0);
    }
