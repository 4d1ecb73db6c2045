-- What a run of undo-unrecorded does on a file, and what it says.
use Rattle.std.proofs.Common.{ap, inl, inr, subst, sym, ◌∙◌}
use Rattle.std.specs.Prelude.{Err, IfOk, IfSome, List, None, Ok, Option, Result, Some, false, option_map, true, ℕ, ◌++◌, ◌≡◌, ◌⊎◌}
use Rattle.lq_base.specs.declared.identity.Identity.{Identity}
use Rattle.lq_cli.specs.declared.line.Job.TheVariants.{Drill, UndoUnrecorded}
use Rattle.lq_commands.specs.Refusals.{Answers, ends}
use Rattle.lq_commands.specs.Works.{is_finished}
use Rattle.lq_expr.specs.declared.options.Options.{Options}
use Rattle.lq_kinds.specs.declared.change_set.Changelog.{Changelog}
use Rattle.lq_mending.specs.Comes.{back_refused}
use Rattle.lq_mending.specs.Undoes.{Standing, first_of}
use Rattle.lq_outside.specs.Crash.{Crashes as DiskCrashes, IsSound, Settled}
use Rattle.lq_tell.specs.Texts.{EndsAs, has_output, out_text, status_done, text_or_none}
use Rattle.lq_tell.specs.declared.done.Done.{Done}
use Rattle.lq_tell.specs.declared.status.Status.{Status}
use Rattle.lq_tell.specs.declared.status.Status.TheVariants as status
use Rattle.lq_track.specs.Database.{Database}
use Rattle.lq_turns.specs.declared.stop.Refusal.{Refusal}
use Rattle.lq_undoing.specs.Undid.{TellsPart, TellsUndone, undo_refusal}
use Rattle.lq_jobs.proofs.LeftOnFile.{crashes_on, since_none}
use Rattle.lq_jobs.proofs.OnFiles.{by_end}
use Rattle.lq_jobs.proofs.OpensAgain.{opens_same}
use Rattle.lq_top.proofs.UndoneOpens.{undone_cut, undone_opens}
use Rattle.lq_top.proofs.Said.{answers_ran, ended_so, nothing_more, ran_output}
use Rattle.lq_jobs.proofs.Unchanged.{becomes_left, left_same}
use Rattle.lq_jobs.proofs.UndoneOn.{undo_not_full, undo_unfinished}
use Rattle.lq_jobs.proofs.Written.{Failed, IsWritten, ends_by, err_not_full, failed_outside, failed_unfinished, memory_full, outside_ends, outside_not_full, quiet_not, refused_for, was_over, write_full}
use Rattle.lq_jobs.specs.Asks.{Asks, Files}
use Rattle.lq_jobs.specs.Bytes.{Becomes, CrashesOn, HadRoomOn, IsLeftOn, OnFile, Opens, RestsFullOn, SaysFullOn}
use Rattle.lq_jobs.specs.Run.{is_over}
use Rattle.lq_jobs.specs.Undone.{CrashesUndone, DoesUndo, IsUndoneSafe, RunsUndo, RunsUndone, SaysPart, SaysUndone, part_on, undo_calls}
use Rattle.lq_jobs.specs.Worked.{UndoneBy, UndoneOn}

-- a drill is another job
pub drill_not_undo : {runs : List ℕ} → Drill runs ≡ UndoUnrecorded → ⊥
drill_not_undo h = Prim.cc

-- it ended so with what it told
says_part : (of : Identity) (many : ℕ) (refused : Option Refusal) (done : Done) (s : Status) (shown now : Option (List ℕ)) → TellsPart of many refused done → s ≡ done.status → now ≡ option_map (λ (out : List ℕ). out ++ text_or_none done.out) shown
    → SaysPart of many refused s shown now
says_part of many None done s shown now tells is whole = (is ∙ tells.status, whole ∙ ap (λ (o : Option (List ℕ)). option_map (λ (out : List ℕ). out ++ text_or_none o) shown) tells.out)
says_part of many (Some why) done s shown now tells is whole =
    (is ∙ tells.status, whole ∙ (ap (λ (o : Option (List ℕ)). option_map (λ (out : List ℕ). out ++ text_or_none o) shown) tells.out ∙ nothing_more shown))

module _ (o : Options) (g : Changelog) (database : Database) (before : Option (List ℕ)) (opens : Opens o.dialect before database) (done : Result Done Status) (after : Option (List ℕ)) (s : Status) (by : IsWritten done s) (shown now : Option (List ℕ))
    (whole : has_output s ≡ true → now ≡ option_map (λ (out : List ℕ). out ++ out_text done) shown) where
  -- no check ends a run
  never_over : {A : Type 0} (x : Status) → Answers (undo_refusal o g database) (Err x) → is_finished x ≡ true → A
  never_over x answers finished = absurd (quiet_not x (undo_refusal o g database) (undo_unfinished o g database) (refused_for (undo_refusal o g database) x answers finished) finished)

  failed_never : {A : Type 0} → Failed done → is_finished s ≡ true → A
  failed_never failed finished = absurd (failed_unfinished done failed (sym (ap is_finished (ended_so (status_done done) s by.ended finished)) ∙ finished))

  says_nothing : (part : Option Standing) → Failed done → SaysUndone o database part s shown now
  says_nothing None failed = tt
  says_nothing (Some part) failed = λ finished. failed_never failed finished

  runs_failed : Failed done → after ≡ before → RunsUndo o g database before s after shown now
  runs_failed failed same = record {
    ends = outside_ends (undo_refusal o g database) s (failed_outside done s by failed);
    refused = λ some. same;
    works = λ over. absurd (failed_unfinished done failed (was_over done s by over));
    left = λ stopped. left_same o.dialect (undo_calls o g before database) database before after opens same;
    opens = λ over. absurd (failed_unfinished done failed (was_over done s by over));
    opens_cut = λ stopped cut. opens_same o.dialect before after database cut.now opens same cut.holds;
    says = says_nothing (part_on o g before database) failed;
    room = λ over. absurd (failed_unfinished done failed (was_over done s by over));
    full = λ used next is. absurd (outside_not_full s (failed_outside done s by failed) used next is);
    rests = λ used next is. absurd (outside_not_full s (failed_outside done s by failed) used next is);
  }

  became : (r : Result Done Status) → DoesUndo o g before database r after → is_finished (status_done r) ≡ true → Becomes o.dialect (undo_calls o g before database) database before after
  became (Ok ended) does finished = does.works.0 finished
  became (Err x) does finished = never_over x does.answers finished

  was_left : (r : Result Done Status) → DoesUndo o g before database r after → IsLeftOn o.dialect (undo_calls o g before database) database before after
  was_left (Ok ended) does =
      by_end (is_finished ended.status) (λ finished. becomes_left o.dialect (undo_calls o g before database) database before after (does.works.0 finished)) does.works.1
  was_left (Err x) does = does.works

  had_its_room : (r : Result Done Status) → DoesUndo o g before database r after → is_finished (status_done r) ≡ true → HadRoomOn o.dialect (undo_calls o g before database) database before
  had_its_room (Ok ended) does finished = does.room finished
  had_its_room (Err x) does finished = never_over x does.answers finished

  told_full : (r : Result Done Status) → EndsAs (status_done r) s → DoesUndo o g before database r after → SaysFullOn o.dialect (undo_calls o g before database) database before s
  told_full (Ok ended) (inl same) does = λ used next is. does.full used next (sym same ∙ is)
  told_full (Err x) (inl same) does = λ used next is. absurd (err_not_full (undo_refusal o g database) x (undo_not_full o g database) does.answers used next (sym same ∙ is))
  told_full r (inr (inl memory)) does = λ used next is. absurd (memory_full (sym memory ∙ is))
  told_full r (inr (inr write)) does = λ used next is. absurd (write_full (sym write ∙ is))

  rests_so : (r : Result Done Status) → EndsAs (status_done r) s → DoesUndo o g before database r after → RestsFullOn o.dialect (undo_calls o g before database) database before s after
  rests_so (Ok ended) (inl same) does = λ used next is. does.rests used next (sym same ∙ is)
  rests_so (Err x) (inl same) does = λ used next is. absurd (err_not_full (undo_refusal o g database) x (undo_not_full o g database) does.answers used next (sym same ∙ is))
  rests_so r (inr (inl memory)) does = λ used next is. absurd (memory_full (sym memory ∙ is))
  rests_so r (inr (inr write)) does = λ used next is. absurd (write_full (sym write ∙ is))

  says_it : (part : Option Standing) (r : Result Done Status) → EndsAs (status_done r) s → Answers (undo_refusal o g database) r → (has_output s ≡ true → now ≡ option_map (λ (out : List ℕ). out ++ out_text r) shown)
      → IfOk r (TellsUndone o database part) → SaysUndone o database part s shown now
  says_it None r ended answers whole tells = tt
  says_it (Some part) (Ok done) ended answers whole tells = λ finished.
      let is = ended_so done.status s ended finished in
      says_part part.0.identity part.1 (back_refused o.dialect (first_of o part) database.users) done s shown now (tells (sym (ap is_finished is) ∙ finished)) is (whole (ran_output s (ap ends is ∙ answers_ran (undo_refusal o g database) (Ok done) answers) finished))
  says_it (Some part) (Err x) ended answers whole tells = λ finished. never_over x answers (sym (ap is_finished (ended_so x s ended finished)) ∙ finished)

  runs_does : DoesUndo o g before database done after → RunsUndo o g database before s after shown now
  runs_does does = record {
    ends = ends_by (undo_refusal o g database) done s by does.answers;
    refused = does.refused;
    works = λ over. became done does (was_over done s by over);
    left = λ stopped. was_left done does;
    opens = λ over. undone_opens o g before database opens after (became done does (was_over done s by over));
    opens_cut = λ stopped cut. undone_cut o g before database opens after cut;
    says = says_it (part_on o g before database) done by.ended does.answers whole does.tells;
    room = λ over. had_its_room done does (was_over done s by over);
    full = told_full done by.ended does;
    rests = rests_so done by.ended does;
  }

module _ {D : Type 0} (told : D → Option (List ℕ)) (faults : D → ℕ) (crashes : D → DiskCrashes) {words : List (List ℕ)} {files : Files} (asks : Asks words files) (disk : D) (done : Result Done Status) (after : D)
    (did : asks.line.job ≡ UndoUnrecorded → UndoneBy told faults crashes asks.line.options asks.changelog disk done after) where
  pub has_undone : (s : Status) → IsWritten done s → (shown now : Option (List ℕ)) → (has_output s ≡ true → now ≡ option_map (λ (out : List ℕ). out ++ out_text done) shown) → RunsUndone asks (told disk) s (told after) shown now
  has_undone s by shown now whole undoes database opens = elim (did undoes) [
    | inl failed ↦ runs_failed asks.line.options asks.changelog database (told disk) opens done (told after) s by shown now whole failed.0 (ap told failed.1)
    | inr made ↦ runs_does asks.line.options asks.changelog database (told disk) opens done (told after) s by shown now whole (made.does database opens)
  ]

  pub crash_undone : IsSound (told disk) (crashes disk) → CrashesUndone asks (told disk) (crashes disk) (crashes after)
  crash_undone sound undoes database opens = elim (did undoes) [
    | inl failed ↦ subst (λ (d : D). CrashesOn asks.line.options.dialect (undo_calls asks.line.options asks.changelog (told disk) database) database (told disk) (crashes disk) (crashes d)) (sym failed.1)
        (crashes_on asks.line.options.dialect (undo_calls asks.line.options asks.changelog (told disk) database) database (told disk) (crashes disk) sound (crashes disk)
        (since_none asks.line.options.dialect (undo_calls asks.line.options asks.changelog (told disk) database) database (told disk) (crashes disk)))
    | inr made ↦ crashes_on asks.line.options.dialect (undo_calls asks.line.options asks.changelog (told disk) database) database (told disk) (crashes disk) sound (crashes after) (made.any_moment database opens)
  ]

  pub undone_safe : (s : Status) → IsWritten done s → IsUndoneSafe asks s (told after) (crashes after)
  undone_safe s by undoes over = elim (did undoes) [
    | inl failed ↦ absurd (failed_unfinished done failed.0 (was_over done s by over))
    | inr made ↦ made.safe (was_over done s by over)
  ]
