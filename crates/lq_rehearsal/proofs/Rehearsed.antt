-- One run after another: what it does, and what it tells.
use Rattle.std.proofs.Common.{ap, inr, refl, subst, sym, ◌∙◌}
use Rattle.std.proofs.lemmas.Grind.{flat_map-append}
use Rattle.std.proofs.lemmas.List.{append-nil, append_assoc}
use Rattle.std.specs.List.{flat_map}
use Rattle.std.specs.Prelude.{Bool, Err, IfOk, List, None, Ok, Option, Result, Some, [], false, true, ℕ, ◌++◌, ◌≡◌}
use Rattle.lq_base.specs.declared.dialect.Dialect.{Dialect}
use Rattle.lq_base.specs.declared.identity.Identity.{Identity}
use Rattle.lq_base.specs.declared.run.Why.{Why}
use Rattle.lq_run.specs.Commands.{HasDatabase, Leaves}
use Rattle.lq_run.specs.Crashes.{LeftBehind}
use Rattle.lq_store.specs.Journal.{Crashes, IsStore, State}
use Rattle.lq_tell.specs.Lines.{warning_line, warning_lines}
use Rattle.lq_tell.specs.declared.done.Done.{Done}
use Rattle.lq_tell.specs.declared.status.Status.{Status}
use Rattle.lq_tell.specs.declared.status.Status.TheVariants as status
use Rattle.lq_track.specs.Database.{Database}
use Rattle.lq_turns.specs.Script.{calls_unless}
use Rattle.lq_turns.specs.Session.{left_by}
use Rattle.lq_turns.specs.declared.call.Call.{Call}
use Rattle.lq_turns.specs.declared.stop.Stop.{Stop}
use Rattle.lq_turns.specs.declared.stop.Stop.TheVariants.{Halted, Refused}
use Rattle.lq_commands.proofs.Endings.{untouched_crashes, untouched_works, works_same}
use Rattle.lq_rehearsal.proofs.OneAfterAnother.{behind_first, behind_then, crash_first, crash_then, unfinished_first, whole_left, works_then}
use Rattle.lq_commands.proofs.Sequenced.{IsOver}
use Rattle.lq_rehearsal.specs.Returns.{both_texts, is_done, DidRun}
use Rattle.lq_commands.specs.Refusals.{Answers, ends}
use Rattle.lq_commands.specs.Rehearsal.{Run, EndsRun, TellsRun, Told, then_run, told_unless}
use Rattle.lq_commands.specs.Works.{WarnsUpTo, status_by, CrashesIn, OnIts, Works, is_finished}

not_true : false ≡ true → ⊥
not_true h = Prim.cc

halted_done : (place : Option Identity) (why : Why) → status.Halted place why ≡ status.Done → ⊥
halted_done place why h = Prim.cc

refused_done : (s : Status) (stop : Stop) → s ≡ status_by (Some stop) → s ≡ status.Done → ⊥
refused_done s (Halted place why) is done = Prim.cc
refused_done s (Refused of refusal) is done = Prim.cc

-- what is done was not stopped
none_stopped : (s : Status) (o : Option Stop) → s ≡ status_by o → s ≡ status.Done → o ≡ None
none_stopped s None is done = refl
none_stopped s (Some stop) is done = absurd (refused_done s stop is done)

-- how it is told whether a run is done

pub done_is : (s : Status) → is_done s ≡ true → s ≡ status.Done
done_is status.Done is = refl
done_is (status.Halted place why) is = absurd (not_true is)
done_is (status.Refused identity statement kept reason) is = absurd (not_true is)
done_is status.Usage is = absurd (not_true is)
done_is status.ReadFault is = absurd (not_true is)
done_is (status.Changelog fault) is = absurd (not_true is)
done_is (status.Invalid faults) is = absurd (not_true is)
done_is (status.Locked lock) is = absurd (not_true is)
done_is status.NoTarget is = absurd (not_true is)
done_is (status.NotReversible of) is = absurd (not_true is)
done_is status.DiskFault is = absurd (not_true is)
done_is (status.Damaged at) is = absurd (not_true is)
done_is (status.Full used next) is = absurd (not_true is)
done_is status.WriteFault is = absurd (not_true is)
done_is status.OutOfMemory is = absurd (not_true is)
done_is (status.Busy session) is = absurd (not_true is)
done_is (status.NotWritable place) is = absurd (not_true is)
done_is status.NothingToUndo is = absurd (not_true is)

pub done_not : (s : Status) → is_done s ≡ false → s ≡ status.Done → ⊥
done_not s is done = not_true (sym is ∙ ap is_done done)

-- a run that is not done
abbrev pub IsStopped : Result Done Status → Type 0
IsStopped (Ok done) = done.status ≡ status.Done → ⊥
IsStopped (Err s) = Unit {0}

-- what two runs come to, the first of which is done; there may be no memory for what they tell together
abbrev pub IsJoined : Done → Result Done Status → Result Done Status → Type 0
IsJoined first (Ok more) (Ok whole) =
    (whole.status ≡ more.status) × (whole.out ≡ both_texts first.out more.out) × (warning_lines whole.own whole.warned ≡ warning_lines first.own first.warned ++ warning_lines more.own more.warned)
IsJoined first (Ok more) (Err s) = s ≡ status.OutOfMemory
IsJoined first (Err s) (Ok whole) = ⊥
IsJoined first (Err s) (Err t) = t ≡ s

-- all texts, where both have one
texts_joined : (a b : Option (List ℕ)) (first more : List ℕ) → a ≡ Some first → b ≡ Some more → both_texts a b ≡ Some (first ++ more)
texts_joined a b first more is so = ap (λ (o : Option (List ℕ)). both_texts o b) is ∙ ap (λ (o : Option (List ℕ)). both_texts (Some first) o) so

tells_joined : (first more whole : Done) (a b : Told) → (whole.status ≡ more.status) × (whole.out ≡ both_texts first.out more.out) × (warning_lines whole.own whole.warned ≡ warning_lines first.own first.warned ++ warning_lines more.own more.warned)
    → TellsRun a first → TellsRun b more → TellsRun (told_unless None a b) whole
tells_joined first more whole a b joined tells next = record {
  status = joined.0 ∙ next.status;
  out = joined.1 ∙ texts_joined first.out more.out a.text b.text tells.out next.out;
  warned = joined.2
      ∙ ap (λ (lines : List ℕ). lines ++ warning_lines more.own more.warned) tells.warned
      ∙ ap (λ (lines : List ℕ). flat_map warning_line a.warned ++ lines) next.warned
      ∙ sym (flat_map-append warning_line a.warned b.warned);
}

-- a front of the warnings of two runs: one of the first's, or all of those and one of the other's

with_more : (done : Done) (ws more : List (Option Identity × Why)) → WarnsUpTo ws done → WarnsUpTo (ws ++ more) done
with_more done ws more up_to = record {
  front = up_to.front;
  rest = up_to.rest ++ more;
  is = sym (append_assoc up_to.front up_to.rest more) ∙ ap (λ (vs : List (Option Identity × Why)). vs ++ more) up_to.is;
  lines = up_to.lines;
}

warns_joined : (first more whole : Done) (ws others : List (Option Identity × Why)) → warning_lines whole.own whole.warned ≡ warning_lines first.own first.warned ++ warning_lines more.own more.warned
    → warning_lines first.own first.warned ≡ flat_map warning_line ws → WarnsUpTo others more → WarnsUpTo (ws ++ others) whole
warns_joined first more whole ws others joined lines up_to = record {
  front = ws ++ up_to.front;
  rest = up_to.rest;
  is = append_assoc ws up_to.front up_to.rest ∙ ap (λ (vs : List (Option Identity × Why)). ws ++ vs) up_to.is;
  lines = joined
      ∙ ap (λ (ls : List ℕ). ls ++ warning_lines more.own more.warned) lines
      ∙ ap (λ (ls : List ℕ). flat_map warning_line ws ++ ls) up_to.lines
      ∙ sym (flat_map-append warning_line ws up_to.front);
}

-- what a run that came to an answer left is one of the things that a stop of it may leave
left_behind : (d : Dialect) (calls : List Call) (database : Database) (x y : State) (done : Done) → HasDatabase d x database → (y.live ≡ true → IsStore y) → Works d calls database x (Ok done) y → LeftBehind d calls database x y
left_behind d calls database x y done has store works = by (is_finished done.status) refl where
  by : (b : Bool) → is_finished done.status ≡ b → LeftBehind d calls database x y
  by true is = let leaves = works.0 is in whole_left d calls database x y leaves (store leaves.database_is.live) has
  by false is = works.1 is

module _ {S : Type 0} (state : S → State) (crashes : S → Crashes) (d : Dialect) where
  -- there was no memory for it
  pub lacking_run : (run : Run) (before : S) (r : Result Done Status) → r ≡ Err status.OutOfMemory → DidRun state crashes d run before r before
  lacking_run run before r is = record {
    answers = subst (λ (q : Result Done Status). Answers None q) (sym is) (inr refl);
    works = λ database has. untouched_works d (run.calls database) database (state before) r status.OutOfMemory is has;
    any_moment = λ database has. untouched_crashes d (run.calls database) database (state before) (crashes before);
    tells = λ database has. subst (λ (q : Result Done Status). IfOk q (λ (ended : Done). EndsRun (run.told database) ended)) (sym is) tt;
  }

  module _ (a b : Run) (before : S) (over : OnIts d (state before) (λ database. IsOver d (a.calls database) database)) where
    abbrev both : Run
    both = then_run d a b

    abbrev middle : Database → Database
    middle database = left_by d (a.calls database) database

    abbrev calls_after : Database → Option Stop → List Call
    calls_after database o = a.calls database ++ calls_unless o (b.calls (middle database))

    -- the first of them is not done

    module _ (after : S) (r : Result Done Status) (did : DidRun state crashes d a before r after) where
      stopped_works : (database : Database) → HasDatabase d (state before) database → (r' : Result Done Status) → IsStopped r' → Works d (a.calls database) database (state before) r' (state after)
          → IfOk r' (λ (ended : Done). EndsRun (a.told database) ended) → Works d (both.calls database) database (state before) r' (state after)
      stopped_works database has (Err s) stopped works tells = behind_first d (a.calls database) (calls_unless (a.told database).stop (b.calls (middle database))) database (over database has) (state before) (state after) works
      stopped_works database has (Ok done) stopped works tells = by (is_finished done.status) refl where
        went : (o : Option Stop) → (a.told database).stop ≡ o → done.status ≡ status_by o → Works d (both.calls database) database (state before) (Ok done) (state after)
        went None is tells_none = absurd (stopped tells_none)
        went (Some stop) is tells_stop =
            subst (λ (calls : List Call). Works d calls database (state before) (Ok done) (state after)) (sym (ap (calls_after database) is ∙ append-nil (a.calls database))) works

        by : (f : Bool) → is_finished done.status ≡ f → Works d (both.calls database) database (state before) (Ok done) (state after)
        by true is = went (a.told database).stop refl (tells.0 is).status
        by false is = unfinished_first d (a.calls database) (calls_unless (a.told database).stop (b.calls (middle database))) database (over database has) (state before) (state after) done is works

      abbrev told_by : Database → Option Stop → Told
      told_by database o = told_unless o (a.told database) (b.told (middle database))

      stopped_tells : (database : Database) (r' : Result Done Status) → IsStopped r' → IfOk r' (λ (ended : Done). EndsRun (a.told database) ended) → IfOk r' (λ (ended : Done). EndsRun (both.told database) ended)
      stopped_tells database (Err s) stopped tells = tt
      stopped_tells database (Ok done) stopped tells = by (a.told database).stop refl tells where
        by : (o : Option Stop) → (a.told database).stop ≡ o → EndsRun (a.told database) done → EndsRun (both.told database) done
        by None is told = (
          λ finished. absurd (stopped ((told.0 finished).status ∙ ap status_by is)),
          subst (λ (t : Told). WarnsUpTo t.warned done) (sym (ap (told_by database) is)) (with_more done (a.told database).warned (b.told (middle database)).warned told.1),
        )
        by (Some stop) is told = subst (λ (t : Told). EndsRun t done) (sym (ap (told_by database) is)) told

      pub stopped_did : IsStopped r → DidRun state crashes d both before r after
      stopped_did stopped = record {
        answers = did.answers;
        works = λ database has. stopped_works database has r stopped (did.works database has) (did.tells database has);
        any_moment = λ database has. crash_first d (a.calls database) (calls_unless (a.told database).stop (b.calls (middle database))) database (over database has) (state before) (crashes before) (crashes after) (did.any_moment database has);
        tells = λ database has. stopped_tells database r stopped (did.tells database has);
      }

    -- it is done, and the other runs

    module _ (mid after : S) (first : Done) (r whole : Result Done Status) (done : first.status ≡ status.Done) (did : DidRun state crashes d a before (Ok first) mid) (store : IsStore (state mid)) (later : (state after).live ≡ true → IsStore (state after))
        (more : DidRun state crashes d b mid r after) (joined : IsJoined first r whole) where
      finished : is_finished first.status ≡ true
      finished = ap is_finished done

      went_on : (database : Database) → HasDatabase d (state before) database → (a.told database).stop ≡ None
      went_on database has = none_stopped first.status (a.told database).stop ((did.tells database has).0 finished).status done

      leaves : (database : Database) → HasDatabase d (state before) database → Leaves d (a.calls database) database (state before) (state mid)
      leaves database has = (did.works database has).0 finished

      whole_answers : (q w : Result Done Status) → IsJoined first q w → Answers None q → Answers None w
      whole_answers (Ok ended) (Ok all) is answers = ap ends is.0 ∙ answers
      whole_answers (Ok ended) (Err s) is answers = inr is
      whole_answers (Err s) (Ok all) is answers = absurd is
      whole_answers (Err s) (Err t) is answers = subst (λ (u : Status). Answers None (Err u)) (sym is) answers

      module _ (database : Database) (has : HasDatabase d (state before) database) where
        abbrev others : List Call
        others = b.calls (middle database)

        whole_works : (q w : Result Done Status) → IsJoined first q w → Works d others (middle database) (state mid) q (state after) → Works d (a.calls database ++ others) database (state before) w (state after)
        whole_works (Ok ended) (Ok all) is works =
            works_same d (a.calls database ++ others) database (state before) (state after) ended all is.0
            (works_then d (a.calls database) others database (over database has) (state before) (state mid) has (leaves database has) store (state after) (Ok ended) works)
        whole_works (Ok ended) (Err s) is works =
            behind_then d (a.calls database) others database (over database has) (state before) (state mid) has (leaves database has) store (state after)
            (left_behind d others (middle database) (state mid) (state after) ended (leaves database has).database_is later works)
        whole_works (Err s) (Ok all) is works = absurd is
        whole_works (Err s) (Err t) is works =
            behind_then d (a.calls database) others database (over database has) (state before) (state mid) has (leaves database has) store (state after) works

        whole_tells : (q w : Result Done Status) → IsJoined first q w → IfOk q (λ (ended : Done). EndsRun (b.told (middle database)) ended)
            → IfOk w (λ (ended : Done). EndsRun (told_unless None (a.told database) (b.told (middle database))) ended)
        whole_tells (Ok ended) (Ok all) is tells =
            let before_it = (did.tells database has).0 finished in (
              λ over. tells_joined first ended all (a.told database) (b.told (middle database)) is before_it (tells.0 (ap is_finished (sym is.0) ∙ over)),
              warns_joined first ended all (a.told database).warned (b.told (middle database)).warned is.2 before_it.warned tells.1,
            )
        whole_tells q (Err s) is tells = tt
        whole_tells (Err s) (Ok all) is tells = absurd is

      pub both_did : DidRun state crashes d both before whole after
      both_did = record {
        answers = whole_answers r whole joined more.answers;
        works = λ database has.
            subst (λ (calls : List Call). Works d calls database (state before) whole (state after)) (sym (ap (calls_after database) (went_on database has)))
            (whole_works database has r whole joined (more.works (middle database) (leaves database has).database_is));
        any_moment = λ database has.
            subst (λ (calls : List Call). CrashesIn d calls database (state before) (crashes before) (crashes after)) (sym (ap (calls_after database) (went_on database has)))
            (crash_then d (a.calls database) (b.calls (middle database)) database (over database has) (state before) (state mid) has (leaves database has) store (crashes before) (crashes mid) (crashes after)
            (did.any_moment database has) (more.any_moment (middle database) (leaves database has).database_is));
        tells = λ database has.
            subst (λ (o : Option Stop). IfOk whole (λ (ended : Done). EndsRun (told_unless o (a.told database) (b.told (middle database))) ended)) (sym (went_on database has))
            (whole_tells database has r whole joined (more.tells (middle database) (leaves database has).database_is));
      }
