-- From what the calls came to, to the status.
use Rattle.std.proofs.Common.{ap, inl, inr, refl, subst, sym, ◌∙◌}
use Rattle.std.specs.Option.{option_map, option_or}
use Rattle.std.specs.Prelude.{Bool, Err, IfErr, IfOk, IfSome, List, None, Ok, Option, Result, Some, [], false, if◌then◌else◌, is_some, true, ℕ, ◌∷◌, ◌≡◌}
use Rattle.lq_base.specs.declared.dialect.Dialect.{Dialect}
use Rattle.lq_base.specs.declared.identity.Identity.{Identity}
use Rattle.lq_base.specs.declared.tracking.Tracked.{Tracked}
use Rattle.lq_commands.specs.Outputs.{TellsText}
use Rattle.lq_commands.specs.Refusals.{Answers, IsFault, ends}
use Rattle.lq_commands.specs.Works.{IfFinished, IsQuiet, IsKept, OnIts, RestsFull, Works, is_finished}
use Rattle.lq_expr.specs.declared.options.Options.{Options}
use Rattle.lq_any.specs.declared.any_change.AnyChange.{AnyChange}
use Rattle.lq_kinds.specs.declared.change_set.Changelog.{Changelog}
use Rattle.lq_mending.specs.Comes.{back_refused}
use Rattle.lq_mending.specs.Undoes.{Answers as AnswersOf, FullBy, LeavesBy, Made, Standing, TellsBy, TellsOf, can_undo, first_of, if_faults, invalid, is_of_calls, refusal, refusal_at, set_marked, sets_in, undo_script, unless_undone, unrecorded}
use Rattle.lq_mending.specs.declared.outcome.RepairFault.{RepairFault}
use Rattle.lq_mending.specs.declared.outcome.RepairFault.TheVariants as fault
use Rattle.lq_mending.specs.declared.outcome.Repaired.{Repaired}
use Rattle.lq_report.specs.Mark.{Marked}
use Rattle.lq_report.specs.Output.{undone_text}
use Rattle.lq_run.specs.Commands.{Leaves}
use Rattle.lq_run.specs.Crashes.{LeftBehind}
use Rattle.lq_run.specs.Left.{RestsIn}
use Rattle.lq_store.specs.Journal.{Crashes, State}
use Rattle.lq_tell.specs.Texts.{status_done}
use Rattle.lq_tell.specs.declared.done.Done.{Done}
use Rattle.lq_tell.specs.declared.status.Status.{Status}
use Rattle.lq_tell.specs.declared.status.Status.TheVariants as status
use Rattle.lq_track.specs.Database.{Database}
use Rattle.lq_turns.specs.Faults.{faults}
use Rattle.lq_turns.specs.Set.{Set}
use Rattle.lq_turns.specs.declared.call.Call.{Call}
use Rattle.lq_turns.specs.declared.fault.Fault.{Fault}
use Rattle.lq_turns.specs.declared.stop.Refusal.{Refusal}
use Rattle.lq_unrecorded.specs.Part.{part_mark}
use Rattle.lq_undoing.specs.Undid.{EndsWith, TellsPart, TellsUndone, Undid, status_of}

false_true : {A : Type 0} → false ≡ true → A
false_true h = absurd (clash h) where
  clash : false ≡ true → ⊥
  clash e = Prim.cc

-- no check is one of the ends of a run

by_faults : (found : List Fault) → IfSome (if_faults found) (λ e. ends (status_of e) ≡ false)
by_faults [] = tt
by_faults (first ∷ more) = refl

by_way : (b : Bool) (of : Identity) → IfSome (let o : Option RepairFault = if b then None else Some (fault.NotReversible of) in o) (λ e. ends (status_of e) ≡ false)
by_way true of = tt
by_way false of = refl

by_set : (o : Options) (mark : Marked) (found : Option (Set AnyChange)) → IfSome (unless_undone o mark found) (λ e. ends (status_of e) ≡ false)
by_set o mark None = refl
by_set o mark (Some x) = by_way (can_undo o x mark.2) x.identity

by_both : (a b : Option RepairFault) → IfSome a (λ e. ends (status_of e) ≡ false) → IfSome b (λ e. ends (status_of e) ≡ false) → IfSome (option_or a b) (λ e. ends (status_of e) ≡ false)
by_both None b first second = second
by_both (Some e) b first second = first

by_mark : (o : Options) (g : Changelog) (rows : List Tracked) (mark : Option Marked) → IfSome (refusal_at o g rows mark) (λ e. ends (status_of e) ≡ false)
by_mark o g rows None = refl
by_mark o g rows (Some mark) = by_both (invalid o g rows) (unless_undone o mark (set_marked o g rows mark)) (by_faults (faults (sets_in o g) rows)) (by_set o mark (set_marked o g rows mark))

-- the answer

fault_is : (e : RepairFault) → is_of_calls e ≡ true → ends (status_of e) ≡ false → IsFault (status_of e)
fault_is fault.NothingToUndo calls fails = false_true calls
fault_is (fault.Invalid found) calls fails = false_true calls
fault_is (fault.NotReversible of) calls fails = false_true calls
fault_is (fault.Refused of why) calls fails = false_true (sym fails)
fault_is fault.Disk calls fails = inl refl
fault_is (fault.Full used next) calls fails = false_true (sym fails)
fault_is fault.OutOfMemory calls fails = inr refl

module _ (e : RepairFault) where
  answers_by : (refused : Option RepairFault) (r : Result Done Status) → IfSome refused (λ f. ends (status_of f) ≡ false) → status_done r ≡ status_of e
      → IfOk r (λ (done : Done). ends done.status ≡ true) → IfErr r (λ (s : Status). ends s ≡ false) → AnswersOf refused (Err e) → Answers (option_map status_of refused) r
  answers_by None (Ok done) checks is ok err answers = ok
  answers_by None (Err s) checks is ok err (inl calls) = subst (λ (t : Status). IsFault t) (sym is) (fault_is e calls (sym (ap ends is) ∙ err))
  answers_by None (Err s) checks is ok err (inr memory) = inr (is ∙ ap status_of memory)
  answers_by (Some f) (Ok done) checks is ok err (inl same) = false_true (sym checks ∙ (ap (λ (k : RepairFault). ends (status_of k)) (sym same) ∙ (sym (ap ends is) ∙ ok)))
  answers_by (Some f) (Ok done) checks is ok err (inr memory) = false_true (sym (ap ends (is ∙ ap status_of memory)) ∙ ok)
  answers_by (Some f) (Err s) checks is ok err (inl same) = inl (is ∙ ap status_of same)
  answers_by (Some f) (Err s) checks is ok err (inr memory) = inr (inr (is ∙ ap status_of memory))

answers_done : (refused : Option RepairFault) (done : Repaired) (r : Result Done Status) → IfOk r (λ (d : Done). ends d.status ≡ true) → IfErr r (λ (s : Status). s ≡ status.OutOfMemory) → AnswersOf refused (Ok done)
    → Answers (option_map status_of refused) r
answers_done None done (Ok ended) ok err answers = ok
answers_done None done (Err s) ok err answers = inr err
answers_done (Some f) done r ok err answers = absurd answers

-- one that is refused changes nothing
kept_by : {S : Type 0} (refused : Option RepairFault) (before after : S) → (is_some refused ≡ true → after ≡ before) → IsKept (option_map status_of refused) before after
kept_by None before after kept = kept
kept_by (Some f) before after kept = kept

-- what it leaves

abbrev is_full : Status → Bool
is_full (status.Full used next) = true
is_full s = false

same_used : (u n used next : ℕ) → status.Full u n ≡ status.Full used next → u ≡ used
same_used u n used next h = Prim.cc

same_next : (u n used next : ℕ) → status.Full u n ≡ status.Full used next → n ≡ next
same_next u n used next h = Prim.cc

module _ (d : Dialect) (calls : List Call) (database : Database) (x y : State) where
  says_full : (e : RepairFault) → FullBy d calls database x (Err e) y → (used next : ℕ) → status_of e ≡ status.Full used next → RestsIn d calls database x y used next
  says_full fault.NothingToUndo full used next is = false_true (ap is_full is)
  says_full (fault.Invalid found) full used next is = false_true (ap is_full is)
  says_full (fault.NotReversible of) full used next is = false_true (ap is_full is)
  says_full (fault.Refused of why) full used next is = false_true (ap is_full is)
  says_full fault.Disk full used next is = false_true (ap is_full is)
  says_full (fault.Full u n) full used next is =
      subst (λ k. RestsIn d calls database x y k next) (same_used u n used next is) (subst (λ k. RestsIn d calls database x y u k) (same_next u n used next is) full)
  says_full fault.OutOfMemory full used next is = false_true (ap is_full is)

  leaves_ended : (e : RepairFault) → is_finished (status_of e) ≡ true → LeavesBy d calls database x (Err e) y → Leaves d calls database x y
  leaves_ended fault.NothingToUndo finished leaves = false_true finished
  leaves_ended (fault.Invalid found) finished leaves = false_true finished
  leaves_ended (fault.NotReversible of) finished leaves = false_true finished
  leaves_ended (fault.Refused of why) finished leaves = leaves
  leaves_ended fault.Disk finished leaves = false_true finished
  leaves_ended (fault.Full used next) finished leaves = false_true finished
  leaves_ended fault.OutOfMemory finished leaves = false_true finished

  works_by : (e : RepairFault) (r : Result Done Status) → status_done r ≡ status_of e → LeavesBy d calls database x (Err e) y → LeftBehind d calls database x y → FullBy d calls database x (Err e) y → Works d calls database x r y
  works_by e (Ok done) is leaves behind full =
      (λ finished. leaves_ended e (sym (ap is_finished is) ∙ finished) leaves, λ unfinished. behind, subst (λ (t : Status). RestsFull d calls database x t y) (sym is) (says_full e full))
  works_by e (Err s) is leaves behind full = behind

  works_done : (of : Repaired) (r : Result Done Status) → IfOk r (λ (done : Done). done.status ≡ status.Done) → LeavesBy d calls database x (Ok of) y → LeftBehind d calls database x y → Works d calls database x r y
  works_done of (Ok done) is leaves behind = (λ finished. leaves, λ unfinished. behind, λ used next full. false_true (ap is_full (sym is ∙ full)))
  works_done of (Err s) is leaves behind = behind

-- what it tells

tells_refused : (of : Identity) (many : ℕ) (refused : Option Refusal) (at : Identity) (why : Refusal) (done : Done) → at ≡ of → refused ≡ Some why → EndsWith (status_of (fault.Refused at why)) done → TellsPart of many refused done
tells_refused of many refused at why done same is so =
    subst (λ (o : Option Refusal). TellsPart of many o done) (sym is) (subst (λ (i : Identity). EndsWith (status_of (fault.Refused i why)) done) same so)

tells_ended : (of : Identity) (many : ℕ) (refused : Option Refusal) (e : RepairFault) (done : Done) → EndsWith (status_of e) done → ends done.status ≡ true → TellsBy of many refused (Err e) → IfFinished done (TellsPart of many refused done)
tells_ended of many refused fault.NothingToUndo done so ended tells = λ finished. false_true (sym (ap is_finished so.status) ∙ finished)
tells_ended of many refused (fault.Invalid found) done so ended tells = λ finished. false_true (sym (ap is_finished so.status) ∙ finished)
tells_ended of many refused (fault.NotReversible at) done so ended tells = λ finished. false_true (sym (ap is_finished so.status) ∙ finished)
tells_ended of many refused (fault.Refused at why) done so ended tells = λ finished. tells_refused of many refused at why done tells.0 tells.1 so
tells_ended of many refused fault.Disk done so ended tells = λ finished. false_true (sym (ap is_finished so.status) ∙ finished)
tells_ended of many refused (fault.Full used next) done so ended tells = λ finished. false_true (sym (ap is_finished so.status) ∙ finished)
tells_ended of many refused fault.OutOfMemory done so ended tells = λ finished. false_true (sym (ap is_finished so.status) ∙ finished)

module _ (o : Options) (database : Database) where
  tells_by : (part : Option Standing) (e : RepairFault) (r : Result Done Status) → status_done r ≡ status_of e → IfOk r (λ (done : Done). ends done.status ≡ true) → IfOk r (λ (done : Done). done.out ≡ None) → IfOk r IsQuiet
      → TellsOf o database part (Err e) → IfOk r (TellsUndone o database part)
  tells_by part e (Err s) is ok out quiet tells = tt
  tells_by None e (Ok done) is ok out quiet tells = tt
  tells_by (Some part) e (Ok done) is ok out quiet tells =
      tells_ended part.0.identity part.1 (back_refused o.dialect (first_of o part) database.users) e done (record { status = is; out = out; quiet = quiet }) ok tells

  tells_done : (part : Option Standing) (of : Repaired) (r : Result Done Status) → IfOk r (TellsText (undone_text of.identity of.count)) → TellsOf o database part (Ok of) → IfOk r (TellsUndone o database part)
  tells_done part of (Err s) text tells = tt
  tells_done None of (Ok done) text tells = tt
  tells_done (Some part) of (Ok done) text tells = λ finished.
      subst (λ (refused : Option Refusal). TellsPart part.0.identity part.1 refused done) (sym tells.1)
      (subst (λ (it : Repaired). TellsText (undone_text it.identity it.count) done) tells.0 text)

status_is : (text : List ℕ) (r : Result Done Status) → IfOk r (TellsText text) → IfOk r (λ (done : Done). done.status ≡ status.Done)
status_is text (Ok done) tells = tells.status
status_is text (Err s) tells = tt

ends_is : (r : Result Done Status) → IfOk r (λ (done : Done). done.status ≡ status.Done) → IfOk r (λ (done : Done). ends done.status ≡ true)
ends_is (Ok done) is = ap ends is
ends_is (Err s) is = tt

module _ {S : Type 0} (state : S → State) (crashes : S → Crashes) (o : Options) (g : Changelog) (last : Option (List ℕ)) (before after : S) where
  -- the calls came to their end
  pub undid_done : (of : Repaired) (r : Result Done Status) → IfOk r (TellsText (undone_text of.identity of.count)) → IfErr r (λ (s : Status). s ≡ status.OutOfMemory)
      → OnIts o.dialect (state before) (λ database. AnswersOf (refusal o g database.lock database.rows) (Ok of))
      → OnIts o.dialect (state before) (λ database. is_some (refusal o g database.lock database.rows) ≡ true → after ≡ before)
      → OnIts o.dialect (state before) (λ database. Made state crashes o.dialect (undo_script o g last database) database before (Ok of) after)
      → OnIts o.dialect (state before) (λ database. TellsOf o database (unrecorded o g last database.lock database.rows) (Ok of))
      → Undid state crashes o g last before r after
  undid_done of r text memory answers refused made tells =
      let done = status_is (undone_text of.identity of.count) r text in
      record {
        answers = λ database has. answers_done (refusal o g database.lock database.rows) of r (ends_is r done) memory (answers database has);
        refused = λ database has. kept_by (refusal o g database.lock database.rows) before after (refused database has);
        works = λ database has.
            let it = made database has in
            works_done o.dialect (undo_script o g last database) database (state before) (state after) of r done it.leaves it.behind;
        any_moment = λ database has. (made database has).any_moment;
        tells = λ database has. tells_done o database (unrecorded o g last database.lock database.rows) of r text (tells database has);
      }

  -- a fault was met
  pub undid_ended : (e : RepairFault) (r : Result Done Status) → status_done r ≡ status_of e → IfOk r (λ (done : Done). ends done.status ≡ true) → IfOk r (λ (done : Done). done.out ≡ None) → IfOk r IsQuiet
      → IfErr r (λ (s : Status). ends s ≡ false)
      → OnIts o.dialect (state before) (λ database. AnswersOf (refusal o g database.lock database.rows) (Err e))
      → OnIts o.dialect (state before) (λ database. is_some (refusal o g database.lock database.rows) ≡ true → after ≡ before)
      → OnIts o.dialect (state before) (λ database. Made state crashes o.dialect (undo_script o g last database) database before (Err e) after)
      → OnIts o.dialect (state before) (λ database. TellsOf o database (unrecorded o g last database.lock database.rows) (Err e))
      → Undid state crashes o g last before r after
  undid_ended e r is ok out quiet err answers refused made tells = record {
    answers = λ database has. answers_by e (refusal o g database.lock database.rows) r (by_mark o g database.rows (part_mark database.lock)) is ok err (answers database has);
    refused = λ database has. kept_by (refusal o g database.lock database.rows) before after (refused database has);
    works = λ database has.
        let it = made database has in
        works_by o.dialect (undo_script o g last database) database (state before) (state after) e r is it.leaves it.behind it.full;
    any_moment = λ database has. (made database has).any_moment;
    tells = λ database has. tells_by o database (unrecorded o g last database.lock database.rows) e r is ok out quiet (tells database has);
  }

-- a disk fault

disk_is : (e : RepairFault) → status_of e ≡ status.DiskFault → (let r : Result Repaired RepairFault = Err e in r) ≡ Err fault.Disk
disk_is fault.NothingToUndo is = Prim.cc
disk_is (fault.Invalid found) is = Prim.cc
disk_is (fault.NotReversible of) is = Prim.cc
disk_is (fault.Refused of why) is = Prim.cc
disk_is fault.Disk is = refl
disk_is (fault.Full used next) is = Prim.cc
disk_is fault.OutOfMemory is = Prim.cc

pub disk_by : (e : RepairFault) (r : Result Done Status) → status_done r ≡ status_of e → r ≡ Err status.DiskFault → (let q : Result Repaired RepairFault = Err e in q) ≡ Err fault.Disk
disk_by e r is disk = disk_is e (sym is ∙ ap status_done disk)

ok_disk : (done : Done) → (let r : Result Done Status = Ok done in r) ≡ Err status.DiskFault → ⊥
ok_disk done h = Prim.cc

err_disk : (s : Status) → s ≡ status.OutOfMemory → (let r : Result Done Status = Err s in r) ≡ Err status.DiskFault → ⊥
err_disk s memory h = Prim.cc

pub no_disk : (r : Result Done Status) → IfErr r (λ (s : Status). s ≡ status.OutOfMemory) → r ≡ Err status.DiskFault → ⊥
no_disk (Ok done) memory disk = ok_disk done disk
no_disk (Err s) memory disk = err_disk s memory disk
