-- Commands, from their checks to their answers.
use Rattle.std.proofs.Common.{ap, inl, inr, refl, subst, sym, ◌∙◌}
use Rattle.std.specs.Option.{option_or}
use Rattle.std.specs.Prelude.{Err, IfErr, IfOk, List, None, Ok, Option, Result, Some, [], false, option_map, true, ℕ, ◌∷◌, ◌≡◌, ◌≤◌}
use Rattle.lq_base.specs.Number.{char_count}
use Rattle.lq_base.specs.declared.command.Command.{Command}
use Rattle.lq_base.specs.declared.command.Target.{Target}
use Rattle.lq_base.specs.declared.dialect.Dialect.{Dialect}
use Rattle.lq_base.specs.declared.identity.Identity.{Identity}
use Rattle.lq_base.specs.declared.tracking.Tracked.{Tracked}
use Rattle.lq_beside.proofs.OtherFits.{tag_fits}
use Rattle.lq_beside.specs.Replays.{calls_fit}
use Rattle.lq_model.specs.declared.fault.StoreFault.{StoreFault}
use Rattle.lq_model.specs.declared.fault.StoreFault.TheVariants.{Disk}
use Rattle.lq_outside.specs.Forms.{Rose}
use Rattle.lq_report.specs.Output.{status_text}
use Rattle.lq_run.specs.Commands.{HasDatabase}
use Rattle.lq_run.specs.Crashes.{BehindTagged, CrashesTagged, LeftBehind}
use Rattle.lq_run.specs.Left.{LeavesOnce, LeavesTagged}
use Rattle.lq_store.specs.Calls.{CountsDisk}
use Rattle.lq_store.specs.Journal.{Crashes, State}
use Rattle.lq_tell.specs.declared.done.Done.{Done}
use Rattle.lq_tell.specs.declared.status.Status.{Status}
use Rattle.lq_tell.specs.declared.status.Status.TheVariants as status
use Rattle.lq_track.specs.Database.{Database}
use Rattle.lq_track.specs.Log.{identity_of}
use Rattle.lq_turns.specs.Printed.{pending}
use Rattle.lq_turns.specs.Script.{rows_kept, rows_undone, last_row, tag_calls}
use Rattle.lq_turns.specs.Session.{session_on}
use Rattle.lq_turns.specs.declared.call.Call.{Call}
use Rattle.lq_turns.specs.declared.fault.Fault.{Fault}
use Rattle.lq_commands.proofs.Warned.{quiet_lines}
use Rattle.lq_commands.specs.Outputs.{TellsText}
use Rattle.lq_commands.specs.Refusals.{Answers, IsFault, Passes, ends, fault_status, if_some, irreversible, no_way_back, refusal, unreachable_by}
use Rattle.lq_commands.specs.Scripts.{script, sets_in}
use Rattle.lq_commands.specs.Works.{IsQuiet, CrashesIn, IsKept, OnIts, RestsFull, Works, is_finished}
use Rattle.lq_commands.specs.declared.given.Given.{Given}

not_true : false ≡ true → ⊥
not_true h = Prim.cc

pub true_not : true ≡ false → ⊥
true_not h = Prim.cc

none_some : {A : Type 0} {b : A} → (let o : Option A = None in o) ≡ Some b → ⊥
none_some h = Prim.cc

some_same : {A : Type 0} {a b : A} → (let o : Option A = Some a in o) ≡ Some b → a ≡ b
some_same h = Prim.cc

err_same : (s t : Status) → (let r : Result Done Status = Err s in r) ≡ Err t → s ≡ t
err_same s t h = Prim.cc

-- what a run answers

pub answers_so : (a : Option Status) (r : Result Done Status) → a ≡ None → Answers None r → Answers a r
answers_so a r is answers = subst (λ (o : Option Status). Answers o r) (sym is) answers

pub answers_done : (r : Result Done Status) → IfErr r (λ (s : Status). s ≡ status.OutOfMemory) → IfOk r (λ (done : Done). done.status ≡ status.Done) → Answers None r
answers_done (Ok done) err ok = ap ends ok
answers_done (Err s) err ok = inr err

pub answers_end : (r : Result Done Status) → IfErr r IsFault → IfOk r (λ (done : Done). ends done.status ≡ true) → Answers None r
answers_end (Ok done) err ok = ok
answers_end (Err s) err ok = err

ok_disk : (done : Done) → (let r : Result Done Status = Ok done in r) ≡ Err status.DiskFault → ⊥
ok_disk done h = Prim.cc

memory_disk : status.OutOfMemory ≡ status.DiskFault → ⊥
memory_disk h = Prim.cc

pub no_disk : (r : Result Done Status) → IfErr r (λ (s : Status). s ≡ status.OutOfMemory) → r ≡ Err status.DiskFault → ⊥
no_disk (Ok done) err disk = ok_disk done disk
no_disk (Err s) err disk = memory_disk (sym err ∙ err_same s status.DiskFault disk)

-- a check that is passed

pub none_of : {A : Type 0} (a : Option Status) (x : A) → Passes a (Ok x) → a ≡ None
none_of None x passes = refl
none_of (Some refused) x passes = absurd passes

some_none : {s : Status} → (let o : Option Status = Some s in o) ≡ None → ⊥
some_none h = Prim.cc

pub kept_none : {S : Type 0} (a : Option Status) (before after : S) → a ≡ None → IsKept a before after
kept_none None before after is some = absurd (not_true some)
kept_none (Some refused) before after is some = absurd (some_none is)

pub passed : {A : Type 0} (a : Option Status) (x : A) (r : Result Done Status) → Passes a (Ok x) → Answers None r → Answers a r
passed a x r passes answers = answers_so a r (none_of a x passes) answers

-- one that refuses, or there is no memory

failed : (a : Option Status) (s : Status) → s ≡ status.OutOfMemory → Answers a (Err s)
failed None s is = inr is
failed (Some refused) s is = inr (inr is)

refused_by : (A : Type 0) (a : Option Status) (s : Status) → Passes {A = A} a (Err s) → Answers a (Err s)
refused_by A None s is = inr is
refused_by A (Some refused) s (inl is) = inl is
refused_by A (Some refused) s (inr is) = inr (inr is)

pub refused_as : (A : Type 0) (a : Option Status) (s : Status) (r : Result Done Status) → Passes {A = A} a (Err s) → r ≡ Err s → Answers a r
refused_as A a s r passes is = subst (λ (q : Result Done Status). Answers a q) (sym is) (refused_by A a s passes)

pub lacking : (a : Option Status) (r : Result Done Status) → r ≡ Err status.OutOfMemory → Answers a r
lacking a r is = subst (λ (q : Result Done Status). Answers a q) (sym is) (failed a status.OutOfMemory refl)

pub lacking_by : (a : Option Status) (s : Status) (r : Result Done Status) → s ≡ status.OutOfMemory → r ≡ Err s → Answers a r
lacking_by a s r lack is = subst (λ (q : Result Done Status). Answers a q) (sym is) (failed a s lack)

-- two checks

first_by : (A : Type 0) (a b : Option Status) (s : Status) → Passes {A = A} a (Err s) → Answers (option_or a b) (Err s)
first_by A None b s is = failed b s is
first_by A (Some refused) b s (inl is) = inl is
first_by A (Some refused) b s (inr is) = inr (inr is)

pub first_refuses : (A : Type 0) (a b : Option Status) (s : Status) (r : Result Done Status) → Passes {A = A} a (Err s) → r ≡ Err s → Answers (option_or a b) r
first_refuses A a b s r passes is = subst (λ (q : Result Done Status). Answers (option_or a b) q) (sym is) (first_by A a b s passes)

-- of which the first is passed, and the second looks at rows
module _ {A : Type 0} (a : Option Status) (b : List Tracked → Option Status) (x : A) (rows there : List Tracked) (first : Passes a (Ok x)) (same : rows ≡ there) where
  second_is : option_or a (b there) ≡ b rows
  second_is = ap (λ (o : Option Status). option_or o (b there)) (none_of a x first) ∙ ap b (sym same)

  pub second_refuses : (B : Type 0) (s : Status) (r : Result Done Status) → Passes {A = B} (b rows) (Err s) → r ≡ Err s → Answers (option_or a (b there)) r
  second_refuses B s r passes is = subst (λ (o : Option Status). Answers o r) (sym second_is) (refused_as B (b rows) s r passes is)

  pub both_pass : {B : Type 0} (y : B) → Passes (b rows) (Ok y) → option_or a (b there) ≡ None
  both_pass y passes = second_is ∙ none_of (b rows) y passes

  pub second_answers : (r : Result Done Status) → Answers (b rows) r → Answers (option_or a (b there)) r
  second_answers r answers = subst (λ (o : Option Status). Answers o r) (sym second_is) answers

  pub second_keeps : {S : Type 0} (before after : S) → IsKept (b rows) before after → IsKept (option_or a (b there)) before after
  second_keeps before after kept = subst (λ (o : Option Status). IsKept o before after) (sym second_is) kept

-- the changelog does not go with the rows, or there is no memory: that is no disk fault

invalid_disk : (found : List Fault) → status.Invalid found ≡ status.DiskFault → ⊥
invalid_disk found h = Prim.cc

pub invalid_no_disk : (A : Type 0) (found : List Fault) (s : Status) (r : Result Done Status) → Passes {A = A} (if_some found) (Err s) → r ≡ Err status.DiskFault → r ≡ Err s → ⊥
invalid_no_disk A [] s r passes disk is = memory_disk (sym passes ∙ err_same s status.DiskFault (sym is ∙ disk))
invalid_no_disk A (fault ∷ found) s r (inl refused) disk is = invalid_disk (fault ∷ found) (sym refused ∙ err_same s status.DiskFault (sym is ∙ disk))
invalid_no_disk A (fault ∷ found) s r (inr lack) disk is = memory_disk (sym lack ∙ err_same s status.DiskFault (sym is ∙ disk))

-- a fault

module _ (d : Dialect) (calls : List Call) (database : Database) (x y : State) where
  pub unfinished_works : (why : StoreFault) (r : Result Done Status) → IfOk r (λ (done : Done). is_finished done.status ≡ false) → IfOk r (λ (done : Done). done.status ≡ fault_status why) → LeftBehind d calls database x y
      → RestsFull d calls database x (fault_status why) y → Works d calls database x r y
  unfinished_works why (Ok done) unfinished same behind full = (λ finished. absurd (not_true (sym unfinished ∙ finished)), λ ended. behind, subst (λ (t : Status). RestsFull d calls database x t y) (sym same) full)
  unfinished_works why (Err s) unfinished same behind full = behind

pub fault_rose : (fault : StoreFault) (before now : ℕ) → CountsDisk {T = Unit {0}} (Err fault) before now → fault ≡ Disk → Rose before now
fault_rose fault before now counts is = counts.rose (ap (λ (f : StoreFault). (let r : Result (Unit {0}) StoreFault = Err f in r)) is)

-- each command as it was asked for

module _ (k l : Command) (is : k ≡ l) (given : Given) (database : Database) where
  pub answers_as : (r : Result Done Status) → Answers (refusal l given database) r → Answers (refusal k given database) r
  answers_as r answers = subst (λ (c : Command). Answers (refusal c given database) r) (sym is) answers

  pub kept_as : {S : Type 0} (before after : S) → IsKept (refusal l given database) before after → IsKept (refusal k given database) before after
  kept_as before after kept = subst (λ (c : Command). IsKept (refusal c given database) before after) (sym is) kept

  pub works_as : (x y : State) (r : Result Done Status) → Works given.options.dialect (script l given database) database x r y → Works given.options.dialect (script k given database) database x r y
  works_as x y r works = subst (λ (c : Command). Works given.options.dialect (script c given database) database x r y) (sym is) works

  pub crashes_as : (x : State) (before now : Crashes) → CrashesIn given.options.dialect (script l given database) database x before now → CrashesIn given.options.dialect (script k given database) database x before now
  crashes_as x before now crashes = subst (λ (c : Command). CrashesIn given.options.dialect (script c given database) database x before now) (sym is) crashes

-- what is pending on the rows of the database
pub pending_told : (given : Given) (x : State) (rows : List Tracked) (r : Result Done Status) → OnIts given.options.dialect x (λ (database : Database). database.rows ≡ rows) → IfOk r (λ (done : Done). done.status ≡ status.Done)
    → IfOk r (λ (done : Done). done.out ≡ Some (status_text (pending (sets_in given) rows))) → IfOk r IsQuiet → IfOk r (λ (done : Done). OnIts given.options.dialect x (λ (database : Database). TellsText (status_text (pending (sets_in given) database.rows)) done))
pending_told given x rows (Ok done) same is tells quiet = λ database has. record { status = is; out = tells ∙ ap (λ (rs : List Tracked). Some (status_text (pending (sets_in given) rs))) (sym (same database has)); warned = quiet_lines done quiet }
pending_told given x rows (Err s) same is tells quiet = tt

-- a tag on the last row, whose calls fit
module _ (d : Dialect) (of : Identity) (name tag : List ℕ) (x : State) (same : name ≡ tag) (short : char_count tag ≤ 255) where
  tag_holds : (holds : List Call → Database → Type 0)
      → ((database : Database) (row : Tracked) → HasDatabase d x database → last_row database.rows ≡ Some row → identity_of row ≡ of → calls_fit d (tag_calls name database) (session_on database) ≡ true → holds (tag_calls name database) database)
      → (database : Database) → HasDatabase d x database → option_map identity_of (last_row database.rows) ≡ Some of → holds (tag_calls tag database) database
  tag_holds holds tagged database has last = by (last_row database.rows) refl last where
    fits : calls_fit d (tag_calls name database) (session_on database) ≡ true
    fits = subst (λ (text : List ℕ). calls_fit d (tag_calls text database) (session_on database) ≡ true) (sym same) (tag_fits d tag x.committed database has.committed short)

    by : (o : Option Tracked) → last_row database.rows ≡ o → option_map identity_of o ≡ Some of → holds (tag_calls tag database) database
    by None is none = absurd (none_some none)
    by (Some row) is some = subst (λ (text : List ℕ). holds (tag_calls text database) database) same (tagged database row has is (some_same some) fits)

  pub tag_leaves : (y : State) (r : Result (Unit {0}) StoreFault) → LeavesTagged d of name x r y
      → (database : Database) → HasDatabase d x database → option_map identity_of (last_row database.rows) ≡ Some of → LeavesOnce d (tag_calls tag database) database x r y
  tag_leaves y r leaves = tag_holds (λ (calls : List Call) (database : Database). LeavesOnce d calls database x r y) leaves

  pub tag_behind : (y : State) → BehindTagged d of name x y
      → (database : Database) → HasDatabase d x database → option_map identity_of (last_row database.rows) ≡ Some of → LeftBehind d (tag_calls tag database) database x y
  tag_behind y behind = tag_holds (λ (calls : List Call) (database : Database). LeftBehind d calls database x y) behind

  pub tag_crashes : (before now : Crashes) → CrashesTagged d of name x before now
      → (database : Database) → HasDatabase d x database → option_map identity_of (last_row database.rows) ≡ Some of → CrashesIn d (tag_calls tag database) database x before now
  tag_crashes before now crashes = tag_holds (λ (calls : List Call) (database : Database). CrashesIn d calls database x before now) crashes

-- whether rows can be taken back

pub missing_passes : {A : Type 0} (given : Given) (target : Target) (rows : List Tracked) (s : Status) (r : Result A Status) → s ≡ status.NoTarget → rows_kept target rows ≡ None → r ≡ Err s → Passes (no_way_back given target rows) r
missing_passes {A} given target rows s r is none err =
    subst (λ (q : Result A Status). Passes (no_way_back given target rows) q) (sym err) (subst (λ (o : Option ℕ). Passes {A = A} (unreachable_by given o rows) (Err s)) (sym none) (inl is))

same_fault : (A B : Type 0) (a : Option Status) (s : Status) → Passes {A = A} a (Err s) → Passes {A = B} a (Err s)
same_fault A B None s is = is
same_fault A B (Some refused) s is = is

same_value : {A B : Type 0} (a : Option Status) (x : A) (y : B) → Passes a (Ok x) → Passes a (Ok y)
same_value None x y passes = tt
same_value (Some refused) x y passes = absurd passes

module _ (given : Given) (target : Target) (rows undone : List Tracked) (is : option_map (λ (stay : ℕ). rows_undone stay rows) (rows_kept target rows) ≡ Some undone) where
  way_is : no_way_back given target rows ≡ irreversible given undone
  way_is = by (rows_kept target rows) is where
    by : (o : Option ℕ) → option_map (λ (stay : ℕ). rows_undone stay rows) o ≡ Some undone → unreachable_by given o rows ≡ irreversible given undone
    by None none = absurd (none_some none)
    by (Some stay) some = ap (irreversible given) (some_same some)

  pub way_refuses : (A : Type 0) {B : Type 0} (s : Status) (r : Result B Status) → Passes {A = A} (irreversible given undone) (Err s) → r ≡ Err s → Passes (no_way_back given target rows) r
  way_refuses A {B} s r passes err =
      subst (λ (q : Result B Status). Passes (no_way_back given target rows) q) (sym err) (subst (λ (o : Option Status). Passes {A = B} o (Err s)) (sym way_is) (same_fault A B (irreversible given undone) s passes))

  pub way_passes : {A B : Type 0} (x : A) (y : B) → Passes (irreversible given undone) (Ok x) → Passes (no_way_back given target rows) (Ok y)
  way_passes {A} {B} x y passes = subst (λ (o : Option Status). Passes {A = B} o (Ok y)) (sym way_is) (same_value (irreversible given undone) x y passes)
