-- A rollback, from its checks to what it tells.
use Rattle.std.proofs.Common.{ap, arith, inl, inr, refl, subst, sym, ◌∙◌}
use Rattle.std.proofs.lemmas.Bool.Decides.{nat_tests}
use Rattle.std.proofs.lemmas.List.{append-nil, reverse-reverse}
use Rattle.std.specs.List.{flat_map, list_all}
use Rattle.std.specs.Option.{option_or}
use Rattle.std.specs.Prelude.{Bool, Err, IfErr, IfOk, List, None, Ok, Option, Result, Some, [], false, is_some, length, option_and_then, option_map, reverse, true, ℕ, ◌==◌, ◌∷◌, ◌≡◌, ◌≢◌, ◌≤◌}
use Rattle.lq_base.specs.declared.command.Command.TheVariants as command
use Rattle.lq_base.specs.declared.command.Target.{Target}
use Rattle.lq_base.specs.declared.dialect.Dialect.{Dialect}
use Rattle.lq_base.specs.declared.identity.Identity.{Identity}
use Rattle.lq_base.specs.declared.run.Happened.{Happened}
use Rattle.lq_base.specs.declared.run.Printed.{Printed}
use Rattle.lq_base.specs.declared.tracking.Tracked.{Tracked}
use Rattle.lq_run.specs.Commands.{HasDatabase, LeavesAs}
use Rattle.lq_run.specs.Crashes.{LeftBehind}
use Rattle.lq_hand.specs.Way.{IsUnderWay}
use Rattle.lq_run.specs.Steps.{TellsTo}
use Rattle.lq_seen.specs.Telling.{WarnsFirst, Account, of_turns}
use Rattle.lq_run.specs.declared.runner.End.{End}
use Rattle.lq_run.specs.declared.runner.End.TheVariants as end
use Rattle.lq_back.specs.Reversal.{LeadsBack, goes_back, row_way}
use Rattle.lq_seen.specs.View.{any_meaning}
use Rattle.lq_seen.specs.declared.outcome.Outcome.{Outcome}
use Rattle.lq_kept.specs.declared.way.TakenBack.{TakenBack}
use Rattle.lq_back.specs.declared.row_turns.RowTurns.{RowTurns}
use Rattle.lq_store.specs.Journal.{Crashes, State}
use Rattle.lq_tell.specs.Lines.{warning_line, warning_lines}
use Rattle.lq_tell.specs.declared.done.Done.{Done}
use Rattle.lq_tell.specs.declared.status.Status.{Status}
use Rattle.lq_tell.specs.declared.status.Status.TheVariants as status
use Rattle.lq_track.specs.Database.{Database}
use Rattle.lq_turns.specs.Deed.{Contents, contents_of}
use Rattle.lq_turns.specs.Rest.{OfRows}
use Rattle.lq_turns.specs.Script.{not_reversible, rollback_of, rows_kept, rows_undone, undo_turn, undo_turns}
use Rattle.lq_turns.specs.declared.call.Call.{Call}
use Rattle.lq_turns.specs.declared.stamp.Stamp.{Stamp}
use Rattle.lq_turns.specs.declared.turn.Turn.{Turn}
use Rattle.lq_commands.proofs.Checked.{answers_on, none_of}
use Rattle.lq_commands.proofs.Endings.{works_by, works_nothing}
use Rattle.lq_commands.proofs.Planned.{goes_to, rollback_is, rollback_may, taken_back}
use Rattle.lq_commands.proofs.PlainRefusals.{IsPlain, refusal_plain}
use Rattle.lq_commands.proofs.Updated.{all_told, warns_so}
use Rattle.lq_commands.proofs.Warned.{quiet_lines, quiet_up_to}
use Rattle.lq_commands.specs.Jobs.{is_diskless}
use Rattle.lq_commands.specs.Refusals.{Answers, Passes, if_not, irreversible, no_way_back, refusal, unreachable_by, unready}
use Rattle.lq_commands.specs.Scripts.{nothing_told, rollback_script, rolled_back, rolled_to, sets_in, taking_back, MayTurn, turns_script}
use Rattle.lq_commands.specs.Works.{HasTold, IsQuiet, EndsRollback, TellsRollback, rollback_output, status_by, stop_by, CrashesIn, FullAs, IsKept, OnIts, TellsFull, Works, is_finished, is_whole}
use Rattle.lq_commands.specs.declared.given.Given.{Given}

not_true : false ≡ true → ⊥
not_true h = Prim.cc

true_not : true ≡ false → ⊥
true_not h = Prim.cc

-- an answer that is a fault

err_is : (r : Result Done Status) (s t : Status) → r ≡ Err s → r ≡ Err t → s ≡ t
err_is r s t is so = Prim.cc

memory_disk : status.OutOfMemory ≡ status.DiskFault → ⊥
memory_disk h = Prim.cc

target_disk : status.NoTarget ≡ status.DiskFault → ⊥
target_disk h = Prim.cc

pub err_ok : (r : Result Done Status) (s : Status) (holds : Done → Type 0) → r ≡ Err s → IfOk r holds
err_ok r s holds is = subst (λ (q : Result Done Status). IfOk q holds) (sym is) tt

pub err_err : (r : Result Done Status) (s : Status) (holds : Status → Type 0) → r ≡ Err s → holds s → IfErr r holds
err_err r s holds is it = subst (λ (q : Result Done Status). IfErr q holds) (sym is) it

pub err_answers : (a : Option Status) (r : Result Done Status) (s : Status) → r ≡ Err s → Answers a (Err s) → Answers a r
err_answers a r s is answers = subst (λ (q : Result Done Status). Answers a q) (sym is) answers

-- it is the disk's where that fault is

pub err_disk : (r : Result Done Status) (s : Status) → r ≡ Err s → r ≡ Err status.DiskFault → s ≡ status.DiskFault
err_disk r s is disk = err_is r s status.DiskFault is disk

pub memory_no_disk : (r : Result Done Status) → r ≡ Err status.OutOfMemory → r ≡ Err status.DiskFault → ⊥
memory_no_disk r is disk = memory_disk (err_is r status.OutOfMemory status.DiskFault is disk)

pub target_no_disk : (r : Result Done Status) (s : Status) → r ≡ Err s → s ≡ status.NoTarget → r ≡ Err status.DiskFault → ⊥
target_no_disk r s is missing disk = target_disk (sym missing ∙ err_is r s status.DiskFault is disk)

-- a check that refuses

refuses_or : (A : Type 0) (a b : Option Status) (s : Status) → Passes {A = A} a (Err s) → Answers (option_or a b) (Err s)
refuses_or A None None s is = inr is
refuses_or A None (Some refused) s is = inr (inr is)
refuses_or A (Some refused) b s (inl is) = inl is
refuses_or A (Some refused) b s (inr is) = inr (inr is)

refuses_so : (A : Type 0) (a : Option Status) (s : Status) → Passes {A = A} a (Err s) → Answers a (Err s)
refuses_so A None s is = inr is
refuses_so A (Some refused) s (inl is) = inl is
refuses_so A (Some refused) s (inr is) = inr (inr is)

plain_disk : (s : Status) → is_diskless s ≡ true → s ≡ status.DiskFault → ⊥
plain_disk s plain disk = not_true (sym (ap is_diskless disk) ∙ plain)

refuses_no_disk : (A : Type 0) (a : Option Status) (s : Status) → IsPlain a → Passes {A = A} a (Err s) → s ≡ status.DiskFault → ⊥
refuses_no_disk A None s plain is disk = memory_disk (sym is ∙ disk)
refuses_no_disk A (Some refused) s plain (inl is) disk = plain_disk refused plain (sym is ∙ disk)
refuses_no_disk A (Some refused) s plain (inr is) disk = memory_disk (sym is ∙ disk)

not_plain : (o : Option Identity) → IsPlain (if_not o)
not_plain (Some of) = refl
not_plain None = tt

-- the lock is held, or the changelog does not go with the rows
module _ (given : Given) (target : Target) (database : Database) (r : Result Done Status) (s : Status) (is : r ≡ Err s) (passes : Passes {A = List Tracked} (unready given database) (Err s)) where
  pub unready_answers : Answers (refusal (command.Rollback target) given database) r
  unready_answers = err_answers (refusal (command.Rollback target) given database) r s is (refuses_or (List Tracked) (unready given database) (no_way_back given target database.rows) s passes)

  pub unready_no_disk : r ≡ Err status.DiskFault → ⊥
  unready_no_disk disk = refuses_no_disk (List Tracked) (unready given database) s (refusal_plain given command.Sync database) passes (err_is r s status.DiskFault is disk)

kept_or : {A S : Type 0} (a b : Option Status) (x : A) (before after : S) → Passes a (Ok x) → IsKept b before after → IsKept (option_or a b) before after
kept_or None b x before after passed kept = kept
kept_or (Some refused) b x before after passed kept = absurd passed

-- these rows were read, and what was done with them is what the command does
module _ (given : Given) (target : Target) (database : Database) (read rows : List Tracked) (passed : Passes (unready given database) (Ok read)) (same : database.rows ≡ rows) where
  pub whole_answers : (r : Result Done Status) → Answers (no_way_back given target rows) r → Answers (refusal (command.Rollback target) given database) r
  whole_answers r answers = answers_on (unready given database) (no_way_back given target database.rows) read r passed (subst (λ (rs : List Tracked). Answers (no_way_back given target rs) r) (sym same) answers)

  pub whole_kept : {S : Type 0} (before after : S) → IsKept (no_way_back given target rows) before after → IsKept (refusal (command.Rollback target) given database) before after
  whole_kept before after kept = kept_or (unready given database) (no_way_back given target database.rows) read before after passed (subst (λ (rs : List Tracked). IsKept (no_way_back given target rs) before after) (sym same) kept)

-- the turns of a rollback

module _ (d : Dialect) (stamp : Stamp) (source : RowTurns) (some : reverse source.turns ≢ []) where
  pub back_may : (prints : Bool) → stamp.reading ≤ 253402300799999 → list_all (goes_back d) (reverse source.turns) ≡ true → ((c : Contents) → LeadsBack source d (of_turns prints d (reverse source.turns) c) c)
      → (database : Database) → MayTurn d any_meaning stamp (OfRows (reverse source.turns)) (row_way source d stamp) database (of_turns prints d (reverse source.turns) (contents_of database))
  back_may prints moment back knows database = record { known = knows (contents_of database); fits = rollback_may d stamp (reverse source.turns) database moment back some }

  pub back_works : (database : Database) (x y : State) (e : End) (r : Result Done Status) → IfOk r (λ (done : Done). is_finished done.status ≡ true → is_whole e ≡ true) → IfOk r (λ (done : Done). TellsFull e done.status)
      → LeavesAs d (turns_script d any_meaning stamp (OfRows (reverse source.turns)) database) database x e y → LeftBehind d (turns_script d any_meaning stamp (OfRows (reverse source.turns)) database) database x y
      → FullAs d (turns_script d any_meaning stamp (OfRows (reverse source.turns)) database) database x e y → Works d (rollback_of d stamp (reverse source.turns) database) database x r y
  back_works database x y e r whole tells leaves left full =
      subst (λ calls. Works d calls database x r y) (sym (rollback_is d stamp database (reverse source.turns) some))
      (works_by d (turns_script d any_meaning stamp (OfRows (reverse source.turns)) database) database x y e r whole tells leaves left full)

  pub back_crashes : (database : Database) (x : State) (before now : Crashes) → CrashesIn d (turns_script d any_meaning stamp (OfRows (reverse source.turns)) database) database x before now
      → CrashesIn d (rollback_of d stamp (reverse source.turns) database) database x before now
  back_crashes database x before now crash = subst (λ calls. CrashesIn d calls database x before now) (sym (rollback_is d stamp database (reverse source.turns) some)) crash

-- wherever it is on its way, it has warned of a front
row_warns : (s : RowTurns) (d : Dialect) (stamp : Stamp) (told : Account) → IsUnderWay (row_way s d stamp told) → WarnsFirst s.outcome told.settled
row_warns s d stamp told (inl knows) = (_, knows.1.settles.warned)
row_warns s d stamp told (inr (inl awaits)) = (_, awaits.2.settles.warned)
row_warns s d stamp told (inr (inr (inl yields))) = ([], append-nil s.outcome.warned ∙ yields.3.then_told.tells.warned)
row_warns s d stamp told (inr (inr (inr (inl tells)))) = ([], append-nil s.outcome.warned ∙ tells.1.tells.warned)
row_warns s d stamp told (inr (inr (inr (inr warns)))) = warns

pub rows_told : (s : RowTurns) (d : Dialect) (stamp : Stamp) (told : Account) (e : End) → TellsTo (row_way s d stamp told) e → HasTold s.outcome told e
rows_told s d stamp told end.Done tells = tells.0
rows_told s d stamp told (end.Refused refusal) tells = tells.0
rows_told s d stamp told (end.Locked lock) tells = tt
rows_told s d stamp told end.Disk tells = tt
rows_told s d stamp told (end.Full used next) tells = row_warns s d stamp told tells.1
rows_told s d stamp told end.OutOfMemory tells = tt

-- the output of a rollback that came to its end
abbrev rollback_said : Bool → List Happened → List Printed → Option (List ℕ)
rollback_said prints happened texts = Some (rollback_output prints happened texts)

-- what is told at the end
pub tells_rollback : (prints : Bool) (o : Outcome) (account : Account) (e : End) (done : Done) (happened : List Happened) (texts : List Printed) → happened ≡ o.happened → texts ≡ o.printed
    → (is_finished done.status ≡ true → is_whole e ≡ true) → (is_finished done.status ≡ true → done.status ≡ status_by (stop_by o.halted o.stopped_at e))
    → (is_finished done.status ≡ true → done.out ≡ Some (rollback_output prints happened texts)) → warning_lines done.own done.warned ≡ flat_map warning_line o.warned → TellsFull e done.status → HasTold o account e
    → EndsRollback prints account done
tells_rollback prints o account e done happened texts are printed_are whole is out warned full told = (
  (λ finished.
      let all = all_told o account e (whole finished) told in record {
        status = is finished ∙ ap status_by all.stop;
        out = out finished
            ∙ (ap (λ (hs : List Happened). rollback_said prints hs texts) (are ∙ all.happened)
            ∙ ap (λ (ps : List Printed). rollback_said prints account.settled.happened ps) (printed_are ∙ all.printed));
        warned = warned ∙ ap (flat_map warning_line) all.warned;
      }),
  warns_so o account e done full warned told,
)

-- rows that are taken back

nil_cons : {A : Type 0} (x : A) (xs : List A) → x ∷ xs ≡ [] → ⊥
nil_cons x xs h = Prim.cc

some_length : (row : Tracked) (rows : List Tracked) → (length (row ∷ rows) == 0) ≡ true → ⊥
some_length row rows is = grind (arith, nat_tests, is)

pub no_rows : (rows : List Tracked) (empty : Bool) → empty ≡ (length rows == 0) → empty ≡ true → rows ≡ []
no_rows [] empty is none = refl
no_rows (row ∷ rows) empty is none = absurd (some_length row rows (sym is ∙ none))

some_rows : (rows : List Tracked) (empty : Bool) → empty ≡ (length rows == 0) → empty ≡ false → rows ≡ [] → ⊥
some_rows [] empty is some none = true_not (sym is ∙ some)
some_rows (row ∷ rows) empty is some none = nil_cons row rows none

pub still_some : (rows : List Tracked) (empty : Bool) → empty ≡ (length rows == 0) → empty ≡ false → reverse rows ≡ [] → ⊥
still_some rows empty is some none = some_rows rows empty is some (sym (reverse-reverse rows) ∙ ap reverse none)

no_turns : (turns : List Turn) → (let o : Option (List Turn) = None in o) ≡ Some turns → ⊥
no_turns turns h = Prim.cc

turns_are : (turns these : List Turn) → (let o : Option (List Turn) = Some turns in o) ≡ Some these → turns ≡ these
turns_are turns these h = Prim.cc

some_turns : (a : Option Turn) (b : Option (List Turn)) → option_and_then (λ (turn : Turn). option_map (λ (turns : List Turn). turn ∷ turns) b) a ≡ Some [] → ⊥
some_turns None b is = no_turns [] is
some_turns (Some turn) None is = no_turns [] is
some_turns (Some turn) (Some turns) is = nil_cons turn turns (turns_are (turn ∷ turns) [] is)

pub has_turns : (given : Given) (rows : List Tracked) (turns : List Turn) → undo_turns given.options.dialect any_meaning (sets_in given) rows ≡ Some turns → (rows ≡ [] → ⊥) → turns ≡ [] → ⊥
has_turns given [] turns is some none = some refl
has_turns given (row ∷ rows) turns is some none =
    some_turns (undo_turn given.options.dialect any_meaning (sets_in given) row) (undo_turns given.options.dialect any_meaning (sets_in given) rows) (is ∙ ap (λ (ts : List Turn). let o : Option (List Turn) = Some ts in o) none)

no_undone : (undone : List Tracked) → (let o : Option (List Tracked) = None in o) ≡ Some undone → ⊥
no_undone undone h = Prim.cc

undone_are : (rows undone : List Tracked) → (let o : Option (List Tracked) = Some rows in o) ≡ Some undone → rows ≡ undone
undone_are rows undone h = Prim.cc

module _ (given : Given) (database : Database) where
  abbrev d : Dialect
  d = given.options.dialect

  abbrev rolled_by : Bool → Option (List Turn) → Account
  rolled_by prints o = elim o [ Some turns ↦ of_turns prints d turns (contents_of database) | None ↦ nothing_told (contents_of database) ]

  rolled_is : (prints : Bool) (rows : List Tracked) (turns : List Turn) → undo_turns d any_meaning (sets_in given) rows ≡ Some turns → rolled_back prints given rows database ≡ of_turns prints d turns (contents_of database)
  rolled_is prints rows turns is = ap (rolled_by prints) is

  -- what holds of the calls of its turns holds of those that take the rows back
  pub taken_so : (P : List Call → Type 0) (rows : List Tracked) (turns : List Turn) → undo_turns d any_meaning (sets_in given) rows ≡ Some turns → P (rollback_of d given.stamp turns database) → P (taking_back given rows database)
  taken_so P rows turns is holds = subst P (sym (taken_back given rows turns database is)) holds

  taken_tells : (prints : Bool) (done : Done) (rows : List Tracked) (turns : List Turn) → undo_turns d any_meaning (sets_in given) rows ≡ Some turns → EndsRollback prints (of_turns prints d turns (contents_of database)) done
      → EndsRollback prints (rolled_back prints given rows database) done
  taken_tells prints done rows turns is tells = subst (λ (a : Account). EndsRollback prints a done) (sym (rolled_is prints rows turns is)) tells

  -- no rows

  pub idle_works : (x : State) (r : Result Done Status) (rows : List Tracked) → rows ≡ [] → IfOk r (λ (done : Done). done.status ≡ status.Done) → HasDatabase d x database → Works d (taking_back given (reverse rows) database) database x r x
  idle_works x r rows none is has = subst (λ (rs : List Tracked). Works d (taking_back given (reverse rs) database) database x r x) (sym none) (works_nothing d database x r is has)

  none_tell : (prints : Bool) (done : Done) → done.status ≡ status.Done → done.out ≡ Some (rollback_output prints [] []) → IsQuiet done → TellsRollback prints (of_turns prints d [] (contents_of database)) done
  none_tell true done is out quiet = record { status = is; out = out; warned = quiet_lines done quiet }
  none_tell false done is out quiet = record { status = is; out = out; warned = quiet_lines done quiet }

  pub idle_tells : (prints : Bool) (r : Result Done Status) (rows : List Tracked) → rows ≡ [] → IfOk r (λ (done : Done). done.status ≡ status.Done) → IfOk r (λ (done : Done). done.out ≡ Some (rollback_output prints [] [])) → IfOk r IsQuiet
      → IfOk r (λ (done : Done). EndsRollback prints (rolled_back prints given (reverse rows) database) done)
  idle_tells prints (Ok done) rows none is out quiet = (
    λ finished. subst (λ (rs : List Tracked). TellsRollback prints (rolled_back prints given (reverse rs) database) done) (sym none) (none_tell prints done is out quiet),
    quiet_up_to (rolled_back prints given (reverse rows) database).settled.warned done quiet,
  )
  idle_tells prints (Err s) rows none is out quiet = tt

  -- to the target

  module _ (target : Target) (rows undone : List Tracked) (same : database.rows ≡ rows) (is : option_map (λ (stay : ℕ). rows_undone stay rows) (rows_kept target rows) ≡ Some undone) where
    there : option_map (λ (stay : ℕ). rows_undone stay database.rows) (rows_kept target database.rows) ≡ Some undone
    there = subst (λ (rs : List Tracked). option_map (λ (stay : ℕ). rows_undone stay rs) (rows_kept target rs) ≡ Some undone) (sym same) is

    to_is : (prints : Bool) → rolled_to prints given (rows_kept target database.rows) database ≡ rolled_back prints given undone database
    to_is prints = by (rows_kept target database.rows) there where
      by : (o : Option ℕ) → option_map (λ (stay : ℕ). rows_undone stay database.rows) o ≡ Some undone → rolled_to prints given o database ≡ rolled_back prints given undone database
      by None none = absurd (no_undone undone none)
      by (Some stay) some = ap (λ (rs : List Tracked). rolled_back prints given rs database) (undone_are (rows_undone stay database.rows) undone some)

    pub target_so : (P : List Call → Type 0) → P (taking_back given undone database) → P (rollback_script given target database)
    target_so P holds = subst P (sym (goes_to given target database undone there)) holds

    target_tells : (prints : Bool) (done : Done) → EndsRollback prints (rolled_back prints given undone database) done
        → EndsRollback prints (rolled_to prints given (rows_kept target database.rows) database) done
    target_tells prints done tells = subst (λ (a : Account). EndsRollback prints a done) (sym (to_is prints)) tells

-- the same of what a run answers

module _ (given : Given) (x : State) (prints : Bool) where
  pub taken_tells_ok : (r : Result Done Status) (rows : List Tracked) (turns : List Turn) → undo_turns given.options.dialect any_meaning (sets_in given) rows ≡ Some turns
      → IfOk r (λ (done : Done). OnIts given.options.dialect x (λ (database : Database). EndsRollback prints (of_turns prints given.options.dialect turns (contents_of database)) done))
      → IfOk r (λ (done : Done). OnIts given.options.dialect x (λ (database : Database). EndsRollback prints (rolled_back prints given rows database) done))
  taken_tells_ok (Ok done) rows turns is tells = λ database has. taken_tells given database prints done rows turns is (tells database has)
  taken_tells_ok (Err s) rows turns is tells = tt

  pub target_tells_ok : (r : Result Done Status) (target : Target) (rows undone : List Tracked) → OnIts given.options.dialect x (λ (database : Database). database.rows ≡ rows)
      → option_map (λ (stay : ℕ). rows_undone stay rows) (rows_kept target rows) ≡ Some undone
      → IfOk r (λ (done : Done). OnIts given.options.dialect x (λ (database : Database). EndsRollback prints (rolled_back prints given undone database) done))
      → IfOk r (λ (done : Done). OnIts given.options.dialect x (λ (database : Database). EndsRollback prints (rolled_to prints given (rows_kept target database.rows) database) done))
  target_tells_ok (Ok done) target rows undone same is tells = λ database has. target_tells given database target rows undone (same database has) is prints done (tells database has)
  target_tells_ok (Err s) target rows undone same is tells = tt

-- there is no way back

module _ (given : Given) (target : Target) (rows undone : List Tracked) (is : option_map (λ (stay : ℕ). rows_undone stay rows) (rows_kept target rows) ≡ Some undone) where
  way_is : no_way_back given target rows ≡ irreversible given undone
  way_is = by (rows_kept target rows) is where
    by : (o : Option ℕ) → option_map (λ (stay : ℕ). rows_undone stay rows) o ≡ Some undone → unreachable_by given o rows ≡ irreversible given undone
    by None none = absurd (no_undone undone none)
    by (Some stay) some = ap (irreversible given) (undone_are (rows_undone stay rows) undone some)

  pub way_answers : (r : Result Done Status) (s : Status) → r ≡ Err s → Passes {A = List TakenBack} (irreversible given undone) (Err s) → Answers (no_way_back given target rows) r
  way_answers r s so passes =
      err_answers (no_way_back given target rows) r s so (subst (λ (o : Option Status). Answers o (Err s)) (sym way_is) (refuses_so (List TakenBack) (irreversible given undone) s passes))

  pub way_there : (ways : List TakenBack) → Passes (irreversible given undone) (Ok ways) → no_way_back given target rows ≡ None
  way_there ways passed = way_is ∙ none_of (irreversible given undone) ways passed

pub way_no_disk : (given : Given) (undone : List Tracked) (r : Result Done Status) (s : Status) → r ≡ Err s → Passes {A = List TakenBack} (irreversible given undone) (Err s) → r ≡ Err status.DiskFault → ⊥
way_no_disk given undone r s is passes disk =
    refuses_no_disk (List TakenBack) (irreversible given undone) s (not_plain (not_reversible given.options.dialect any_meaning (sets_in given) undone)) passes (err_is r s status.DiskFault is disk)

pub missing_answers : (given : Given) (target : Target) (rows : List Tracked) (r : Result Done Status) (s : Status) → r ≡ Err s → s ≡ status.NoTarget → rows_kept target rows ≡ None → Answers (no_way_back given target rows) r
missing_answers given target rows r s so missing none =
    err_answers (no_way_back given target rows) r s so (subst (λ (o : Option ℕ). Answers (unreachable_by given o rows) (Err s)) (sym none) (inl missing))

pub kept_none : {S : Type 0} (a : Option Status) (before after : S) → a ≡ None → IsKept a before after
kept_none a before after is = λ refused. absurd (not_true (sym (ap (λ (o : Option Status). is_some o) is) ∙ refused))
