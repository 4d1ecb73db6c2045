-- A changelog-sync, from the rows that go in to what is told of them.
use Rattle.std.proofs.Common.{ap, refl, rules, subst, sym, tests, ◌∙◌}
use Rattle.std.proofs.lemmas.List.{length_push}
use Rattle.std.specs.List.{All}
use Rattle.std.specs.Prelude.{Bool, Err, IfOk, List, None, Ok, Option, Result, Some, [], false, if◌then◌else◌, is_some, length, map, nat_lt, option_map, true, ℕ, ◌&&◌, ◌+◌, ◌++◌, ◌<◌, ◌∷◌, ◌≡◌, ◌≢◌, ◌≤◌}
use Rattle.lq_base.specs.declared.dialect.Dialect.{Dialect}
use Rattle.lq_base.specs.declared.identity.Identity.{Identity}
use Rattle.lq_base.specs.declared.reason.Reason.TheVariants.{TooManyRows, TooWide}
use Rattle.lq_base.specs.declared.run.Happened.{Happened}
use Rattle.lq_base.specs.declared.tracking.Tracked.{Tracked}
use Rattle.lq_beside.specs.Replays.{calls_fit}
use Rattle.lq_changelog.specs.Gathers.{HasShortTexts}
use Rattle.lq_hand.specs.Way.{no_progress, refused_by, refused_in}
use Rattle.lq_model.proofs.Lists.{and_right}
use Rattle.lq_report.specs.Output.{sync_text}
use Rattle.lq_run.proofs.Scripts.{sync_holds}
use Rattle.lq_run.specs.Commands.{HasDatabase}
use Rattle.lq_run.specs.Ends.{AllHoldOn}
use Rattle.lq_run.specs.Steps.{TellsAs}
use Rattle.lq_run.specs.declared.runner.End.{End}
use Rattle.lq_run.specs.declared.runner.End.TheVariants as end
use Rattle.lq_back.specs.Reversal.{insert_call, sync_calls}
use Rattle.lq_store.specs.Journal.{State}
use Rattle.lq_tell.specs.declared.done.Done.{Done}
use Rattle.lq_tell.specs.declared.status.Status.{Status}
use Rattle.lq_tell.specs.declared.status.Status.TheVariants as status
use Rattle.lq_track.specs.Database.{Database}
use Rattle.lq_track.specs.Log.{identity_of}
use Rattle.lq_turns.specs.Deed.{Contents, contents_of, has_place, if_accepted, rows_after}
use Rattle.lq_turns.specs.Script.{rows_to_sync, with_lock}
use Rattle.lq_turns.specs.Session.{session_on}
use Rattle.lq_turns.specs.Laws.{insert_stop, marked_by, stop_then, synced_by}
use Rattle.lq_turns.specs.Turn.{made}
use Rattle.lq_turns.specs.declared.call.Call.{Call}
use Rattle.lq_turns.specs.declared.call.Call.TheVariants.{Commit}
use Rattle.lq_turns.specs.declared.deed.Deed.TheVariants.{Rows}
use Rattle.lq_turns.specs.declared.deed.OnRows.TheVariants.{Inserted}
use Rattle.lq_turns.specs.declared.stop.Refusal.{Refusal}
use Rattle.lq_turns.specs.declared.stop.Stop.{Stop}
use Rattle.lq_turns.specs.declared.stop.Stop.TheVariants.{Halted, Refused}
use Rattle.lq_commands.proofs.Endings.{works_nothing}
use Rattle.lq_commands.proofs.LoadedTexts.{view_has}
use Rattle.lq_commands.proofs.Planned.{no_sync, sync_is, sync_may}
use Rattle.lq_commands.proofs.Warned.{quiet_lines, quiet_up_to}
use Rattle.lq_commands.specs.Works.{EndsWithRows, EndsSync, TellsSync, goes_in, refusal_in, sync_out, synced_in, IsQuiet, status_by, stop_by, OnIts, Works, is_finished, is_whole}
use Rattle.lq_commands.specs.Scripts.{sets_in, sync_script, NamesStop, one_way, refused_at}
use Rattle.lq_commands.specs.declared.given.Given.{Given}

not_true : false ≡ true → ⊥
not_true h = Prim.cc

true_not : true ≡ false → ⊥
true_not h = Prim.cc

none_some : {A : Type 0} {b : A} → (let o : Option A = None in o) ≡ Some b → ⊥
none_some h = Prim.cc

some_none : {A : Type 0} {a : A} → (let o : Option A = Some a in o) ≡ None → ⊥
some_none h = Prim.cc

some_same : {A : Type 0} {a b : A} → (let o : Option A = Some a in o) ≡ Some b → a ≡ b
some_same h = Prim.cc

-- the refusal of the turn

module _ (d : Dialect) where
  inserts_refused : (rows : List Tracked) (c : Contents) → refused_in d (map insert_call rows ++ Commit ∷ []) no_progress c ≡ refusal_in (insert_stop rows c.rows)
  inserts_refused [] c = refl
  inserts_refused (row ∷ rows) c = elim (rows_after (Inserted row) c.rows) as (λ r. refused_by d (Rows (Inserted row)) (refused_in d (map insert_call rows ++ Commit ∷ [])) no_progress (if_accepted (λ rs. record c { rows = rs }) r) ≡ refusal_in (stop_then row (insert_stop rows) r)) [
    | Ok now ↦ inserts_refused rows (record c { rows = now })
    | Err reason ↦ refl
  ]

  rows_refused : (rows : List Tracked) (c : Contents) → refused_in d (sync_calls rows) no_progress c ≡ refusal_in (insert_stop rows c.rows)
  rows_refused rows c = inserts_refused rows c

-- what stops it

abbrev is_halted : Option Stop → Bool
is_halted None = false
is_halted (Some (Halted place why)) = true
is_halted (Some (Refused of refusal)) = false

no_halt : (rows before : List Tracked) → is_halted (insert_stop rows before) ≡ false
no_halt [] before = refl
no_halt (row ∷ rows) before = elim (rows_after (Inserted row) before) as (λ r. is_halted (stop_then row (insert_stop rows) r) ≡ false) [ Ok now ↦ no_halt rows now | Err reason ↦ refl ]

-- the first of these rows, behind so many, that does not go in
abbrev pub first_out : ℕ → List Tracked → Option Tracked
first_out count [] = None
first_out count (row ∷ rows) = if goes_in count row then first_out (count + 1) rows else Some row

-- it stops there
first_is : (rows before : List Tracked) → option_map identity_of (first_out (length before) rows) ≡ refused_at (insert_stop rows before)
first_is [] before = refl
first_is (row ∷ rows) before = by (has_place row) (nat_lt (length before) 100000) (ap (λ (n : ℕ). option_map identity_of (first_out n rows)) (sym (length_push before row)) ∙ first_is rows (before ++ row ∷ [])) where
  by : (a b : Bool) → option_map identity_of (first_out (length before + 1) rows) ≡ refused_at (insert_stop rows (before ++ row ∷ []))
      → option_map identity_of (if a && b then first_out (length before + 1) rows else Some row) ≡ refused_at (stop_then row (insert_stop rows) (if a then (if b then Ok (before ++ row ∷ []) else Err TooManyRows) else Err TooWide))
  by true true more = more
  by true false more = refl
  by false b more = refl

named_stop : (stop : Option Stop) (refusal : Refusal) → refusal_in stop ≡ Some refusal → is_some (refused_at stop) ≡ true
named_stop None refusal is = absurd (none_some is)
named_stop (Some (Halted place why)) refusal is = absurd (none_some is)
named_stop (Some (Refused of other)) refusal is = refl

stop_is : (stop : Option Stop) (e : End) → is_halted stop ≡ false → TellsAs (one_way (refusal_in stop)) e → is_whole e ≡ true → stop_by None (refused_at stop) e ≡ stop
stop_is stop (end.Locked lock) halted told whole = absurd (not_true whole)
stop_is stop end.Disk halted told whole = absurd (not_true whole)
stop_is stop (end.Full used next) halted told whole = absurd (not_true whole)
stop_is stop end.OutOfMemory halted told whole = absurd (not_true whole)
stop_is (Some (Halted place why)) end.Done halted told whole = absurd (true_not halted)
stop_is (Some (Halted place why)) (end.Refused refusal) halted told whole = absurd (true_not halted)
stop_is None end.Done halted told whole = refl
stop_is None (end.Refused refusal) halted told whole = absurd (none_some told)
stop_is (Some (Refused of other)) end.Done halted told whole = absurd (some_none told)
stop_is (Some (Refused of other)) (end.Refused refusal) halted told whole = ap (λ (q : Refusal). (let o : Option Stop = Some (Refused of q) in o)) (sym (some_same told))

-- what is told of it

out_is : (stop : Option Stop) (rows : List Tracked) → is_halted stop ≡ false → sync_out (status_by stop) (marked_by None rows) ≡ Some (sync_text (marked_by stop rows))
out_is None rows halted = refl
out_is (Some (Halted place why)) rows halted = absurd (true_not halted)
out_is (Some (Refused of refusal)) rows halted = refl

-- the rows and those before, the changeset that did not go in, and what was marked
module _ (rows before : List Tracked) (of : Option Identity) (happened : List Happened) (e : End) (of_is : of ≡ refused_at (insert_stop rows before)) (marks : happened ≡ marked_by None rows) (ends : EndsWithRows rows before e) where
  pub names_stop : NamesStop e None of
  names_stop = by e ends where
    by : (f : End) → EndsWithRows rows before f → NamesStop f None of
    by end.Done told = tt
    by (end.Refused refusal) told = ap (λ (o : Option Identity). is_some o) of_is ∙ named_stop (insert_stop rows before) refusal told
    by (end.Locked lock) told = tt
    by end.Disk told = tt
    by (end.Full used next) told = tt
    by end.OutOfMemory told = tt

  stop_told : is_whole e ≡ true → stop_by None of e ≡ insert_stop rows before
  stop_told whole = ap (λ (o : Option Identity). stop_by None o e) of_is ∙ stop_is (insert_stop rows before) e (no_halt rows before) ends whole

  sync_told : (c : Contents) (done : Done) → c.rows ≡ before → is_whole e ≡ true → done.status ≡ status_by (stop_by None of e) → done.out ≡ sync_out done.status happened → IsQuiet done → TellsSync (synced_by rows c) done
  sync_told c done same whole is out quiet =
      let stop_now : stop_by None of e ≡ insert_stop rows c.rows = stop_told whole ∙ ap (insert_stop rows) (sym same) in
      let status_now : done.status ≡ status_by (insert_stop rows c.rows) = is ∙ ap status_by stop_now in
      record {
        status = status_now;
        out = out ∙ ap (λ (s : Status). sync_out s happened) status_now ∙ ap (sync_out (status_by (insert_stop rows c.rows))) marks ∙ out_is (insert_stop rows c.rows) rows (no_halt rows c.rows);
        warned = quiet_lines done quiet;
      }

-- beside the rows of the database

module _ (given : Given) (before rows : List Tracked) (are : rows ≡ rows_to_sync given.stamp.reading (sets_in given) before) where
  abbrev d : Dialect
  d = given.options.dialect

  abbrev to_sync : Database → List Tracked
  to_sync database = rows_to_sync given.stamp.reading (sets_in given) database.rows

  rows_are : (database : Database) → database.rows ≡ before → rows ≡ to_sync database
  rows_are database same = are ∙ ap (rows_to_sync given.stamp.reading (sets_in given)) (sym same)

  -- where there are none

  pub idle_sync_works : (database : Database) → database.rows ≡ before → rows ≡ [] → (x : State) (r : Result Done Status) → IfOk r (λ (done : Done). done.status ≡ status.Done) → HasDatabase d x database → Works d (sync_script given database) database x r x
  idle_sync_works database same none x r is has =
      subst (λ calls. Works d calls database x r x) (sym (no_sync given database (sym (rows_are database same) ∙ none))) (works_nothing d database x r is has)

  pub idle_sync_tells : (x : State) (r : Result Done Status) → OnIts d x (λ (database : Database). database.rows ≡ before) → rows ≡ [] → IfOk r (λ (done : Done). done.status ≡ status.Done) → IfOk r (λ (done : Done). done.out ≡ Some (sync_text [])) → IfOk r IsQuiet
      → IfOk r (λ (done : Done). OnIts d x (λ (database : Database). EndsSync (synced_in given database) done))
  idle_sync_tells x (Ok done) same none is out quiet = λ database has. (
    (λ finished.
        subst (λ (rs : List Tracked). TellsSync (synced_by rs (contents_of database)) done) (sym none ∙ rows_are database (same database has)) (record { status = is; out = out; warned = quiet_lines done quiet })),
    quiet_up_to [] done quiet,
  )
  idle_sync_tells x (Err s) same none is out quiet = tt

  -- what is told of them
  pub sync_tells : (x : State) (r : Result Done Status) (of : Option Identity) (happened : List Happened) (e : End) → OnIts d x (λ (database : Database). database.rows ≡ before)
      → of ≡ refused_at (insert_stop rows before) → happened ≡ marked_by None rows → EndsWithRows rows before e
      → IfOk r (λ (done : Done). is_finished done.status ≡ true → is_whole e ≡ true) → IfOk r (λ (done : Done). is_finished done.status ≡ true → done.status ≡ status_by (stop_by None of e)) → IfOk r (λ (done : Done). done.out ≡ sync_out done.status happened) → IfOk r IsQuiet
      → IfOk r (λ (done : Done). OnIts d x (λ (database : Database). EndsSync (synced_in given database) done))
  sync_tells x (Ok done) of happened e same of_is marks ends whole is out quiet = λ database has. (
    (λ finished.
        subst (λ (rs : List Tracked). TellsSync (synced_by rs (contents_of database)) done) (rows_are database (same database has))
        (sync_told rows before of happened e of_is marks ends (contents_of database) done (same database has) (whole finished) (is finished) out quiet)),
    quiet_up_to [] done quiet,
  )
  sync_tells x (Err s) of happened e same of_is marks ends whole is out quiet = tt

  -- the turn that inserts them
  module _ (calls : List Call) (calls_are : calls ≡ sync_calls rows) where
    pub turn_holds : AllHoldOn given.stamp.who calls
    turn_holds = subst (AllHoldOn given.stamp.who) (sym calls_are) (sync_holds d given.stamp.who rows)

    pub turn_ends : (database : Database) (e : End) → database.rows ≡ before → TellsAs (one_way (refused_in d calls no_progress (contents_of database))) e → EndsWithRows rows before e
    turn_ends database e same told =
        subst (λ (o : Option Refusal). TellsAs (one_way o) e)
        (ap (λ (cs : List Call). refused_in d cs no_progress (contents_of database)) calls_are ∙ rows_refused d rows (contents_of database) ∙ ap (λ (rs : List Tracked). refusal_in (insert_stop rows rs)) same) told

    module _ (some : rows ≢ []) (database : Database) (same : database.rows ≡ before) where
      abbrev turn_script : List Call
      turn_script = with_lock given.stamp database (made d calls (contents_of database))

      script_is : sync_script given database ≡ turn_script
      script_is =
          sync_is given database (λ none. some (rows_are database same ∙ none))
          ∙ ap (λ (cs : List Call). with_lock given.stamp database (made d cs (contents_of database))) (ap sync_calls (sym (rows_are database same)) ∙ sym calls_are)

      pub turn_fits : given.stamp.reading ≤ 253402300799999 → All HasShortTexts given.changelog.sets → calls_fit d turn_script (session_on database) ≡ true
      turn_fits time short = ap (λ cs. calls_fit d cs (session_on database)) (sym script_is) ∙ sync_may given database time (view_has given.options given.changelog short)

      -- what holds of its calls holds of those of the command
      pub turn_so : (P : List Call → Type 0) → P turn_script → P (sync_script given database)
      turn_so P holds = subst P (sym script_is) holds

-- one row after another

less : (a b : ℕ) → nat_lt a b ≡ true → a < b
less a b h = search (rules, tests)

pub few_before : (count : ℕ) (row : Tracked) → goes_in count row ≡ true → count < 100000
few_before count row is = less count 100000 (and_right (has_place row) (nat_lt count 100000) is)

module _ (count : ℕ) (before rows rest after : List Tracked) (row : Tracked) (b : Bool) (first : rest ≡ row ∷ after) (so : b ≡ goes_in count row) (left : first_out count rest ≡ first_out (length before) rows) where
  here : (t : Bool) → b ≡ t → first_out count rest ≡ (if t then first_out (count + 1) after else Some row)
  here t is = ap (first_out count) first ∙ ap (λ (q : Bool). if q then first_out (count + 1) after else Some row) (sym so ∙ is)

  pub out_found : b ≡ false → (let o : Option Identity = Some (identity_of row) in o) ≡ refused_at (insert_stop rows before)
  out_found is = ap (option_map identity_of) (sym (here false is) ∙ left) ∙ first_is rows before

  pub out_later : b ≡ true → first_out (count + 1) after ≡ first_out (length before) rows
  out_later is = sym (here true is) ∙ left

pub none_out : (count : ℕ) (before rows rest : List Tracked) → length rest ≡ 0 → first_out count rest ≡ first_out (length before) rows → (let o : Option Identity = None in o) ≡ refused_at (insert_stop rows before)
none_out count before rows [] none left = ap (option_map identity_of) left ∙ first_is rows before
none_out count before rows (row ∷ rest) none left = Prim.cc
