-- An update, from its checks to what it tells.
use Rattle.std.proofs.lemmas.List.{append-nil, append_assoc}
use Rattle.std.proofs.Common.{ap, arith, inl, inr, refl, subst, sym, ◌∙◌}
use Rattle.std.specs.List.{All, flat_map}
use Rattle.std.specs.Option.{option_or}
use Rattle.std.specs.Prelude.{Bool, Err, IfErr, IfOk, List, None, Ok, Option, Result, Some, [], false, if◌then◌else◌, is_some, min, not, true, ℕ, ◌++◌, ◌-◌, ◌^◌, ◌∷◌, ◌≡◌, ◌≤◌, ◌||◌}
use Rattle.lq_base.specs.declared.command.Command.TheVariants as command
use Rattle.lq_base.specs.declared.dialect.Dialect.{Dialect}
use Rattle.lq_base.specs.declared.identity.Identity.{Identity}
use Rattle.lq_base.specs.declared.run.Happened.{Happened}
use Rattle.lq_base.specs.declared.run.Printed.{Printed}
use Rattle.lq_base.specs.declared.run.Why.{Why}
use Rattle.lq_base.specs.declared.tracking.Tracked.{Tracked}
use Rattle.lq_beside.proofs.TablesRead.{not_is}
use Rattle.lq_beside.specs.Replays.{calls_fit}
use Rattle.lq_changelog.specs.Gathers.{HasShortTexts}
use Rattle.lq_kinds.specs.ReadFor.{AreFor}
use Rattle.lq_any.specs.declared.any_change.AnyChange.{AnyChange}
use Rattle.lq_model.proofs.Lists.{and_left}
use Rattle.lq_model.specs.declared.statement.Statement.{Statement}
use Rattle.lq_plan.specs.Told.{work_from}
use Rattle.lq_plan.specs.declared.turns.Item.{Item}
use Rattle.lq_run.specs.Commands.{HasDatabase, LeavesAs}
use Rattle.lq_run.specs.Crashes.{LeftBehind}
use Rattle.lq_hand.specs.Way.{IsUnderWay}
use Rattle.lq_run.specs.Steps.{TellsTo}
use Rattle.lq_turns.specs.declared.stop.Refusal.{Refusal}
use Rattle.lq_run.specs.declared.runner.End.{End}
use Rattle.lq_run.specs.declared.runner.End.TheVariants as end
use Rattle.lq_sets.specs.SetTurns.{Knows, YieldsAs, set_way, sets_left}
use Rattle.lq_seen.proofs.Shown.{none_shown}
use Rattle.lq_seen.specs.Telling.{Account, of_sets, shown, WarnsFirst, bounded}
use Rattle.lq_seen.specs.View.{any_meaning}
use Rattle.lq_seen.specs.declared.outcome.Outcome.{Outcome}
use Rattle.lq_sets.specs.declared.set_turns.SetTurns.{SetTurns}
use Rattle.lq_store.specs.Journal.{Crashes, State}
use Rattle.lq_tell.specs.Lines.{own_line, warning_line, warning_lines}
use Rattle.lq_tell.specs.declared.done.Done.{Done}
use Rattle.lq_tell.specs.declared.status.Status.{Status}
use Rattle.lq_tell.specs.declared.status.Status.TheVariants as status
use Rattle.lq_tell.specs.Texts.{has_output}
use Rattle.lq_track.specs.Database.{Database, has_twin_rows}
use Rattle.lq_turns.specs.Deed.{Contents, contents_of}
use Rattle.lq_turns.specs.Printed.{printed as statements_run, printed_of}
use Rattle.lq_turns.specs.Rest.{OfSets}
use Rattle.lq_turns.specs.Script.{has_work}
use Rattle.lq_turns.specs.Session.{session_on}
use Rattle.lq_turns.specs.Set.{Meaning, Set}
use Rattle.lq_turns.specs.Settle.{Settled, all_settled, and_then, by_own, choice_of, greatest, is_halt, nothing_done, own_choice, settled_by, unless_stopped, what}
use Rattle.lq_turns.specs.declared.call.Call.{Call}
use Rattle.lq_turns.specs.declared.choice.Choice.{Choice}
use Rattle.lq_turns.specs.declared.choice.Choice.TheVariants as choice
use Rattle.lq_turns.specs.declared.choice.What.{What}
use Rattle.lq_turns.specs.declared.stamp.Stamp.{Stamp}
use Rattle.lq_turns.specs.declared.stop.Stop.{Stop}
use Rattle.lq_commands.proofs.Endings.{works_by, works_nothing}
use Rattle.lq_commands.proofs.LoadedTexts.{view_has}
use Rattle.lq_commands.proofs.Planned.{no_sets, no_work, passed_script, sets_are, update_may}
use Rattle.lq_commands.proofs.Warned.{all_up_to, quiet_lines, quiet_up_to}
use Rattle.lq_commands.specs.Refusals.{Answers, IsFault, Passes, ends, if_halts, if_warns, own_halt, refusal, unready}
use Rattle.lq_commands.specs.Scripts.{log_in, nothing_told, sets_in, sets_script, settled_in, update_script, MayTurn, turns_script}
use Rattle.lq_commands.specs.Works.{EndsUpdate, HasTold, TellsUpdate, WarnsUpTo, status_by, stop_by, update_output, CrashesIn, FullAs, IsReady, OnIts, TellsFull, Works, is_finished, is_whole}
use Rattle.lq_commands.specs.declared.given.Given.{Given}

not_true : false ≡ true → ⊥
not_true h = Prim.cc

true_not : true ≡ false → ⊥
true_not h = Prim.cc

pub not_both : (b : Bool) → b ≡ true → b ≡ false → ⊥
not_both b holds fails = true_not (sym holds ∙ fails)

-- on the database of a store

pub ok_on_its : (d : Dialect) (x : State) (r : Result Done Status) (holds : Done → Database → Type 0) → ((database : Database) → HasDatabase d x database → IfOk r (λ (done : Done). holds done database))
    → IfOk r (λ (done : Done). OnIts d x (λ (database : Database). holds done database))
ok_on_its d x (Ok done) holds all = all
ok_on_its d x (Err s) holds all = tt

-- how a run answers

pub answers_done : (r : Result Done Status) → IfErr r (λ (s : Status). s ≡ status.OutOfMemory) → IfOk r (λ (done : Done). done.status ≡ status.Done) → Answers None r
answers_done (Ok done) err ok = ap ends ok
answers_done (Err s) err ok = inr err

pub answers_end : (r : Result Done Status) → IfErr r IsFault → IfOk r (λ (done : Done). ends done.status ≡ true) → Answers None r
answers_end (Ok done) err ok = ok
answers_end (Err s) err ok = err

is_memory : (s : Status) → s ≡ status.OutOfMemory → (let r : Result Done Status = Err s in r) ≡ Err status.DiskFault → ⊥
is_memory s is disk = Prim.cc

ok_disk : (done : Done) → (let r : Result Done Status = Ok done in r) ≡ Err status.DiskFault → ⊥
ok_disk done disk = Prim.cc

pub no_disk : (r : Result Done Status) → IfErr r (λ (s : Status). s ≡ status.OutOfMemory) → r ≡ Err status.DiskFault → ⊥
no_disk (Ok done) err disk = ok_disk done disk
no_disk (Err s) err disk = is_memory s err disk

pub answers_so : (a : Option Status) (r : Result Done Status) → a ≡ None → Answers None r → Answers a r
answers_so a r is answers = subst (λ o. Answers o r) (sym is) answers

-- a command that no check refuses

pub passed : {A : Type 0} (a : Option Status) (x : A) → Passes a (Ok x) → a ≡ None
passed None x passes = refl
passed (Some refused) x passes = absurd passes

failed_so : (a : Option Status) (s : Status) → IsFault s → Answers a (Err s)
failed_so None s is = is
failed_so (Some refused) s is = inr is

-- an answer that is a fault
module _ (r : Result Done Status) (s : Status) (is : r ≡ Err s) where
  err_answers : (a : Option Status) → Answers a (Err s) → Answers a r
  err_answers a answers = subst (λ (q : Result Done Status). Answers a q) (sym is) answers

-- one that a check refuses

refused_first : (A : Type 0) (a b : Option Status) (s : Status) → Passes {A = A} a (Err s) → Answers (option_or a b) (Err s)
refused_first A None b s is = failed_so b s (inr is)
refused_first A (Some refused) b s (inl is) = inl is
refused_first A (Some refused) b s (inr is) = inr (inr is)

refused_alone : (A : Type 0) (b : Option Status) (s : Status) → Passes {A = A} b (Err s) → Answers b (Err s)
refused_alone A None s is = inr is
refused_alone A (Some refused) s (inl is) = inl is
refused_alone A (Some refused) s (inr is) = inr (inr is)

module _ (given : Given) (database : Database) (r : Result Done Status) (s : Status) (is : r ≡ Err s) where
  abbrev first : Option Status
  first = unready given database

  abbrev second : Option Status
  second = own_halt given database

  -- by the lock, or the rows
  module _ (passes : Passes {A = List Tracked} first (Err s)) where
    pub rows_answers : Answers (refusal command.Update given database) r
    rows_answers = err_answers r s is (option_or first second) (refused_first (List Tracked) first second s passes)

  -- by the changelog's own precondition
  module _ (ready : first ≡ None) (passes : Passes {A = Option Why} second (Err s)) where
    pub own_answers : Answers (refusal command.Update given database) r
    own_answers = err_answers r s is (option_or first second) (subst (λ (o : Option Status). Answers (option_or o second) (Err s)) (sym ready) (refused_alone (Option Why) second s passes))

-- changesets without a turn settle nothing, and nothing is printed of them

module _ (d : Dialect) (m : Meaning AnyChange) (reading : ℕ) where
  pub none_settled : (xs : List (Set AnyChange)) (c : Contents) → has_work xs c.rows ≡ false → all_settled d m reading xs c ≡ nothing_done c
  none_settled [] c none = refl
  none_settled (x ∷ xs) c none = by (what x c.rows) refl (none_settled xs c) where
    by : (o : Option What) → what x c.rows ≡ o → (has_work xs c.rows ≡ false → all_settled d m reading xs c ≡ nothing_done c) → all_settled d m reading (x ∷ xs) c ≡ nothing_done c
    by None is more =
        ap (λ (o : Option What). unless_stopped (settled_by d m reading x c (choice_of x c o)) (all_settled d m reading xs)) is
        ∙ ap (and_then (nothing_done c)) (more (sym (ap (λ (o : Option What). is_some o || has_work xs c.rows) is) ∙ none))
    by (Some w) is more = absurd (true_not (sym (ap (λ (o : Option What). is_some o || has_work xs c.rows) is) ∙ none))

  abbrev then_printed : List (Set AnyChange) → Contents → Option Stop → List (Identity × List Statement)
  then_printed xs c None = statements_run d m reading xs c
  then_printed xs c (Some stop) = []

  -- what is printed of a changeset by what it settles, and of those behind it
  abbrev printed_by : Set AnyChange → List (Set AnyChange) → Settled → List (Identity × List Statement)
  printed_by x xs s = printed_of d m reading x s ++ then_printed xs s.contents s.stop

  pub none_printed : (xs : List (Set AnyChange)) (c : Contents) → has_work xs c.rows ≡ false → statements_run d m reading xs c ≡ []
  none_printed [] c none = refl
  none_printed (x ∷ xs) c none = by (what x c.rows) refl (none_printed xs c) where
    by : (o : Option What) → what x c.rows ≡ o → (has_work xs c.rows ≡ false → statements_run d m reading xs c ≡ []) → statements_run d m reading (x ∷ xs) c ≡ []
    by None is more =
        ap (λ (o : Option What). printed_by x xs (settled_by d m reading x c (choice_of x c o))) is
        ∙ more (sym (ap (λ (o : Option What). is_some o || has_work xs c.rows) is) ∙ none)
    by (Some w) is more = absurd (true_not (sym (ap (λ (o : Option What). is_some o || has_work xs c.rows) is) ∙ none))

abbrev account_of : Settled → List Printed → Account
account_of s texts = record { settled = s; printed = texts }

account_is : (s t : Settled) (ps qs : List Printed) → s ≡ t → ps ≡ qs → account_of s ps ≡ account_of t qs
account_is s t ps qs same texts = ap (λ (u : Settled). account_of u ps) same ∙ ap (λ (us : List Printed). account_of t us) texts

none_within : (most : ℕ) → 0 ≡ min 0 most
none_within most = omega arith

-- the output of an update that came to its end
abbrev update_said : Bool → List Happened → ℕ → List Printed → Option (List ℕ)
update_said prints happened not_fresh texts = Some (update_output prints happened not_fresh texts)

module _ (given : Given) (rows : List Tracked) (database : Database) (same : database.rows ≡ rows) (items : List Item) (is : items ≡ work_from 0 (sets_in given) rows) (none : items ≡ []) where
  no_turn : has_work (sets_in given) database.rows ≡ false
  no_turn = ap (has_work (sets_in given)) same ∙ no_work rows 0 (sets_in given) (sym is ∙ none)

  pub idle_works : (x : State) (r : Result Done Status) → IfOk r (λ (done : Done). done.status ≡ status.Done) → HasDatabase given.options.dialect x database → Works given.options.dialect (sets_script given database) database x r x
  idle_works x r is has = subst (λ calls. Works given.options.dialect calls database x r x) (sym (no_sets given database no_turn)) (works_nothing given.options.dialect database x r is has)

  abbrev idle : Settled
  idle = all_settled given.options.dialect any_meaning given.stamp.reading (sets_in given) (contents_of database)

  abbrev none_ran : List (Identity × List Statement)
  none_ran = statements_run given.options.dialect any_meaning given.stamp.reading (sets_in given) (contents_of database)

  no_texts : (prints : Bool) → shown prints given.options.dialect none_ran ≡ []
  no_texts prints =
      ap (λ (ran : List (Identity × List Statement)). shown prints given.options.dialect ran) (none_printed given.options.dialect any_meaning given.stamp.reading (sets_in given) (contents_of database) no_turn)
      ∙ none_shown prints given.options.dialect

  idle_account : (prints : Bool) → settled_in prints given database ≡ nothing_told (contents_of database)
  idle_account prints = account_is idle (nothing_done (contents_of database)) (shown prints given.options.dialect none_ran) []
      (none_settled given.options.dialect any_meaning given.stamp.reading (sets_in given) (contents_of database) no_turn) (no_texts prints)

  pub idle_tells : (prints : Bool) (r : Result Done Status) → IfOk r (λ (done : Done). done.status ≡ status.Done) → IfOk r (λ (done : Done). done.out ≡ Some (update_output prints [] 0 []))
      → IfOk r (λ (done : Done). done.own ≡ None) → IfOk r (λ (done : Done). done.warned ≡ []) → IfOk r (λ (done : Done). EndsUpdate prints (settled_in prints given database) done)
  idle_tells prints (Ok done) ended said own warned = (
    (λ finished. subst (λ (a : Account). TellsUpdate prints a done) (sym (idle_account prints))
        (record { status = ended; out = said ∙ ap (λ (n : ℕ). update_said prints [] n []) (none_within (2 ^ 64 - 1)); warned = quiet_lines done (own, warned) })),
    quiet_up_to (settled_in prints given database).settled.warned done (own, warned),
  )
  idle_tells prints (Err s) ended said own warned = tt

-- the turns of an update

module _ (given : Given) (x : State) (rows : List Tracked) (source : SetTurns) (left : sets_left source ≡ sets_in given) where
  abbrev d : Dialect
  d = given.options.dialect

  pub turns_may : (prints : Bool) → IsReady d x → OnIts d x (λ (database : Database). database.rows ≡ rows) → given.stamp.reading ≤ 253402300799999 → AreFor d given.changelog → All HasShortTexts given.changelog.sets
      → has_work (sets_in given) rows ≡ true
      → ((e : Dialect) (stamp : Stamp) (c : Contents) → c.rows ≡ rows → greatest rows ≤ 2147483647 → Knows source e stamp (of_sets prints e stamp.reading (sets_in given) c) c)
      → (database : Database) → HasDatabase d x database → MayTurn d any_meaning given.stamp (OfSets (sets_left source)) (set_way source d given.stamp) database (settled_in prints given database)
  turns_may prints ready are moment read short some knows database has =
      let same = are database has in
      let first = are ready.database ready.has in
      let differ : has_twin_rows database.rows ≡ false = ap has_twin_rows (same ∙ sym first) ∙ not_is (has_twin_rows ready.database.rows) (and_left (not (has_twin_rows ready.database.rows)) _ ready.clean) in
      let small : greatest rows ≤ 2147483647 = subst (λ (rs : List Tracked). greatest rs ≤ 2147483647) first ready.small in
      record {
        known = knows d given.stamp (contents_of database) same small;
        fits = subst (λ (xs : List (Set AnyChange)). calls_fit d (turns_script d any_meaning given.stamp (OfSets xs) database) (session_on database) ≡ true) (sym left)
            (update_may given database has.committed.sound differ moment read (view_has given.options given.changelog short) (ap (has_work (sets_in given)) same ∙ some));
      }

  module _ (database : Database) (same : database.rows ≡ rows) (some : has_work (sets_in given) rows ≡ true) where
    pub script_is : turns_script d any_meaning given.stamp (OfSets (sets_left source)) database ≡ sets_script given database
    script_is = ap (λ (xs : List (Set AnyChange)). turns_script d any_meaning given.stamp (OfSets xs) database) left ∙ sym (sets_are given database (ap (has_work (sets_in given)) same ∙ some))

    pub turns_work : (y : State) (e : End) (r : Result Done Status) → IfOk r (λ (done : Done). is_finished done.status ≡ true → is_whole e ≡ true) → IfOk r (λ (done : Done). TellsFull e done.status)
        → LeavesAs d (turns_script d any_meaning given.stamp (OfSets (sets_left source)) database) database x e y → LeftBehind d (turns_script d any_meaning given.stamp (OfSets (sets_left source)) database) database x y
        → FullAs d (turns_script d any_meaning given.stamp (OfSets (sets_left source)) database) database x e y → Works d (sets_script given database) database x r y
    turns_work y e r whole tells leaves stops full =
        works_by d (sets_script given database) database x y e r whole tells (subst (λ calls. LeavesAs d calls database x e y) script_is leaves) (subst (λ calls. LeftBehind d calls database x y) script_is stops)
        (subst (λ calls. FullAs d calls database x e y) script_is full)

    pub turns_crash : (before now : Crashes) → CrashesIn d (turns_script d any_meaning given.stamp (OfSets (sets_left source)) database) database x before now → CrashesIn d (sets_script given database) database x before now
    turns_crash before now crash = subst (λ calls. CrashesIn d calls database x before now) script_is crash

-- wherever it is on its way, it has warned of a front
yields_warns : (s : SetTurns) (d : Dialect) (stamp : Stamp) (told : Account) (goes_on : Bool) (of : Identity) (front : List Happened) (texts : List Printed) (refusal : Refusal) (c : Contents)
    → YieldsAs s d stamp told goes_on of front texts refusal c → WarnsFirst s.outcome told.settled
yields_warns s d stamp told true of front texts refusal c yields = (_, yields.1.warned)
yields_warns s d stamp told false of front texts refusal c yields = ([], append-nil s.outcome.warned ∙ yields.0.warned)

set_warns : (s : SetTurns) (d : Dialect) (stamp : Stamp) (told : Account) → IsUnderWay (set_way s d stamp told) → WarnsFirst s.outcome told.settled
set_warns s d stamp told (inl knows) = (_, knows.1.leads.warned)
set_warns s d stamp told (inr (inl awaits)) = (_, awaits.2.knows.leads.warned)
set_warns s d stamp told (inr (inr (inl yields))) = yields_warns s d stamp told yields.0 yields.3.turn.identity yields.3.front yields.3.texts yields.1 yields.2 yields.3.then_told
set_warns s d stamp told (inr (inr (inr (inl tells)))) = ([], append-nil s.outcome.warned ∙ tells.1.tells.warned)
set_warns s d stamp told (inr (inr (inr (inr warns)))) = warns

pub sets_told : (s : SetTurns) (d : Dialect) (stamp : Stamp) (told : Account) (e : End) → TellsTo (set_way s d stamp told) e → HasTold s.outcome told e
sets_told s d stamp told end.Done tells = tells.0
sets_told s d stamp told (end.Refused refusal) tells = tells.0
sets_told s d stamp told (end.Locked lock) tells = tt
sets_told s d stamp told end.Disk tells = tt
sets_told s d stamp told (end.Full used next) tells = set_warns s d stamp told tells.1
sets_told s d stamp told end.OutOfMemory tells = tt

-- what is told at the end
pub record AllTold (o : Outcome) (account : Account) (e : End) : Type 0 where
  pub happened : o.happened ≡ account.settled.happened
  pub not_fresh : o.not_fresh ≡ bounded account.settled.not_fresh
  pub stop : stop_by o.halted o.stopped_at e ≡ account.settled.stop
  pub warned : o.warned ≡ account.settled.warned
  pub printed : o.printed ≡ account.printed

pub all_told : (o : Outcome) (account : Account) (e : End) → is_whole e ≡ true → HasTold o account e → AllTold o account e
all_told o account end.Done whole told = record { happened = told.tells.happened; not_fresh = told.tells.not_fresh; stop = sym told.tells.stop; warned = told.tells.warned; printed = told.prints }
all_told o account (end.Refused refusal) whole told = record { happened = told.tells.happened; not_fresh = told.tells.not_fresh; stop = sym told.tells.stop; warned = told.tells.warned; printed = told.prints }
all_told o account (end.Locked lock) whole told = absurd (not_true whole)
all_told o account end.Disk whole told = absurd (not_true whole)
all_told o account (end.Full used next) whole told = absurd (not_true whole)
all_told o account end.OutOfMemory whole told = absurd (not_true whole)

-- of a run that made all its calls, or met a full journal
pub warns_so : (o : Outcome) (account : Account) (e : End) (done : Done) → TellsFull e done.status → warning_lines done.own done.warned ≡ flat_map warning_line o.warned → HasTold o account e → WarnsUpTo account.settled.warned done
warns_so o account end.Done done full lines told = all_up_to account.settled.warned done (lines ∙ ap (flat_map warning_line) told.tells.warned)
warns_so o account (end.Refused refusal) done full lines told = all_up_to account.settled.warned done (lines ∙ ap (flat_map warning_line) told.tells.warned)
warns_so o account (end.Full used next) done full lines told = record { front = o.warned; rest = told.0; is = told.1; lines = lines }
warns_so o account (end.Locked lock) done full lines told = absurd full
warns_so o account end.Disk done full lines told = absurd full
warns_so o account end.OutOfMemory done full lines told = absurd full

pub tells_update : (prints : Bool) (o : Outcome) (account : Account) (e : End) (done : Done) (happened : List Happened) (texts : List Printed) → happened ≡ o.happened → texts ≡ o.printed
    → (is_finished done.status ≡ true → is_whole e ≡ true) → (is_finished done.status ≡ true → done.status ≡ status_by (stop_by o.halted o.stopped_at e))
    → (is_finished done.status ≡ true → done.out ≡ Some (update_output prints happened o.not_fresh texts)) → warning_lines done.own done.warned ≡ flat_map warning_line o.warned → TellsFull e done.status → HasTold o account e
    → EndsUpdate prints account done
tells_update prints o account e done happened texts are printed_are whole is out warned full told = (
  (λ finished.
      let all = all_told o account e (whole finished) told in record {
        status = is finished ∙ ap status_by all.stop;
        out = out finished
            ∙ (ap (λ (hs : List Happened). update_said prints hs o.not_fresh texts) (are ∙ all.happened)
            ∙ (ap (λ (n : ℕ). update_said prints account.settled.happened n texts) all.not_fresh
            ∙ ap (λ (ps : List Printed). update_said prints account.settled.happened (bounded account.settled.not_fresh) ps) (printed_are ∙ all.printed)));
        warned = warned ∙ ap (flat_map warning_line) all.warned;
      }),
  warns_so o account e done full warned told,
)

-- a run without an output did not come to its end
pub no_output : (s : Status) → has_output s ≡ false → ends s ≡ true → is_finished s ≡ true → ⊥
no_output status.Done none ran finished = true_not none
no_output (status.Halted of why) none ran finished = not_true (sym none ∙ ran)
no_output (status.Refused identity statement kept reason) none ran finished = true_not none
no_output status.Usage none ran finished = not_true finished
no_output status.ReadFault none ran finished = not_true finished
no_output (status.Changelog fault) none ran finished = not_true finished
no_output (status.Invalid faults) none ran finished = not_true finished
no_output (status.Locked lock) none ran finished = not_true finished
no_output status.NoTarget none ran finished = not_true finished
no_output (status.NotReversible identity) none ran finished = not_true finished
no_output status.NothingToUndo none ran finished = not_true finished
no_output (status.NotWritable at) none ran finished = not_true finished
no_output status.DiskFault none ran finished = not_true finished
no_output (status.Damaged at) none ran finished = not_true finished
no_output (status.Full used next) none ran finished = not_true finished
no_output status.WriteFault none ran finished = not_true finished
no_output status.OutOfMemory none ran finished = not_true finished
no_output (status.Busy session) none ran finished = not_true finished

-- by the changelog's own precondition

pub not_halt : (by : Choice) (own : Option Why) → Passes (if_halts by) (Ok own) → is_halt by ≡ false
not_halt (choice.Halts why) own passes = absurd passes
not_halt choice.Passes own passes = refl
not_halt choice.Fills own passes = refl
not_halt choice.Skips own passes = refl
not_halt (choice.Marks w) own passes = refl
not_halt (choice.Runs w why) own passes = refl

abbrev account_by : Choice → Contents → Account → Account
account_by by c a = record { settled = by_own by c a.settled; printed = if is_halt by then [] else a.printed }

abbrev own_warned : Option Why → List (Option Identity × Why)
own_warned (Some why) = (None, why) ∷ []
own_warned None = []

own_first : (o : Option Why) (ws : List (Option Identity × Why)) → own_line o ++ flat_map warning_line ws ≡ flat_map warning_line (own_warned o ++ ws)
own_first (Some why) ws = refl
own_first None ws = refl

module _ (prints : Bool) (c : Contents) (a : Account) (before after : Done) (status_is : after.status ≡ before.status) (out_is : after.out ≡ before.out) (none : before.own ≡ None) (warned_is : after.warned ≡ before.warned) where
  -- the warning of the changelog's own precondition stands before the others
  warns : (o : Option Why) → after.own ≡ o → TellsUpdate prints a before → warning_lines after.own after.warned ≡ own_line o ++ flat_map warning_line a.settled.warned
  warns o is tells =
      ap (λ (own : Option Why). warning_lines own after.warned) is
      ∙ (ap (warning_lines o) warned_is
      ∙ ap (λ (lines : List ℕ). own_line o ++ lines) (sym (ap (λ (own : Option Why). warning_lines own before.warned) none) ∙ tells.warned))

  own_tells : (by : Choice) → is_halt by ≡ false → after.own ≡ if_warns by → TellsUpdate prints a before → TellsUpdate prints (account_by by c a) after
  own_tells (choice.Halts why) goes own tells = absurd (true_not goes)
  own_tells (choice.Runs w (Some why)) goes own tells = record { status = status_is ∙ tells.status; out = out_is ∙ tells.out; warned = warns (Some why) own tells }
  own_tells (choice.Runs w None) goes own tells = record { status = status_is ∙ tells.status; out = out_is ∙ tells.out; warned = warns None own tells }
  own_tells choice.Passes goes own tells = record { status = status_is ∙ tells.status; out = out_is ∙ tells.out; warned = warns None own tells }
  own_tells choice.Fills goes own tells = record { status = status_is ∙ tells.status; out = out_is ∙ tells.out; warned = warns None own tells }
  own_tells choice.Skips goes own tells = record { status = status_is ∙ tells.status; out = out_is ∙ tells.out; warned = warns None own tells }
  own_tells (choice.Marks w) goes own tells = record { status = status_is ∙ tells.status; out = out_is ∙ tells.out; warned = warns None own tells }

  -- and before a front of them
  before_front : (o : Option Why) (warned : List (Option Identity × Why)) → after.own ≡ o → warned ≡ own_warned o ++ a.settled.warned → WarnsUpTo a.settled.warned before → WarnsUpTo warned after
  before_front o warned is all up_to = record {
    front = own_warned o ++ up_to.front;
    rest = up_to.rest;
    is = append_assoc (own_warned o) up_to.front up_to.rest ∙ ap (λ (ws : List (Option Identity × Why)). own_warned o ++ ws) up_to.is ∙ sym all;
    lines = ap (λ (own : Option Why). warning_lines own after.warned) is
        ∙ (ap (warning_lines o) warned_is
        ∙ ap (λ (lines : List ℕ). own_line o ++ lines) (sym (ap (λ (own : Option Why). warning_lines own before.warned) none) ∙ up_to.lines) ∙ own_first o up_to.front);
  }

  own_warns_up_to : (by : Choice) → is_halt by ≡ false → after.own ≡ if_warns by → WarnsUpTo a.settled.warned before → WarnsUpTo (account_by by c a).settled.warned after
  own_warns_up_to (choice.Halts why) goes own up_to = absurd (true_not goes)
  own_warns_up_to (choice.Runs w (Some why)) goes own up_to = before_front (Some why) ((None, why) ∷ a.settled.warned) own refl up_to
  own_warns_up_to (choice.Runs w None) goes own up_to = before_front None a.settled.warned own refl up_to
  own_warns_up_to choice.Passes goes own up_to = before_front None a.settled.warned own refl up_to
  own_warns_up_to choice.Fills goes own up_to = before_front None a.settled.warned own refl up_to
  own_warns_up_to choice.Skips goes own up_to = before_front None a.settled.warned own refl up_to
  own_warns_up_to (choice.Marks w) goes own up_to = before_front None a.settled.warned own refl up_to

  pub updated_tells : (by : Choice) → is_halt by ≡ false → after.own ≡ if_warns by → EndsUpdate prints a before → EndsUpdate prints (account_by by c a) after
  updated_tells by goes own tells = ((λ finished. own_tells by goes own (tells.0 (ap is_finished (sym status_is) ∙ finished))), own_warns_up_to by goes own tells.1)

-- what holds of the calls of the changesets holds of those of the update
pub so_of_update : (given : Given) (database : Database) → is_halt (own_choice (log_in given) (contents_of database)) ≡ false → (P : List Call → Type 0) → P (sets_script given database) → P (update_script given database)
so_of_update given database goes P holds = subst P (passed_script given database goes) holds
