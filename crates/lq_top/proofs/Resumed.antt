-- Commands that go on after stops, and what a stop of one leaves that holds the lock.
use Rattle.std.proofs.Common.{ap, inl, inr, refl, subst, sym, ◌∙◌}
use Rattle.std.proofs.lemmas.List.Elements.{All-head, All-tail}
use Rattle.std.specs.List.{All, last_or, list_all}
use Rattle.std.specs.Option.{option_map, option_or}
use Rattle.std.specs.Prelude.{Bool, List, None, Ok, Option, Result, Some, [], false, if◌then◌else◌, length, not, option_and_then, true, ℕ, ◌&&◌, ◌++◌, ◌||◌, ◌∷◌, ◌≡◌, ◌⊎◌}
use Rattle.laws_repair.proofs.Unlocked.{entries_as, led_held, left_as, locked_as}
use Rattle.laws_undo.specs.Undone.{UndoMends}
use Rattle.lq_base.specs.declared.command.Command.{Command}
use Rattle.lq_base.specs.declared.command.Command.TheVariants as command
use Rattle.lq_base.specs.declared.command.Target.{Target}
use Rattle.lq_base.specs.declared.command.Target.TheVariants.{Count}
use Rattle.lq_base.specs.declared.dialect.Dialect.{Dialect}
use Rattle.lq_base.specs.declared.dialect.Dialect.TheVariants.{Mysql, Postgresql}
use Rattle.lq_base.specs.declared.identity.Identity.{Identity}
use Rattle.lq_base.specs.declared.reason.Reason.{Reason}
use Rattle.lq_base.specs.declared.tracking.Lock.{Lock}
use Rattle.lq_base.specs.declared.tracking.Tracked.{Tracked}
use Rattle.lq_changelog.specs.Gathers.{HasShortTexts}
use Rattle.lq_cli.specs.declared.line.Job.{Job}
use Rattle.lq_cli.specs.declared.line.Job.TheVariants.{Drill, History, RollbackSql, Run, Soak, UpdateCount, UpdateSql, UpdateTestingRollback, UpdateTo, Generate, ClearSums, UndoUnrecorded, Snapshot}
use Rattle.lq_commands.proofs.Planned.{bare, kept, sets_bare}
use Rattle.lq_commands.proofs.LoadedTexts.{view_has}
use Rattle.lq_commands.proofs.ViewsRead.{views_are_read}
use Rattle.lq_commands.specs.Refusals.{if_halts, if_some, invalid, own_halt, refusal, unready}
use Rattle.lq_commands.specs.Rehearsal.{counted_in, after_update, came, rehearsal_script, taken_in, takes_back, updates}
use Rattle.lq_commands.specs.Scripts.{log_in, rollback_script, rollback_to, rolled_to, sets_in, sets_script, update_script, updated_in}
use Rattle.lq_commands.specs.Works.{status_by, is_finished}
use Rattle.lq_commands.specs.declared.given.Given.{Given}
use Rattle.lq_expr.specs.declared.options.Options.{Options}
use Rattle.lq_kinds.specs.ReadFor.{AreFor}
use Rattle.lq_any.specs.declared.any_change.AnyChange.{AnyChange}
use Rattle.lq_kinds.specs.declared.change_set.ChangeSet.{ChangeSet}
use Rattle.lq_model.proofs.Lists.{and_true}
use Rattle.lq_model.specs.Catalogue.{is_empty}
use Rattle.lq_model.specs.Sound.{IsSound}
use Rattle.lq_model.specs.declared.caller.Room.TheVariants.{Ordinary}
use Rattle.lq_rehearsal.proofs.Cut.{in_one, none_written}
use Rattle.lq_rehearsal.proofs.FirstScripts.{rollback_sound, update_sound}
use Rattle.lq_rehearsal.proofs.Shut.{rollback_over, update_over}
use Rattle.lq_run.specs.Stands.{entries_of}
use Rattle.lq_seen.proofs.OwnSums.{own_sum}
use Rattle.lq_seen.specs.Telling.{Account}
use Rattle.lq_seen.specs.View.{is_met, any_meaning, views}
use Rattle.lq_store.specs.Journal.{Entry}
use Rattle.lq_tell.specs.declared.done.Done.{Done}
use Rattle.lq_tell.specs.declared.status.Status.{Status}
use Rattle.lq_tell.specs.declared.status.Status.TheVariants as status
use Rattle.lq_track.specs.Database.{Database}
use Rattle.lq_track.specs.Lock.{free}
use Rattle.lq_track.specs.Log.{identity_of}
use Rattle.lq_turns.proofs.Known.{faultless_are_apart}
use Rattle.lq_turns.proofs.Locked.{led_both}
use Rattle.lq_turns.proofs.Returns.{rollback_resumes}
use Rattle.lq_turns.proofs.Rolled.{rollback_leaves}
use Rattle.lq_turns.proofs.Stands.{rollback_stops, sync_stops, update_stops}
use Rattle.lq_turns.proofs.Trails.{update_resumes}
use Rattle.lq_turns.proofs.Updates.{update_leaves}
use Rattle.lq_turns.specs.Stops.{are_twins, has_own_sum, IsLeft, IsSteady, Journal, joined}
use Rattle.lq_turns.specs.Deed.{Contents, contents_of, all_done}
use Rattle.lq_turns.specs.Faults.{faults}
use Rattle.lq_turns.specs.Laws.{AreKnown, AreRead, IsAtRest, rollback_calls}
use Rattle.lq_turns.specs.Ran.{RanSince, Run as RunOf, are_reversible}
use Rattle.lq_turns.specs.Script.{rollback_of, rows_kept, rows_undone, undo_turns, calls_unless, clearing, closing, last_row, release_calls, tag_of, update_calls}
use Rattle.lq_turns.specs.Session.{all_called, left_by, session_on}
use Rattle.lq_turns.specs.Set.{Changelog, Set}
use Rattle.lq_turns.specs.Settle.{tested, updated}
use Rattle.lq_turns.specs.Trails.{IsStopped, is_by_count, rollback_to as calls_to}
use Rattle.lq_turns.specs.declared.call.Call.{Call}
use Rattle.lq_turns.specs.declared.call.Call.TheVariants.{Alone}
use Rattle.lq_turns.specs.declared.choice.What.TheVariants.{New}
use Rattle.lq_turns.specs.declared.deed.Deed.{Deed}
use Rattle.lq_turns.specs.declared.deed.Deed.TheVariants.{Locks, Rows}
use Rattle.lq_turns.specs.declared.deed.OnLock.TheVariants.{Freed}
use Rattle.lq_turns.specs.declared.deed.OnRows.{OnRows}
use Rattle.lq_turns.specs.declared.deed.OnRows.TheVariants.{Cleared, Tagged}
use Rattle.lq_turns.specs.declared.fault.Fault.{Fault}
use Rattle.lq_turns.specs.declared.stamp.Stamp.{Stamp}
use Rattle.lq_turns.specs.declared.stop.Stop.{Stop}
use Rattle.lq_turns.specs.declared.turn.Turn.{Turn}
use Rattle.lq_jobs.proofs.InPart.{command_on_file, counted_read, loaded_command, runs_command, says_command}
use Rattle.lq_jobs.proofs.Unchanged.{holds_it}
use Rattle.lq_top.proofs.Unlocked.{back_as, sync_as}
use Rattle.lq_jobs.proofs.Written.{Does, IsWritten, failed_unfinished, false_true, was_over}
use Rattle.lq_jobs.specs.Asks.{Asks, Files}
use Rattle.lq_jobs.specs.Bytes.{Becomes, IsLeftOn, Opens, most_bytes}
use Rattle.lq_entries.specs.Log.{entries_in}
use Rattle.lq_jobs.specs.Headline.{HoldsAtRest, BackHeld, EndsSo, LeavesMarked, RehearsalHeld, RollbackResumes, StandsHeld, UpdateHeld, UpdateResumes, turns_to, without_stop, UpdateMends}
use Rattle.lq_jobs.specs.Jobs.{DoesLine, IsLoaded, command_by, is_on_file, job_script}
use Rattle.lq_jobs.specs.Run.{EndsBy, IsOutside, Runs, given_by, is_over}
use Rattle.lq_jobs.specs.Says.{Said, SaysJob}

-- what the law on updates asks of a view of a changelog

own_sums : (options : Options) (xs : List ChangeSet) → All HasShortTexts xs → list_all has_own_sum (views options xs) ≡ true
own_sums options [] short = refl
own_sums options (x ∷ xs) short =
    and_true _ _ (own_sum x.old_sum x.sum (All-head HasShortTexts x xs short).form) (own_sums options xs (All-tail HasShortTexts x xs short))

chosen_here : (here met : Bool) → (not (here && met) || here) ≡ true
chosen_here true true = refl
chosen_here true false = refl
chosen_here false met = refl

are_here : (options : Options) (xs : List ChangeSet) → list_all (λ (x : Set AnyChange). not x.selected || x.here) (views options xs) ≡ true
are_here options [] = refl
are_here options (x ∷ xs) = and_true _ _ (chosen_here x.here (is_met x.context options.contexts && is_met options.labels x.labels)) (are_here options xs)

-- an update that comes to its end has no validation faults

not_outside : (s : Status) → IsOutside s → is_over s ≡ true → ⊥
not_outside s (inl is) over = false_true (sym (ap is_over is) ∙ over)
not_outside s (inr (inl is)) over = false_true (sym (ap is_over is) ∙ over)
not_outside s (inr (inr is)) over = false_true (sym (ap is_over is) ∙ over)

no_faults : (s : Status) (xs : List Fault) → EndsBy (if_some xs) s → is_over s ≡ true → xs ≡ []
no_faults s [] ends over = refl
no_faults s (fault ∷ more) (inl is) over = absurd (false_true (sym (ap is_over is) ∙ over))
no_faults s (fault ∷ more) (inr out) over = absurd (not_outside s out over)

or_nothing : (o : Option Status) → option_or o None ≡ o
or_nothing None = refl
or_nothing (Some x) = refl

faultless : (given : Given) (database : Database) (s : Status) → database.lock.locked ≡ false → own_halt given database ≡ None → EndsBy (refusal command.Update given database) s → is_over s ≡ true → faults (sets_in given) database.rows ≡ []
faultless given database s unlocked goes ends over =
    no_faults s (faults (sets_in given) database.rows)
    (subst (λ (o : Option Status). EndsBy o s)
    (ap (option_or (unready given database)) goes
    ∙ (or_nothing (unready given database)
    ∙ ap (λ (held : Bool). option_or (if held then Some (status.Locked database.lock) else None) (invalid given database.rows)) unlocked))
    ends)
    over

-- the laws, at a dialect that is postgresql

abbrev UpdatesAt : Dialect → Type 0
UpdatesAt d = (stamp : Stamp) (g : Changelog AnyChange) (start database : Database)
    → IsSound d start.users → AreRead d any_meaning g.sets → list_all has_own_sum g.sets ≡ true → are_twins g.sets ≡ false
    → IsSteady d any_meaning stamp g (contents_of start)
    → IsStopped start (λ who. update_calls d any_meaning (record stamp { who = who }) g) database
    → IsAtRest start (updated d any_meaning stamp.reading g (contents_of start)).contents (left_by d (update_calls d any_meaning stamp g database) database)
    × ((updated d any_meaning stamp.reading g (contents_of database)).stop ≡ (updated d any_meaning stamp.reading g (contents_of start)).stop)

updates_at : (d : Dialect) → d ≡ Postgresql → UpdatesAt d
updates_at d is = subst UpdatesAt (sym is) (update_resumes any_meaning kept)

abbrev RollsBackAt : Dialect → Type 0
RollsBackAt d = (stamp : Stamp) (sets : List (Set AnyChange)) (target : Target) (before : Contents) (xs : List (RunOf AnyChange)) (start database : Database)
    → is_by_count target ≡ false → RanSince d any_meaning before xs (contents_of start) → are_reversible d any_meaning xs before.users ≡ true → AreKnown d any_meaning sets xs
    → rows_kept target start.rows ≡ Some (length before.rows) → list_all (λ (x : RunOf AnyChange). x.set.in_transaction) xs ≡ true
    → IsStopped start (λ who. calls_to d any_meaning (record stamp { who = who }) sets target) database
    → IsAtRest start before (left_by d (calls_to d any_meaning stamp sets target database) database)

rolls_back_at : (d : Dialect) → d ≡ Postgresql → RollsBackAt d
rolls_back_at d is = subst RollsBackAt (sym is) (rollback_resumes any_meaning kept)

-- the status of an update

over_is : (s : Status) → is_over s ≡ true → (is_finished s ≡ true) ⊎ (s ≡ status.WriteFault)
over_is status.Done over = inl over
over_is status.Usage over = inl over
over_is status.ReadFault over = inl over
over_is (status.Changelog fault) over = inl over
over_is (status.Invalid faults) over = inl over
over_is (status.Locked lock) over = inl over
over_is (status.Halted place why) over = inl over
over_is (status.Refused identity statement before reason) over = inl over
over_is status.NoTarget over = inl over
over_is (status.NotReversible identity) over = inl over
over_is status.NothingToUndo over = inl over
over_is (status.NotWritable at) over = inl over
over_is status.DiskFault over = inl over
over_is (status.Damaged at) over = inl over
over_is (status.Full used next) over = inl over
over_is status.WriteFault over = inr refl
over_is status.OutOfMemory over = inl over
over_is (status.Busy session) over = inl over

update_status : (given : Given) (database : Database) (s : Status) (before after : Option (List ℕ)) → SaysJob (Run command.Update) given database s before after → s ≡ status_by (updated_in false given database).settled.stop
update_status given database s before after says = says.status

ends_so : (wanted s : Status) → is_over s ≡ true → (is_finished s ≡ true → s ≡ wanted) → EndsSo wanted s
ends_so wanted s over is = elim (over_is s over) as (λ _. EndsSo wanted s) [
  | inl finished ↦ inl (is finished)
  | inr fault ↦ inr fault
]

-- the calls of a rollback, by how many rows stay
same_calls : (given : Given) (database : Database) (o : Option ℕ)
    → rollback_to given o database ≡ elim o as (λ _. List Call) [ Some stay ↦ rollback_calls given.options.dialect any_meaning given.stamp (sets_in given) stay database | None ↦ [] ]
same_calls given database None = refl
same_calls given database (Some stay) = refl

module _ (job : Job) (given : Given) (before : Option (List ℕ)) (done : Result Done Status) (after : Option (List ℕ)) where
  -- one that came to its end had a changelog that was loaded for the dialect
  was_loaded : (s : Status) → IsWritten done s → (database : Database) → Does job given database before done after → is_over s ≡ true → IsLoaded given.options.dialect given.changelog
  was_loaded s by database does over = elim does as (λ _. IsLoaded given.options.dialect given.changelog) [
    | inl failed ↦ absurd (failed_unfinished done failed.0 (was_over done s by over))
    | inr made ↦ made.0
  ]

-- a law at mysql, of an update in that dialect
mended_at : (part : Given) (start database : Database) → part.options.dialect ≡ Mysql
    → IsAtRest start (updated Mysql any_meaning part.stamp.reading (log_in part) (contents_of start)).contents (left_by Mysql (update_calls Mysql any_meaning part.stamp (log_in part) database) database)
    × ((updated Mysql any_meaning part.stamp.reading (log_in part) (contents_of database)).stop ≡ (updated Mysql any_meaning part.stamp.reading (log_in part) (contents_of start)).stop)
    → IsAtRest start (without_stop part start).contents (left_by part.options.dialect (update_script part database) database)
    × ((updated part.options.dialect any_meaning part.stamp.reading (log_in part) (contents_of database)).stop ≡ (without_stop part start).stop)
mended_at part start database is law =
    subst (λ (d : Dialect). IsAtRest start (updated d any_meaning part.stamp.reading (log_in part) (contents_of start)).contents (left_by d (update_calls d any_meaning part.stamp (log_in part) database) database)
    × ((updated d any_meaning part.stamp.reading (log_in part) (contents_of database)).stop ≡ (updated d any_meaning part.stamp.reading (log_in part) (contents_of start)).stop)) (sym is) law

module _ {words : List (List ℕ)} {files : Files} (asks : Asks words files) (stamp : Stamp) (before : Option (List ℕ)) (done : Result Done Status) (s : Status) (after : Option (List ℕ)) where
  abbrev given : Given
  given = given_by asks stamp

  abbrev d : Dialect
  d = asks.line.options.dialect

  -- an update that goes on, by a law of what it leaves then

  abbrev GoesOn : Given → Database → Database → Type 0
  GoesOn part start database =
      IsAtRest start (without_stop part start).contents (left_by part.options.dialect (update_script part database) database)
      × ((updated part.options.dialect any_meaning part.stamp.reading (log_in part) (contents_of database)).stop ≡ (without_stop part start).stop)

  gone_on : (out_before out_after : Option (List ℕ)) → IsWritten done s → DoesLine asks.line.job (given_by asks stamp) before done after → Runs asks stamp before s after → Said asks stamp before s out_before out_after
      → (part : Given) (start database : Database) → Opens d before database → command_by asks.line.job (given_by asks stamp) database ≡ Some (command.Update, part) → database.lock.locked ≡ false → IsSteady part.options.dialect any_meaning part.stamp (log_in part) (contents_of start) → is_over s ≡ true
      → (AreRead part.options.dialect any_meaning (sets_in part) → All HasShortTexts part.changelog.sets → list_all has_own_sum (sets_in part) ≡ true → are_twins (sets_in part) ≡ false → GoesOn part start database)
      → HoldsAtRest part.options.dialect after start (without_stop part start).contents × EndsSo (status_by (without_stop part start).stop) s
  gone_on out_before out_after by does runs said part start database opens is unlocked steady over law =
      let job = asks.line.job in
      let run : Command × Given = (command.Update, part) in
      let on = command_on_file given database run job is in
      let ran = runs_command given database run job is before s after (runs on database opens) in
      let loaded = loaded_command given database run job is (was_loaded job given before done after s by database (does on database opens) over) in
      let goes : own_halt part database ≡ None = ap (λ told. if_halts (tested New (log_in part).condition told)) (steady.bare (contents_of database)) in
      let apart = faultless_are_apart AnyChange (sets_in part) database.rows (are_here part.options part.changelog.sets) (faultless part database s unlocked goes ran.ends over) in
      let it = law (views_are_read part.options.dialect part.options part.changelog loaded.read) loaded.short (own_sums part.options part.changelog.sets loaded.short) apart in
      let made = ran.works over in (
        (left_by part.options.dialect (update_script part database) database, made.holds, it.0),
        ends_so (status_by (without_stop part start).stop) s over
            (λ finished. update_status part database s out_before out_after (says_command given database run job is s out_before out_after (said database opens finished)) ∙ ap status_by it.1),
      )

  pub has_resumed : (out_before out_after : Option (List ℕ)) → IsWritten done s → DoesLine asks.line.job (given_by asks stamp) before done after → Runs asks stamp before s after → Said asks stamp before s out_before out_after
      → UpdateResumes asks stamp before s after
  has_resumed out_before out_after by does runs said = λ database opens was over.
      let part = was.part in
      gone_on out_before out_after by does runs said part was.start database opens was.is_update was.stopped.unlocked was.steady over
      (λ read short own apart. updates_at part.options.dialect was.is_postgresql part.stamp (log_in part) was.start database was.sound read own apart was.steady was.stopped)

  -- between stops that undo-unrecorded takes back
  pub has_mended : UndoMends → (out_before out_after : Option (List ℕ)) → IsWritten done s → DoesLine asks.line.job (given_by asks stamp) before done after → Runs asks stamp before s after → Said asks stamp before s out_before out_after
      → UpdateMends asks stamp before s after
  has_mended mends out_before out_after by does runs said = λ database opens was over.
      let part = was.part in
      let steady = subst (λ (d : Dialect). IsSteady d any_meaning part.stamp (log_in part) (contents_of was.start)) (sym was.is_mysql) was.steady in
      gone_on out_before out_after by does runs said part was.start database opens was.is_update was.unheld steady over
      (λ read short own apart. mended_at part was.start database was.is_mysql
      (mends part.options part.changelog part.stamp was.begin was.start database was.stops was.last was.is_mysql was.sound was.unlocked was.time (view_has part.options part.changelog short)
      (subst (λ (d : Dialect). AreRead d any_meaning (sets_in part)) was.is_mysql read) own apart was.steady was.fits was.stopped was.led was.unheld))

  pub has_gone_on_back : Runs asks stamp before s after → RollbackResumes asks stamp before s after
  has_gone_on_back runs = λ database opens was over.
      let ran = runs (ap is_on_file was.is_rollback) database opens in
      let law = rolls_back_at d was.is_postgresql stamp (sets_in given) was.target was.before was.ran was.start database was.not_by_count was.since was.reversible was.known was.stays was.whole was.stopped in
      let made = subst (λ (job : Job). Becomes d (job_script job given database) database before after) was.is_rollback (ran.works over) in
      let calls = subst (λ (cs : List Call). Becomes d cs database before after) (same_calls given database (rows_kept was.target database.rows)) made in
      (left_by d (calls_to d any_meaning stamp (sets_in given) was.target database) database, calls.holds, law)

-- what a stop leaves that holds the lock

ok_same : {x y : Database} → (let r : Result Database Reason = Ok x in r) ≡ Ok y → x ≡ y
ok_same is = Prim.cc

unlocked_held : (now database : Database) → now.lock ≡ database.lock → database.lock ≡ free → now.lock.locked ≡ true → ⊥
unlocked_held now database same unlocked locked = false_true (sym (ap (λ (lock : Lock). lock.locked) (same ∙ unlocked)) ∙ locked)

module _ (d : Dialect) (database now : Database) where
  -- a front of the calls' entries
  abbrev IsFront : List Call → Journal → Type 0
  IsFront calls written = (rest : Journal) × ((all_called d calls (session_on database)).entries ≡ written ++ rest)

  -- after the closing entry the lock is free
  closed_free : (before : Database) → all_done d (Locks Freed ∷ []) before ≡ Ok now → now.lock ≡ free
  closed_free before led = ap (λ (e : Database). e.lock) (sym (ok_same led))

  front_led : (calls : List Call) (written : Journal) → IsLeft d calls database [] written → all_done d (joined written) database ≡ Ok now → now.lock.locked ≡ true → IsFront calls written
  front_led calls written left led locked = elim left.is as (λ _. IsFront calls written) [
    | inl same ↦ (left.rest, left.entries ∙ ap (λ (es : Journal). es ++ left.rest) (sym same))
    | inr closed ↦ absurd (closed_held (subst (λ (es : Journal). all_done d (joined es) database ≡ Ok now) closed.0 led))
  ] where
    closed_held : all_done d (joined (left.front ++ (Locks Freed ∷ []) ∷ [])) database ≡ Ok now → ⊥
    closed_held led =
        let parts = led_both d left.front ((Locks Freed ∷ []) ∷ []) database now led in
        false_true (sym (ap (λ (lock : Lock). lock.locked) (closed_free parts.0 parts.2)) ∙ locked)

  -- no call leaves the database as it was
  none_led : (front rest : Journal) → (let none : Journal = [] in none) ≡ front ++ rest → all_done d (joined front) database ≡ Ok now → now.lock ≡ database.lock
  none_led [] rest is led = ap (λ (e : Database). e.lock) (sym (ok_same led))
  none_led (entry ∷ front) rest is led = Prim.cc

  none_held : (written : Journal) → IsLeft d [] database [] written → all_done d (joined written) database ≡ Ok now → database.lock ≡ free → now.lock.locked ≡ true → ⊥
  none_held written left led unlocked locked =
      let it = front_led [] written left led locked in
      unlocked_held now database (none_led written it.0 it.1 led) unlocked locked

  -- nor does a release-locks on a free lock
  release_held : (written : Journal) → IsLeft d (release_calls database) database [] written → all_done d (joined written) database ≡ Ok now → database.lock ≡ free → now.lock.locked ≡ true → ⊥
  release_held written left led unlocked locked =
      none_held written (subst (λ (cs : List Call). IsLeft d cs database [] written) (ap (λ (lock : Lock). if lock.locked then closing ∷ [] else []) unlocked) left) led unlocked locked

  -- what one entry on the rows leaves, or none
  rows_led : (w : OnRows) → (all_done d (Rows w ∷ []) database ≡ Ok now → now.lock ≡ database.lock) → (front rest : Journal) → (let entries : Journal = (Rows w ∷ []) ∷ [] in entries) ≡ front ++ rest → all_done d (joined front) database ≡ Ok now → now.lock ≡ database.lock
  rows_led w one [] rest is led = ap (λ (e : Database). e.lock) (sym (ok_same led))
  rows_led w one (entry ∷ []) rest is led =
      let same : entry ≡ Rows w ∷ [] = Prim.cc in
      one (subst (λ (deeds : List Deed). all_done d (joined (deeds ∷ [])) database ≡ Ok now) same led)
  rows_led w one (entry ∷ other ∷ front) rest is led = Prim.cc

  -- a tag leaves the lock as it was
  tag_led : (of : Identity) (tag : List ℕ) (front rest : Journal) → (let entries : Journal = (Rows (Tagged of tag) ∷ []) ∷ [] in entries) ≡ front ++ rest → all_done d (joined front) database ≡ Ok now → now.lock ≡ database.lock
  tag_led of tag = rows_led (Tagged of tag) (λ led. ap (λ (e : Database). e.lock) (sym (ok_same led)))

  -- and a clear-checksums
  clear_led : (front rest : Journal) → (let entries : Journal = (Rows Cleared ∷ []) ∷ [] in entries) ≡ front ++ rest → all_done d (joined front) database ≡ Ok now → now.lock ≡ database.lock
  clear_led = rows_led Cleared (λ led. ap (λ (e : Database). e.lock) (sym (ok_same led)))

tag_entries : (d : Dialect) (database : Database) (of : Identity) (tag : List ℕ) → (all_called d (Alone (Rows (Tagged of tag) ∷ []) Ordinary ∷ []) (session_on database)).entries ≡ (Rows (Tagged of tag) ∷ []) ∷ []
tag_entries Postgresql database of tag = refl
tag_entries Mysql database of tag = refl

tag_held : (d : Dialect) (database now : Database) (tag : List ℕ) (last : Option Tracked) (written : Journal) → IsLeft d (tag_of tag last) database [] written → all_done d (joined written) database ≡ Ok now → database.lock ≡ free
    → now.lock.locked ≡ true → ⊥
tag_held d database now tag None written left led unlocked locked = none_held d database now written left led unlocked locked
tag_held d database now tag (Some row) written left led unlocked locked =
    let it = front_led d database now (tag_of tag (Some row)) written left led locked in
    unlocked_held now database (tag_led d database now (identity_of row) tag written it.0 (sym (tag_entries d database (identity_of row) tag) ∙ it.1) led) unlocked locked

clear_entries : (d : Dialect) (database : Database) → (all_called d (clearing ∷ []) (session_on database)).entries ≡ (Rows Cleared ∷ []) ∷ []
clear_entries Postgresql database = refl
clear_entries Mysql database = refl

clear_held : (d : Dialect) (database now : Database) (none : Bool) (written : Journal) → IsLeft d (if none then [] else clearing ∷ []) database [] written → all_done d (joined written) database ≡ Ok now → database.lock ≡ free
    → now.lock.locked ≡ true → ⊥
clear_held d database now true written left led unlocked locked = none_held d database now written left led unlocked locked
clear_held d database now false written left led unlocked locked =
    let it = front_led d database now (clearing ∷ []) written left led locked in
    unlocked_held now database (clear_led d database now written it.0 (sym (clear_entries d database) ∙ it.1) led) unlocked locked

-- a rollback's calls are those of its turns

module _ (given : Given) (target : Target) (database : Database) where
  abbrev of_turns : Option (List Turn) → List Call
  of_turns o = elim o as (λ _. List Call) [ Some turns ↦ rollback_of given.options.dialect given.stamp turns database | None ↦ [] ]

  turns_by : (o : Option ℕ) → rollback_to given o database ≡ of_turns (option_and_then (λ (stay : ℕ). undo_turns given.options.dialect any_meaning (sets_in given) (rows_undone stay database.rows)) o)
  turns_by None = refl
  turns_by (Some stay) = refl

  back_stands : (now : Database) (written : Journal) (o : Option (List Turn)) → turns_to given target database ≡ o → IsLeft given.options.dialect (of_turns o) database [] written → all_done given.options.dialect (joined written) database ≡ Ok now
      → database.lock ≡ free → now.lock.locked ≡ true → StandsHeld (Run (command.Rollback target)) given database (last_or None (joined written)) now
  back_stands now written None is left led unlocked locked = absurd (none_held given.options.dialect database now written left led unlocked locked)
  back_stands now written (Some turns) is left led unlocked locked =
      let it = front_led given.options.dialect database now (rollback_of given.options.dialect given.stamp turns database) written left led locked in
      (turns, is, rollback_stops given.options.dialect given.stamp turns database now written it.0 unlocked it.1 led locked)

-- a file on which nothing was written holds what it held

nothing_behind : (xs ys : List Entry) → xs ++ ys ≡ xs → ys ≡ []
nothing_behind [] ys is = is
nothing_behind (x ∷ xs) ys is =
    let rest : xs ++ ys ≡ xs = Prim.cc in
    nothing_behind xs ys rest

no_entry : (d : Dialect) (written : Journal) → entries_of d written ≡ [] → written ≡ []
no_entry d [] is = refl
no_entry d (entry ∷ written) is = Prim.cc

some_entries : {xs ys : List Entry} → (let o : Option (List Entry) = Some xs in o) ≡ Some ys → xs ≡ ys
some_entries is = Prim.cc

same_left : (d : Dialect) (calls : List Call) (database : Database) (before after : Option (List ℕ)) → Opens d before database → after ≡ before → (left : IsLeftOn d calls database before after) → database ≡ left.now
same_left d calls database before after opens same left =
    let held = holds_it d before database opens in
    let here = sym held.told_are ∙ (ap (entries_in d most_bytes) (sym same) ∙ (left.entries ∙ ap (option_map (λ (entries : List Entry). entries ++ entries_of d left.written)) held.told_are)) in
    let none = no_entry d left.written (nothing_behind held.entries (entries_of d left.written) (sym (some_entries here))) in
    ok_same (subst (λ (written : Journal). all_done d (joined written) database ≡ Ok left.now) none left.led)

-- how each job stands that began with a free lock

-- the changelog was read for the dialect, or nothing was written
abbrev IsReadOr : Given → Option (List ℕ) → Option (List ℕ) → Type 0
IsReadOr given before after = AreFor given.options.dialect given.changelog ⊎ (after ≡ before)

module _ (given : Given) (database now : Database) (written : Journal) (sound : IsSound given.options.dialect database.users) (unlocked : database.lock ≡ free) (led : all_done given.options.dialect (joined written) database ≡ Ok now) (locked : now.lock.locked ≡ true) where
  update_stands : AreFor given.options.dialect given.changelog → IsLeft given.options.dialect (update_script given database) database [] written → UpdateHeld given database (last_or None (joined written)) now
  update_stands read left = λ goes.
      let it = front_led given.options.dialect database now (update_script given database) written left led locked in
      update_stops any_meaning kept given.options.dialect given.stamp (log_in given) database now written it.0 sound (views_are_read given.options.dialect given.options given.changelog read) unlocked goes it.1 led locked

-- a rehearsal stands as the run that was stopped

module _ (given : Given) (database now : Database) (sound : IsSound given.options.dialect database.users) (unlocked : database.lock ≡ free) (read : AreFor given.options.dialect given.changelog) (locked : now.lock.locked ≡ true) where
  abbrev its : Dialect
  its = given.options.dialect

  abbrev one : Database
  one = left_by its (update_script given database) database

  abbrev target : Target
  target = Count (came (length database.rows) one)

  abbrev back : List Call
  back = rollback_script given target one

  abbrev two : Database
  two = left_by its back one

  abbrev Stands : Option Deed → Type 0
  Stands last = RehearsalHeld given database last now

  one_free : one.lock ≡ free
  one_free = (update_leaves any_meaning kept its given.stamp (log_in given) database sound unlocked (views_are_read its given.options given.changelog read)).lock

  one_sound : IsSound its one.users
  one_sound = update_sound given database sound read

  turns_free : (o : Option (List Turn)) → (left_by its (of_turns given target one o) one).lock ≡ free
  turns_free None = one_free
  turns_free (Some turns) = (rollback_leaves its given.stamp turns one one_free).lock

  two_free : two.lock ≡ free
  two_free = ap (λ (calls : List Call). (left_by its calls one).lock) (turns_by given target one (rows_kept target one.rows)) ∙ turns_free (turns_to given target one)

  in_update : (front left : Journal) → (all_called its (update_script given database) (session_on database)).entries ≡ front ++ left → all_done its (joined front) database ≡ Ok now → UpdateHeld given database (last_or None (joined front)) now
  in_update front left is led = λ goes. update_stops any_meaning kept its given.stamp (log_in given) database now front left sound (views_are_read its given.options given.changelog read) unlocked goes is led locked

  in_back : (front left : Journal) → (all_called its back (session_on one)).entries ≡ front ++ left → all_done its (joined front) one ≡ Ok now → BackHeld given target one (last_or None (joined front)) now
  in_back front left is led =
      back_stands given target one now front (turns_to given target one) refl
      (subst (λ (calls : List Call). IsLeft its calls one [] front) (turns_by given target one (rows_kept target one.rows)) (record { front = front; rest = left; entries = is; now = now; led = led; is = inl refl })) led one_free locked

  in_last : (front left : Journal) → (all_called its (sets_script given two) (session_on two)).entries ≡ front ++ left → all_done its (joined front) two ≡ Ok now → UpdateHeld given two (last_or None (joined front)) now
  in_last front left is led = λ goes.
      update_stops any_meaning kept its given.stamp (bare given two) two now front left (rollback_sound given one one_sound read target) (views_are_read its given.options given.changelog read) two_free goes
      (ap (λ (calls : List Call). (all_called its calls (session_on two)).entries) (sym (sets_bare given two)) ∙ is) led locked

  -- behind a run that was stopped there is none

  in_again : (o : Option Stop) (front left : Journal) → (all_called its (calls_unless o (sets_script given two)) (session_on two)).entries ≡ front ++ left → all_done its (joined front) two ≡ Ok now → Stands (last_or None (joined front))
  in_again None front left is led = inr (inr (in_last front left is led))
  in_again (Some stop) front left is led = absurd (none_written its two now two_free locked front left is led)

  in_rest : (o p : Option Stop) (front left : Journal) → (all_called its (calls_unless o (back ++ calls_unless p (sets_script given two))) (session_on one)).entries ≡ front ++ left → all_done its (joined front) one ≡ Ok now → Stands (last_or None (joined front))
  in_rest None p front left is led =
      in_one its back (calls_unless p (sets_script given two)) one now (rollback_over given one target) two_free locked Stands front left is led (λ more whole. inr (inl (in_back front more whole led)))
      (λ behind more so. in_again p behind left more so)
  in_rest (Some stop) p front left is led = absurd (none_written its one now one_free locked front left is led)

  in_runs : (o p : Option Stop) (front left : Journal) → (all_called its (update_script given database ++ calls_unless o (back ++ calls_unless p (sets_script given two))) (session_on database)).entries ≡ front ++ left → all_done its (joined front) database ≡ Ok now
      → Stands (last_or None (joined front))
  in_runs o p front left is led =
      in_one its (update_script given database) (calls_unless o (back ++ calls_unless p (sets_script given two))) database now (update_over given database) one_free locked Stands front left is led (λ more whole. inl (in_update front more whole led))
      (λ behind more so. in_rest o p behind left more so)

module _ (given : Given) (database now : Database) (written : Journal) (sound : IsSound given.options.dialect database.users) (unlocked : database.lock ≡ free) (led : all_done given.options.dialect (joined written) database ≡ Ok now) (locked : now.lock.locked ≡ true) where
  rehearsal_stands : AreFor given.options.dialect given.changelog → IsLeft given.options.dialect (rehearsal_script given database) database [] written → RehearsalHeld given database (last_or None (joined written)) now
  rehearsal_stands read left =
      let it = front_led given.options.dialect database now (rehearsal_script given database) written left led locked in
      let one = left_by given.options.dialect (update_script given database) database in
      in_runs given database now sound unlocked read locked ((updates given).told database).stop ((takes_back given (length database.rows)).told one).stop written it.0 it.1 led

  stands : (job : Job) → (is_on_file job ≡ true → AreFor given.options.dialect given.changelog) → IsLeft given.options.dialect (job_script job given database) database [] written → StandsHeld job given database (last_or None (joined written)) now
  stands (Run command.Validate) read left = none_held given.options.dialect database now written left led unlocked locked
  stands (Run command.Status) read left = none_held given.options.dialect database now written left led unlocked locked
  stands (Run command.Update) read left = update_stands given database now written sound unlocked led locked (read refl) left
  stands (Run (command.Tag name)) read left = tag_held given.options.dialect database now name (last_row database.rows) written left led unlocked locked
  stands (Run (command.Rollback target)) read left =
      back_stands given target database now written (turns_to given target database) refl
      (subst (λ (cs : List Call). IsLeft given.options.dialect cs database [] written) (turns_by given target database (rows_kept target database.rows)) left) led unlocked locked
  stands (Run command.Sync) read left =
      let it = front_led given.options.dialect database now (job_script (Run command.Sync) given database) written left led locked in
      sync_stops AnyChange given.options.dialect given.stamp (log_in given) database now written it.0 unlocked it.1 led locked
  stands (Run command.Release) read left = release_held given.options.dialect database now written left led unlocked locked
  stands (UpdateCount count) read left = update_stands (counted_in count given database.rows) database now written sound unlocked led locked (counted_read count given database.rows (read refl)) left
  stands (UpdateTo tag) read left = update_stands given database now written sound unlocked led locked (read refl) left
  stands UpdateTestingRollback read left = rehearsal_stands (read refl) left
  stands ClearSums read left = clear_held given.options.dialect database now (is_empty database.rows) written left led unlocked locked
  stands History read left = none_held given.options.dialect database now written left led unlocked locked
  stands (Generate author) read left = none_held given.options.dialect database now written left led unlocked locked
  stands UpdateSql read left = none_held given.options.dialect database now written left led unlocked locked
  stands (RollbackSql target) read left = none_held given.options.dialect database now written left led unlocked locked
  stands (Drill path) read left = none_held given.options.dialect database now written left led unlocked locked
  stands (Soak number sets) read left = none_held given.options.dialect database now written left led unlocked locked
  stands UndoUnrecorded read left = none_held given.options.dialect database now written left led unlocked locked
  stands Snapshot read left = none_held given.options.dialect database now written left led unlocked locked

-- and so each that began with a lock that was not held: its calls take the lock before all else

module _ (given : Given) where
  abbrev of_it : Dialect
  of_it = given.options.dialect

  abbrev back_from : ℕ → Database → List Call
  back_from stay database = rollback_script given (Count (came stay database)) database

  taken_as : (stay : ℕ) (lock : Lock) (database : Database) → taken_in given stay (locked_as lock database) ≡ taken_in given stay database
  taken_as stay lock database = by (rows_kept (Count (came stay database)) database.rows) where
    by : (o : Option ℕ) → rolled_to false given o (locked_as lock database) ≡ rolled_to false given o database
    by None = refl
    by (Some stay) = refl

  -- the runs of a rehearsal behind its first

  behind_as : (stay : ℕ) (lock : Lock) (database : Database) → (after_update given stay).calls (locked_as lock database) ≡ (after_update given stay).calls database
  behind_as stay lock database =
      let other = locked_as lock database in
      ap (λ (calls : List Call). calls ++ calls_unless (taken_in given stay other).settled.stop (sets_script given (left_by of_it calls other))) (back_as given lock database (Count (came stay database)))
      ∙ ap (λ (account : Account). back_from stay database ++ calls_unless account.settled.stop (sets_script given (left_by of_it (back_from stay database) other))) (taken_as stay lock database)
      ∙ ap (λ (two : Database). back_from stay database ++ calls_unless (taken_in given stay database).settled.stop (sets_script given two)) (left_as of_it (back_from stay database) database lock).1

  rehearsal_as : (lock : Lock) (database : Database) → rehearsal_script given (locked_as lock database) ≡ rehearsal_script given database
  rehearsal_as lock database =
      let one = left_as of_it (update_script given database) database lock in
      ap (λ (more : List Call). update_script given database ++ calls_unless ((updates given).told database).stop more)
      (ap (after_update given (length database.rows)).calls one.1 ∙ behind_as (length database.rows) one.0 (left_by of_it (update_script given database) database))

  script_as : (job : Job) (database : Database) → database.lock.locked ≡ false → job_script job given (locked_as free database) ≡ job_script job given database
  script_as (Run (command.Rollback target)) database unlocked = back_as given free database target
  script_as (Run command.Sync) database unlocked = sync_as given free database
  script_as (Run command.Release) database unlocked = sym (ap (λ b. if b then closing ∷ [] else []) unlocked)
  script_as UpdateTestingRollback database unlocked = rehearsal_as free database
  script_as job database unlocked = refl

  abbrev HeldIn : Database → Option Deed → Database → Database → Database → Type 0
  HeldIn database last now one two = UpdateHeld given database last now ⊎ (BackHeld given (Count (came (length database.rows) one)) one last now ⊎ UpdateHeld given two last now)

  rehearsal_held : (lock : Lock) (database : Database) (last : Option Deed) (now : Database) → RehearsalHeld given (locked_as lock database) last now → RehearsalHeld given database last now
  rehearsal_held lock database last now held =
      let one = left_by of_it (update_script given database) database in
      let first = left_as of_it (update_script given database) database lock in
      let stay = length database.rows in
      let other = locked_as first.0 one in
      let at_first : HeldIn database last now other (left_by of_it (back_from stay other) other) = subst (λ (a : Database). HeldIn database last now a (left_by of_it (back_from stay a) a)) first.1 held in
      let same_back : HeldIn database last now other (left_by of_it (back_from stay one) other) =
      subst (λ (calls : List Call). HeldIn database last now other (left_by of_it calls other)) (back_as given first.0 one (Count (came stay one))) at_first in
      subst (HeldIn database last now one) (left_as of_it (back_from stay one) one first.0).1 same_back

  held_as : (job : Job) (database : Database) (last : Option Deed) (now : Database) → StandsHeld job given (locked_as free database) last now → StandsHeld job given database last now
  held_as (Run command.Update) database last now held = held
  held_as UpdateTestingRollback database last now held = rehearsal_held free database last now held
  held_as job database last now held = held

module _ (given : Given) (database : Database) (before after : Option (List ℕ)) (opens : Opens given.options.dialect before database) (unlocked : database.lock.locked ≡ false) where
  -- where nothing was written no lock is held
  is_read : (calls : List Call) → (left : IsLeftOn given.options.dialect calls database before after) → left.now.lock.locked ≡ true → IsReadOr given before after → AreFor given.options.dialect given.changelog
  is_read calls left locked (inl read) = read
  is_read calls left locked (inr same) = absurd (false_true (sym unlocked ∙ (ap (λ (e : Database). e.lock.locked) (same_left given.options.dialect calls database before after opens same left) ∙ locked)))

  stands_on : (job : Job) → (is_on_file job ≡ true → IsReadOr given before after) → (left : IsLeftOn given.options.dialect (job_script job given database) database before after) → left.now.lock.locked ≡ true
      → StandsHeld job given database (last_or None (joined left.written)) left.now
  stands_on job read left locked =
      let d = given.options.dialect in
      let calls = job_script job given database in
      let it = front_led d database left.now calls left.written left.stops left.led locked in
      let led = led_held d (joined left.written) database left.now free left.led unlocked locked in
      let left_free : IsLeft d calls (locked_as free database) [] left.written = record { front = left.written; rest = it.0; entries = entries_as d calls database free ∙ it.1; now = left.now; led = led; is = inl refl } in
      held_as given job database (last_or None (joined left.written)) left.now
      (stands given (locked_as free database) left.now left.written opens.stands.sound refl led locked job (λ on. is_read calls left locked (read on))
      (subst (λ (cs : List Call). IsLeft d cs (locked_as free database) [] left.written) (sym (script_as given job database unlocked)) left_free))

module _ {words : List (List ℕ)} {files : Files} (asks : Asks words files) (stamp : Stamp) (before : Option (List ℕ)) where
  read_or : (database : Database) (done : Result Done Status) (after : Option (List ℕ)) → Does asks.line.job (given_by asks stamp) database before done after → IsReadOr (given_by asks stamp) before after
  read_or database done after does = elim does as (λ _. IsReadOr (given_by asks stamp) before after) [
    | inl failed ↦ inr failed.1
    | inr made ↦ inl made.0.read
  ]

  -- in the end
  pub leaves_marked : (done : Result Done Status) (after : Option (List ℕ)) → DoesLine asks.line.job (given_by asks stamp) before done after → LeavesMarked asks stamp before after
  leaves_marked done after does = λ database opens unlocked left locked.
      stands_on (given_by asks stamp) database before after opens unlocked asks.line.job (λ on. read_or database done after (does on database opens)) left locked

  -- and on any bytes
  pub crash_marked : AreFor asks.line.options.dialect asks.changelog → (bytes : List ℕ) → LeavesMarked asks stamp before (Some bytes)
  crash_marked read bytes = λ database opens unlocked left locked.
      stands_on (given_by asks stamp) database before (Some bytes) opens unlocked asks.line.job (λ on. inl read) left locked
