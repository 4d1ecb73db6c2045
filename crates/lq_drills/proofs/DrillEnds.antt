-- What a drill did on a database that was loaded, and on the disk that it was loaded from.
use Rattle.std.proofs.Common.{ap, arith, inl, inr, refl, subst, sym, ◌∙◌}
use Rattle.std.proofs.lemmas.List.{length-map}
use Rattle.std.proofs.lemmas.List.Elements.{All-head, All-tail}
use Rattle.std.specs.List.{All}
use Rattle.std.specs.Option.{option_map}
use Rattle.std.specs.Prelude.{Bool, Err, IfSome, List, Ok, Option, Result, Some, [], false, length, slice_get, suc, true, zero, ℕ, ◌++◌, ◌∷◌, ◌≡◌, ◌≤◌, ◌⊎◌}
use Rattle.lq_back.specs.Laws.{TurnsBackAreSpelled}
use Rattle.lq_base.specs.declared.command.Command.{Command}
use Rattle.lq_base.specs.declared.dialect.Dialect.{Dialect}
use Rattle.lq_cli.specs.declared.line.Job.TheVariants as job
use Rattle.lq_commands.proofs.BareName.{clean_no_bar}
use Rattle.lq_commands.specs.Stamp.{clean}
use Rattle.lq_db.specs.Db.{IsDb, IsNew, IsValid, crashes as crashes_of, disk_in, state}
use Rattle.lq_db.specs.Load.{IsDbFault}
use Rattle.lq_entries.specs.Load.{catalogue_of}
use Rattle.lq_entries.specs.Log.{crashes_in, entries_in}
use Rattle.lq_db.specs.declared.db.Db.{Db}
use Rattle.lq_drill.specs.Drill.{Each, FailsBy, HasFaulted as PlayerFaulted, IsDrilled, IsDrilledUntil, IsFaultless as HasNoFault, IsSerialDrill, LeftAtEnd, LeftInDrill, MetAt, RestsIn, shut}
use Rattle.lq_drill.specs.Faults.{FallsFirst, IsLetGo, Meets, Steps, HadRoom, Shows, entries_of}
use Rattle.lq_drill.specs.Player.{MayAnswer, answer_of}
use Rattle.lq_drill.specs.declared.fault.DrillFault.TheVariants as fault
use Rattle.lq_drill.specs.declared.fault.DrillFault.{DrillFault}
use Rattle.lq_journal.specs.State.{dialect_of, limit_of}
use Rattle.lq_journal.specs.declared.fault.LoadFault.{LoadFault}
use Rattle.lq_journal.specs.declared.fault.LoadFault.TheVariants as load
use Rattle.lq_any.specs.declared.any_change.AnyChange.{AnyChange}
use Rattle.lq_outside.specs.Forms.{Rose}
use Rattle.lq_outside.specs.Crash.{Crashes as DiskCrashes, IsSound, LeavesOnly}
use Rattle.lq_playing.specs.Answers.{as_busy, as_failed, as_locked}
use Rattle.lq_playing.specs.declared.came.Came.{Came}
use Rattle.lq_players.specs.AnyCommand.{command_stands, BeginInTurn, HaveTasks, works}
use Rattle.lq_players.specs.declared.any_command.AnyCommand.{AnyCommand}
use Rattle.lq_report.specs.Output.{drill_text}
use Rattle.lq_run.specs.Commands.{HasDatabase}
use Rattle.lq_stand.proofs.StaysClean.{IsGood, clean_of}
use Rattle.lq_statement.specs.Laws.{StatementsReadBack}
use Rattle.lq_store.specs.Journal.{CrashesLeave, Since, Entry, database as catalogue_by, State}
use Rattle.lq_store.specs.Executor.{Held, kept}
use Rattle.lq_tell.specs.declared.done.Done.{Done}
use Rattle.lq_tell.specs.declared.status.Status.{Status}
use Rattle.lq_tell.specs.declared.status.Status.TheVariants as status
use Rattle.lq_track.specs.Database.{Database}
use Rattle.lq_turns.specs.Schedule.{StandsFor, has_begun, start}
use Rattle.lq_turns.specs.Jobs.{Task}
use Rattle.lq_turns.specs.Script.{closing}
use Rattle.lq_jobs.proofs.DamagedFiles.{load_spares, memory_spares, no_damage, spares_after}
use Rattle.lq_drills.proofs.DrillAnswers.{disk_failed, none_failed}
use Rattle.lq_drills.proofs.DrillCame.{falls_met, steps_met}
use Rattle.lq_drills.proofs.DrillCrashes.{LeftBy, came_to, crashes_on, crashes_read, drills_after, fault_shown, left_there, mapped, placed}
use Rattle.lq_drills.proofs.DrillFits.{AreFit, came_good, moved_good, then_good}
use Rattle.lq_drills.proofs.DrillIdle.{IsUnfilled, idle, not_begun}
use Rattle.lq_drills.proofs.DrillOpens.{left_opens}
use Rattle.lq_drills.proofs.DrillPlayed.{of_drill, played_tells}
use Rattle.lq_drills.proofs.DrillPlayers.{have_tasks}
use Rattle.lq_drills.proofs.DrillScripts.{drill_fits}
use Rattle.lq_jobs.proofs.OnFiles.{entries_told, entries_were, fault_tells, journal_stays, on_journal, rose_later}
use Rattle.lq_jobs.proofs.OpensAgain.{holds_opens, was_clean}
use Rattle.lq_jobs.proofs.Ready.{opened}
use Rattle.lq_jobs.specs.Bytes.{Holds, Opens, TellsDamage, load_status, most_bytes}
use Rattle.lq_jobs.specs.Kinds.{ReadInTurn, ReadUpTo, Refuses, is_of_drill}
use Rattle.lq_drills.specs.Drilled.{AnswerAs, AnswerBefore, AreTasks, Commands, CrashesTo, DoesDrill, Drills, EndsFull, GoesAs, GoesUntil, HasFaulted, HoldsMachine, IsDrill, IsEnding, IsFaultless, IsFull, IsLeftInDrill, IsOfDrill, IsSerial, IsSettled, MetFull, RestsAt, RestsFull, RestsOn, Went, WorkedDrill, drilled, machine_after}
use Rattle.lq_drills.specs.Players.{ArePlayers, PlayAnswers, PlayEnds, PlayIsFull, Plays, answers_in, faults_in, is_of_play}
use Rattle.lq_jobs.specs.declared.entrants.Drilling.{Drilling}

false_true : false ≡ true → ⊥
false_true h = Prim.cc

same_count : (a b : ℕ) → a ≡ b → b ≤ a
same_count a b is = omega arith

-- lists of what players have

none_faulted : (players : List AnyCommand) → All IsFaultless (faults_in players) → Each command_stands HasNoFault players
none_faulted [] all place player is = Prim.cc
none_faulted (first ∷ players) all zero player is = subst (λ p. (command_stands p).faulted ≡ false) (some_is is) (All-head IsFaultless (command_stands first).faulted (faults_in players) all) where
  some_is : Some first ≡ Some player → first ≡ player
  some_is h = Prim.cc
none_faulted (first ∷ players) all (suc place) player is = none_faulted players (All-tail IsFaultless (command_stands first).faulted (faults_in players) all) place player is

-- a drill on a database that was loaded
module _ {D P E : Type 0} (d p : Dialect) (told : Option (List ℕ)) (crashes : DiskCrashes) (h : Held) (db : Db D P E) (is : IsDb p told crashes h db) (new : IsNew d most_bytes db)
    (bytes : List ℕ) (told_is : told ≡ Some bytes) (now : Option (List ℕ)) (later : DiskCrashes) (k : Held) (left : Db D P E) (valid : IsValid p now later k left)
    (database : Database) (has : HasDatabase d (state told h db) database) where
  abbrev x : State
  x = state told h db

  abbrev y : State
  y = state now k left

  -- entries behind those that were there
  module _ (more : List Entry) (entries : y.entries ≡ option_map (λ (there : List Entry). there ++ more) x.entries) (dialect : y.dialect ≡ x.dialect) (limit : y.limit ≡ x.limit) where
    same_journal : (dialect_of left.journal ≡ d) × (limit_of left.journal ≡ most_bytes)
    same_journal = journal_stays d p told crashes h db is new.limit_is bytes told_is now later k left valid database has (dialect ∙ has.dialect) limit

    entries_now : entries_in d most_bytes now ≡ y.entries
    entries_now = sym (ap (λ e. entries_in e y.limit now) same_journal.0 ∙ ap (λ n. entries_in d n now) same_journal.1)

    were : x.entries ≡ entries_in d most_bytes told
    were = entries_were d p told crashes h db is new.limit_is bytes told_is now later k left valid database has

    pub entries_behind : entries_in d most_bytes now ≡ option_map (λ (there : List Entry). there ++ more) (entries_in d most_bytes told)
    entries_behind = entries_now ∙ entries ∙ ap (option_map (λ (there : List Entry). there ++ more)) were

    pub holds_now : y.live ≡ true → (then : Database) → StandsFor d y.committed then → Holds d now then
    holds_now live then stands =
        let there = entries_told d p told crashes h db is new.limit_is bytes told_is now later k left valid database has in
        let all : y.entries ≡ Some (there.0 ++ more) = entries ∙ ap (option_map (λ (there : List Entry). there ++ more)) there.1 in
        record {
          entries = there.0 ++ more;
          told_are = entries_now ∙ all;
          catalogue = kept k;
          leads = subst (λ e. catalogue_by e (there.0 ++ more) ≡ Some (kept k)) (dialect ∙ has.dialect) (subst (λ o. IfSome o (λ entries. catalogue_by left.dialect entries ≡ Some (kept k))) all (valid.lives live).is_held.is_journal);
          stands = stands;
        }

  module _ (tasks : ℕ → Task AnyChange) (steps : List ℕ) (last : List AnyCommand) where
    -- the machine that the store shows
    holds_machine : (to : Commands) → Shows (record x { dialect = d }) y (shut to) → HoldsMachine d to told now
    holds_machine to shows =
        let more = entries_of d to.entries in
        let dialect = shows.dialect ∙ sym has.dialect in
        record {
          holds = holds_now more shows.entries dialect shows.limit shows.live to.committed shows.committed;
          entries = entries_behind more shows.entries dialect shows.limit;
          room = on_journal d p told crashes h db is new.limit_is bytes told_is now later k left valid database has (λ limit used. HadRoom d limit used to.entries) shows.room;
        }

    opens_machine : (to : Commands) → Shows (record x { dialect = d }) y (shut to) → IsGood d to.committed → Opens d now to.committed
    opens_machine to shows good =
        let holds = (holds_machine to shows).holds in
        holds_opens d now to.committed holds (clean_of d holds.catalogue to.committed holds.stands good.fine)

    -- for commands that met no fault
    module _ (ran : IsDrilled command_stands (works d tasks) (record x { dialect = d }) database steps last y) where
      file_holds : HoldsMachine d (machine_after d tasks database steps) told now
      file_holds = holds_machine (machine_after d tasks database steps) ran.shows

      file_opens : IsGood d (machine_after d tasks database steps).committed → Opens d now (machine_after d tasks database steps).committed
      file_opens good = opens_machine (machine_after d tasks database steps) ran.shows good

      answers_are : AnswerAs (machine_after d tasks database steps) (answers_in last)
      answers_are place a is =
          let it = mapped (λ (p : AnyCommand). (command_stands p).answer) last place a is in
          it.2 ∙ ran.answers place it.0 it.1

      is_serial : IsSerialDrill command_stands (works d tasks) (record x { dialect = d }) database steps last y → IsSerial d tasks steps database (answers_in last) told now
      is_serial serial = record {
        order = serial.order;
        ordered = serial.ordered;
        now = serial.committed;
        holds = holds_now (entries_of d (machine_after d tasks database steps).entries) ran.shows.entries (ran.shows.dialect ∙ sym has.dialect) ran.shows.limit ran.shows.live serial.committed serial.stands_for;
        serial = serial.serial;
        gave = λ place a is.
            let it = mapped (λ (p : AnyCommand). (command_stands p).answer) last place (Some a) is in
            serial.answers place it.0 a it.1 (sym it.2);
      }

    -- up to a fault, and behind it
    module _ (ran : IsDrilledUntil command_stands (works d tasks) (record x { dialect = d }) database as_failed steps last y) (good : IsGood d ran.now.committed) where
      abbrev begin : Commands
      begin = start Came as_locked as_busy database

      came_first : (ran.now ≡ machine_after d tasks database ran.taken) ⊎ FallsFirst as_failed d (works d tasks) (HasFaulted (faults_in last)) ran.taken begin ran.now
      came_first = elim ran.came [
        | inl all ↦ inl all
        | inr fell ↦ inr (falls_met d tasks (PlayerFaulted command_stands last) (HasFaulted (faults_in last)) (fault_shown last) ran.taken begin ran.now fell)
      ]

      answers_before : AnswerBefore ran.others ran.now (answers_in last)
      answers_before place a is =
          let it = mapped (λ (p : AnyCommand). (command_stands p).answer) last place a is in
          elim (ran.answers place it.0 it.1) [
            | inl same ↦ inl (it.2 ∙ same)
            | inr before ↦ inr before
          ]

      ends_at : ((ran.others ≡ []) × HoldsMachine d ran.now told now × Opens d now ran.now.committed) ⊎ IsEnding (faults_in last) (answers_in last) ran.others
      ends_at = elim ran.ends [
        | inl whole ↦ inl (whole.0, holds_machine ran.now whole.1, opens_machine ran.now whole.1 good)
        | inr stops ↦ (let one = stops.1 in inr (
          one.place,
          stops.0,
          stops.2,
          placed (λ (p : AnyCommand). (command_stands p).answer) last one.place one.player one.there ∙ ap (λ (o : Option Came). Some o) one.answer,
          placed (λ (p : AnyCommand). (command_stands p).faulted) last one.place one.player one.there ∙ ap (λ (b : Bool). Some b) one.faulted,
        ))
      ]

      goes_until : GoesUntil d tasks steps database (faults_in last) told (answers_in last) now
      goes_until = record {
        taken = ran.taken;
        others = ran.others;
        is = ran.is;
        now = ran.now;
        came = came_first;
        gave = answers_before;
        ends = ends_at;
        more = ran.more;
        entries = entries_behind (entries_of d ran.now.entries ++ ran.more) ran.entries (ran.dialect ∙ sym has.dialect) ran.limit;
      }

    abbrev Left : List Entry → List Entry → Type 0
    Left = LeftBy d tasks steps database last x told

    -- in the end
    left_now : y.dialect ≡ d → y.limit ≡ x.limit → LeftAtEnd command_stands (works d tasks) (record x { dialect = d }) database as_failed steps last y → IsLeftInDrill d tasks steps database (faults_in last) told now
    left_now dialect limit ends =
        let there = entries_told d p told crashes h db is new.limit_is bytes told_is now later k left valid database has in
        let were = entries_were d p told crashes h db is new.limit_is bytes told_is now later k left valid database has in
        let same = journal_stays d p told crashes h db is new.limit_is bytes told_is now later k left valid database has dialect limit in
        let it = subst (λ o. IfSome o (λ there. (these : List Entry) × (y.entries ≡ Some these) × Left there these)) there.1 ends in
        left_there d tasks steps database last x told there.0 (sym were ∙ there.1) it.0 now (sym (ap (λ e. entries_in e (limit_of left.journal) now) same.0 ∙ ap (λ n. entries_in d n now) same.1) ∙ it.1) it.2

    -- where the journal was full
    module _ (used next : ℕ) where
      met_full : (n : ℕ) → MetAt command_stands (works d tasks) (record x { dialect = d }) database as_failed steps last n (fault.Full used next) → MetFull d tasks steps database (faults_in last) told n used next
      met_full n met = record {
        front = met.front;
        rest = met.rest;
        is = met.is;
        now = met.now;
        came = came_to d tasks steps database last x told met.front met.now met.came;
        full = on_journal d p told crashes h db is new.limit_is bytes told_is now later k left valid database has (λ limit filled. Meets as_failed d (works d tasks) filled limit n met.now (fault.Full used next)) met.meets;
      }

      -- how its command rests

      abbrev RestsHere : ℕ → Type 0
      RestsHere n = RestsIn command_stands (works d tasks) (record x { dialect = d }) database as_failed steps last n y (fault.Full used next)

      abbrev Good : (n : ℕ) → RestsHere n → Type 0
      Good n it = (to : Commands) → (to ≡ it.now) ⊎ Steps as_failed d (works d tasks) (PlayerFaulted command_stands last n) n it.now to → IsGood d to.committed

      rests_full : (n : ℕ) (it : RestsHere n) → Good n it → RestsFull d tasks steps database (faults_in last) told n used next now
      rests_full n it good = record {
        front = it.front;
        rest = it.rest;
        is = it.is;
        now = it.now;
        came = came_to d tasks steps database last x told it.front it.now it.came;
        rests = elim it.rests [
          | inl made ↦ inl (made.0, steps_met d tasks (PlayerFaulted command_stands last n) (HasFaulted (faults_in last) n) (fault_shown last n) n it.now made.0 made.1, rests_on made.0 made.2 (good made.0 (inr made.1)), made.3, made.4)
          | inr none ↦ inr (
            rests_on it.now none.0 (good it.now (inl refl)),
            on_journal d p told crashes h db is new.limit_is bytes told_is now later k left valid database has
                (λ limit filled. (m : Meets as_failed d (works d tasks) filled limit n it.now (fault.Full used next)) × ((has_begun Came as_locked as_busy n it.now ≡ false) ⊎ (m.cause.call ≡ closing))) none.1,
          )
        ];
      } where
        rests_on : (to : Commands) → Shows (record x { dialect = d }) y (shut to) → IsGood d to.committed → RestsOn d tasks steps database (faults_in last) told to now
        rests_on to shows well = (holds_machine to shows, opens_machine to shows well)

      ends_full : (fails : FailsBy command_stands (works d tasks) (record x { dialect = d }) database as_failed steps last y (fault.Full used next)) → Good (suc fails.place) fails.rests → EndsFull d tasks steps database (faults_in last) told (answers_in last) now used next
      ends_full fails good = record {
        place = fails.place;
        answer = placed (λ (p : AnyCommand). (command_stands p).answer) last fails.place fails.player fails.there ∙ ap (λ (o : Option Came). Some o) fails.answer;
        met = met_full (suc fails.place) fails.met;
        rests = rests_full (suc fails.place) fails.rests good;
      }

    -- at any moment
    moments : y.dialect ≡ d → y.limit ≡ x.limit → CrashesLeave x.entries Left (crashes_of crashes db) (crashes_of later left) → CrashesTo d (IsLeftInDrill d tasks steps database (faults_in last) told) crashes later
    moments dialect limit leaves =
        let there = entries_told d p told crashes h db is new.limit_is bytes told_is now later k left valid database has in
        let were = entries_were d p told crashes h db is new.limit_is bytes told_is now later k left valid database has in
        let same = journal_stays d p told crashes h db is new.limit_is bytes told_is now later k left valid database has dialect limit in
        crashes_on d tasks steps database last x told there.0 (sym were ∙ there.1) crashes later
        (subst (λ n. Since (Left there.0) (crashes_in d most_bytes crashes) (crashes_in d n later)) same.1
        (subst (λ e. Since (Left there.0) (crashes_in d most_bytes crashes) (crashes_in e (limit_of left.journal) later)) same.0
        (subst (λ n. Since (Left there.0) (crashes_in d n crashes) (crashes_in (dialect_of left.journal) (limit_of left.journal) later)) new.limit_is
        (subst (λ e. Since (Left there.0) (crashes_in e (limit_of db.journal) crashes) (crashes_in (dialect_of left.journal) (limit_of left.journal) later)) (is.journal_is ∙ has.dialect)
        (subst (λ o. IfSome o (λ there. Since (Left there) (crashes_of crashes db) (crashes_of later left))) there.1 leaves)))))

-- what the players did, they did on the file
module _ {D P E : Type 0} (spelled : TurnsBackAreSpelled) (texts : StatementsReadBack) (d p : Dialect) (told : Option (List ℕ)) (crashes : DiskCrashes) (h : Held) (db : Db D P E) (is : IsDb p told crashes h db) (new : IsNew d most_bytes db)
    (read : IfSome told (λ bytes. catalogue_of d most_bytes bytes ≡ Ok (kept h)))
    (now : Option (List ℕ)) (later : DiskCrashes) (k : Held) (left : Db D P E) (valid : IsValid p now later k left)
    (who : List ℕ) (drill : Drilling) (readings : List ℕ) (players : List AnyCommand) (commands : List Command) (are : ArePlayers d (clean who) drill.entrants readings players commands)
    (is_drill : IsDrill d drill) (result : Result Done Status) (plays : Plays players commands drill.steps (state told h db) (state now k left) (crashes_of crashes db) (crashes_of later left) result) where
  abbrev origin : State
  origin = state told h db

  abbrev final : State
  final = state now k left

  has_there : (database : Database) → Opens d told database → HasDatabase d origin database
  has_there database opens = opened d p told crashes h db is new told database refl read opens

  -- on the database of the file, for commands with these tasks
  module _ (tasks : ℕ → Task AnyChange) (own : AreTasks who drill.entrants readings tasks) (database : Database) (has : HasDatabase d origin database) where
    abbrev moved : State
    moved = record origin { dialect = d }

    have_there : HaveTasks origin.dialect tasks players
    have_there = subst (λ e. HaveTasks e tasks players) (sym has.dialect) (have_tasks d (clean who) drill.entrants readings players commands are tasks own (clean_no_bar who) is_drill.few.1)

    stands_there : StandsFor origin.dialect origin.committed database
    stands_there = subst (λ e. StandsFor e origin.committed database) (sym has.dialect) has.committed

    ran_clean : Each command_stands HasNoFault plays.last → IsDrilled command_stands (works d tasks) moved database drill.steps plays.last final
    ran_clean none = subst (λ e. IsDrilled command_stands (works e tasks) (record origin { dialect = e }) database drill.steps plays.last final) has.dialect (plays.clean tasks database stands_there have_there none)

    ran_until : IsDrilledUntil command_stands (works d tasks) moved database as_failed drill.steps plays.last final
    ran_until = subst (λ e. IsDrilledUntil command_stands (works e tasks) (record origin { dialect = e }) database as_failed drill.steps plays.last final) has.dialect (plays.until tasks database stands_there have_there)

    left_in : CrashesLeave origin.entries (LeftInDrill command_stands (works d tasks) moved database as_failed drill.steps plays.last) (crashes_of crashes db) (crashes_of later left)
    left_in = subst (λ e. CrashesLeave origin.entries (LeftInDrill command_stands (works e tasks) (record origin { dialect = e }) database as_failed drill.steps plays.last) (crashes_of crashes db) (crashes_of later left)) has.dialect
        (plays.crash tasks database stands_there have_there)

    left_in_end : LeftAtEnd command_stands (works d tasks) moved database as_failed drill.steps plays.last final
    left_in_end = subst (λ e. LeftAtEnd command_stands (works e tasks) (record origin { dialect = e }) database as_failed drill.steps plays.last final) has.dialect (plays.left tasks database stands_there have_there)

    failed_by : (why : DrillFault) → FailsBy command_stands (works origin.dialect tasks) origin database as_failed drill.steps plays.last final why → FailsBy command_stands (works d tasks) moved database as_failed drill.steps plays.last final why
    failed_by why fails = subst (λ e. FailsBy command_stands (works e tasks) (record origin { dialect = e }) database as_failed drill.steps plays.last final why) has.dialect fails

    -- dialect and limit stay
    stays : (final.dialect ≡ d) × (final.limit ≡ origin.limit)
    stays = (ran_until.dialect, ran_until.limit)

    module _ (none : Each command_stands HasNoFault plays.last) where
      in_serial : IsSerialDrill command_stands (works origin.dialect tasks) origin database drill.steps plays.last final → IsSerialDrill command_stands (works d tasks) moved database drill.steps plays.last final
      in_serial serial = subst (λ e. IsSerialDrill command_stands (works e tasks) (record origin { dialect = e }) database drill.steps plays.last final) has.dialect serial

      early_at : BeginInTurn d tasks database drill.steps → BeginInTurn origin.dialect tasks database drill.steps
      early_at begin = subst (λ e. BeginInTurn e tasks database drill.steps) (sym has.dialect) begin

  -- what its commands have committed is sound and clean

  are_fit : (tasks : ℕ → Task AnyChange) → AreTasks who drill.entrants readings tasks → AreFit Came as_locked as_busy as_failed d (works d tasks) drill.steps
  are_fit tasks own = drill_fits spelled d who drill readings tasks own are.as_many.0 is_drill

  machine_good : (tasks : ℕ → Task AnyChange) → AreTasks who drill.entrants readings tasks → (database : Database) → Opens d told database → IsGood d (machine_after d tasks database drill.steps).committed
  machine_good tasks own database opens =
      moved_good Came as_locked as_busy as_failed d (works d tasks) database opens.catalogue opens.stands (was_clean d told database opens) drill.steps (are_fit tasks own)

  until_good : (tasks : ℕ → Task AnyChange) → AreTasks who drill.entrants readings tasks → (database : Database) → Opens d told database
      → (ran : IsDrilledUntil command_stands (works d tasks) (record origin { dialect = d }) database as_failed drill.steps plays.last final) → IsGood d ran.now.committed
  until_good tasks own database opens ran =
      came_good Came as_locked as_busy as_failed d (works d tasks) database opens.catalogue opens.stands (was_clean d told database opens) (PlayerFaulted command_stands plays.last) ran.taken ran.others ran.now
      (subst (AreFit Came as_locked as_busy as_failed d (works d tasks)) ran.is (are_fit tasks own)) ran.came

  rests_good : (tasks : ℕ → Task AnyChange) → AreTasks who drill.entrants readings tasks → (database : Database) → Opens d told database
      → (n : ℕ) (why : DrillFault) (it : RestsIn command_stands (works d tasks) (record origin { dialect = d }) database as_failed drill.steps plays.last n final why) (to : Commands)
      → (to ≡ it.now) ⊎ Steps as_failed d (works d tasks) (PlayerFaulted command_stands plays.last n) n it.now to → IsGood d to.committed
  rests_good tasks own database opens n why it to step =
      then_good Came as_locked as_busy as_failed d (works d tasks) database opens.catalogue opens.stands (was_clean d told database opens) (PlayerFaulted command_stands plays.last) it.front it.rest n it.now to
      (subst (AreFit Came as_locked as_busy as_failed d (works d tasks)) it.is (are_fit tasks own)) it.came step

  went_as : All IsFaultless (faults_in plays.last) → (tasks : ℕ → Task AnyChange) → AreTasks who drill.entrants readings tasks → (database : Database) → Opens d told database → GoesAs d tasks drill.steps database (answers_in plays.last) told now
  went_as faultless tasks own database opens =
      let has = has_there database opens in
      let none = none_faulted plays.last faultless in
      let ran = ran_clean tasks own database has none in
      record {
        file = file_holds d p told crashes h db is new opens.bytes opens.told_is now later k left valid database has tasks drill.steps plays.last ran;
        opens = file_opens d p told crashes h db is new opens.bytes opens.told_is now later k left valid database has tasks drill.steps plays.last ran (machine_good tasks own database opens);
        gave = answers_are d p told crashes h db is new opens.bytes opens.told_is now later k left valid database has tasks drill.steps plays.last ran;
        serial = λ none_releases.
            is_serial d p told crashes h db is new opens.bytes opens.told_is now later k left valid database has tasks drill.steps plays.last ran
            (in_serial tasks own database has none (plays.serial tasks database (stands_there tasks own database has) (have_there tasks own database has) none none_releases));
        in_turn = λ begin.
            is_serial d p told crashes h db is new opens.bytes opens.told_is now later k left valid database has tasks drill.steps plays.last ran
            (in_serial tasks own database has none (plays.in_turn tasks database (stands_there tasks own database has) (have_there tasks own database has) none (early_at tasks own database has none begin)));
      }

  went_until : (tasks : ℕ → Task AnyChange) → AreTasks who drill.entrants readings tasks → (database : Database) → Opens d told database → GoesUntil d tasks drill.steps database (faults_in plays.last) told (answers_in plays.last) now
  went_until tasks own database opens =
      let has = has_there database opens in
      let ran = ran_until tasks own database has in
      goes_until d p told crashes h db is new opens.bytes opens.told_is now later k left valid database has tasks drill.steps plays.last ran (until_good tasks own database opens ran)

  met_at : (place : ℕ) (said : Option Came) → slice_get (faults_in plays.last) place ≡ Some true → slice_get (answers_in plays.last) place ≡ Some said → MayAnswer as_locked as_failed said
  met_at place said faulted answered =
      let it = mapped (λ (p : AnyCommand). (command_stands p).faulted) plays.last place true faulted in
      let that = mapped (λ (p : AnyCommand). (command_stands p).answer) plays.last place said answered in
      subst (MayAnswer as_locked as_failed) (ap (λ (p : AnyCommand). (command_stands p).answer) (one_player it.0 that.0 (sym it.1 ∙ that.1)) ∙ sym that.2) (plays.met place it.0 it.1 (sym it.2)) where
        one_player : (a b : AnyCommand) → Some a ≡ Some b → a ≡ b
        one_player a b same = Prim.cc

  crash_at : (tasks : ℕ → Task AnyChange) → AreTasks who drill.entrants readings tasks → (database : Database) → Opens d told database → CrashesTo d (IsLeftInDrill d tasks drill.steps database (faults_in plays.last) told) crashes later
  crash_at tasks own database opens =
      let has = has_there database opens in
      let same = stays tasks own database has in
      moments d p told crashes h db is new opens.bytes opens.told_is now later k left valid database has tasks drill.steps plays.last same.0 same.1 (left_in tasks own database has)

  left_at : (tasks : ℕ → Task AnyChange) → AreTasks who drill.entrants readings tasks → (database : Database) → Opens d told database → IsLeftInDrill d tasks drill.steps database (faults_in plays.last) told now
  left_at tasks own database opens =
      let has = has_there database opens in
      let same = stays tasks own database has in
      left_now d p told crashes h db is new opens.bytes opens.told_is now later k left valid database has tasks drill.steps plays.last same.0 same.1 (left_in_end tasks own database has)

  full_at : (used next : ℕ)
      → ((tasks : ℕ → Task AnyChange) (database : Database) → StandsFor origin.dialect origin.committed database → HaveTasks origin.dialect tasks players → FailsBy command_stands (works origin.dialect tasks) origin database as_failed drill.steps plays.last final (fault.Full used next))
      → IsFull d who drill readings (faults_in plays.last) told (answers_in plays.last) now used next
  full_at used next fails tasks own database opens =
      let has = has_there database opens in
      let failed = failed_by tasks own database has (fault.Full used next) (fails tasks database (stands_there tasks own database has) (have_there tasks own database has)) in
      ends_full d p told crashes h db is new opens.bytes opens.told_is now later k left valid database has tasks drill.steps plays.last used next failed
      (rests_good tasks own database opens (suc failed.place) (fault.Full used next) failed.rests)

  abbrev went : Went d who drill readings told now crashes later
  went = record {
    one_each = are.as_many.0;
    answers = answers_in plays.last;
    faulted = faults_in plays.last;
    as_many = (length-map plays.last (λ (p : AnyCommand). (command_stands p).answer) ∙ plays.as_many ∙ are.as_many.1, length-map plays.last (λ (p : AnyCommand). (command_stands p).faulted) ∙ plays.as_many ∙ are.as_many.1);
    goes = went_as;
    until = went_until;
    met = met_at;
    crash = crash_at;
    left = left_at;
    opens = λ tasks own database opens. left_opens texts d tasks drill.steps database (faults_in plays.last) told opens (are_fit tasks own);
  }

  drills_by : (r : Result Done Status) → Refuses is_of_play r → PlayEnds commands plays.last final r → PlayAnswers plays.last r
      → ((tasks : ℕ → Task AnyChange) (database : Database) → StandsFor origin.dialect origin.committed database → HaveTasks origin.dialect tasks players → PlayIsFull r (FailsBy command_stands (works origin.dialect tasks) origin database as_failed drill.steps plays.last final))
      → Drills d who drill readings told crashes r now later
  drills_by (Ok done) kind ends none full = (ends.1, (went, ends.2 ∙ ap (λ (all : List Command). Some (drill_text (drilled all (answers_in plays.last)))) are.named, none_failed plays.last none))
  drills_by (Err (status.Full used next)) kind ends answered full = (went, full_at used next full)
  drills_by (Err status.DiskFault) kind ends failed full = inr (went, disk_failed plays.last failed)
  drills_by (Err status.OutOfMemory) kind ends answered full = inr went
  drills_by (Err s) kind ends answered full = absurd (false_true kind)

  pub does : (coming after : Option (List ℕ)) → ReadInTurn coming after readings → DoesDrill d who drill coming after told crashes result now later
  does coming after in_turn = record { readings = readings; read = in_turn; few = same_count (length drill.entrants) (length readings) (sym are.as_many.0); kind = kind_is result (of_drill result plays.kind); drills = drills_by result plays.kind plays.ends plays.answered plays.cause } where
    kind_is : (r : Result Done Status) → Refuses is_of_drill r → IsOfDrill r
    kind_is (Ok done) kind = tt
    kind_is (Err s) kind = inl kind

-- for disks
module _ {D : Type 0} (told : D → Option (List ℕ)) (faults : D → ℕ) (crashes : D → DiskCrashes) (d : Dialect) (who : List ℕ) (drill : Drilling) where
  memory_no_disk : (s : Status) → s ≡ status.OutOfMemory → (let r : Result Done Status = Err s in r) ≡ Err status.DiskFault → ⊥
  memory_no_disk s memory is = Prim.cc

  -- there was no memory for its players
  pub memory_drilled : (coming after : Option (List ℕ)) → ReadUpTo (length drill.entrants) coming after → (disk : D) → WorkedDrill told faults crashes d who drill coming after disk (Err status.OutOfMemory) disk
  memory_drilled coming after up disk = record {
    used = record {
      damaged = tt;
      spares = λ beside place damaged. memory_spares (job.Drill []) place (told disk) (Err status.OutOfMemory) (told disk) status.OutOfMemory refl refl refl;
      safe = λ command finished. absurd (false_true command);
      off = λ off. absurd (false_true off);
      later = same_count (faults disk) (faults disk) refl;
      fault = λ is. absurd (memory_no_disk status.OutOfMemory refl is);
    };
    kind = refl;
    settled = tt;
    does = not_begun d who drill coming after up (told disk) (told disk) (crashes disk) (crashes disk) (idle d (told disk) (told disk) refl (crashes disk)) status.OutOfMemory (inl refl) tt;
  }

  load_kind : (f : LoadFault) → is_of_drill (load_status f) ≡ true
  load_kind load.Disk = refl
  load_kind (load.Damaged at) = refl
  load_kind load.OutOfMemory = refl

  load_unfilled : (f : LoadFault) → IsUnfilled (load_status f)
  load_unfilled load.Disk = tt
  load_unfilled (load.Damaged at) = tt
  load_unfilled load.OutOfMemory = tt

  load_rose : (before now : ℕ) (file : Option (List ℕ)) (f : LoadFault) → IsDbFault d most_bytes file before now f → (let r : Result Done Status = Err (load_status f) in r) ≡ Err status.DiskFault → Rose before now
  load_rose before now file load.Disk is fault = is
  load_rose before now file (load.Damaged at) is fault = absurd Prim.cc
  load_rose before now file load.OutOfMemory is fault = absurd Prim.cc

  -- the disk was read
  module _ (coming after : Option (List ℕ)) (disk : D) (sound : IsSound (told disk) (crashes disk)) (read : D) (same : told read ≡ told disk) (later : faults disk ≤ faults read) (only : LeavesOnly (crashes disk) (crashes read) (crashes disk).leaves) where
    -- its database could not be loaded
    pub fault_drilled : ReadUpTo (length drill.entrants) coming after → (f : LoadFault) → IsDbFault d most_bytes (told disk) (faults disk) (faults read) f → WorkedDrill told faults crashes d who drill coming after disk (Err (load_status f)) read
    fault_drilled up f is = record {
      used = record {
        damaged = fault_tells d (told disk) (faults disk) (faults read) f is;
        spares = λ beside place damaged. load_spares (job.Drill []) d (told disk) (told read) (faults disk) (faults read) f (load_status f) refl is same place damaged;
        safe = λ command finished. absurd (false_true command);
        off = λ off. absurd (false_true off);
        later = later;
        fault = load_rose (faults disk) (faults read) (told disk) f is;
      };
      kind = load_kind f;
      settled = tt;
      does = not_begun d who drill coming after up (told disk) (told read) (crashes disk) (crashes read) (record { same = same; crash = crashes_read (told disk) (crashes disk) sound (crashes read) only d (λ left. ⊥) }) (load_status f) (inl (load_kind f)) (load_unfilled f);
    }

    -- what it did on the disk as it was read it did on the disk
    pub drilled_after : (r : Result Done Status) (last : D) → WorkedDrill told faults crashes d who drill coming after read r last → WorkedDrill told faults crashes d who drill coming after disk r last
    drilled_after r last did = record {
      used = record {
        damaged = subst (λ o. TellsDamage d o r) same did.used.damaged;
        spares = λ beside place damaged. spares_after (job.Drill []) d (told disk) (told read) same r (told last) place (did.used.spares beside place) damaged;
        safe = λ command finished. absurd (false_true command);
        off = λ off. absurd (false_true off);
        later = omega (arith, later, did.used.later);
        fault = λ is. rose_later (faults disk) (faults read) (faults last) later (did.used.fault is);
      };
      kind = did.kind;
      settled = did.settled;
      does =
          let does = subst (λ o. DoesDrill d who drill coming after o (crashes read) r (told last) (crashes last)) same did.does in
          record { readings = does.readings; read = does.read; few = does.few; kind = does.kind; drills = drills_after (told disk) (crashes disk) sound (crashes read) only d who drill does.readings (told last) (crashes last) r does.drills };
    }

  -- its players took their steps
  module _ {P E : Type 0} (p : Dialect) (h k : Held) (db left : Db D P E) (is : IsDb p (told (disk_in db)) (crashes (disk_in db)) h db) (valid : IsValid p (told (disk_in left)) (crashes (disk_in left)) k left) (new : IsNew d most_bytes db)
      (read : IfSome (told (disk_in db)) (λ bytes. catalogue_of d most_bytes bytes ≡ Ok (kept h))) where
    abbrev loaded : State
    loaded = state (told (disk_in db)) h db

    abbrev played : State
    played = state (told (disk_in left)) k left

    settled_after : (commands : List Command) (last : List AnyCommand) (r : Result Done Status) → PlayEnds commands last played r → IsSettled told faults crashes r (disk_in left)
    settled_after commands last (Ok done) ends = (valid.lives ends.0).whole.settled
    settled_after commands last (Err s) ends = tt

    pub played_drilled : TurnsBackAreSpelled → StatementsReadBack → (readings : List ℕ) (players : List AnyCommand) (commands : List Command) → ArePlayers d (clean who) drill.entrants readings players commands → IsDrill d drill → (coming after : Option (List ℕ)) → ReadInTurn coming after readings
        → (r : Result Done Status) → Plays players commands drill.steps loaded played (crashes_of (crashes (disk_in db)) db) (crashes_of (crashes (disk_in left)) left) r → faults (disk_in db) ≤ faults (disk_in left) → (r ≡ Err status.DiskFault → Rose (faults (disk_in db)) (faults (disk_in left)))
        → WorkedDrill told faults crashes d who drill coming after (disk_in db) r (disk_in left)
    played_drilled spelled texts readings players commands are is_drill coming after in_turn r plays later fault = record {
      used = record {
        damaged = played_tells d (told (disk_in db)) r plays.kind;
        spares = λ beside place damaged. no_damage d (told (disk_in db)) (kept h) read place damaged;
        safe = λ command finished. absurd (false_true command);
        off = λ off. absurd (false_true off);
        later = later;
        fault = fault;
      };
      kind = of_drill r plays.kind;
      settled = settled_after commands plays.last r plays.ends;
      does = does spelled texts d p (told (disk_in db)) (crashes (disk_in db)) h db is new read (told (disk_in left)) (crashes (disk_in left)) k left valid who drill readings players commands are is_drill r plays coming after in_turn;
    }
