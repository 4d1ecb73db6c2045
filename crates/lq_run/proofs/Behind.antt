-- What a call that stands alone, and a command, leave behind, however they ended.
use Rattle.std.proofs.Common.{ap, inl, inr, refl, subst, sym, ◌∙◌}
use Rattle.std.proofs.lemmas.List.{append-nil, append_assoc}
use Rattle.std.specs.Option.{option_map}
use Rattle.std.specs.Prelude.{Err, IfSome, List, None, Ok, Option, Result, Some, [], false, map, true, ℕ, ◌++◌, ◌∷◌, ◌≡◌, ◌≤◌, ◌⊎◌}
use Rattle.lq_base.specs.declared.dialect.Dialect.{Dialect}
use Rattle.lq_base.specs.declared.identity.Identity.{Identity}
use Rattle.lq_base.specs.declared.tracking.Lock.{Lock}
use Rattle.lq_beside.specs.Replays.{calls_fit}
use Rattle.lq_model.proofs.Lists.{and_true}
use Rattle.lq_model.specs.declared.caller.Room.TheVariants.{Ordinary}
use Rattle.lq_model.specs.declared.fault.StoreFault.{StoreFault}
use Rattle.lq_model.specs.declared.fault.StoreFault.TheVariants as fault
use Rattle.lq_statement.specs.Laws.{StatementsReadBack}
use Rattle.lq_store.specs.Calls.{Fails}
use Rattle.lq_store.specs.Journal.{Entry, State}
use Rattle.lq_track.specs.Database.{Database}
use Rattle.lq_turns.specs.Script.{clear_calls, closing, opening, release_calls, tag_calls}
use Rattle.lq_turns.specs.Session.{Session, all_called, called, session_on}
use Rattle.lq_turns.specs.Set.{Meaning}
use Rattle.lq_turns.specs.Stops.{Journal, has_mark, is_mark}
use Rattle.lq_turns.specs.declared.call.Call.{Call}
use Rattle.lq_turns.specs.declared.call.Call.TheVariants.{Alone}
use Rattle.lq_turns.specs.declared.deed.Deed.TheVariants.{Locks}
use Rattle.lq_turns.specs.declared.stamp.Stamp.{Stamp}
use Rattle.lq_run.proofs.Begins.{script_closes}
use Rattle.lq_run.proofs.Left.{stands_there}
use Rattle.lq_run.proofs.Opens.{all_opening_fits}
use Rattle.lq_run.proofs.Replayed.{in_closed, in_closing, in_front, none_in}
use Rattle.lq_run.proofs.Since.{front_of_map}
use Rattle.lq_run.proofs.Stopped.{fails}
use Rattle.lq_run.specs.Commands.{HasDatabase, IsNew, Leaves, RunsWhole, script}
use Rattle.lq_run.specs.Crashes.{BehindAll, BehindCleared, BehindOpened, BehindReleased, BehindTagged, LeftBehind, LeftInCommand}
use Rattle.lq_run.specs.Ends.{BreaksBefore, EndsAs, IsBefore, StandsBefore}
use Rattle.lq_run.specs.Stands.{IsBare, Stands, entries_of, entry_of}
use Rattle.lq_run.specs.Left.{HasClosing, LeavesCleared, LeavesOnce, LeavesOpened, LeavesReleased, LeavesTagged}
use Rattle.lq_run.specs.Steps.{Standing, place}
use Rattle.lq_run.specs.declared.runner.End.{End}
use Rattle.lq_run.specs.declared.runner.End.TheVariants as end

-- where the entries that were there are told
behind_by : (d : Dialect) (calls : List Call) (database : Database) (o p : Option (List Entry)) (more : List Entry) → p ≡ option_map (λ (entries : List Entry). entries ++ more) o → ((there : List Entry) → LeftInCommand d calls database there (there ++ more))
    → IfSome o (λ there. (left : List Entry) × (p ≡ Some left) × LeftInCommand d calls database there left)
behind_by d calls database None p more is each = tt
behind_by d calls database (Some there) p more is each = (there ++ more, is, each there)

-- a store that is as it was
pub none_left : (d : Dialect) (calls : List Call) (database : Database) (x : State) → HasDatabase d x database → LeftBehind d calls database x x
none_left d calls database x has = record { dialect = refl; limit = refl; entries = by x.entries } where
  by : (o : Option (List Entry)) → IfSome o (λ there. (left : List Entry) × (o ≡ Some left) × LeftInCommand d calls database there left)
  by None = tt
  by (Some there) = (there, refl, none_in d calls database there)

module _ (read : StatementsReadBack) (d : Dialect) (calls : List Call) (database : Database) (x y : State) (fit : calls_fit d calls (session_on database) ≡ true) where
  abbrev last : Session
  last = all_called d calls (session_on database)

  -- a front of what the calls write
  front_left : (there : List Entry) (front rest : Journal) → last.entries ≡ front ++ rest → LeftInCommand d calls database there (there ++ entries_of d front)
  front_left there front rest is = in_front read d calls database fit there (there ++ entries_of d front) front rest is refl

  -- all of it
  pub leaves_left : HasDatabase d x database → Leaves d calls database x y → LeftBehind d calls database x y
  leaves_left has leaves = record {
    dialect = leaves.database_is.dialect ∙ sym has.dialect;
    limit = leaves.limit;
    entries = behind_by d calls database x.entries y.entries (entries_of d last.entries) leaves.entries (λ there. front_left there last.entries [] (sym (append-nil last.entries)));
  }

  -- the disk failed, and a front of these entries is written
  front_behind : (written : Journal) → Fails (entries_of d written) x y → ((there : List Entry) (front rest : Journal) → written ≡ front ++ rest → LeftInCommand d calls database there (there ++ entries_of d front)) → LeftBehind d calls database x y
  front_behind written failed each =
      let parts = front_of_map (entry_of d) written failed.front failed.is_front.0 failed.is_front.1 in
      record {
        dialect = failed.dialect_is;
        limit = failed.limit_is;
        entries = behind_by d calls database x.entries y.entries (entries_of d parts.0) (failed.entries_are ∙ ap (λ es. option_map (λ (entries : List Entry). entries ++ es) x.entries) (sym parts.3)) (λ there. each there parts.0 parts.1 parts.2);
      }

  once_behind : HasDatabase d x database → (result : Result (Unit {0}) StoreFault) → LeavesOnce d calls database x result y → LeftBehind d calls database x y
  once_behind has (Ok u) leaves = leaves_left has leaves
  once_behind has (Err fault.Disk) failed = front_behind last.entries failed front_left
  once_behind has (Err (fault.Full used more)) is = subst (LeftBehind d calls database x) (sym is.0) (none_left d calls database x has)
  once_behind has (Err fault.OutOfMemory) is = subst (LeftBehind d calls database x) (sym is.0) (none_left d calls database x has)
  once_behind has (Err (fault.Busy n)) leaves = absurd leaves
  once_behind has (Err fault.NotSql) leaves = absurd leaves
  once_behind has (Err (fault.Refused reason)) leaves = absurd leaves

module _ (read : StatementsReadBack) (d : Dialect) (x y : State) (result : Result (Unit {0}) StoreFault) where
  pub opening_behind : (stamp : Stamp) → stamp.reading ≤ 253402300799999 → LeavesOpened d stamp x result y → BehindOpened d stamp x y
  opening_behind stamp moment leaves database has =
      once_behind read d (Alone (map Locks (opening stamp database)) Ordinary ∷ []) database x y (and_true _ _ (all_opening_fits d stamp database moment) refl) has result (leaves database has)

  pub tag_behind : (of : Identity) (tag : List ℕ) → LeavesTagged d of tag x result y → BehindTagged d of tag x y
  tag_behind of tag leaves database row has last_is of_is fit = once_behind read d (tag_calls tag database) database x y fit has result (leaves database row has last_is of_is fit)

  pub clear_behind : LeavesCleared d x result y → BehindCleared d x y
  clear_behind leaves database has some fit = once_behind read d (clear_calls database) database x y fit has result (leaves database has some fit)

  pub release_behind : LeavesReleased d x result y → BehindReleased d x y
  release_behind leaves database has locked fit = once_behind read d (release_calls database) database x y fit has result (leaves database has locked fit)

-- a command

module _ {Key : Type 0} (read : StatementsReadBack) (d : Dialect) (m : Meaning Key) (stamp : Stamp) (number : ℕ) (unmarked : is_mark stamp.who ≡ false) (x y : State) (database : Database) (has : HasDatabase d x database) (calls : List Call) (fit : calls_fit d calls (session_on database) ≡ true) (has_closing : HasClosing calls) where
  abbrev end_session : Session
  end_session = all_called d calls (session_on database)

  stands_behind : (s : Session) → Stands x number y s → ((there : List Entry) → LeftInCommand d calls database there (there ++ entries_of d s.entries)) → LeftBehind d calls database x y
  stands_behind s stands each = record {
    dialect = stands.dialect;
    limit = stands.limit;
    entries = behind_by d calls database x.entries y.entries (entries_of d s.entries) (subst (λ e. y.entries ≡ option_map (λ (entries : List Entry). entries ++ entries_of e s.entries) x.entries) has.dialect stands.entries) each;
  }

  -- it stands for the session after all calls
  whole_behind : Stands x number y end_session → LeftBehind d calls database x y
  whole_behind stands = stands_behind end_session stands (λ there. front_left read d calls database x y fit there end_session.entries [] (sym (append-nil end_session.entries)))

  -- or for one on the way
  stops_behind : StandsBefore d m stamp number x (session_on database) end_session y → LeftBehind d calls database x y
  stops_behind is = by is.3 where
    by : (Stands x number y is.0 ⊎ (IsBare stamp is.0.committed.lock × (is.0.begun ≡ []) × Stands x number y (called d closing is.0))) → LeftBehind d calls database x y
    by (inl stands) = stands_behind is.0 stands (λ there. front_left read d calls database x y fit there is.0.entries is.2.more is.2.entries)
    by (inr early) = stands_behind (called d closing is.0) early.2
        (λ there. in_closed read d calls database fit is.0 is.1 is.2 (ap (λ (lock : Lock). lock.locked) early.0) (ap has_mark early.0 ∙ unmarked) early.1 has_closing there (there ++ entries_of d (called d closing is.0).entries) refl)

  -- or the disk failed on it

  abbrev EachFront : Session → Type 0
  EachFront s = (there : List Entry) (front rest : Journal) → s.entries ≡ front ++ rest → LeftInCommand d calls database there (there ++ entries_of d front)

  breaks_behind : BreaksBefore d m stamp number x (session_on database) end_session y → LeftBehind d calls database x y
  breaks_behind is = front_behind read d calls database x y fit (called d is.call is.s).entries (fails d m stamp number unmarked x y database has calls has_closing is) (by is.before) where
    by : (IsBefore (called d is.call is.s) end_session ⊎ ((is.call ≡ closing) × IsBare stamp is.s.committed.lock × (is.s.begun ≡ []) × IsBefore is.s end_session)) → EachFront (called d is.call is.s)
    by (inl before) = λ there front rest parts. front_left read d calls database x y fit there front (rest ++ before.more) (before.entries ∙ ap (λ es. es ++ before.more) parts ∙ append_assoc front rest before.more)
    by (inr early) = subst (λ call. EachFront (called d call is.s)) (sym early.0)
        (λ there front rest parts. in_closing read d calls database fit is.s is.came early.3 (ap (λ (lock : Lock). lock.locked) early.1) (ap has_mark early.1 ∙ unmarked) early.2 has_closing there (there ++ entries_of d front) front rest parts refl)

  behind_as : (e : End) → EndsAs d m stamp number x (session_on database) end_session false None e y → LeftBehind d calls database x y
  behind_as end.Done ends = whole_behind ends
  behind_as (end.Refused refusal) ends = whole_behind ends
  behind_as (end.Locked lock) ends = absurd ends
  behind_as end.Disk ends = breaks_behind ends
  behind_as (end.Full used more) ends = stops_behind ends.0
  behind_as end.OutOfMemory ends = stops_behind ends.0

pub behind_all : {Key Told : Type 0} (read : StatementsReadBack) (d : Dialect) (m : Meaning Key) (stamp : Stamp) (number : ℕ) (r : Standing Key Told) → IsNew d m stamp r → (x y : State) (e : End) → RunsWhole d m stamp number r x e y → BehindAll d m stamp r x y
behind_all read d m stamp number r new x y e whole unmarked database told has known fit =
    behind_as read d m stamp number unmarked x y database has (script d m stamp (place r) database) fit (script_closes d m stamp r new database) e
    (whole x (session_on database) told (record { dialect = has.dialect; stands = stands_there d number x database has; shut = refl; known = known; fits = fit }))
