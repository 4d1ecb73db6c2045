-- What crashes leave in words of databases.
use Rattle.std.proofs.Common.{ap, inl, inr, refl, subst, sym, ◌∙◌}
use Rattle.std.proofs.lemmas.List.{append_assoc}
use Rattle.std.specs.Prelude.{List, Ok, [], false, if◌then◌else◌, map, true, ℕ, ◌++◌, ◌∷◌, ◌≡◌, ◌≤◌, ◌⊎◌}
use Rattle.lq_base.specs.declared.dialect.Dialect.{Dialect}
use Rattle.lq_base.specs.declared.identity.Identity.{Identity}
use Rattle.lq_base.specs.declared.tracking.Lock.{Lock}
use Rattle.lq_model.proofs.Lists.{and_left, and_true}
use Rattle.lq_model.specs.declared.caller.Room.{Room}
use Rattle.lq_model.specs.declared.caller.Room.TheVariants.{Ordinary, Release}
use Rattle.lq_statement.specs.Laws.{StatementsReadBack}
use Rattle.lq_store.specs.Journal.{Crashes, Entry, State}
use Rattle.lq_track.specs.Database.{Database}
use Rattle.lq_turns.specs.Schedule.{all_fit}
use Rattle.lq_turns.specs.Rest.{rest}
use Rattle.lq_turns.specs.Script.{clear_calls, clearing, closing, opening, release_calls, tag_calls, tag_of}
use Rattle.lq_turns.specs.Session.{Session, all_called, called, session_on}
use Rattle.lq_turns.specs.Set.{Meaning}
use Rattle.lq_turns.specs.Stops.{Journal, has_mark, is_mark}
use Rattle.lq_turns.specs.declared.call.Call.{Call}
use Rattle.lq_turns.specs.declared.call.Call.TheVariants.{Alone}
use Rattle.lq_turns.specs.declared.deed.Deed.{Deed}
use Rattle.lq_turns.specs.declared.deed.Deed.TheVariants.{Locks, Rows}
use Rattle.lq_turns.specs.declared.deed.OnLock.TheVariants.{Freed}
use Rattle.lq_turns.specs.declared.deed.OnRows.TheVariants.{Cleared, Tagged}
use Rattle.lq_turns.specs.declared.stamp.Stamp.{Stamp}
use Rattle.lq_beside.specs.Replays.{calls_fit}
use Rattle.lq_run.proofs.Begins.{ends_script, first_session, script_closes}
use Rattle.lq_run.proofs.Grows.{calls_grow, came_all}
use Rattle.lq_run.proofs.Left.{stands_there}
use Rattle.lq_run.proofs.Opens.{all_opening_fits}
use Rattle.lq_run.proofs.Replayed.{in_closed, in_front}
use Rattle.lq_run.proofs.Since.{leave_then, leave_wider}
use Rattle.lq_run.proofs.Whole.{is_taken}
use Rattle.lq_run.specs.Commands.{HasDatabase, IsNew, MayRun, both_on, script}
use Rattle.lq_run.specs.Crashes.{CrashesAll, CrashesCleared, CrashesLeave, CrashesOpened, CrashesReleased, CrashesTagged, LeftInCommand}
use Rattle.lq_run.specs.Crashing.{CrashesFor, CrashesOn, CrashesOpening, LeftInCall, LeftInRun}
use Rattle.lq_run.specs.Ends.{CameFrom, IsBefore, at_end}
use Rattle.lq_run.specs.Stands.{IsBare, entries_of}
use Rattle.lq_run.specs.Moves.{TakesLock}
use Rattle.lq_run.specs.Steps.{Standing, place}

-- the first of a command's calls
pub in_first : StatementsReadBack → (d : Dialect) (database : Database) (call : Call) (others : List Call) → calls_fit d (call ∷ others) (session_on database) ≡ true → (there left : List Entry) → LeftInCall d call (session_on database) there left
    → LeftInCommand d (call ∷ others) database there left
in_first read d database call others fits there left is =
    let grows = calls_grow d others (called d call (session_on database)) in
    in_front read d (call ∷ others) database fits there left is.front (is.more ++ grows.more) (grows.entries ∙ ap (λ es. es ++ grows.more) is.appends ∙ append_assoc is.front is.more grows.more) is.is

module _ (read : StatementsReadBack) (d : Dialect) (number : ℕ) (x : State) (a b : Crashes) where
  pub opened : (stamp : Stamp) → stamp.reading ≤ 253402300799999 → CrashesOpening d stamp number x a b → CrashesOpened d stamp x a b
  opened stamp moment crash database has =
      let call = Alone (map Locks (opening stamp database)) Ordinary in
      leave_wider x.entries (LeftInCall d call (session_on database)) (LeftInCommand d (call ∷ []) database) a b (in_first read d database call [] (and_true _ _ (all_opening_fits d stamp database moment) refl))
      (crash x (session_on database) has.dialect (stands_there d number x database has))

  -- of a call that stands alone
  once : (deeds : List Deed) (room : Room) (database : Database) → HasDatabase d x database → calls_fit d (Alone deeds room ∷ []) (session_on database) ≡ true → CrashesFor d number (Alone deeds room) x a b
      → CrashesLeave x.entries (LeftInCommand d (Alone deeds room ∷ []) database) a b
  once deeds room database has fits crash =
      leave_wider x.entries (LeftInCall d (Alone deeds room) (session_on database)) (LeftInCommand d (Alone deeds room ∷ []) database) a b (in_first read d database (Alone deeds room) [] fits)
      (crash x (session_on database) has.dialect (stands_there d number x database has) (and_left (all_fit d deeds database) true fits))

  pub tagged : (of : Identity) (tag : List ℕ) → CrashesFor d number (Alone (Rows (Tagged of tag) ∷ []) Ordinary) x a b → CrashesTagged d of tag x a b
  tagged of tag crash database row has last is fits =
      let same : tag_calls tag database ≡ Alone (Rows (Tagged of tag) ∷ []) Ordinary ∷ [] = ap (tag_of tag) last ∙ ap (λ i. Alone (Rows (Tagged i tag) ∷ []) Ordinary ∷ []) is in
      subst (λ calls. CrashesLeave x.entries (LeftInCommand d calls database) a b) (sym same)
      (once (Rows (Tagged of tag) ∷ []) Ordinary database has (subst (λ calls. calls_fit d calls (session_on database) ≡ true) same fits) crash)

  pub cleared : CrashesFor d number clearing x a b → CrashesCleared d x a b
  cleared crash database has some fits =
      let same : clear_calls database ≡ clearing ∷ [] = ap (λ b. if b then [] else clearing ∷ []) some in
      subst (λ calls. CrashesLeave x.entries (LeftInCommand d calls database) a b) (sym same)
      (once (Rows Cleared ∷ []) Ordinary database has (subst (λ calls. calls_fit d calls (session_on database) ≡ true) same fits) crash)

  pub released : CrashesFor d number closing x a b → CrashesReleased d x a b
  released crash database has locked fits =
      let same : release_calls database ≡ closing ∷ [] = ap (λ b. if b then closing ∷ [] else []) locked in
      subst (λ calls. CrashesLeave x.entries (LeftInCommand d calls database) a b) (sym same)
      (once (Locks Freed ∷ []) Release database has (subst (λ calls. calls_fit d calls (session_on database) ≡ true) same fits) crash)

-- a command's

module _ {Key Told : Type 0} (read : StatementsReadBack) (d : Dialect) (m : Meaning Key) (stamp : Stamp) (number : ℕ) (r : Standing Key Told) (x : State) (a b : Crashes) (crash : CrashesOpening d stamp number x a b) where
  -- the call that takes the lock is the first
  first_of : (database : Database) → HasDatabase d x database → calls_fit d (script d m stamp (place r) database) (session_on database) ≡ true → CrashesLeave x.entries (LeftInCommand d (script d m stamp (place r) database) database) a b
  first_of database has fits =
      let call = Alone (map Locks (opening stamp database)) Ordinary in
      leave_wider x.entries (LeftInCall d call (session_on database)) (LeftInCommand d (script d m stamp (place r) database) database) a b (in_first read d database call (rest d m stamp (place r) (both_on database)) fits)
      (crash x (session_on database) has.dialect (stands_there d number x database has))

  pub not_begun : CrashesAll d m stamp r x a b
  not_begun unmarked database told has known fits = first_of database has fits

  module _ (new : IsNew d m stamp r) (y : State) (c : Crashes) (takes : TakesLock d stamp number x (Ok tt) y) (runs : CrashesOn d m stamp number r y b c) where
    module _ (unmarked : is_mark stamp.who ≡ false) (database : Database) (fits : calls_fit d (script d m stamp (place r) database) (session_on database) ≡ true) where
      abbrev calls : List Call
      calls = script d m stamp (place r) database

      abbrev first : Session
      first = first_session d m stamp number database []

      abbrev last : Session
      last = at_end d m stamp number (place r) first

      last_is : last ≡ all_called d calls (session_on database)
      last_is = ends_script d m stamp number database [] (place r)

      in_run : (there left : List Entry) → LeftInRun d stamp first last there left → LeftInCommand d calls database there left
      in_run there left is = by is.by where
        by : ((more : Journal) × (last.entries ≡ is.written ++ more)) ⊎ ((s : Session) × CameFrom d first s × IsBefore s last × IsBare stamp s.committed.lock × (s.begun ≡ []) × (is.written ≡ (called d closing s).entries)) → LeftInCommand d calls database there left
        by (inl front) = in_front read d calls database fits there left is.written front.0 (sym (ap (λ (s : Session). s.entries) last_is) ∙ front.1) is.is
        by (inr freed) =
            let came = came_all d (session_on database) first freed.0 (record { calls = Alone (map Locks (opening stamp database)) Ordinary ∷ []; is = refl }) freed.1 in
            in_closed read d calls database fits freed.0 came (subst (IsBefore freed.0) last_is freed.2) (ap (λ (lock : Lock). lock.locked) freed.3) (ap has_mark freed.3 ∙ unmarked) freed.4 (script_closes d m stamp r new database) there left
            (is.is ∙ ap (λ es. there ++ entries_of d es) freed.5)

    pub begun : CrashesAll d m stamp r x a c
    begun unmarked database told has known fits =
        let may : MayRun d m stamp number r x x (session_on database) told = record { dialect = has.dialect; stands = stands_there d number x database has; shut = refl; known = known; fits = fits } in
        let first = first_session d m stamp number database [] in
        let calls = script d m stamp (place r) database in
        leave_then x.entries (LeftInCommand d calls database) a b c (first_of database has fits)
        (leave_wider x.entries (LeftInRun d stamp first (at_end d m stamp number (place r) first)) (LeftInCommand d calls database) b c (in_run unmarked database fits)
        (runs x first told (is_taken d m stamp number r x x y (session_on database) told may new takes)))
