-- What a repair leaves behind in words of databases.
use Rattle.std.proofs.Common.{ap, inl, inr, refl, subst, sym, ◌∙◌}
use Rattle.std.proofs.lemmas.List.{append_assoc, map-append}
use Rattle.std.specs.Option.{option_map}
use Rattle.std.specs.Prelude.{IfSome, List, None, Ok, Option, Some, [], false, true, ℕ, ◌++◌, ◌∷◌, ◌≡◌, ◌⊎◌}
use Rattle.lq_base.specs.declared.dialect.Dialect.{Dialect}
use Rattle.lq_beside.specs.Replays.{calls_fit}
use Rattle.lq_drill.specs.Faults.{has_bar}
use Rattle.lq_model.specs.declared.caller.Room.TheVariants.{Ordinary}
use Rattle.lq_run.proofs.Behind.{leaves_left}
use Rattle.lq_run.proofs.Left.{leads, leaves_so, rests_at}
use Rattle.lq_run.proofs.Replayed.{in_front}
use Rattle.lq_run.proofs.Since.{front_of_map, leave_wider}
use Rattle.lq_run.specs.Commands.{HasDatabase, LeavesAs}
use Rattle.lq_run.specs.Crashes.{LeftBehind, LeftInCommand}
use Rattle.lq_run.specs.Left.{IsFullIn, LeavesLock, RestsIn}
use Rattle.lq_run.specs.Stands.{entries_of, entry_of}
use Rattle.lq_run.specs.declared.runner.End.{End}
use Rattle.lq_run.specs.declared.runner.End.TheVariants as end
use Rattle.lq_statement.specs.Laws.{StatementsReadBack}
use Rattle.lq_store.specs.Journal.{Crashes, CrashesLeave, Entry, end_of, is_full, State}
use Rattle.lq_track.specs.Database.{Database}
use Rattle.lq_turns.proofs.Growing.{fronts_are_left}
use Rattle.lq_turns.proofs.Made.{calls_both}
use Rattle.lq_turns.specs.Session.{Session, all_called, called, room_of, session_on}
use Rattle.lq_turns.specs.Deed.{all_done}
use Rattle.lq_turns.specs.Stops.{Journal, joined}
use Rattle.lq_turns.specs.declared.call.Call.{Call}
use Rattle.lq_turns.specs.declared.deed.Deed.{Deed}
use Rattle.lq_turns.specs.declared.deed.Deed.TheVariants.{Locks}
use Rattle.lq_turns.specs.declared.deed.OnLock.TheVariants.{Freed}
use Rattle.lq_mending.specs.Comes.{LeftOf}
use Rattle.lq_mending.specs.Mends.{Broke, EndsAt, TellsFull, WasFull, Waits}

-- where the entries that were there are told
told_behind : (d : Dialect) (calls : List Call) (database : Database) (o p : Option (List Entry)) (more : List Entry) → p ≡ option_map (λ (entries : List Entry). entries ++ more) o
    → ((there : List Entry) → LeftInCommand d calls database there (there ++ more)) → IfSome o (λ there. (left : List Entry) × (p ≡ Some left) × LeftInCommand d calls database there left)
told_behind d calls database None p more is each = tt
told_behind d calls database (Some there) p more is each = (there ++ more, is, each there)

added_twice : (o : Option (List Entry)) (a b : List Entry) → option_map (λ (entries : List Entry). entries ++ b) (option_map (λ (entries : List Entry). entries ++ a) o) ≡ option_map (λ (entries : List Entry). entries ++ (a ++ b)) o
added_twice None a b = refl
added_twice (Some entries) a b = ap Some (append_assoc entries a b)

not_full : false ≡ true → ⊥
not_full h = Prim.cc

regrouped : (a b c e : Journal) → (a ++ (b ++ c)) ++ e ≡ (a ++ b) ++ (c ++ e)
regrouped a b c e = ap (λ z. z ++ e) (sym (append_assoc a b c)) ∙ append_assoc (a ++ b) c e

module _ (read : StatementsReadBack) (d : Dialect) (number : ℕ) (x y : State) (database : Database) (has : HasDatabase d x database) (calls : List Call) (fit : calls_fit d calls (session_on database) ≡ true) where
  abbrev last : Session
  last = all_called d calls (session_on database)

  front_left : (there : List Entry) (front rest : Journal) → last.entries ≡ front ++ rest → LeftInCommand d calls database there (there ++ entries_of d front)
  front_left there front rest is = in_front read d calls database fit there (there ++ entries_of d front) front rest is refl

  waits_behind : Waits d number x (session_on database) last y → LeftBehind d calls database x y
  waits_behind it = record {
    dialect = it.stands.dialect;
    limit = it.stands.limit;
    entries = told_behind d calls database x.entries y.entries (entries_of d it.session.entries)
        (subst (λ e. y.entries ≡ option_map (λ (entries : List Entry). entries ++ entries_of e it.session.entries) x.entries) has.dialect it.stands.entries)
        (λ there. front_left there it.session.entries it.before.more it.before.entries);
  }

  broke_behind : Broke d number x (session_on database) last y → LeftBehind d calls database x y
  broke_behind it =
      let f = it.breaks.fails in
      let app = it.breaks.appends in
      let parts = front_of_map (entry_of d) app.more f.front f.is_front.0 (sym app.texts ∙ f.is_front.1) in
      let here = entries_of d it.session.entries in
      let was = subst (λ e. it.x.entries ≡ option_map (λ (entries : List Entry). entries ++ entries_of e it.session.entries) x.entries) has.dialect it.stands.entries in
      let written = it.session.entries ++ parts.0 in
      let texts : here ++ f.front ≡ entries_of d written = ap (λ z. here ++ z) (sym parts.3) ∙ sym (map-append (entry_of d) it.session.entries parts.0) in
      record {
        dialect = f.dialect_is ∙ it.stands.dialect;
        limit = f.limit_is ∙ it.stands.limit;
        entries = told_behind d calls database x.entries y.entries (entries_of d written)
            (f.entries_are ∙ ap (option_map (λ (entries : List Entry). entries ++ f.front)) was ∙ added_twice x.entries here f.front ∙ ap (λ z. option_map (λ (entries : List Entry). entries ++ z) x.entries) texts)
            (λ there. front_left there written (parts.1 ++ it.before.more)
            (it.before.entries ∙ ap (λ es. es ++ it.before.more) (app.entries ∙ ap (λ z. it.session.entries ++ z) parts.2) ∙ regrouped it.session.entries parts.0 parts.1 it.before.more));
      }

  pub leaves : (e : End) → EndsAt d number x (session_on database) last e y → LeavesAs d calls database x e y
  leaves end.Done ends = leaves_so d number x database has calls y ends.1 ends.0
  leaves (end.Refused refusal) ends = leaves_so d number x database has calls y ends.1 ends.0
  leaves (end.Locked lock) ends = absurd ends
  leaves end.Disk ends = tt
  leaves (end.Full used next) ends = tt
  leaves end.OutOfMemory ends = tt

  pub behind : (e : End) → EndsAt d number x (session_on database) last e y → LeftBehind d calls database x y
  behind end.Done ends = leaves_left read d calls database x y fit has (leaves_so d number x database has calls y ends.1 ends.0)
  behind (end.Refused refusal) ends = leaves_left read d calls database x y fit has (leaves_so d number x database has calls y ends.1 ends.0)
  behind (end.Locked lock) ends = absurd ends
  behind end.Disk ends = broke_behind ends
  behind (end.Full used next) ends = waits_behind ends.0
  behind end.OutOfMemory ends = waits_behind ends

  full_in : (used next : ℕ) (it : WasFull d number x (session_on database) last used next) → (full : IsFullIn d calls database x used next) × (full.written ≡ it.session.entries) × (full.more ≡ it.more)
  full_in used next it = (
    record {
      written = it.session.entries;
      more = it.more;
      stops = fronts_are_left d calls database [] it.session.entries (it.more ++ it.before.more) (it.before.entries ∙ ap (λ es. es ++ it.before.more) it.appends ∙ append_assoc it.session.entries it.more it.before.more);
      comes = fronts_are_left d calls database [] (it.session.entries ++ it.more) it.before.more (it.before.entries ∙ ap (λ es. es ++ it.before.more) it.appends);
      made = it.came.calls;
      call = it.call;
      wrote = ap (λ (s : Session). s.entries) (sym it.came.is);
      appends = ap (λ (s : Session). (called d it.call s).entries) (sym it.came.is) ∙ it.appends;
      next_call = inl (it.others, calls_both d it.came.calls (it.call ∷ it.others) (session_on database) ∙ ap (all_called d (it.call ∷ it.others)) (sym it.came.is) ∙ it.goes_on);
      used_is = it.used_is;
      next_is = it.next_is;
      room = room_of it.call;
      in_room = refl;
      which = it.which;
      full = it.full;
    },
    refl,
    refl,
  )

  -- how the lock rests then, where it has a mark after each front of the entries but all of them
  module _ (marked : (now : Database) (front : Journal) (deeds : List Deed) (more : Journal) → last.entries ≡ front ++ deeds ∷ more → all_done d (joined front) database ≡ Ok now → has_bar now.lock ≡ true) where
    rests_in : (used next : ℕ) → EndsAt d number x (session_on database) last (end.Full used next) y → RestsIn d calls database x y used next
    rests_in used next (waits, was, same) =
        let full = full_in used next was in
        rests_at d number x database has calls y waits.session waits.came (fronts_are_left d calls database [] waits.session.entries waits.before.more waits.before.entries) (inl (waits.before.more, waits.before.entries)) waits.stands waits.shut used next full.0
        (inl (same ∙ sym full.1)) (by was.which (was.more) refl) where
          led : all_done d (joined waits.session.entries) database ≡ Ok waits.session.committed
          led = (leads d database waits.session waits.came).committed

          by : ((room_of was.call ≡ Ordinary) ⊎ (was.more ≡ (Locks Freed ∷ []) ∷ [])) → (more : Journal) → was.more ≡ more → LeavesLock waits.session.committed.lock (full_in used next was).0.more waits.session.entries
          by (inr closes) more is = inr (inl ((full_in used next was).2 ∙ closes))
          by (inl ordinary) [] is = absurd (not_full (sym (ap (λ es. is_full (end_of (room_of was.call) x.limit) used (entries_of d es)) is) ∙ was.full))
          by (inl ordinary) (deeds ∷ more) is =
              inl (inr (marked waits.session.committed waits.session.entries deeds (more ++ was.before.more)
              (was.before.entries ∙ ap (λ es. es ++ was.before.more) (was.appends ∙ ap (λ es. was.session.entries ++ es) is) ∙ append_assoc was.session.entries (deeds ∷ more) was.before.more
              ∙ ap (λ es. es ++ ((deeds ∷ more) ++ was.before.more)) (sym same)) led))

    pub full : (e : End) → EndsAt d number x (session_on database) last e y → TellsFull d calls database x e y
    full end.Done ends = tt
    full (end.Refused refusal) ends = tt
    full (end.Locked lock) ends = tt
    full end.Disk ends = tt
    full (end.Full used next) ends = rests_in used next ends
    full end.OutOfMemory ends = tt

  pub moments : (a b : Crashes) → CrashesLeave x.entries (LeftOf d last) a b → CrashesLeave x.entries (LeftInCommand d calls database) a b
  moments a b crash = leave_wider x.entries (LeftOf d last) (LeftInCommand d calls database) a b
      (λ there left it. in_front read d calls database fit there left it.written it.more it.entries it.is) crash
