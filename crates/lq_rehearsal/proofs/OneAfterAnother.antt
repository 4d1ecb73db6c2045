-- What calls leave that are made where others have left a database, and what a stop of both may leave.
use Rattle.std.proofs.Common.{ap, inl, inr, refl, subst, sym, ◌∙◌}
use Rattle.std.proofs.lemmas.List.{append-nil, append_assoc, map-append}
use Rattle.std.specs.Option.{option_map}
use Rattle.std.specs.Prelude.{Err, IfSome, List, None, Ok, Option, Result, Some, [], false, true, ℕ, ◌+◌, ◌++◌, ◌∷◌, ◌≡◌, ◌⊎◌}
use Rattle.lq_base.specs.declared.dialect.Dialect.{Dialect}
use Rattle.lq_base.specs.declared.reason.Reason.{Reason}
use Rattle.lq_run.proofs.Rooms.{sizes}
use Rattle.lq_run.proofs.Since.{leave_then, leave_wider}
use Rattle.lq_run.specs.Commands.{HasDatabase, Leaves}
use Rattle.lq_run.specs.Crashes.{LeftBehind, LeftInCommand}
use Rattle.lq_run.specs.Left.{IsAtMostFreed, LeavesLock, RestsIn}
use Rattle.lq_run.specs.Stands.{entries_of, entry_of}
use Rattle.lq_store.specs.Journal.{Crashes, CrashesLeave, Entry, database as run_to, size_of_all, IsStore, State}
use Rattle.lq_tell.specs.declared.done.Done.{Done}
use Rattle.lq_tell.specs.declared.status.Status.{Status}
use Rattle.lq_track.specs.Database.{Database}
use Rattle.lq_track.specs.Lock.{free}
use Rattle.lq_turns.proofs.Growing.{fronts_are_left}
use Rattle.lq_turns.proofs.Journal.{done_both, joined_both, journal_leads, next}
use Rattle.lq_turns.proofs.Made.{calls_both}
use Rattle.lq_turns.specs.Deed.{all_done}
use Rattle.lq_turns.specs.Session.{Session, all_called, left_by, session_on}
use Rattle.lq_turns.specs.Stops.{Journal, joined}
use Rattle.lq_turns.specs.declared.call.Call.{Call}
use Rattle.lq_turns.specs.declared.deed.Deed.TheVariants.{Locks}
use Rattle.lq_turns.specs.declared.deed.OnLock.TheVariants.{Freed}
use Rattle.lq_commands.proofs.Sequenced.{IsOver, behind, both_entries, both_room, calls_behind, closes_first, closes_then, full_first, full_then, left_first, left_then}
use Rattle.lq_commands.specs.Works.{CrashesIn, Works, is_finished}

not_true : false ≡ true → ⊥
not_true h = Prim.cc

same_ok : {a b : Database} → (let r : Result Database Reason = Ok a in r) ≡ Ok b → a ≡ b
same_ok h = Prim.cc

-- what calls leave is one of the things that a stop of them may leave
module _ (d : Dialect) (calls : List Call) (database : Database) (x y : State) (leaves : Leaves d calls database x y) (store : IsStore y) where
  abbrev wrote : Journal
  wrote = (all_called d calls (session_on database)).entries

  pub now_are : (there : List Entry) → x.entries ≡ Some there → y.entries ≡ Some (there ++ entries_of d wrote)
  now_are there is = leaves.entries ∙ ap (option_map (λ (entries : List Entry). entries ++ entries_of d wrote)) is

  -- the journal leads to what is committed
  pub leads : (there : List Entry) → x.entries ≡ Some there → run_to d (there ++ entries_of d wrote) ≡ Some y.committed
  leads there is =
      subst (λ (e : Dialect). run_to e (there ++ entries_of d wrote) ≡ Some y.committed) leaves.database_is.dialect
      (subst (λ (o : Option (List Entry)). IfSome o (λ es. run_to y.dialect es ≡ Some y.committed)) (now_are there is) store.is_journal)

  pub whole_left : HasDatabase d x database → LeftBehind d calls database x y
  whole_left has = record { dialect = leaves.database_is.dialect ∙ sym has.dialect; limit = leaves.limit; entries = by x.entries refl } where
    by : (o : Option (List Entry)) → x.entries ≡ o → IfSome o (λ there. (left : List Entry) × (y.entries ≡ Some left) × LeftInCommand d calls database there left)
    by None is = tt
    by (Some there) is = (
      there ++ entries_of d wrote,
      now_are there is,
      record {
        written = wrote;
        stops = fronts_are_left d calls database [] wrote [] (sym (append-nil wrote));
        closes = inl ([], sym (append-nil wrote));
        is = refl;
        now = left_by d calls database;
        led = journal_leads d calls database;
        replays = λ c ran stands. (y.committed, leads there is, leaves.database_is.committed);
      },
    )

module _ (d : Dialect) (calls others : List Call) (database : Database) (over : IsOver d calls database) where
  abbrev between : Database
  between = left_by d calls database

  abbrev first_wrote : Journal
  first_wrote = (all_called d calls (session_on database)).entries

  abbrev then_wrote : Journal
  then_wrote = (all_called d others (session_on between)).entries

  -- a stop of the first

  in_first : (there left : List Entry) → LeftInCommand d calls database there left → LeftInCommand d (calls ++ others) database there left
  in_first there left it = record { written = it.written; stops = left_first d calls others database over it.written it.stops; closes = closes_first d calls others database over it.written it.closes; is = it.is; now = it.now; led = it.led; replays = it.replays }

  pub behind_first : (x y : State) → LeftBehind d calls database x y → LeftBehind d (calls ++ others) database x y
  behind_first x y left = record { dialect = left.dialect; limit = left.limit; entries = by x.entries left.entries } where
    by : (o : Option (List Entry)) → IfSome o (λ there. (left : List Entry) × (y.entries ≡ Some left) × LeftInCommand d calls database there left)
        → IfSome o (λ there. (left : List Entry) × (y.entries ≡ Some left) × LeftInCommand d (calls ++ others) database there left)
    by None it = tt
    by (Some there) it = (it.0, it.1, in_first there it.0 it.2)

  pub crash_first : (x : State) (before now : Crashes) → CrashesIn d calls database x before now → CrashesIn d (calls ++ others) database x before now
  crash_first x before now crash = leave_wider x.entries (LeftInCommand d calls database) (LeftInCommand d (calls ++ others) database) before now in_first crash

  -- how the lock rests then
  rests_first : (x y : State) (used next : ℕ) → RestsIn d calls database x y used next → RestsIn d (calls ++ others) database x y used next
  rests_first x y used next it =
      let stops = it.stops in
      let full = full_first d calls others database over x used next it.full in
      record {
        stops = record {
          written = stops.written;
          left = left_first d calls others database over stops.written stops.left;
          closes = closes_first d calls others database over stops.written stops.closes;
          now = stops.now;
          led = stops.led;
          database_is = stops.database_is;
          limit = stops.limit;
          entries = stops.entries;
          used = stops.used;
        };
        full = full.0;
        behind = subst (λ w. IsAtMostFreed w stops.written) (sym full.1) it.behind;
        shut = it.shut;
        lock = subst (λ m. LeavesLock stops.now.lock m stops.written) (sym full.2) it.lock;
      }

  pub unfinished_first : (x y : State) (done : Done) → is_finished done.status ≡ false → Works d calls database x (Ok done) y → Works d (calls ++ others) database x (Ok done) y
  unfinished_first x y done unfinished works =
      (λ finished. absurd (not_true (sym unfinished ∙ finished)), λ stopped. behind_first x y (works.1 stopped), λ used next is. rests_first x y used next (works.2 used next is))

  -- and one of the others

  module _ (x y : State) (has : HasDatabase d x database) (leaves : Leaves d calls database x y) (store : IsStore y) where
    led_then : (written : Journal) (now : Database) → all_done d (joined written) between ≡ Ok now → all_done d (joined (first_wrote ++ written)) database ≡ Ok now
    led_then written now led = ap (λ deeds. all_done d deeds database) (joined_both first_wrote written) ∙ done_both d (joined first_wrote) (joined written) database ∙ ap (next d (joined written)) (journal_leads d calls database) ∙ led

    in_then : (there left : List Entry) → x.entries ≡ Some there → LeftInCommand d others between (there ++ entries_of d first_wrote) left → LeftInCommand d (calls ++ others) database there left
    in_then there left is it = record {
      written = first_wrote ++ it.written;
      stops = left_then d calls others database over it.written it.stops;
      closes = closes_then d calls others database over it.written it.closes;
      is = it.is ∙ append_assoc there (entries_of d first_wrote) (entries_of d it.written) ∙ ap (λ (es : List Entry). there ++ es) (sym (map-append (entry_of d) first_wrote it.written));
      now = it.now;
      led = led_then it.written it.now it.led;
      replays = λ c ran stands. it.replays y.committed (leads d calls database x y leaves store there is) leaves.database_is.committed;
    }

    pub behind_then : (z : State) → LeftBehind d others between y z → LeftBehind d (calls ++ others) database x z
    behind_then z left = record { dialect = left.dialect ∙ leaves.database_is.dialect ∙ sym has.dialect; limit = left.limit ∙ leaves.limit; entries = by x.entries refl } where
      by : (o : Option (List Entry)) → x.entries ≡ o → IfSome o (λ there. (left : List Entry) × (z.entries ≡ Some left) × LeftInCommand d (calls ++ others) database there left)
      by None is = tt
      by (Some there) is =
          let it = subst (λ (p : Option (List Entry)). IfSome p (λ t. (l : List Entry) × (z.entries ≡ Some l) × LeftInCommand d others between t l)) (now_are d calls database x y leaves store there is) left.entries in
          (it.0, it.1, in_then there it.0 is it.2)

    pub crash_then : (before mid now : Crashes) → CrashesIn d calls database x before mid → CrashesIn d others between y mid now → CrashesIn d (calls ++ others) database x before now
    crash_then before mid now first second = by x.entries refl (crash_first x before mid first) where
      by : (o : Option (List Entry)) → x.entries ≡ o → CrashesLeave o (LeftInCommand d (calls ++ others) database) before mid → CrashesLeave o (LeftInCommand d (calls ++ others) database) before now
      by None is so_far = tt
      by (Some there) is so_far =
          let next = subst (λ (p : Option (List Entry)). CrashesLeave p (LeftInCommand d others between) mid now) (now_are d calls database x y leaves store there is) second in
          leave_then (Some there) (LeftInCommand d (calls ++ others) database) before mid now so_far
          (leave_wider (Some there) (λ t left. LeftInCommand d others between (there ++ entries_of d first_wrote) left) (λ t left. LeftInCommand d (calls ++ others) database there left) mid now (λ t left it. in_then there left is it) next)

    all_are : all_called d (calls ++ others) (session_on database) ≡ behind first_wrote (all_called d others (session_on between))
    all_are = calls_both d calls others (session_on database) ∙ ap (all_called d others) over.0 ∙ calls_behind d first_wrote others (session_on between)

    twice : (o : Option (List Entry)) (a b : List Entry) → option_map (λ (es : List Entry). es ++ b) (option_map (λ (es : List Entry). es ++ a) o) ≡ option_map (λ (es : List Entry). es ++ (a ++ b)) o
    twice None a b = refl
    twice (Some es) a b = ap Some (append_assoc es a b)

    texts_are : entries_of d first_wrote ++ entries_of d then_wrote ≡ entries_of d (all_called d (calls ++ others) (session_on database)).entries
    texts_are = sym (map-append (entry_of d) first_wrote then_wrote) ∙ ap (λ (es : Journal). entries_of d es) (sym (both_entries d calls others database over))

    pub leaves_both : (z : State) → Leaves d others between y z → Leaves d (calls ++ others) database x z
    leaves_both z more = record {
      database_is = subst (HasDatabase d z) (sym (ap (λ (s : Session). s.committed) all_are)) more.database_is;
      limit = more.limit ∙ leaves.limit;
      entries = more.entries ∙ ap (option_map (λ (es : List Entry). es ++ entries_of d then_wrote)) leaves.entries ∙ twice x.entries (entries_of d first_wrote) (entries_of d then_wrote)
          ∙ ap (λ (more : List Entry). option_map (λ (es : List Entry). es ++ more) x.entries) texts_are;
      used = more.used ∙ ap (λ (u : ℕ). u + size_of_all (entries_of d then_wrote)) leaves.used ∙ sizes x.used (entries_of d first_wrote) (entries_of d then_wrote) ∙ ap (λ (es : List Entry). x.used + size_of_all es) texts_are;
      room = both_room d calls others database over x y leaves more.room;
    }

    -- the lock was left free, or nothing is written
    rests_then : (z : State) (used next : ℕ) → RestsIn d others between y z used next → RestsIn d (calls ++ others) database x z used next
    rests_then z used next it =
        let stops = it.stops in
        let full = full_then d calls others database over x y leaves used next it.full in
        record {
          stops = record {
            written = first_wrote ++ stops.written;
            left = left_then d calls others database over stops.written stops.left;
            closes = closes_then d calls others database over stops.written stops.closes;
            now = stops.now;
            led = led_then stops.written stops.now stops.led;
            database_is = stops.database_is;
            limit = stops.limit ∙ leaves.limit;
            entries = stops.entries ∙ ap (option_map (λ (es : List Entry). es ++ entries_of d stops.written)) leaves.entries ∙ twice x.entries (entries_of d first_wrote) (entries_of d stops.written)
                ∙ ap (λ (more : List Entry). option_map (λ (es : List Entry). es ++ more) x.entries) (sym (map-append (entry_of d) first_wrote stops.written));
            used = stops.used ∙ ap (λ (u : ℕ). u + size_of_all (entries_of d stops.written)) leaves.used ∙ sizes x.used (entries_of d first_wrote) (entries_of d stops.written)
                ∙ ap (λ (es : List Entry). x.used + size_of_all es) (sym (map-append (entry_of d) first_wrote stops.written));
          };
          full = full.0;
          behind = subst (λ w. IsAtMostFreed w (first_wrote ++ stops.written)) (sym full.1) (behind_so it.full.written stops.written it.behind);
          shut = it.shut;
          lock = subst (λ m. LeavesLock stops.now.lock m (first_wrote ++ stops.written)) (sym full.2) (lock_so it.lock);
        }
      where
        behind_so : (was is : Journal) → IsAtMostFreed was is → IsAtMostFreed (first_wrote ++ was) (first_wrote ++ is)
        behind_so was is (inl same) = inl (ap (λ (es : Journal). first_wrote ++ es) same)
        behind_so was is (inr closed) = inr (ap (λ (es : Journal). first_wrote ++ es) closed ∙ sym (append_assoc first_wrote was ((Locks Freed ∷ []) ∷ [])))

        none_written : it.stops.written ≡ [] → (((left_by d calls database).lock ≡ free) ⊎ (calls ≡ [])) → LeavesLock it.stops.now.lock it.full.more (first_wrote ++ it.stops.written)
        none_written none (inl unlocked) =
            let stays : between ≡ it.stops.now = same_ok (subst (λ (es : Journal). all_done d (joined es) between ≡ Ok it.stops.now) none it.stops.led) in
            inl (inl (ap (λ (now : Database). now.lock) (sym stays) ∙ unlocked))
        none_written none (inr empty) = inr (inr (ap (λ (cs : List Call). (all_called d cs (session_on database)).entries ++ it.stops.written) empty ∙ none))

        lock_so : LeavesLock it.stops.now.lock it.full.more it.stops.written → LeavesLock it.stops.now.lock it.full.more (first_wrote ++ it.stops.written)
        lock_so (inl let_go) = inl let_go
        lock_so (inr (inl closes)) = inr (inl closes)
        lock_so (inr (inr none)) = none_written none over.1

    pub works_then : (z : State) (r : Result Done Status) → Works d others between y r z → Works d (calls ++ others) database x r z
    works_then z (Ok done) works = (λ finished. leaves_both z (works.0 finished), λ stopped. behind_then z (works.1 stopped), λ used next is. rests_then z used next (works.2 used next is))
    works_then z (Err s) left = behind_then z left
