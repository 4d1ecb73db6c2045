-- How full a full journal was.
use Rattle.std.proofs.Common.{ap, inl, inr, refl, rules, subst, sym, ◌∙◌}
use Rattle.std.proofs.lemmas.List.{append-nil}
use Rattle.std.specs.Prelude.{List, Ok, [], true, ℕ, ◌+◌, ◌∷◌, ◌≡◌, ◌⊎◌}
use Rattle.lq_base.specs.declared.dialect.Dialect.{Dialect}
use Rattle.lq_model.specs.declared.caller.Room.{Room}
use Rattle.lq_model.specs.declared.caller.Room.TheVariants.{Ordinary}
use Rattle.lq_store.specs.Journal.{Entry, end_of, is_full, size_of_all, State}
use Rattle.lq_track.specs.Database.{Database}
use Rattle.lq_turns.proofs.Journal.{calls_lead}
use Rattle.lq_turns.specs.Deed.{all_done}
use Rattle.lq_turns.specs.Script.{closing}
use Rattle.lq_turns.specs.Session.{Session, called, room_of, session_on}
use Rattle.lq_turns.specs.Set.{Meaning}
use Rattle.lq_turns.specs.Stops.{Journal, joined}
use Rattle.lq_turns.specs.declared.call.Call.{Call}
use Rattle.lq_turns.specs.declared.deed.Deed.TheVariants.{Locks}
use Rattle.lq_turns.specs.declared.deed.OnLock.TheVariants.{Freed}
use Rattle.lq_turns.specs.declared.stamp.Stamp.{Stamp}
use Rattle.lq_run.specs.Does.{HasNoRoom}
use Rattle.lq_run.specs.Ends.{CameFrom, GoesOnBy, IsFullBefore, IsToCome}
use Rattle.lq_run.specs.Left.{IsFullIn}
use Rattle.lq_run.specs.Stands.{Stands, entries_of}

-- told by what was in use, and by the entries' texts
full_by : (room : Room) (limit used in_use : ℕ) (written entries : List Entry) → used ≡ in_use → written ≡ entries → is_full (end_of room limit) in_use written ≡ true → is_full (end_of room limit) used entries ≡ true
full_by room limit used in_use written entries used_is texts full = ap (λ u. is_full (end_of room limit) u entries) used_is ∙ ap (is_full (end_of room limit) in_use) (sym texts) ∙ full

none_written : (n : ℕ) → n ≡ n + 0
none_written n = Prim.search rules

module _ {Key : Type 0} (d : Dialect) (m : Meaning Key) (stamp : Stamp) (number : ℕ) (start : State) (first last s : Session) (x : State) (stands : Stands start number x s) (same_dialect : start.dialect ≡ d) (came : CameFrom d first s) where
  -- of a call to come that had no room there
  pub full_before : (call : Call) (room : Room) (used next : ℕ) → room_of call ≡ room → ((room_of call ≡ Ordinary) ⊎ ((call ≡ closing) × (s.begun ≡ []))) → IsToCome d m stamp number start first last call s → GoesOnBy d m stamp number start first last call s → HasNoRoom start.dialect room call s x used next
      → (full : IsFullBefore d m stamp number start first last used next) × (full.s ≡ s) × (full.call ≡ call)
  full_before call room used next by which before goes_on none =
      let it : HasNoRoom d room call s x used next = subst (λ e. HasNoRoom e room call s x used next) same_dialect none in
      let limit : x.limit ≡ start.limit = stands.limit in (
        record {
          s = s;
          came = came;
          call = call;
          before = before;
          next_call = goes_on;
          which = which;
          used_is = it.full.1.0 ∙ subst (λ e. x.used ≡ start.used + size_of_all (entries_of e s.entries)) same_dialect stands.used;
          more = it.appends.more;
          appends = it.appends.entries;
          next_is = it.full.1.1 ∙ ap size_of_all it.appends.texts;
          full = ap (λ r. is_full (end_of r start.limit) used (entries_of d it.appends.more)) by ∙ ap (λ l. is_full (end_of room l) used (entries_of d it.appends.more)) (sym limit)
              ∙ full_by room x.limit used x.used it.written (entries_of d it.appends.more) it.full.1.0 it.appends.texts it.full.0;
        },
        refl,
        refl,
      )

module _ (d : Dialect) (database : Database) (x : State) (call : Call) (room : Room) (used next : ℕ) (none : HasNoRoom d room call (session_on database) x used next) where
  abbrev after : Session
  after = called d call (session_on database)

  abbrev more : Journal
  more = none.appends.more

  appends : after.entries ≡ more
  appends = none.appends.entries

  led : all_done d (joined more) database ≡ Ok after.committed
  led = subst (λ entries. all_done d (joined entries) database ≡ Ok after.committed) appends (calls_lead d database (call ∷ []) (session_on database) (record { committed = refl; seen = refl })).committed

  uses_all : ((room ≡ Ordinary) ⊎ (after.entries ≡ (Locks Freed ∷ []) ∷ [])) → (room ≡ Ordinary) ⊎ (more ≡ (Locks Freed ∷ []) ∷ [])
  uses_all (inl ordinary) = inl ordinary
  uses_all (inr frees) = inr (sym appends ∙ frees)

  -- of one that stands alone
  pub full_once : room ≡ room_of call → ((room ≡ Ordinary) ⊎ (after.entries ≡ (Locks Freed ∷ []) ∷ [])) → (full : IsFullIn d (call ∷ []) database x used next) × (full.written ≡ [])
  full_once in_room which = (
    record {
      written = [];
      more = more;
      stops = record { front = []; rest = more; entries = appends; now = database; led = refl; is = inl refl };
      comes = record { front = more; rest = []; entries = appends ∙ sym (append-nil more); now = after.committed; led = led; is = inl refl };
      made = [];
      call = call;
      wrote = refl;
      appends = appends;
      next_call = inl ([], refl);
      used_is = none.full.1.0 ∙ none_written x.used;
      next_is = none.full.1.1 ∙ ap size_of_all none.appends.texts;
      room = room;
      in_room = in_room;
      which = uses_all which;
      full = full_by room x.limit used x.used none.written (entries_of d more) none.full.1.0 none.appends.texts none.full.0;
    },
    refl,
  )
