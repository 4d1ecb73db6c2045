-- The last text of a journal tells whether the last deed of what stops left behind it set the mark.
use Rattle.std.proofs.Common.{ap, inl, inr, refl, subst, sym, ◌∙◌}
use Rattle.std.proofs.lemmas.List.{append-nil, append_assoc, map-append}
use Rattle.std.specs.List.{last_or}
use Rattle.std.specs.Prelude.{List, None, Ok, Option, Some, [], false, map, true, ℕ, ◌++◌, ◌∷◌, ◌≡◌, ◌⊎◌}
use Rattle.laws_repair.specs.Repair.{AreReadBack, IsReadBack, LastTextTells, is_mark_text, last_text as last_in, text_by, by_of}
use Rattle.lq_base.specs.declared.dialect.Dialect.{Dialect}
use Rattle.lq_base.specs.declared.tracking.Lock.{Lock}
use Rattle.lq_beside.specs.Replays.{calls_fit}
use Rattle.lq_db.specs.Db.{last_after, last_text}
use Rattle.lq_run.proofs.Replayed.{AreRead, left_read, mark_read}
use Rattle.lq_run.specs.Stands.{deed_text, entries_of, entry_of, entry_texts}
use Rattle.lq_statement.specs.Laws.{StatementsReadBack}
use Rattle.lq_store.specs.Journal.Entry.{Stated, Texts}
use Rattle.lq_store.specs.Journal.{Entry}
use Rattle.lq_track.specs.Database.{Database}
use Rattle.lq_track.specs.Lock.{free}
use Rattle.lq_turns.proofs.Journal.{done_both, joined_both, next, same_ok}
use Rattle.lq_turns.proofs.Locked.{led_both}
use Rattle.lq_turns.proofs.Marks.{last_or_both}
use Rattle.lq_turns.specs.Deed.{contents_of, with_contents, all_done, lock_after}
use Rattle.lq_turns.specs.Session.{all_called, session_on}
use Rattle.lq_turns.specs.Stops.{IsLeft, Journal, joined}
use Rattle.lq_turns.specs.Within.{marks_last}
use Rattle.lq_turns.specs.declared.call.Call.{Call}
use Rattle.lq_turns.specs.declared.deed.Deed.{Deed}
use Rattle.lq_turns.specs.declared.deed.Deed.TheVariants.{Locks}
use Rattle.lq_turns.specs.declared.deed.OnLock.TheVariants.{Freed, Marked}
use Rattle.laws_undo.specs.Undone.{StopsHeld}

false_true : {A : Type 0} → false ≡ true → A
false_true h = absurd (clash h) where
  clash : false ≡ true → ⊥
  clash e = Prim.cc

-- the last of texts

abbrev Text : Type 0
Text = List ℕ

last_both : (o : Option Text) (xs ys : List Text) → last_or o (xs ++ ys) ≡ last_or (last_or o xs) ys
last_both o [] ys = refl
last_both o (x ∷ xs) ys = last_both (Some x) xs ys

last_behind : (o : Option Text) (es fs : List Entry) → last_after o (es ++ fs) ≡ last_after (last_after o es) fs
last_behind o [] fs = refl
last_behind o (Texts texts ∷ es) fs = last_behind (last_or o texts) es fs
last_behind o (Stated bytes ∷ es) fs = last_behind None es fs

module _ (d : Dialect) where
  -- the last text of entries is that of their deeds
  last_of : (o : Option Text) (entries : Journal) → last_after o (entries_of d entries) ≡ last_or o (map (deed_text d) (joined entries))
  last_of o [] = refl
  last_of o (deeds ∷ entries) =
      last_of (last_or o (entry_texts d deeds)) entries
      ∙ sym (last_both o (entry_texts d deeds) (map (deed_text d) (joined entries)))
      ∙ ap (last_or o) (sym (map-append (deed_text d) deeds (joined entries)))

  last_in_is : (o : Option Text) (entries : Journal) → last_after o (entries_of d entries) ≡ last_in o (map (map (text_by d)) entries)
  last_in_is o [] = refl
  last_in_is o (deeds ∷ entries) = last_in_is (last_or o (entry_texts d deeds)) entries

  -- what took the lock wrote something, so that what stands before it is not asked
  asks_none : (deeds : List Deed) (o : Option Text) (start now : Database) → all_done d deeds start ≡ Ok now → start.lock.locked ≡ false → now.lock.locked ≡ true
      → last_or o (map (deed_text d) deeds) ≡ last_or None (map (deed_text d) deeds)
  asks_none [] o start now led unlocked held = false_true (sym unlocked ∙ ap (λ (e : Database). e.lock.locked) (same_ok d led) ∙ held)
  asks_none (deed ∷ deeds) o start now led unlocked held = refl

  module _ (tells : LastTextTells) (read : StatementsReadBack) (before : List Entry) (start : Database) where
    pub told : (written : Journal) (now : Database) → start.lock.locked ≡ false → now.lock.locked ≡ true → all_done d (joined written) start ≡ Ok now → AreReadBack d (joined written)
        → is_mark_text d (by_of now.lock) (last_text (before ++ entries_of d written)) ≡ marks_last (by_of now.lock) (last_or None (joined written))
    told written now unlocked held led all = ap (is_mark_text d (by_of now.lock)) same ∙ tells d (by_of now.lock) start now written led all (mark_read read d (by_of now.lock)) where
      same : last_text (before ++ entries_of d written) ≡ last_in None (map (map (text_by d)) written)
      same =
          last_behind None before (entries_of d written)
          ∙ last_of (last_after None before) written
          ∙ asks_none (joined written) (last_after None before) start now led unlocked held
          ∙ sym (last_of None written)
          ∙ last_in_is None written

  -- deeds whose texts are read back

  as_read : (deeds : List Deed) → AreRead d deeds → AreReadBack d deeds
  as_read [] are = tt
  as_read (deed ∷ deeds) are = (are.0, as_read deeds are.1)

  both_read : (deeds more : List Deed) → AreReadBack d deeds → AreReadBack d more → AreReadBack d (deeds ++ more)
  both_read [] more first second = second
  both_read (deed ∷ deeds) more first second = (first.0, both_read deeds more first.1 second)

  -- what stops have written since the start, so that the deeds lead here
  pub record Since (before : List Entry) (start : Database) (entries : List Entry) (database : Database) : Type 0 where
    pub written : Journal
    pub are : entries ≡ before ++ entries_of d written
    pub led : all_done d (joined written) start ≡ Ok database
    pub read : AreReadBack d (joined written)

  abbrev pub nothing_since : (before : List Entry) (start : Database) → Since before start before start
  nothing_since before start = record { written = []; are = sym (append-nil before); led = refl; read = tt }

  last_more : (front back : Journal) → last_or None (joined (front ++ back)) ≡ last_or (last_or None (joined front)) (joined back)
  last_more front back = ap (last_or None) (joined_both front back) ∙ last_or_both None (joined front) (joined back)

  module _ (read : StatementsReadBack) (before : List Entry) (start : Database) where
    -- and what a stop of more calls has
    pub more_since : (entries after : List Entry) (database now : Database) (calls : List Call) (written : Journal) (since : Since before start entries database) → calls_fit d calls (session_on database) ≡ true
        → IsLeft d calls database [] written → after ≡ entries ++ entries_of d written → all_done d (joined written) database ≡ Ok now
        → (more : Since before start after now) × (last_or None (joined more.written) ≡ last_or (last_or None (joined since.written)) (joined written))
    more_since entries after database now calls written since fit left are led = (
      record {
        written = since.written ++ written;
        are =
            are
            ∙ ap (λ (es : List Entry). es ++ entries_of d written) since.are
            ∙ append_assoc before (entries_of d since.written) (entries_of d written)
            ∙ ap (λ (es : List Entry). before ++ es) (sym (map-append (entry_of d) since.written written));
        led = ap (λ (deeds : List Deed). all_done d deeds start) (joined_both since.written written) ∙ done_both d (joined since.written) (joined written) start ∙ ap (next d (joined written)) since.led ∙ led;
        read = subst (AreReadBack d) (sym (joined_both since.written written)) (both_read (joined since.written) (joined written) since.read (as_read (joined written) (left_read read d calls database fit written left)));
      },
      last_more since.written written,
    )

  -- what a stop has behind a journal
  pub left_on : (calls : List Call) (database : Database) (before after : Journal) → IsLeft d calls database before after → (written : Journal) × (after ≡ before ++ written) × IsLeft d calls database [] written
  left_on calls database before after left = elim left.is as (λ _. (written : Journal) × (after ≡ before ++ written) × IsLeft d calls database [] written) [
    | inl same ↦ (left.front, same, record { front = left.front; rest = left.rest; entries = left.entries; now = left.now; led = left.led; is = inl refl })
    | inr closed ↦ (left.front ++ (Locks Freed ∷ []) ∷ [], closed.0 ∙ append_assoc before left.front ((Locks Freed ∷ []) ∷ []), record { front = left.front; rest = left.rest; entries = left.entries; now = left.now; led = left.led; is = inr (refl, closed.1) })
  ]

  pub joins_read : StatementsReadBack → (calls : List Call) (database : Database) (before after : Journal) → calls_fit d calls (session_on database) ≡ true → IsLeft d calls database before after → AreReadBack d (joined before) → AreReadBack d (joined after)
  joins_read read calls database before after fit left are =
      let it = left_on calls database before after left in
      subst (λ (es : Journal). AreReadBack d (joined es)) (sym it.1) (subst (AreReadBack d) (sym (joined_both before it.0)) (both_read (joined before) (joined it.0) are (as_read (joined it.0) (left_read read d calls database fit it.0 it.2))))

  -- a stop that leaves the lock held leaves a front of the entries

  closed_free : (before now : Database) → all_done d (joined ((Locks Freed ∷ []) ∷ [])) before ≡ Ok now → now.lock ≡ free
  closed_free before now led = ap (λ (e : Database). e.lock) (sym (same_ok d led))

  pub front_held : (calls : List Call) (database now : Database) (written : Journal) → IsLeft d calls database [] written → all_done d (joined written) database ≡ Ok now → now.lock.locked ≡ true
      → (rest : Journal) × ((all_called d calls (session_on database)).entries ≡ written ++ rest)
  front_held calls database now written left led held = elim left.is as (λ _. (rest : Journal) × ((all_called d calls (session_on database)).entries ≡ written ++ rest)) [
    | inl same ↦ (left.rest, left.entries ∙ ap (λ (es : Journal). es ++ left.rest) (sym same))
    | inr closed ↦ absurd (never (subst (λ (es : Journal). all_done d (joined es) database ≡ Ok now) closed.0 led))
  ] where
    never : all_done d (joined (left.front ++ (Locks Freed ∷ []) ∷ [])) database ≡ Ok now → ⊥
    never led =
        let parts = led_both d left.front ((Locks Freed ∷ []) ∷ []) database now led in
        false_true (sym (ap (λ (l : Lock). l.locked) (closed_free parts.0 now parts.2)) ∙ held)
