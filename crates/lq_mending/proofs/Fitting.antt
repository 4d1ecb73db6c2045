-- The calls that take statements back fit.
use Rattle.std.proofs.Common.{refl, subst, sym}
use Rattle.std.specs.List.{list_all}
use Rattle.std.specs.Prelude.{Bool, Err, List, None, Ok, Option, Result, Some, [], false, suc, true, ℕ, ◌++◌, ◌||◌, ◌∷◌, ◌≡◌}
use Rattle.laws_repair.specs.Repair.{back_calls, repair_calls, undo_calls}
use Rattle.lq_base.specs.declared.dialect.Dialect.{Dialect}
use Rattle.lq_base.specs.declared.identity.Identity.{Identity}
use Rattle.lq_base.specs.declared.reason.Reason.{Reason}
use Rattle.lq_beside.specs.Replays.{call_fits, calls_fit}
use Rattle.lq_model.proofs.Lists.{and_left, and_right, and_true}
use Rattle.lq_model.specs.Step.{is_statement}
use Rattle.lq_model.specs.declared.statement.Statement.{Statement}
use Rattle.lq_repair.proofs.Laid.{IsSpelled, back_spelled}
use Rattle.lq_reverse.specs.Back.{back}
use Rattle.lq_run.specs.Stands.{no_changes}
use Rattle.lq_track.specs.Database.{Database}
use Rattle.lq_turns.specs.Deed.{Contents, contents_of, with_contents, contents_after, if_accepted, locked_after}
use Rattle.lq_turns.specs.Session.{are_accepted, went, Session, called, executed_as, is_own, session_on, settled_if}
use Rattle.lq_turns.specs.Rest.{Inside, NoMore, rest, both_of}
use Rattle.lq_turns.specs.Script.{closing}
use Rattle.lq_turns.specs.Turn.{made, made_on}
use Rattle.lq_turns.specs.declared.call.Call.{Call}
use Rattle.lq_turns.specs.declared.call.Call.TheVariants.{Abort, Alone, Begin, Commit, Execute}
use Rattle.lq_turns.specs.declared.deed.Deed.{Deed}
use Rattle.lq_turns.specs.declared.deed.Deed.TheVariants.{Locks, Rows, Users}
use Rattle.lq_turns.specs.declared.deed.OnLock.TheVariants.{Freed, LockMade, LockRowMade, LogMade, Marked, Taken}
use Rattle.lq_turns.specs.declared.stamp.Stamp.{Stamp}
use Rattle.lq_mending.proofs.Onward.{none_come}

abbrev pub HasRow : Session → Type 0
HasRow s = (s.committed.has_lock_row ≡ true) × (s.seen.has_lock_row ≡ true)

-- deeds that fit wherever the lock has its row, and leave it there
abbrev IsPlainDeed : Dialect → Deed → Type 0
IsPlainDeed d (Users s) = is_statement d s ≡ true
IsPlainDeed d (Rows w) = ⊥
IsPlainDeed d (Locks (Marked by)) = Unit {0}
IsPlainDeed d (Locks w) = ⊥

abbrev IsPlain : Dialect → Call → Type 0
IsPlain d Begin = Unit {0}
IsPlain d Commit = Unit {0}
IsPlain d Abort = Unit {0}
IsPlain d (Execute deed) = IsPlainDeed d deed
IsPlain d (Alone deeds room) = deeds ≡ Locks Freed ∷ []

abbrev ArePlain : Dialect → List Call → Type 0
ArePlain d [] = Unit {0}
ArePlain d (call ∷ calls) = IsPlain d call × ArePlain d calls

both_plain : (d : Dialect) (xs ys : List Call) → ArePlain d xs → ArePlain d ys → ArePlain d (xs ++ ys)
both_plain d [] ys first second = second
both_plain d (call ∷ xs) ys first second = (first.0, both_plain d xs ys first.1 second)

module _ (d : Dialect) where
  made_plain : (calls : List Call) (c : Contents) → ArePlain d calls → ArePlain d (made d calls c)
  made_plain [] c plain = tt
  made_plain (Execute deed ∷ calls) c plain = (plain.0, by (λ now. made_plain calls now plain.1) (contents_after d deed c)) where
    by : ((now : Contents) → ArePlain d (made d calls now)) → (r : Result Contents Reason) → ArePlain d (made_on (made d calls) r)
    by more (Ok now) = more now
    by more (Err reason) = (tt, tt)
  made_plain (Begin ∷ calls) c plain = (tt, made_plain calls c plain.1)
  made_plain (Commit ∷ calls) c plain = (tt, made_plain calls c plain.1)
  made_plain (Abort ∷ calls) c plain = (tt, made_plain calls c plain.1)
  made_plain (Alone deeds room ∷ calls) c plain = (plain.0, made_plain calls c plain.1)

  keeps_lock_row : (deed : Deed) (database : Database) → IsPlainDeed d deed → database.has_lock_row ≡ true → (locked_after deed database).has_lock_row ≡ true
  keeps_lock_row (Users s) database plain row = row
  keeps_lock_row (Rows w) database plain row = absurd plain
  keeps_lock_row (Locks (Marked by)) database plain row = row
  keeps_lock_row (Locks LogMade) database plain row = absurd plain
  keeps_lock_row (Locks LockMade) database plain row = absurd plain
  keeps_lock_row (Locks LockRowMade) database plain row = absurd plain
  keeps_lock_row (Locks (Taken at by)) database plain row = absurd plain
  keeps_lock_row (Locks Freed) database plain row = absurd plain

  deed_row : (deed : Deed) (s : Session) (now : Database) → now.has_lock_row ≡ true → HasRow s → (r : Result Contents Reason) → HasRow (executed_as d deed s (if_accepted (with_contents now) r))
  deed_row deed s now row has (Ok c) =
      elim (is_own d deed) as (λ o. HasRow (settled_if o (record (settled_if o s) { seen = with_contents now c; begun = (settled_if o s).begun ++ deed ∷ [] }))) [ true ↦ (row, row) | false ↦ (has.0, row) ]
  deed_row deed s now row has (Err reason) = elim (is_own d deed) as (λ o. HasRow (settled_if o s)) [ true ↦ (has.1, has.1) | false ↦ has ]

  call_row : (call : Call) (s : Session) → IsPlain d call → HasRow s → HasRow (called d call s)
  call_row Begin s plain has = has
  call_row Commit s plain has = (has.1, has.1)
  call_row Abort s plain has = (has.0, has.0)
  call_row (Execute deed) s plain has = deed_row deed s (locked_after deed s.seen) (keeps_lock_row deed s.seen plain has.1) has (contents_after d deed (contents_of s.seen))
  call_row (Alone deeds room) s plain has = subst (λ ds. HasRow (called d (Alone ds room) s)) (sym plain)
      (let t = executed_as d (Locks Freed) s (Ok (with_contents (locked_after (Locks Freed) s.seen) (contents_of s.seen))) in
      let row = deed_row (Locks Freed) s (locked_after (Locks Freed) s.seen) has.1 has (Ok (contents_of s.seen)) in (row.1, row.1))

  deed_fits : (deed : Deed) (s : Session) → IsPlainDeed d deed → HasRow s → call_fits d (Execute deed) s ≡ true
  deed_fits (Users u) s plain has = plain
  deed_fits (Rows w) s plain has = absurd plain
  deed_fits (Locks (Marked by)) s plain has = has.1
  deed_fits (Locks LogMade) s plain has = absurd plain
  deed_fits (Locks LockMade) s plain has = absurd plain
  deed_fits (Locks LockRowMade) s plain has = absurd plain
  deed_fits (Locks (Taken at by)) s plain has = absurd plain
  deed_fits (Locks Freed) s plain has = absurd plain

  fits_call : (call : Call) (s : Session) → IsPlain d call → HasRow s → call_fits d call s ≡ true
  fits_call Begin s plain has = refl
  fits_call Commit s plain has = refl
  fits_call Abort s plain has = refl
  fits_call (Execute deed) s plain has = deed_fits deed s plain has
  fits_call (Alone deeds room) s plain has = subst (λ ds. call_fits d (Alone ds room) s ≡ true) (sym plain) (and_true s.seen.has_lock_row true has.1 refl)

  plain_fits : (calls : List Call) (s : Session) → ArePlain d calls → HasRow s → calls_fit d calls s ≡ true
  plain_fits [] s plain has = refl
  plain_fits (call ∷ calls) s plain has =
      and_true (call_fits d call s) (calls_fit d calls (called d call s)) (fits_call call s plain.0 has) (plain_fits calls (called d call s) plain.1 (call_row call s plain.0 has))

  back_plain : (who : List ℕ) (of : Identity) (k : ℕ) (o : Option Statement) → IsSpelled d o → ArePlain d (back_calls who of k o)
  back_plain who of k None is = tt
  back_plain who of k (Some s) is = (tt, (tt, (is, (tt, tt))))

  undo_plain : (who : List ℕ) (of : Identity) (k : ℕ) (ss : List Statement) → list_all (is_statement d) ss ≡ true → ArePlain d (undo_calls d who of k ss)
  undo_plain who of k [] all = tt
  undo_plain who of k (s ∷ ss) all =
      both_plain d (undo_calls d who of (suc k) ss) (back_calls who of k (back d s)) (undo_plain who of (suc k) ss (and_right (is_statement d s) (list_all (is_statement d) ss) all))
      (back_plain who of k (back d s) (back_spelled d s (and_left (is_statement d s) (list_all (is_statement d) ss) all)))

  -- those of one statement
  pub one_fits : (stamp : Stamp) (who : List ℕ) (of : Identity) (k : ℕ) (s : Statement) (on : Bool) (t : Session) → is_statement d s ≡ true → HasRow t
      → calls_fit d (rest d no_changes stamp (Inside (back_calls who of k (back d s)) on NoMore) (both_of t)) t ≡ true
  one_fits stamp who of k s on t is has =
      let calls = back_calls who of k (back d s) in
      let b = are_accepted d calls (contents_of t.seen) || on in
      let c = (went d calls (both_of t)).0 in
      subst (λ more. calls_fit d (made d calls (contents_of t.seen) ++ more ++ closing ∷ []) t ≡ true) (sym (none_come d stamp b c))
      (plain_fits (made d calls (contents_of t.seen) ++ [] ++ closing ∷ []) t
      (both_plain d (made d calls (contents_of t.seen) ++ []) (closing ∷ [])
      (both_plain d (made d calls (contents_of t.seen)) [] (made_plain calls (contents_of t.seen) (back_plain who of k (back d s) (back_spelled d s is))) tt) (refl, tt)) has)

  -- and all of them
  pub repair_fits : (who : List ℕ) (of : Identity) (ss : List Statement) (database : Database) → list_all (is_statement d) ss ≡ true → database.has_lock_row ≡ true
      → calls_fit d (repair_calls d who of ss database) (session_on database) ≡ true
  repair_fits who of ss database all row =
      plain_fits (repair_calls d who of ss database) (session_on database)
      (made_plain (undo_calls d who of 1 ss ++ closing ∷ []) (contents_of database) (both_plain d (undo_calls d who of 1 ss) (closing ∷ []) (undo_plain who of 1 ss all) (refl, tt))) (row, row)
