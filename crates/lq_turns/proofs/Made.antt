-- The calls of a turn that are made, as a session takes them.
use Rattle.std.proofs.Common.{subst, sym}
use Rattle.std.specs.List.{list_all}
use Rattle.std.specs.Prelude.{Bool, Err, List, Ok, [], false, map, refl, true, ◌++◌, ◌∷◌, ◌≡◌}
use Rattle.lq_base.specs.declared.dialect.Dialect.{Dialect}
use Rattle.lq_base.specs.declared.tracking.Tracked.{Tracked}
use Rattle.lq_model.specs.Catalogue.{Catalogue}
use Rattle.lq_track.specs.Database.{Database}
use Rattle.lq_turns.specs.Deed.{Contents, contents_of, with_contents, contents_after, done, if_accepted, lock_after, locked_after}
use Rattle.lq_turns.specs.Session.{Both, committed_if, went, went_by, Session, aborted, accepted, all_called, all_executed, before, called, closed, executed_as, is_own, settled_if}
use Rattle.lq_turns.specs.declared.call.Call.{Call}
use Rattle.lq_turns.specs.declared.call.Call.TheVariants.{Abort, Alone, Begin, Commit, Execute}
use Rattle.lq_turns.specs.declared.deed.Deed.{Deed}
use Rattle.lq_turns.specs.declared.deed.Deed.TheVariants.{Locks}
use Rattle.lq_turns.specs.declared.deed.OnLock.{OnLock}
use Rattle.lq_turns.specs.Turn.{made, made_on}

pub record At (s : Session) (both : Both) : Type 0 where
  pub committed : contents_of s.committed ≡ both.0
  pub seen : contents_of s.seen ≡ both.1

abbrev pub with_users : Catalogue → List Tracked → Contents
with_users users rows = record { users = users; rows = rows }

-- the calls that a turn may have where nothing is refused
abbrev pub is_turns : Call → Bool
is_turns Begin = true
is_turns Commit = true
is_turns (Execute deed) = true
is_turns Abort = false
is_turns (Alone deeds room) = false

module _ (d : Dialect) where
  -- a deed that was accepted
  pub after_ok : (own : Bool) (deed : Deed) (a now : Contents) (s : Session) → contents_of s.committed ≡ a → is_own d deed ≡ own
      → At (accepted d deed (with_contents (locked_after deed s.seen) now) s) (committed_if own a now, now)
  after_ok true deed a now s at is = subst (λ b. At (settled_if b (record (settled_if b s) { seen = with_contents (locked_after deed s.seen) now; begun = (settled_if b s).begun ++ deed ∷ [] })) (now, now)) (sym is) (record { committed = refl; seen = refl })
  after_ok false deed a now s at is = subst (λ b. At (settled_if b (record (settled_if b s) { seen = with_contents (locked_after deed s.seen) now; begun = (settled_if b s).begun ++ deed ∷ [] })) (a, now)) (sym is) (record { committed = at; seen = refl })

  after_err : (own : Bool) (deed : Deed) (a b : Contents) (s : Session) → At s (a, b) → is_own d deed ≡ own → At (aborted (before d deed s)) (committed_if own a b, committed_if own a b)
  after_err true deed a b s at is = subst (λ o. At (aborted (settled_if o s)) (b, b)) (sym is) (record { committed = at.seen; seen = at.seen })
  after_err false deed a b s at is = subst (λ o. At (aborted (settled_if o s)) (a, a)) (sym is) (record { committed = at.committed; seen = at.committed })

  -- a deed, and what is made after it
  one : (deed : Deed) (calls : List Call) (x : Both) (s : Session) → At s x
      → ((now : Contents) (t : Session) → At t (committed_if (is_own d deed) x.0 now, now) → At (all_called d (made d calls now) t) (went d calls (committed_if (is_own d deed) x.0 now, now)))
      → At (all_called d (made_on (made d calls) (contents_after d deed x.1)) (executed_as d deed s (done d deed s.seen))) (went_by d deed (went d calls) x (contents_after d deed x.1))
  one deed calls x s at more =
      subst (λ c. At (all_called d (made_on (made d calls) (contents_after d deed x.1)) (executed_as d deed s (if_accepted (with_contents (locked_after deed s.seen)) (contents_after d deed c)))) (went_by d deed (went d calls) x (contents_after d deed x.1))) (sym at.seen)
      (elim (contents_after d deed x.1) as (λ r. At (all_called d (made_on (made d calls) r) (executed_as d deed s (if_accepted (with_contents (locked_after deed s.seen)) r))) (went_by d deed (went d calls) x r)) [
        | Ok now ↦ more now (accepted d deed (with_contents (locked_after deed s.seen) now) s) (after_ok (is_own d deed) deed x.0 now s at.committed refl)
        | Err reason ↦ after_err (is_own d deed) deed x.0 x.1 s at refl
      ])

  -- a session takes the calls that are made as these contents go
  pub takes : (calls : List Call) (x : Both) (s : Session) → list_all is_turns calls ≡ true → At s x → At (all_called d (made d calls x.1) s) (went d calls x)
  takes [] x s all at = at
  takes (Execute deed ∷ calls) x s all at = one deed calls x s at (λ now t is. takes calls (committed_if (is_own d deed) x.0 now, now) t all is)
  takes (Begin ∷ calls) x s all at = takes calls x (record s { is_open = true }) all (record { committed = at.committed; seen = at.seen })
  takes (Commit ∷ calls) x s all at = takes calls (x.1, x.1) (closed s) all (record { committed = at.seen; seen = at.seen })
  takes (Abort ∷ calls) x s all at = Prim.cc
  takes (Alone deeds room ∷ calls) x s all at = Prim.cc

  -- deeds on the lock in one call leave the contents that are seen
  pub locks_taken : (ws : List OnLock) (a c : Contents) (s : Session) → At s (a, c) → At (all_executed d (map Locks ws) s) (c, c)
  locks_taken [] a c s at = record { committed = at.seen; seen = at.seen }
  locks_taken (w ∷ ws) a c s at = locks_taken ws (committed_if (is_own d (Locks w)) a c) c (accepted d (Locks w) (with_contents (lock_after w s.seen) (contents_of s.seen)) s)
      (subst (λ x. At (accepted d (Locks w) (with_contents (lock_after w s.seen) x) s) (committed_if (is_own d (Locks w)) a c, c)) (sym at.seen) (after_ok (is_own d (Locks w)) (Locks w) a c s at.committed refl))

  -- the last deed of a call is seen by all
  pub committed_last : (deed : Deed) (now : Database) (s : Session) → (closed (accepted d deed now s)).committed ≡ now
  committed_last deed now s = elim (is_own d deed) as (λ o. (closed (settled_if o (record (settled_if o s) { seen = now; begun = (settled_if o s).begun ++ deed ∷ [] }))).committed ≡ now) [ true ↦ refl | false ↦ refl ]

  pub calls_both : (before after : List Call) (s : Session) → all_called d (before ++ after) s ≡ all_called d after (all_called d before s)
  calls_both [] after s = refl
  calls_both (call ∷ before) after s = calls_both before after (called d call s)
