-- The calls of a command between those that take and free the lock fit, where each of its sessions has the tracking tables.
use Rattle.std.proofs.Common.{rules, subst, tests}
use Rattle.std.specs.Prelude.{Bool, Err, List, Ok, Result, [], false, map, nat_le, refl, true, ℕ, ◌++◌, ◌∷◌, ◌≡◌}
use Rattle.lq_base.specs.declared.dialect.Dialect.{Dialect}
use Rattle.lq_base.specs.declared.dialect.Dialect.TheVariants.{Mysql, Postgresql}
use Rattle.lq_base.specs.declared.reason.Reason.{Reason}
use Rattle.lq_model.proofs.Lists.{and_left, and_right, and_true}
use Rattle.lq_track.specs.Database.{Database}
use Rattle.lq_turns.proofs.Made.{At}
use Rattle.lq_turns.proofs.TurnLeft.{twice}
use Rattle.lq_turns.proofs.Updates.{opened}
use Rattle.lq_turns.specs.Deed.{Contents, contents_of, with_contents, contents_after, done, if_accepted, locked_after}
use Rattle.lq_turns.specs.Schedule.{all_fit}
use Rattle.lq_turns.specs.Script.{closing, opening, with_lock}
use Rattle.lq_turns.specs.Session.{Session, aborted, accepted, all_called, all_executed, all_executed_as, before, called, closed, executed, executed_as, is_own, session_on, settled_if}
use Rattle.lq_turns.specs.declared.call.Call.{Call}
use Rattle.lq_turns.specs.declared.call.Call.TheVariants.{Abort, Alone, Begin, Commit, Execute}
use Rattle.lq_turns.specs.declared.deed.Deed.{Deed}
use Rattle.lq_turns.specs.declared.deed.Deed.TheVariants.{Locks, Rows, Users}
use Rattle.lq_turns.specs.declared.deed.OnLock.TheVariants.{Freed, LockMade, LockRowMade, LogMade, Marked, Taken}
use Rattle.lq_turns.specs.declared.stamp.Stamp.{Stamp}
use Rattle.lq_beside.specs.Replays.{IsTime, call_fits, calls_fit}

ok_same : {A : Type 0} {x y : A} → (let r : Result A Reason = Ok x in r) ≡ Ok y → x ≡ y
ok_same e = Prim.cc

not_ok : {A : Type 0} {r : Reason} {y : A} → (let z : Result A Reason = Err r in z) ≡ Ok y → ⊥
not_ok e = Prim.cc

-- what was made stays

pub record HasTables (database : Database) : Type 0 where
  pub log : database.has_log ≡ true
  pub row : database.has_lock_row ≡ true

locked_has : (deed : Deed) (a : Database) (c : Contents) → HasTables a → HasTables (with_contents (locked_after deed a) c)
locked_has (Users s) a c has = record { log = has.log; row = has.row }
locked_has (Rows w) a c has = record { log = has.log; row = has.row }
locked_has (Locks LogMade) a c has = record { log = refl; row = has.row }
locked_has (Locks LockMade) a c has = record { log = has.log; row = has.row }
locked_has (Locks LockRowMade) a c has = record { log = has.log; row = refl }
locked_has (Locks (Taken at by)) a c has = record { log = has.log; row = has.row }
locked_has (Locks (Marked by)) a c has = record { log = has.log; row = has.row }
locked_has (Locks Freed) a c has = record { log = has.log; row = has.row }

module _ (d : Dialect) where
  done_has : (deed : Deed) (a now : Database) → HasTables a → done d deed a ≡ Ok now → HasTables now
  done_has deed a now has is = by (contents_after d deed (contents_of a)) is where
    by : (q : Result Contents Reason) → if_accepted (with_contents (locked_after deed a)) q ≡ Ok now → HasTables now
    by (Ok c) e = subst HasTables (ok_same e) (locked_has deed a c has)
    by (Err reason) e = absurd (not_ok e)

  abbrev pub BothHave : Session → Type 0
  BothHave s = HasTables s.committed × HasTables s.seen

  own_has : (own : Bool) (s : Session) → BothHave s → BothHave (settled_if own s)
  own_has true s has = (has.1, has.1)
  own_has false s has = has

  accepted_has : (deed : Deed) (now : Database) (s : Session) → BothHave s → HasTables now → BothHave (accepted d deed now s)
  accepted_has deed now s has after = own_has (is_own d deed) (record (before d deed s) { seen = now; begun = (before d deed s).begun ++ deed ∷ [] }) ((own_has (is_own d deed) s has).0, after)

  all_have : (deeds : List Deed) (s : Session) → BothHave s → BothHave (all_executed d deeds s)
  all_have [] s has = (has.1, has.1)
  all_have (deed ∷ deeds) s has = (elim (done d deed s.seen) as (λ q. done d deed s.seen ≡ q → BothHave (all_executed_as d deed s (all_executed d deeds) q)) [
    | Ok now ↦ λ is. all_have deeds (accepted d deed now s) (accepted_has deed now s has (done_has deed s.seen now has.1 is))
    | Err reason ↦ λ is. ((own_has (is_own d deed) s has).0, (own_has (is_own d deed) s has).0)
  ]) refl

  pub calls_have : (calls : List Call) (s : Session) → BothHave s → BothHave (all_called d calls s)
  calls_have [] s has = has
  calls_have (Alone deeds room ∷ calls) s has = calls_have calls (all_executed d deeds s) (all_have deeds s has)
  calls_have (Begin ∷ calls) s has = calls_have calls (record s { is_open = true }) has
  calls_have (Commit ∷ calls) s has = calls_have calls (closed s) (has.1, has.1)
  calls_have (Abort ∷ calls) s has = calls_have calls (aborted s) (has.0, has.0)
  calls_have (Execute deed ∷ calls) s has = calls_have calls (executed d deed s) ((elim (done d deed s.seen) as (λ q. done d deed s.seen ≡ q → BothHave (executed_as d deed s q)) [
    | Ok now ↦ λ is. accepted_has deed now s has (done_has deed s.seen now has.1 is)
    | Err reason ↦ λ is. own_has (is_own d deed) s has
  ]) refl)

  pub fits_both : (before after : List Call) (s : Session) → calls_fit d before s ≡ true → calls_fit d after (all_called d before s) ≡ true → calls_fit d (before ++ after) s ≡ true
  fits_both [] after s a b = b
  fits_both (call ∷ before) after s a b = and_true _ _ (and_left (call_fits d call s) _ a) (fits_both before after (called d call s) (and_right (call_fits d call s) _ a) b)

in_time : (n : ℕ) → IsTime n → nat_le n 253402300799999 ≡ true
in_time n h = search (rules, tests)

abbrev flagged : Database → Bool → Bool → Bool → Database
flagged x a b e = record x { has_log = a; has_lock = b; has_lock_row = e }

opening_fits : (d : Dialect) (stamp : Stamp) (x : Database) (a b e : Bool) → nat_le stamp.reading 253402300799999 ≡ true → all_fit d (map Locks (opening stamp (flagged x a b e))) (flagged x a b e) ≡ true
opening_fits d stamp x true true true bound = rw (bound) refl
opening_fits d stamp x true true false bound = rw (bound) refl
opening_fits d stamp x true false true bound = rw (bound) refl
opening_fits d stamp x true false false bound = rw (bound) refl
opening_fits d stamp x false true true bound = rw (bound) refl
opening_fits d stamp x false true false bound = rw (bound) refl
opening_fits d stamp x false false true bound = rw (bound) refl
opening_fits d stamp x false false false bound = rw (bound) refl

opened_tables : (d : Dialect) (stamp : Stamp) (x : Database) (a b e : Bool) → BothHave d (all_executed d (map Locks (opening stamp (flagged x a b e))) (session_on (flagged x a b e)))
opened_tables Postgresql stamp x true true true = (record { log = refl; row = refl }, record { log = refl; row = refl })
opened_tables Postgresql stamp x true true false = (record { log = refl; row = refl }, record { log = refl; row = refl })
opened_tables Postgresql stamp x true false true = (record { log = refl; row = refl }, record { log = refl; row = refl })
opened_tables Postgresql stamp x true false false = (record { log = refl; row = refl }, record { log = refl; row = refl })
opened_tables Postgresql stamp x false true true = (record { log = refl; row = refl }, record { log = refl; row = refl })
opened_tables Postgresql stamp x false true false = (record { log = refl; row = refl }, record { log = refl; row = refl })
opened_tables Postgresql stamp x false false true = (record { log = refl; row = refl }, record { log = refl; row = refl })
opened_tables Postgresql stamp x false false false = (record { log = refl; row = refl }, record { log = refl; row = refl })
opened_tables Mysql stamp x true true true = (record { log = refl; row = refl }, record { log = refl; row = refl })
opened_tables Mysql stamp x true true false = (record { log = refl; row = refl }, record { log = refl; row = refl })
opened_tables Mysql stamp x true false true = (record { log = refl; row = refl }, record { log = refl; row = refl })
opened_tables Mysql stamp x true false false = (record { log = refl; row = refl }, record { log = refl; row = refl })
opened_tables Mysql stamp x false true true = (record { log = refl; row = refl }, record { log = refl; row = refl })
opened_tables Mysql stamp x false true false = (record { log = refl; row = refl }, record { log = refl; row = refl })
opened_tables Mysql stamp x false false true = (record { log = refl; row = refl }, record { log = refl; row = refl })
opened_tables Mysql stamp x false false false = (record { log = refl; row = refl }, record { log = refl; row = refl })

-- so a command fits where its calls between do
pub locked_fits : (d : Dialect) (stamp : Stamp) (database : Database) (calls : List Call) → IsTime stamp.reading
    → ((s : Session) → At s (twice (contents_of database)) → BothHave d s → calls_fit d calls s ≡ true)
    → calls_fit d (with_lock stamp database calls) (session_on database) ≡ true
locked_fits d stamp database calls time go =
    let has = opened_tables d stamp database database.has_log database.has_lock database.has_lock_row in
    let held = all_executed d (map Locks (opening stamp database)) (session_on database) in
    and_true _ _ (opening_fits d stamp database database.has_log database.has_lock database.has_lock_row (in_time stamp.reading time))
    (fits_both d calls (closing ∷ []) held (go held (opened d stamp database) has) (and_true _ _ (and_true _ _ (calls_have d calls held has).1.row refl) refl))
