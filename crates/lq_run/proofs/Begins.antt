-- A command that has just taken its lock runs.
use Rattle.std.proofs.Common.{ap, inl, refl, subst, sym}
use Rattle.std.specs.Prelude.{Bool, List, [], false, map, pos, true, ℕ, ◌∷◌, ◌≡◌}
use Rattle.lq_base.specs.declared.dialect.Dialect.{Dialect}
use Rattle.lq_base.specs.declared.dialect.Dialect.TheVariants.{Mysql, Postgresql}
use Rattle.lq_model.specs.declared.caller.Room.TheVariants.{Ordinary}
use Rattle.lq_store.specs.Journal.{State}
use Rattle.lq_track.specs.Database.{Database}
use Rattle.lq_track.specs.Lock.{taken}
use Rattle.lq_turns.specs.Session.{Both, Session, all_called, all_executed, called}
use Rattle.lq_turns.specs.Rest.{Inside, Place, rest, both_of}
use Rattle.lq_turns.specs.Script.{opening}
use Rattle.lq_turns.specs.Set.{Meaning}
use Rattle.lq_turns.specs.declared.call.Call.{Call}
use Rattle.lq_turns.specs.declared.call.Call.TheVariants.{Alone}
use Rattle.lq_turns.specs.declared.deed.Deed.{Deed}
use Rattle.lq_turns.specs.declared.deed.Deed.TheVariants.{Locks}
use Rattle.lq_turns.specs.declared.stamp.Stamp.{Stamp}
use Rattle.lq_beside.specs.Replays.{calls_fit}
use Rattle.lq_hand.specs.Hand.{AreTurns, IsReady, calls_left, hand_place}
use Rattle.lq_run.proofs.Keeping.{inside_keeps}
use Rattle.lq_run.specs.Commands.{IsNew, KnowsContents, both_on, script}
use Rattle.lq_run.specs.Ends.{IsRunning, KeepsLock, at_end, disk_failed}
use Rattle.lq_run.specs.Left.{HasClosing}
use Rattle.lq_run.specs.Stands.{Stands}
use Rattle.lq_run.specs.Steps.{Known, KnownIn, Standing, place, turns_of}

-- a session without a transaction
abbrev pub resting : Database → List (List Deed) → Session
resting database entries = record { committed = database; is_open = false; seen = database; begun = []; entries = entries }

-- the lock is taken, nothing is open, and the contents are as they were
pub record IsOpened (stamp : Stamp) (x : Database) (s : Session) : Type 0 where
  pub committed : s.committed.lock ≡ taken (pos stamp.reading) stamp.who
  pub seen : s.seen.lock ≡ taken (pos stamp.reading) stamp.who
  pub row : (s.committed.has_lock_row ≡ true) × (s.seen.has_lock_row ≡ true)
  pub shut : s.is_open ≡ false
  pub both : both_of s ≡ both_on x

abbrev flagged : Database → Bool → Bool → Bool → Database
flagged x a b e = record x { has_log = a; has_lock = b; has_lock_row = e }

is_opened : (d : Dialect) (stamp : Stamp) (x : Database) (es : List (List Deed)) (a b e : Bool) → IsOpened stamp x (all_executed d (map Locks (opening stamp (flagged x a b e))) (resting (flagged x a b e) es))
is_opened Postgresql stamp x es true true true = record { committed = refl; seen = refl; row = (refl, refl); shut = refl; both = refl }
is_opened Postgresql stamp x es true true false = record { committed = refl; seen = refl; row = (refl, refl); shut = refl; both = refl }
is_opened Postgresql stamp x es true false true = record { committed = refl; seen = refl; row = (refl, refl); shut = refl; both = refl }
is_opened Postgresql stamp x es true false false = record { committed = refl; seen = refl; row = (refl, refl); shut = refl; both = refl }
is_opened Postgresql stamp x es false true true = record { committed = refl; seen = refl; row = (refl, refl); shut = refl; both = refl }
is_opened Postgresql stamp x es false true false = record { committed = refl; seen = refl; row = (refl, refl); shut = refl; both = refl }
is_opened Postgresql stamp x es false false true = record { committed = refl; seen = refl; row = (refl, refl); shut = refl; both = refl }
is_opened Postgresql stamp x es false false false = record { committed = refl; seen = refl; row = (refl, refl); shut = refl; both = refl }
is_opened Mysql stamp x es true true true = record { committed = refl; seen = refl; row = (refl, refl); shut = refl; both = refl }
is_opened Mysql stamp x es true true false = record { committed = refl; seen = refl; row = (refl, refl); shut = refl; both = refl }
is_opened Mysql stamp x es true false true = record { committed = refl; seen = refl; row = (refl, refl); shut = refl; both = refl }
is_opened Mysql stamp x es true false false = record { committed = refl; seen = refl; row = (refl, refl); shut = refl; both = refl }
is_opened Mysql stamp x es false true true = record { committed = refl; seen = refl; row = (refl, refl); shut = refl; both = refl }
is_opened Mysql stamp x es false true false = record { committed = refl; seen = refl; row = (refl, refl); shut = refl; both = refl }
is_opened Mysql stamp x es false false true = record { committed = refl; seen = refl; row = (refl, refl); shut = refl; both = refl }
is_opened Mysql stamp x es false false false = record { committed = refl; seen = refl; row = (refl, refl); shut = refl; both = refl }

module _ {Key Told : Type 0} (d : Dialect) (m : Meaning Key) (stamp : Stamp) (r : Standing Key Told) (new : IsNew d m stamp r) where
  new_at : place r ≡ Inside (calls_left r.hand) r.hand.goes_on (turns_of r)
  new_at = ap (λ p. hand_place p (calls_left r.hand) r.hand.goes_on (turns_of r)) new.inside

  pub new_keeps : (b : Both) → KeepsLock stamp.who (rest d m stamp (place r) b)
  new_keeps b = subst (λ p. KeepsLock stamp.who (rest d m stamp p b)) (sym new_at) (inside_keeps d m stamp (calls_left r.hand) r.hand.goes_on (turns_of r) b new.holds)

  -- its last call frees the lock
  pub script_closes : (database : Database) → HasClosing (script d m stamp (place r) database)
  script_closes database =
      let call = Alone (map Locks (opening stamp database)) Ordinary in
      let keeps = new_keeps (both_on database) in
      record { before = call ∷ keeps.front; after = []; is = ap (λ (calls : List Call). call ∷ calls) keeps.is }

module _ {Key : Type 0} (d : Dialect) (m : Meaning Key) (stamp : Stamp) (number : ℕ) (database : Database) (entries : List (List Deed)) where
  -- the session after the first call
  abbrev pub first_session : Session
  first_session = called d (Alone (map Locks (opening stamp database)) Ordinary) (resting database entries)

  pub opened : IsOpened stamp database first_session
  opened = is_opened d stamp database entries database.has_log database.has_lock database.has_lock_row

  pub begins : {Told : Type 0} (r : Standing Key Told) (told : Told) (start y : State) → IsNew d m stamp r → start.dialect ≡ d → Stands start number y first_session → KnowsContents d m stamp r database told
      → calls_fit d (rest d m stamp (place r) (both_on database)) first_session ≡ true → IsRunning d m stamp number r y start first_session told
  begins r told start y new is stands known fits =
      let at_hand = new_at d m stamp r new in
      record {
        there = record {
          at = record {
            dialect = is;
            stands = stands;
            ready = subst (IsReady d first_session.is_open) (sym at_hand) (subst (λ o. AreTurns d o (calls_left r.hand)) (sym opened.shut) new.turn);
            fits = subst (λ b. calls_fit d (rest d m stamp (place r) b) first_session ≡ true) (sym opened.both) fits;
            row = opened.row;
          };
          known = λ healthy. subst (λ p. Known d (r.way d stamp told) r.refused p r.progress (both_of first_session)) (sym at_hand)
              (subst (λ o. Known d (r.way d stamp told) o (Inside (calls_left r.hand) r.hand.goes_on (turns_of r)) r.progress (both_of first_session)) (sym new.refused)
              (subst (KnownIn d (r.way d stamp told) r.hand.goes_on (calls_left r.hand) r.progress) (sym opened.both) known));
        };
        committed = inl opened.committed;
        seen = inl opened.seen;
        keeps = new_keeps d m stamp r new (both_of first_session);
        disk = ap disk_failed new.fault;
      }

  -- and ends with what its script leaves
  pub ends_script : (p : Place Key) → at_end d m stamp number p first_session ≡ all_called d (script d m stamp p database) (resting database entries)
  ends_script p = ap (λ b. all_called d (rest d m stamp p b) first_session) opened.both
