-- What the calls of an update leave.
use Rattle.std.proofs.Common.{ap, inl, inr, subst, sym, ◌∙◌}
use Rattle.std.specs.List.{list_all}
use Rattle.std.specs.Prelude.{Bool, Err, List, None, Ok, Option, Some, [], false, if◌then◌else◌, is_some, map, not, refl, true, ℕ, ◌&&◌, ◌∷◌, ◌≡◌, ◌⊎◌}
use Rattle.lq_base.specs.declared.dialect.Dialect.{Dialect}
use Rattle.lq_base.specs.declared.run.Did.{Did}
use Rattle.lq_base.specs.declared.run.Why.{Why}
use Rattle.lq_model.proofs.Lists.{and_left, and_right, or_left, or_right}
use Rattle.lq_model.specs.Sound.{IsSound}
use Rattle.lq_track.specs.Database.{Database, SameDatabase}
use Rattle.lq_track.specs.Lock.{free}
use Rattle.lq_turns.specs.Deed.{Contents, contents_of, with_contents, lock_after}
use Rattle.lq_turns.specs.Set.{effects, statements_of, Changelog, IsKept, Meaning, Set}
use Rattle.lq_turns.specs.Laws.{AreRead, IsAtRest, UpdateLeaves, at_rest}
use Rattle.lq_turns.specs.Script.{calls_of_turn, calls_unless, closing, has_work, opening, set_calls, sets_calls, turn_by, update_calls, with_lock}
use Rattle.lq_turns.specs.Session.{Session, all_called, all_executed, left_by, session_on}
use Rattle.lq_turns.specs.Settle.{Settled, all_settled, by_own, choice, choice_of, followed, is_halt, mark_turn, own_choice, run_ending, run_turn, settle, settled_as, settled_by, updated, what}
use Rattle.lq_turns.specs.declared.call.Call.{Call}
use Rattle.lq_turns.specs.declared.choice.Choice.{Choice}
use Rattle.lq_turns.specs.declared.choice.Choice.TheVariants.{Fills, Halts, Marks, Passes, Runs, Skips}
use Rattle.lq_turns.specs.declared.deed.Deed.TheVariants.{Locks}
use Rattle.lq_turns.specs.declared.deed.OnLock.TheVariants.{Freed}
use Rattle.lq_turns.specs.declared.stamp.Stamp.{Stamp}
use Rattle.lq_turns.specs.declared.stop.Stop.{Stop}
use Rattle.lq_turns.specs.declared.turn.Turn.{Turn}
use Rattle.lq_turns.specs.Turn.{Ending, Finished, Refused, Stuck, Through, contents_in, course, ending, is_marked, kept, refused, row_ending}
use Rattle.lq_turns.proofs.Effects.{all_spelled, course_through, run_effects}
use Rattle.lq_turns.proofs.Made.{At, calls_both, committed_last, locks_taken}
use Rattle.lq_turns.proofs.TurnLeft.{ending_sound, turn_taken, twice}

-- what a turn leaves, where there is one
abbrev pub turn_left : Dialect → Option Turn → Contents → Contents
turn_left d None c = c
turn_left d (Some turn) c = contents_in (ending d turn c)

-- a command's calls between those that take and free the lock
module _ (d : Dialect) (stamp : Stamp) (database : Database) where
  begun : Session
  begun = session_on database

  pub opened : At (all_executed d (map Locks (opening stamp database)) (session_on database)) (twice (contents_of database))
  opened = locks_taken d (opening stamp database) (contents_of database) (contents_of database) (session_on database) (record { committed = refl; seen = refl })

  pub closed_on : (s : Session) (c : Contents) → At s (twice c) → SameDatabase (all_executed d (Locks Freed ∷ []) s).committed (at_rest database c)
  closed_on s c at =
      let is = (locks_taken d (Freed ∷ []) c c s at).committed in record {
        users = ap (λ (x : Contents). x.users) is;
        rows = ap (λ (x : Contents). x.rows) is;
        lock = ap (λ (x : Database). x.lock) (committed_last d (Locks Freed) (with_contents (lock_after Freed s.seen) (contents_of s.seen)) s);
      }

  -- where the calls between lead to some contents, the whole does
  pub locked_leaves : (calls : List Call) (c : Contents) → ((s : Session) → At s (twice (contents_of database)) → At (all_called d calls s) (twice c))
      → SameDatabase (left_by d (with_lock stamp database calls) database) (at_rest database c)
  locked_leaves calls c go =
      subst (λ (s : Session). SameDatabase s.committed (at_rest database c)) (sym (calls_both d calls (closing ∷ []) (all_executed d (map Locks (opening stamp database)) (session_on database))))
      (closed_on (all_called d calls (all_executed d (map Locks (opening stamp database)) (session_on database))) c (go _ opened))

-- a database at rest

pub freed : (before now : Database) (c : Contents) → SameDatabase now (at_rest before c) → IsAtRest before c now
freed before now c same = record { users = same.users; rows = same.rows; lock = inl same.lock }

pub unmoved : (database : Database) (c : Contents) → c ≡ contents_of database → IsAtRest database c database
unmoved database c is = subst (λ e. IsAtRest database e database) (sym is) (record { users = refl; rows = refl; lock = inr refl })

-- where the lock was free before it is
pub free_before : (before now : Database) (c : Contents) → before.lock ≡ free → IsAtRest before c now → SameDatabase now (at_rest before c)
free_before before now c unlocked is = record {
  users = is.users;
  rows = is.rows;
  lock = elim is.lock as (λ _. now.lock ≡ free) [
    | inl frees ↦ frees
    | inr same ↦ ap (λ (e : Database). e.lock) same ∙ unlocked
  ];
}

-- and what stands before may be at rest itself
pub rests_on : (start before now : Database) (c : Contents) → (before.lock ≡ free) ⊎ (before ≡ start) → IsAtRest before c now → IsAtRest start c now
rests_on start before now c first is = record {
  users = is.users;
  rows = is.rows;
  lock = elim is.lock as (λ _. (now.lock ≡ free) ⊎ (now ≡ start)) [
    | inl frees ↦ inl frees
    | inr same ↦ elim first as (λ _. (now.lock ≡ free) ⊎ (now ≡ start)) [
      | inl frees ↦ inl (ap (λ (e : Database). e.lock) same ∙ frees)
      | inr begins ↦ inr (same ∙ begins)
    ]
  ];
}

module _ {Key : Type 0} (d : Dialect) (m : Meaning Key) (keeps : IsKept m) (stamp : Stamp) where
  -- one changeset

  pub run_is : (x : Set Key) (turn : Turn) (c : Contents) → turn.statements ≡ statements_of d m x.changes → list_all (m.is_for d) x.changes ≡ true → IsSound d c.users → run_ending d m stamp.reading turn x c ≡ ending d turn c
  run_is x turn c are read sound =
      let runs = run_effects m keeps d x.changes c.users read sound in
      (elim (effects d m x.changes c.users) as (λ q. effects d m x.changes c.users ≡ q → elim q as (λ _. Ending) [ Ok users ↦ row_ending d turn users c | Err reason ↦ ending d turn c ] ≡ ending d turn c) [
        | Ok users ↦ λ is. sym (ap (λ q. elim q as (λ _. Ending) [ Through users ↦ row_ending d turn users c | Stuck before s reason ↦ refused d before (kept d turn before (is_marked d turn s)) reason c ]) (ap (λ ss. course d ss c.users) are ∙ course_through d (statements_of d m x.changes) c.users users (runs ∙ is)))
        | Err reason ↦ λ is. refl
      ]) refl

  pub stopped_is : (x : Set Key) (did : Did) (why : Option Why) (n : ℕ) (e : Ending) → (settled_as x did why n e).contents ≡ contents_in e
  stopped_is x did why n (Finished c) = refl
  stopped_is x did why n (Refused c refusal) = by x.fail_on_error where
    by : (b : Bool) → (settled_as (record x { fail_on_error = b }) did why n (Refused c refusal)).contents ≡ c
    by true = refl
    by false = refl

  pub settled_is : (x : Set Key) (c : Contents) (q : Choice) → list_all (m.is_for d) x.changes ≡ true → IsSound d c.users → (settled_by d m stamp.reading x c q).contents ≡ turn_left d (turn_by d m stamp x c.rows q) c
  settled_is x c Passes read sound = refl
  settled_is x c Fills read sound = refl
  settled_is x c Skips read sound = refl
  settled_is x c (Marks by) read sound = stopped_is x _ None 0 (ending d (mark_turn stamp.reading by x c.rows) c)
  settled_is x c (Runs by why) read sound = stopped_is x _ why _ (run_ending d m stamp.reading (run_turn d m stamp.reading by x c.rows) x c) ∙ ap contents_in (run_is x (run_turn d m stamp.reading by x c.rows) c refl read sound)
  settled_is x c (Halts why) read sound = refl

  pub taken_by : (turn : Option Turn) (c : Contents) (s : Session) → At s (twice c) → At (all_called d (calls_of_turn d m stamp turn c) s) (twice (turn_left d turn c))
  taken_by None c s at = at
  taken_by (Some turn) c s at = turn_taken d stamp.who turn c s at

  pub sound_by : (x : Set Key) (c : Contents) (q : Choice) → list_all (m.is_for d) x.changes ≡ true → IsSound d c.users → IsSound d (turn_left d (turn_by d m stamp x c.rows q) c).users
  sound_by x c Passes read sound = sound
  sound_by x c Fills read sound = sound
  sound_by x c Skips read sound = sound
  sound_by x c (Marks by) read sound = ending_sound d (mark_turn stamp.reading by x c.rows) c refl sound
  sound_by x c (Runs by why) read sound = ending_sound d (run_turn d m stamp.reading by x c.rows) c (all_spelled m keeps d x.changes read) sound
  sound_by x c (Halts why) read sound = sound

  -- all of them

  pub sets_taken : (xs : List (Set Key)) (c : Contents) (s : Session) → list_all (λ (x : Set Key). list_all (m.is_for d) x.changes) xs ≡ true → IsSound d c.users → At s (twice c)
      → At (all_called d (sets_calls d m stamp xs c) s) (twice (all_settled d m stamp.reading xs c).contents)
  sets_taken [] c s read sound at = at
  sets_taken (x ∷ xs) c s read sound at =
      let first = and_left _ (list_all (λ (x : Set Key). list_all (m.is_for d) x.changes) xs) read in
      let is = settled_is x c (choice x c) first sound in
      let now = subst (λ (e : Contents). At (all_called d (set_calls d m stamp x c) s) (twice e)) (sym is) (taken_by (turn_by d m stamp x c.rows (choice x c)) c s at) in
      let still = subst (λ (e : Contents). IsSound d e.users) (sym is) (sound_by x c (choice x c) first sound) in
      let more = sets_taken xs (settle d m stamp.reading x c).contents (all_called d (set_calls d m stamp x c) s) (and_right (list_all (m.is_for d) x.changes) _ read) still now in
      subst (λ (t : Session). At t (twice (all_settled d m stamp.reading (x ∷ xs) c).contents)) (sym (calls_both d (set_calls d m stamp x c) (calls_unless (settle d m stamp.reading x c).stop (sets_calls d m stamp xs (settle d m stamp.reading x c).contents)) s))
      ((elim (settle d m stamp.reading x c).stop as (λ (q : Option Stop). At (all_called d (calls_unless q (sets_calls d m stamp xs (settle d m stamp.reading x c).contents)) (all_called d (set_calls d m stamp x c) s)) (twice (followed q (settle d m stamp.reading x c) (all_settled d m stamp.reading xs)).contents)) [
        | None ↦ more
        | Some stop ↦ now
      ]))

  -- without a turn nothing changes

  no_what : {A : Type 0} (o : Option A) → is_some o ≡ false → o ≡ None
  no_what None is = refl
  no_what (Some x) is = Prim.cc

  idle : (xs : List (Set Key)) (c : Contents) → has_work xs c.rows ≡ false → (all_settled d m stamp.reading xs c).contents ≡ c
  idle [] c none = refl
  idle (x ∷ xs) c none =
      let passes = ap (λ o. settled_by d m stamp.reading x c (choice_of x c o)) (no_what (what x c.rows) (or_left _ (has_work xs c.rows) none)) in
      ap (λ (s : Settled). (followed s.stop s (all_settled d m stamp.reading xs)).contents) passes ∙ idle xs c (or_right (is_some (what x c.rows)) _ none)

  own_is : (q : Choice) (c : Contents) (s : Settled) → is_halt q ≡ false → (by_own q c s).contents ≡ s.contents
  own_is Passes c s is = refl
  own_is Fills c s is = refl
  own_is Skips c s is = refl
  own_is (Marks by) c s is = refl
  own_is (Runs by None) c s is = refl
  own_is (Runs by (Some why)) c s is = refl
  own_is (Halts why) c s is = Prim.cc

  own_halts : (q : Choice) (c : Contents) (s : Settled) → is_halt q ≡ true → (by_own q c s).contents ≡ c
  own_halts Passes c s is = Prim.cc
  own_halts Fills c s is = Prim.cc
  own_halts Skips c s is = Prim.cc
  own_halts (Marks by) c s is = Prim.cc
  own_halts (Runs by why) c s is = Prim.cc
  own_halts (Halts why) c s is = refl

  update_by : (g : Changelog Key) (database : Database) → IsSound d database.users → list_all (λ (x : Set Key). list_all (m.is_for d) x.changes) g.sets ≡ true
      → (work halt : Bool) → has_work g.sets database.rows ≡ work → is_halt (own_choice g (contents_of database)) ≡ halt
      → IsAtRest database (updated d m stamp.reading g (contents_of database)).contents (left_by d (if work && not halt then with_lock stamp database (sets_calls d m stamp g.sets (contents_of database)) else []) database)
  update_by g database sound read true false work halt =
      let is = own_is (own_choice g (contents_of database)) (contents_of database) (all_settled d m stamp.reading g.sets (contents_of database)) halt in
      freed database (left_by d (with_lock stamp database (sets_calls d m stamp g.sets (contents_of database))) database) _
      (locked_leaves d stamp database (sets_calls d m stamp g.sets (contents_of database)) (updated d m stamp.reading g (contents_of database)).contents
      (λ s at. subst (λ (e : Contents). At (all_called d (sets_calls d m stamp g.sets (contents_of database)) s) (twice e)) (sym is) (sets_taken g.sets (contents_of database) s read sound at)))
  update_by g database sound read true true work halt =
      unmoved database _ (own_halts (own_choice g (contents_of database)) (contents_of database) (all_settled d m stamp.reading g.sets (contents_of database)) halt)
  update_by g database sound read false true work halt =
      unmoved database _ (own_halts (own_choice g (contents_of database)) (contents_of database) (all_settled d m stamp.reading g.sets (contents_of database)) halt)
  update_by g database sound read false false work halt =
      unmoved database _ (own_is (own_choice g (contents_of database)) (contents_of database) (all_settled d m stamp.reading g.sets (contents_of database)) halt ∙ idle g.sets (contents_of database) work)

pub update_rests : {Key : Type 0} (m : Meaning Key) → IsKept m → (d : Dialect) (stamp : Stamp) (g : Changelog Key) (database : Database) → IsSound d database.users → AreRead d m g.sets
    → IsAtRest database (updated d m stamp.reading g (contents_of database)).contents (left_by d (update_calls d m stamp g database) database)
update_rests m keeps d stamp g database sound read =
    update_by d m keeps stamp g database sound read (has_work g.sets database.rows) (is_halt (own_choice g (contents_of database))) refl refl

pub update_leaves : {Key : Type 0} (m : Meaning Key) → IsKept m → UpdateLeaves m
update_leaves m keeps d stamp g database sound unlocked read = free_before database (left_by d (update_calls d m stamp g database) database) _ unlocked (update_rests m keeps d stamp g database sound read)
