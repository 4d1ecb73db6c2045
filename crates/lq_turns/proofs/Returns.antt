-- A rollback by tag or date that is run again after stops, in postgresql.
use Rattle.std.proofs.Common.{ap, inl, inr, subst, sym, ◌∙◌}
use Rattle.std.proofs.Math.Seq.{drop-append_seam}
use Rattle.std.proofs.lemmas.List.{append-nil, append_assoc, reverse-append}
use Rattle.std.specs.List.{list_all, list_any}
use Rattle.std.specs.Prelude.{Bool, Err, List, None, Ok, Option, Result, Some, [], drop, false, if◌then◌else◌, int_lt, length, map, nat_eq, option_and_then, option_map, refl, reverse, suc, true, ℕ, ℤ, ◌++◌, ◌||◌, ◌∷◌, ◌≡◌}
use Rattle.lq_base.specs.declared.dialect.Dialect.{Dialect}
use Rattle.lq_base.specs.declared.dialect.Dialect.TheVariants.{Postgresql}
use Rattle.lq_base.specs.declared.reason.Reason.{Reason}
use Rattle.lq_base.specs.declared.tracking.Tracked.{Tracked}
use Rattle.lq_model.proofs.Lists.{all-append, all-append_left, and_left, and_right, any-append, or_false, or_left, or_right}
use Rattle.lq_model.specs.Catalogue.{Catalogue}
use Rattle.lq_model.specs.Script.{if_any}
use Rattle.lq_model.specs.Sound.{IsSound}
use Rattle.lq_model.specs.declared.caller.Room.TheVariants.{Ordinary}
use Rattle.lq_model.specs.declared.statement.Statement.{Statement}
use Rattle.lq_track.specs.Database.{Database, has_twin_rows, same_identity}
use Rattle.lq_track.specs.Log.{identity_of}
use Rattle.lq_turns.specs.Deed.{Contents, contents_of, all_done}
use Rattle.lq_turns.specs.Stops.{IsIdle, Journal, joined}
use Rattle.lq_turns.specs.Laws.{AreKnown, IsAtRest, rollback_calls}
use Rattle.lq_turns.specs.Ran.{AreRowsOf, IsRowOf, RanSince, Run, all_effects, are_reversible, effects_of, is_reversible}
use Rattle.lq_turns.specs.Script.{calls_if_finished, has_tag, places_until, rollback_of, rows_kept, rows_undone, tagged_place, turns_made, undo_turns, opening, with_lock}
use Rattle.lq_turns.specs.Session.{Session, all_called, left_by}
use Rattle.lq_turns.specs.Set.{IsKept, Meaning, Set, has_row}
use Rattle.lq_turns.specs.Trails.{RollbackResumes, is_by_count, rollback_to}
use Rattle.lq_turns.specs.declared.call.Call.{Call}
use Rattle.lq_turns.specs.declared.call.Call.TheVariants.{Alone}
use Rattle.lq_base.specs.declared.command.Target.{Target}
use Rattle.lq_base.specs.declared.command.Target.TheVariants.{Count, Date, Tag}
use Rattle.lq_turns.specs.declared.deed.Deed.{Deed}
use Rattle.lq_turns.specs.declared.deed.Deed.TheVariants.{Locks}
use Rattle.lq_turns.specs.declared.stamp.Stamp.{Stamp}
use Rattle.lq_turns.specs.declared.turn.Turn.{Turn}
use Rattle.lq_turns.specs.Turn.{Finished, contents_in, ending, made, turn_calls}
use Rattle.lq_turns.proofs.Effects.{not_ok, ok_same}
use Rattle.lq_turns.proofs.Entered.{accepted_is, is_finished}
use Rattle.lq_turns.proofs.Fronts.{Wrote, deeds_of, entry_if, others_of, turn_wrote}
use Rattle.lq_turns.proofs.GoesOn.{both_true}
use Rattle.lq_turns.proofs.Journal.{journal_leads, same_ok}
use Rattle.lq_turns.proofs.Locked.{cut, falls, first_session, lock_stands, no_locks, opened_by}
use Rattle.lq_turns.proofs.Made.{At, calls_both, with_users}
use Rattle.lq_turns.proofs.Trails.{StopKeeps, not_held, nothing_kept, one_ok, trail_keeps}
use Rattle.lq_turns.proofs.TurnLeft.{turn_taken, twice}
use Rattle.lq_turns.proofs.Undone.{TakenBack, Undone, effects_kept, new_row, rollback_rests, taken_back, turns_both, undone_both, undone_taken}
use Rattle.lq_turns.proofs.Updates.{opened, rests_on}

-- a front of a list's images is that of a front

abbrev FrontOf : {A B : Type 0} → (A → B) → List A → List B → List B → Type 0
FrontOf {A} f xs front rest = (ys : List A) × (zs : List A) × (xs ≡ ys ++ zs) × (front ≡ map f ys)

front_of : {A B : Type 0} (f : A → B) (xs : List A) (front rest : List B) → map f xs ≡ front ++ rest → FrontOf f xs front rest
front_of f xs [] rest is = ([], xs, refl, refl)
front_of f [] (b ∷ front) rest is = Prim.cc
front_of f (x ∷ xs) (b ∷ front) rest is =
    let same : f x ≡ b = Prim.cc in
    let others : map f xs ≡ front ++ rest = Prim.cc in
    let more = front_of f xs front rest others in
    (x ∷ more.0, more.1, ap (λ ys. x ∷ ys) more.2, ap (λ bs. b ∷ bs) more.3 ∙ ap (λ c. c ∷ map f more.0) (sym same))

-- the target stays where rows behind it went

no_place : (tag : List ℕ) (rows : List Tracked) → tagged_place tag rows ≡ Some 0 → ⊥
no_place tag [] is = Prim.cc
no_place tag (row ∷ rows) is = by (tagged_place tag rows) (has_tag tag row.tag) is where
  by : (o : Option ℕ) (b : Bool) → elim o as (λ _. Option ℕ) [ Some n ↦ Some (suc n) | None ↦ if b then Some 1 else None ] ≡ Some 0 → ⊥
  by (Some n) b q = Prim.cc
  by None true q = Prim.cc
  by None false q = Prim.cc

none_front : (tag : List ℕ) (rows more : List Tracked) → tagged_place tag (rows ++ more) ≡ None → tagged_place tag rows ≡ None
none_front tag [] more is = refl
none_front tag (row ∷ rows) more is = by (none_front tag rows more) (tagged_place tag (rows ++ more)) refl (has_tag tag row.tag) refl is where
  by : (tagged_place tag (rows ++ more) ≡ None → tagged_place tag rows ≡ None) → (o : Option ℕ) → tagged_place tag (rows ++ more) ≡ o → (b : Bool) → has_tag tag row.tag ≡ b → elim o as (λ _. Option ℕ) [ Some n ↦ Some (suc n) | None ↦ if b then Some 1 else None ] ≡ None → tagged_place tag (row ∷ rows) ≡ None
  by others (Some n) at b tagged q = Prim.cc
  by others None at true tagged q = Prim.cc
  by others None at false tagged q = ap (λ o. elim o as (λ _. Option ℕ) [ Some n ↦ Some (suc n) | None ↦ if has_tag tag row.tag then Some 1 else None ]) (others at) ∙ ap (λ b. if b then Some 1 else None) tagged

tag_front : (tag : List ℕ) (stay rows more : List Tracked) → tagged_place tag (stay ++ (rows ++ more)) ≡ Some (length stay) → tagged_place tag (stay ++ rows) ≡ Some (length stay)
tag_front tag [] rows more is = absurd (no_place tag (rows ++ more) is)
tag_front tag (row ∷ stay) rows more is = by (tag_front tag stay rows more) (tagged_place tag (stay ++ (rows ++ more))) refl (has_tag tag row.tag) refl is where
  by : (tagged_place tag (stay ++ (rows ++ more)) ≡ Some (length stay) → tagged_place tag (stay ++ rows) ≡ Some (length stay)) → (o : Option ℕ) → tagged_place tag (stay ++ (rows ++ more)) ≡ o → (b : Bool) → has_tag tag row.tag ≡ b → elim o as (λ _. Option ℕ) [ Some n ↦ Some (suc n) | None ↦ if b then Some 1 else None ] ≡ Some (suc (length stay))
      → tagged_place tag (row ∷ (stay ++ rows)) ≡ Some (suc (length stay))
  by others (Some n) at b tagged q =
      let same : n ≡ length stay = Prim.cc in
      ap (λ o. elim o as (λ _. Option ℕ) [ Some n ↦ Some (suc n) | None ↦ if has_tag tag row.tag then Some 1 else None ]) (others (at ∙ ap (λ k. Some k) same))
  by others None at true tagged q =
      let one : 1 ≡ suc (length stay) = Prim.cc in
      ap (λ o. elim o as (λ _. Option ℕ) [ Some n ↦ Some (suc n) | None ↦ if has_tag tag row.tag then Some 1 else None ]) (none_front tag (stay ++ rows) more (ap (tagged_place tag) (append_assoc stay rows more) ∙ at))
      ∙ ap (λ b. if b then Some 1 else None) tagged ∙ q
  by others None at false tagged q = Prim.cc

date_front : (at : ℤ) (stay rows more : List Tracked) → places_until at (stay ++ (rows ++ more)) ≡ length stay → places_until at (stay ++ rows) ≡ length stay
date_front at [] [] more is = refl
date_front at [] (row ∷ rows) more is = by (int_lt at row.date) is where
  by : (b : Bool) → (if b then 0 else suc (places_until at (rows ++ more))) ≡ 0 → (if b then 0 else suc (places_until at rows)) ≡ 0
  by true q = refl
  by false q = Prim.cc
date_front at (row ∷ stay) rows more is = by (date_front at stay rows more) (int_lt at row.date) is where
  by : (places_until at (stay ++ (rows ++ more)) ≡ length stay → places_until at (stay ++ rows) ≡ length stay) → (b : Bool) → (if b then 0 else suc (places_until at (stay ++ (rows ++ more)))) ≡ suc (length stay) → (if b then 0 else suc (places_until at (stay ++ rows))) ≡ suc (length stay)
  by others true q = Prim.cc
  by others false q =
      let same : places_until at (stay ++ (rows ++ more)) ≡ length stay = Prim.cc in
      ap suc (others same)

some_same : {a b : ℕ} → (let o : Option ℕ = Some a in o) ≡ Some b → a ≡ b
some_same is = Prim.cc

target_front : (target : Target) (stay rows more : List Tracked) → is_by_count target ≡ false → rows_kept target (stay ++ (rows ++ more)) ≡ Some (length stay) → rows_kept target (stay ++ rows) ≡ Some (length stay)
target_front (Tag tag) stay rows more count is = tag_front tag stay rows more is
target_front (Date at) stay rows more count is = ap (λ n. Some n) (date_front at stay rows more (some_same is))
target_front (Count n) stay rows more count is = Prim.cc

-- fronts of what ran

twins_before : (rows more : List Tracked) → has_twin_rows (rows ++ more) ≡ false → has_twin_rows rows ≡ false
twins_before [] more is = refl
twins_before (row ∷ rows) more is = or_false _ _
    (or_left (list_any (λ (s : Tracked). same_identity (identity_of row) (identity_of s) || nat_eq row.order s.order) rows) _ (sym (any-append (λ (s : Tracked). same_identity (identity_of row) (identity_of s) || nat_eq row.order s.order) rows more) ∙ or_left (list_any (λ (s : Tracked). same_identity (identity_of row) (identity_of s) || nat_eq row.order s.order) (rows ++ more)) _ is))
    (twins_before rows more (or_right (list_any (λ (s : Tracked). same_identity (identity_of row) (identity_of s) || nat_eq row.order s.order) (rows ++ more)) _ is))

module _ {Key : Type 0} (d : Dialect) (m : Meaning Key) where
  known_front : (sets : List (Set Key)) (ys zs : List (Run Key)) → AreKnown d m sets (ys ++ zs) → AreKnown d m sets ys
  known_front sets [] zs known = tt
  known_front sets (y ∷ ys) zs known = (known.0, known_front sets ys zs known.1)

  can_front : (ys zs : List (Run Key)) (u : Catalogue) → are_reversible d m (ys ++ zs) u ≡ true → are_reversible d m ys u ≡ true
  can_front [] zs u can = refl
  can_front (y ∷ ys) zs u can = both_true (and_left _ (elim (effects_of d m y u) as (λ _. Bool) [ Ok e ↦ are_reversible d m (ys ++ zs) e | Err reason ↦ true ]) can)
      ((elim (effects_of d m y u) as (λ q. elim q as (λ _. Bool) [ Ok e ↦ are_reversible d m (ys ++ zs) e | Err reason ↦ true ] ≡ true → elim q as (λ _. Bool) [ Ok e ↦ are_reversible d m ys e | Err reason ↦ true ] ≡ true) [
        | Ok e ↦ λ q. can_front ys zs e q
        | Err reason ↦ λ q. refl
      ]) (and_right (is_reversible d m y u) _ can))

  -- contents in which the first of them ran, and the others did not
  record IsFrontOf (xs : List (Run Key)) (added rows : List Tracked) (before : Catalogue) (e : Contents) : Type 0 where
    ys : List (Run Key)
    zs : List (Run Key)
    runs : xs ≡ ys ++ zs
    front : List Tracked
    back : List Tracked
    theirs : added ≡ front ++ back
    are_theirs : AreRowsOf ys front
    effects : all_effects d m ys before ≡ Ok e.users
    rows_are : e.rows ≡ rows ++ front

-- what undoes a list of runs, and what each front of it leaves
module _ {Key : Type 0} (m : Meaning Key) (keeps : IsKept m) (d : Dialect) (sets : List (Set Key)) where
  record Back (xs : List (Run Key)) (added rows : List Tracked) (before now : Catalogue) : Type 0 where
    turns : List Turn
    are : undo_turns d m sets (reverse added) ≡ Some turns
    undone : Undone d turns (with_users now (rows ++ added)) (with_users before rows)
    whole : list_all (λ (x : Run Key). x.set.in_transaction) xs ≡ true → list_all (λ (t : Turn). t.in_transaction) turns ≡ true
    fronts : (ts us : List Turn) → turns ≡ ts ++ us → (e : Contents) × Undone d ts (with_users now (rows ++ added)) e × IsFrontOf d m xs added rows before e

  only_back : (now : Catalogue) (rows : List Tracked) → Back [] [] rows now now
  only_back now rows = record {
    turns = [];
    are = refl;
    undone = ap (with_users now) (append-nil rows);
    whole = λ all. refl;
    fronts = λ ts us is. none_front_of ts us is;
  } where
    none_front_of : (ts us : List Turn) → (let none : List Turn = [] in none) ≡ ts ++ us → (e : Contents) × Undone d ts (with_users now (rows ++ [])) e × IsFrontOf d m [] [] rows now e
    none_front_of [] us is = (with_users now (rows ++ []), refl, record { ys = []; zs = []; runs = refl; front = []; back = []; theirs = refl; are_theirs = tt; effects = refl; rows_are = refl })
    none_front_of (t ∷ ts) us is = Prim.cc

  -- the last turn takes back the first row
  module _ (x : Run Key) (xs : List (Run Key)) (row : Tracked) (added rows : List Tracked) (before c now : Catalogue) (its : IsRowOf x row) (is : effects_of d m x before ≡ Ok c)
      (one : TakenBack m keeps d x.set.in_transaction sets row rows before c) (others : Back xs added (rows ++ row ∷ []) c now) where
    abbrev AtFront : List Turn → Type 0
    AtFront ts = (e : Contents) × Undone d ts (with_users now (rows ++ row ∷ added)) e × IsFrontOf d m (x ∷ xs) (row ∷ added) rows before e

    start : with_users now ((rows ++ row ∷ []) ++ added) ≡ with_users now (rows ++ row ∷ added)
    start = ap (with_users now) (append_assoc rows (row ∷ []) added)

    all_undone : Undone d (others.turns ++ one.0 ∷ []) (with_users now (rows ++ row ∷ added)) (with_users before rows)
    all_undone = undone_both d others.turns (one.0 ∷ []) (with_users now (rows ++ row ∷ added)) (with_users c (rows ++ row ∷ [])) (with_users before rows)
        (subst (λ e. Undone d others.turns e (with_users c (rows ++ row ∷ []))) start others.undone) (with_users before rows, one.2, refl)

    front_in : (e : Contents) → IsFrontOf d m xs added (rows ++ row ∷ []) c e → IsFrontOf d m (x ∷ xs) (row ∷ added) rows before e
    front_in e f = record {
      ys = x ∷ f.ys;
      zs = f.zs;
      runs = ap (λ ys. x ∷ ys) f.runs;
      front = row ∷ f.front;
      back = f.back;
      theirs = ap (λ rs. row ∷ rs) f.theirs;
      are_theirs = (its, f.are_theirs);
      effects = ap (λ q. elim q as (λ _. Result Catalogue Reason) [ Ok e ↦ all_effects d m f.ys e | Err reason ↦ Err reason ]) is ∙ f.effects;
      rows_are = f.rows_are ∙ append_assoc rows (row ∷ []) f.front;
    }

    within : (ts us : List Turn) → others.turns ≡ ts ++ us → AtFront ts
    within ts us split = let q = others.fronts ts us split in (q.0, subst (λ e. Undone d ts e q.0) start q.1, front_in q.0 q.2)

    after : (more us : List Turn) → one.0 ∷ [] ≡ more ++ us → AtFront (others.turns ++ more)
    after [] us split = subst AtFront (sym (append-nil others.turns)) (within others.turns [] (sym (append-nil others.turns)))
    after (t ∷ u ∷ more) us split = Prim.cc
    after (t ∷ []) us split =
        let same : one.0 ≡ t = Prim.cc in
        subst (λ turn. AtFront (others.turns ++ turn ∷ [])) same (with_users before rows, all_undone, record { ys = []; zs = x ∷ xs; runs = refl; front = []; back = row ∷ added; theirs = refl; are_theirs = tt; effects = refl; rows_are = sym (append-nil rows) })

    front_at : (ts us : List Turn) → others.turns ++ one.0 ∷ [] ≡ ts ++ us → AtFront ts
    front_at ts us split = elim (cut others.turns (one.0 ∷ []) ts us split) as (λ _. AtFront ts) [
      | inl q ↦ within ts q.0 q.1
      | inr q ↦ subst AtFront (sym q.1) (after q.0 us q.2)
    ]

    more_back : Back (x ∷ xs) (row ∷ added) rows before now
    more_back =
        let last = ap (λ o. option_and_then (λ turn. option_map (λ turns. turn ∷ turns) (undo_turns d m sets [])) o) one.1 in
        record {
          turns = others.turns ++ one.0 ∷ [];
          are = ap (undo_turns d m sets) (reverse-append (row ∷ []) added) ∙ turns_both d m sets (reverse added) (row ∷ []) others.turns (one.0 ∷ []) others.are last;
          undone = all_undone;
          whole = λ parts. all-append (λ (t : Turn). t.in_transaction) others.turns (one.0 ∷ []) (others.whole (and_right x.set.in_transaction _ parts)) (both_true (one.3 (and_left _ (list_all (λ (y : Run Key). y.set.in_transaction) xs) parts)) refl);
          fronts = front_at;
        }

  all_fronts_back : (xs : List (Run Key)) (added rows : List Tracked) (before now : Catalogue) → AreRowsOf xs added → AreKnown d m sets xs → IsSound d before
      → are_reversible d m xs before ≡ true → all_effects d m xs before ≡ Ok now → has_twin_rows (rows ++ added) ≡ false → Back xs added rows before now
  all_fronts_back [] [] rows before now are known sound can is differ = subst (λ u. Back [] [] rows u now) (sym (ok_same is)) (only_back now rows)
  all_fronts_back [] (row ∷ added) rows before now are known sound can is differ = absurd are
  all_fronts_back (x ∷ xs) [] rows before now are known sound can is differ = absurd are
  all_fronts_back (x ∷ xs) (row ∷ added) rows before now are known sound can is differ =
      (elim (effects_of d m x before) as (λ q. effects_of d m x before ≡ q → elim q as (λ _. Result Catalogue Reason) [ Ok y ↦ all_effects d m xs y | Err r ↦ Err r ] ≡ Ok now → elim q as (λ _. Bool) [ Ok y ↦ are_reversible d m xs y | Err r ↦ true ] ≡ true
      → Back (x ∷ xs) (row ∷ added) rows before now) [
        | Ok c ↦ λ at go more.
            let none : has_row rows x.set.identity ≡ false = subst (λ (r : Tracked). has_row rows (identity_of r) ≡ false) are.0.is (new_row rows added row differ) in
            let one = subst (λ r. TakenBack m keeps d x.set.in_transaction sets r rows before c) (sym are.0.is) (taken_back m keeps d sets x are.0.order are.0.tag rows before c x.is_marked known.0.0 known.0.1 sound (and_left (is_reversible d m x before) _ can) at none) in
            let others = all_fronts_back xs added (rows ++ row ∷ []) c now are.1 known.1 (effects_kept m keeps d x x.is_marked before c known.0.1 sound at) more go (ap has_twin_rows (append_assoc rows (row ∷ []) added) ∙ differ) in
            more_back x xs row added rows before c now are.0 at one others
        | Err r ↦ λ at go more. absurd (not_ok go)
      ]) refl is (and_right (is_reversible d m x before) _ can)

-- the entries of turns that all finish

module _ {Key : Type 0} (m : Meaning Key) (who : List ℕ) where
  abbrev entry_of : Turn → List Deed
  entry_of turn = deeds_of who turn turn.statements

  no_locks_in : (turns : List Turn) → no_locks (map entry_of turns) ≡ true
  no_locks_in [] = refl
  no_locks_in (turn ∷ turns) = both_true (others_of who turn turn.statements) (no_locks_in turns)

  is_entry : (turn : Turn) → if_any (entry_of turn) ≡ entry_of turn ∷ []
  is_entry turn = by turn.statements where
    by : (ss : List Statement) → if_any (deeds_of who turn ss) ≡ deeds_of who turn ss ∷ []
    by [] = refl
    by (s ∷ ss) = refl

  one_entry : (turn : Turn) (c e : Contents) (s : Session) → IsIdle s c → turn.in_transaction ≡ true → ending Postgresql turn c ≡ Finished e
      → Wrote s (all_called Postgresql (made Postgresql (turn_calls Postgresql who turn) c) s) (entry_of turn ∷ [])
  one_entry turn c e s idle whole is =
      let one = turn_wrote who turn c s idle.seen idle.begun turn.in_transaction whole in
      record { entries = one.entries ∙ ap (λ b. s.entries ++ if_any (entry_if b (entry_of turn))) (accepted_is Postgresql who turn c ∙ ap is_finished is) ∙ ap (λ es. s.entries ++ es) (is_entry turn); begun = one.begun }

  all_entries : (turns : List Turn) (c e : Contents) (s : Session) → IsIdle s c → list_all (λ (t : Turn). t.in_transaction) turns ≡ true → Undone Postgresql turns c e
      → Wrote s (all_called Postgresql (turns_made Postgresql who turns c) s) (map entry_of turns)
  all_entries [] c e s idle whole undone = record { entries = sym (append-nil s.entries); begun = idle.begun }
  all_entries (turn ∷ turns) c e s idle whole undone =
      let one = one_entry turn c undone.0 s idle (and_left _ (list_all (λ (t : Turn). t.in_transaction) turns) whole) undone.1 in
      let after = all_called Postgresql (made Postgresql (turn_calls Postgresql who turn) c) s in
      let at = subst (λ x. At after (twice x)) (ap contents_in undone.1) (turn_taken Postgresql who turn c s (record { committed = idle.committed; seen = idle.seen })) in
      let more = all_entries turns undone.0 e after (record { committed = at.committed; seen = at.seen; begun = one.begun }) (and_right turn.in_transaction _ whole) undone.2 in
      let both : all_called Postgresql (turns_made Postgresql who (turn ∷ turns) c) s ≡ all_called Postgresql (turns_made Postgresql who turns undone.0) after =
      calls_both Postgresql (made Postgresql (turn_calls Postgresql who turn) c) (calls_if_finished (turns_made Postgresql who turns (contents_in (ending Postgresql turn c))) (ending Postgresql turn c)) s
      ∙ ap (λ q. all_called Postgresql (calls_if_finished (turns_made Postgresql who turns (contents_in q)) q) after) undone.1 in
      record { entries = ap (λ (t : Session). t.entries) both ∙ more.entries ∙ ap (λ es. es ++ map entry_of turns) one.entries ∙ append_assoc s.entries (entry_of turn ∷ []) (map entry_of turns); begun = ap (λ (t : Session). t.begun) both ∙ more.begun }

-- a rollback that is stopped

module _ {Key : Type 0} (m : Meaning Key) (keeps : IsKept m) (stamp : Stamp) (sets : List (Set Key)) (target : Target) (count : is_by_count target ≡ false) (before : Contents) where
  -- it can be run again, back to the same point
  record IsOnTheWay (c : Contents) : Type 0 where
    xs : List (Run Key)
    ran : RanSince Postgresql m before xs c
    can : are_reversible Postgresql m xs before.users ≡ true
    known : AreKnown Postgresql m sets xs
    at : rows_kept target c.rows ≡ Some (length before.rows)
    whole : list_all (λ (x : Run Key). x.set.in_transaction) xs ≡ true

  abbrev added : (c : Contents) → IsOnTheWay c → List Tracked
  added c is = is.ran.added

  back_of : (c : Contents) (is : IsOnTheWay c) → Back m keeps Postgresql sets is.xs is.ran.added before.rows before.users c.users
  back_of c is = all_fronts_back m keeps Postgresql sets is.xs is.ran.added before.rows before.users c.users is.ran.are_theirs is.known is.ran.sound is.can is.ran.users (sym (ap has_twin_rows is.ran.rows) ∙ is.ran.differ)

  front_way : (c e : Contents) (is : IsOnTheWay c) → IsFrontOf Postgresql m is.xs is.ran.added before.rows before.users e → IsOnTheWay e
  front_way c e is f =
      let rows : c.rows ≡ (before.rows ++ f.front) ++ f.back = is.ran.rows ∙ ap (λ rs. before.rows ++ rs) f.theirs ∙ sym (append_assoc before.rows f.front f.back) in
      record {
        xs = f.ys;
        ran = record {
          sound = is.ran.sound;
          added = f.front;
          are_theirs = f.are_theirs;
          rows = f.rows_are;
          differ = ap has_twin_rows f.rows_are ∙ twins_before (before.rows ++ f.front) f.back (sym (ap has_twin_rows rows) ∙ is.ran.differ);
          users = f.effects;
        };
        can = can_front Postgresql m f.ys f.zs before.users (subst (λ xs. are_reversible Postgresql m xs before.users ≡ true) f.runs is.can);
        known = known_front Postgresql m sets f.ys f.zs (subst (AreKnown Postgresql m sets) f.runs is.known);
        at = ap (rows_kept target) f.rows_are ∙ target_front target before.rows f.front f.back count (sym (ap (rows_kept target) (rows ∙ append_assoc before.rows f.front f.back)) ∙ is.at);
        whole = all-append_left (λ (x : Run Key). x.set.in_transaction) f.ys f.zs (subst (λ xs. list_all (λ (x : Run Key). x.set.in_transaction) xs ≡ true) f.runs is.whole);
      }

  module _ (who : List ℕ) (database : Database) (is : IsOnTheWay (contents_of database)) where
    abbrev by : Stamp
    by = record stamp { who = who }

    abbrev here : Session
    here = first_session Postgresql by database

    abbrev back : Back m keeps Postgresql sets is.xs is.ran.added before.rows before.users database.users
    back = back_of (contents_of database) is

    from : with_users database.users (before.rows ++ is.ran.added) ≡ contents_of database
    from = ap (with_users database.users) (sym is.ran.rows)

    idle : IsIdle here (contents_of database)
    idle =
        let at = opened Postgresql by database in
        record { committed = at.committed; seen = at.seen; begun = (opened_by Postgresql by database).begun }

    front_keeps : (ts us : List Turn) → back.turns ≡ ts ++ us → (now : Database) → all_done Postgresql (joined (here.entries ++ map (entry_of m who) ts)) database ≡ Ok now → IsOnTheWay (contents_of now)
    front_keeps ts us split now led =
        let at = back.fronts ts us split in
        let undone = subst (λ c. Undone Postgresql ts c at.0) from at.1 in
        let whole = all-append_left (λ (t : Turn). t.in_transaction) ts us (subst (λ xs. list_all (λ (t : Turn). t.in_transaction) xs ≡ true) split (back.whole is.whole)) in
        let wrote = all_entries m who ts (contents_of database) at.0 here idle whole undone in
        let calls = Alone (map Locks (opening by database)) Ordinary ∷ turns_made Postgresql who ts (contents_of database) in
        let leads = journal_leads Postgresql calls database in
        let same = one_ok database (λ w e. []) IsOnTheWay (all_done Postgresql (joined (here.entries ++ map (entry_of m who) ts)) database) led (ap (λ es. all_done Postgresql (joined es) database) (sym wrote.entries) ∙ leads) in
        let taken = undone_taken Postgresql m who ts (contents_of database) at.0 here undone (opened Postgresql by database) in
        subst IsOnTheWay (sym (ap contents_of same ∙ taken.committed)) (front_way (contents_of database) at.0 is at.2)

    locked_keeps : StopKeeps database (λ w e. []) IsOnTheWay (with_lock by database (turns_made Postgresql who back.turns (contents_of database))) database
    locked_keeps front rest now entries led =
        let undone = subst (λ c. Undone Postgresql back.turns c before) from back.undone in
        let wrote = all_entries m who back.turns (contents_of database) before here idle (back.whole is.whole) undone in
        let stop = falls Postgresql by database (turns_made Postgresql who back.turns (contents_of database)) (map (entry_of m who) back.turns) wrote.entries wrote.begun front rest now entries led in
        let contents = elim stop as (λ _. IsOnTheWay (contents_of now)) [
          | inl opens ↦ subst IsOnTheWay (sym opens.contents) is
          | inr later ↦ elim later as (λ _. IsOnTheWay (contents_of now)) [
            | inl within ↦ within_turns now within.front within.rest within.is within.led
            | inr after ↦ subst IsOnTheWay (sym after.contents) (front_keeps back.turns [] (sym (append-nil back.turns)) after.before after.led)
          ]
        ] in
        (contents, lock_stands by database (map (entry_of m who) back.turns) now (no_locks_in m who back.turns) stop) where
          within_turns : (now : Database) (front rest : Journal) → map (entry_of m who) back.turns ≡ front ++ rest → all_done Postgresql (joined (here.entries ++ front)) database ≡ Ok now → IsOnTheWay (contents_of now)
          within_turns now front rest split led =
              let q = front_of (entry_of m who) back.turns front rest split in
              front_keeps q.0 q.1 q.2 now (subst (λ es. all_done Postgresql (joined (here.entries ++ es)) database ≡ Ok now) q.3 led)

    turns_keep : (turns : List Turn) → back.turns ≡ turns → StopKeeps database (λ w e. []) IsOnTheWay (rollback_of Postgresql by turns database) database
    turns_keep [] same = nothing_kept database (λ w e. []) IsOnTheWay database is
    turns_keep (turn ∷ turns) same = subst (λ ts. StopKeeps database (λ w e. []) IsOnTheWay (with_lock by database (turns_made Postgresql who ts (contents_of database))) database) same locked_keeps

    undone_is : undo_turns Postgresql m sets (rows_undone (length before.rows) database.rows) ≡ Some back.turns
    undone_is = ap (undo_turns Postgresql m sets) (ap reverse (ap (drop (length before.rows)) is.ran.rows ∙ drop-append_seam before.rows is.ran.added)) ∙ back.are

    rollback_keeps : StopKeeps database (λ w e. []) IsOnTheWay (rollback_to Postgresql m by sets target database) database
    rollback_keeps =
        subst (λ o. StopKeeps database (λ w e. []) IsOnTheWay (elim o as (λ _. List Call) [ Some stay ↦ rollback_calls Postgresql m by sets stay database | None ↦ [] ]) database) (sym is.at)
        (subst (λ o. StopKeeps database (λ w e. []) IsOnTheWay (elim o as (λ _. List Call) [ Some turns ↦ rollback_of Postgresql by turns database | None ↦ [] ]) database) (sym undone_is) (turns_keep back.turns refl))

pub rollback_resumes : {Key : Type 0} (m : Meaning Key) → IsKept m → RollbackResumes m
rollback_resumes m keeps stamp sets target before xs start database count ran can known at whole stopped =
    let first : IsOnTheWay m keeps stamp sets target count before (contents_of start) = record { xs = xs; ran = ran; can = can; known = known; at = at; whole = whole } in
    let kept = trail_keeps start (λ who. rollback_to Postgresql m (record stamp { who = who }) sets target) (IsOnTheWay m keeps stamp sets target count before)
    (λ who e is. rollback_keeps m keeps stamp sets target count before who e is)
    [] stopped.stops stopped.last stopped.trail
    (λ e is. (subst (λ (x : Database). IsOnTheWay m keeps stamp sets target count before (contents_of x)) (same_ok Postgresql is) first, inl (sym (same_ok Postgresql is))))
    database stopped.led in
    let way = kept.0 in
    subst (λ o. IsAtRest start before (left_by Postgresql (elim o as (λ _. List Call) [ Some stay ↦ rollback_calls Postgresql m stamp sets stay database | None ↦ [] ]) database)) (sym way.at)
    (rests_on start database (left_by Postgresql (rollback_calls Postgresql m stamp sets (length before.rows) database) database) before (not_held start database kept.1 stopped.unlocked)
    (rollback_rests m keeps Postgresql stamp sets before way.xs database way.ran way.can way.known))
