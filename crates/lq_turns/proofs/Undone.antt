-- What ran is taken back.
use Rattle.std.proofs.Common.{ap, subst, sym, ◌∙◌}
use Rattle.std.proofs.Math.Seq.{drop-append_seam}
use Rattle.std.proofs.lemmas.List.{append-nil, append_assoc, reverse-append}
use Rattle.std.specs.List.{list_all, list_any}
use Rattle.std.specs.Prelude.{Bool, Err, List, None, Ok, Option, Result, Some, [], cond, drop, false, is_none, is_some, length, nat_eq, not, option_and_then, option_map, refl, reverse, true, ℕ, ◌&&◌, ◌++◌, ◌||◌, ◌∷◌, ◌≡◌}
use Rattle.lq_base.specs.Name.{is_named}
use Rattle.lq_base.specs.declared.dialect.Dialect.{Dialect}
use Rattle.lq_base.specs.declared.identity.Identity.{Identity}
use Rattle.lq_base.specs.declared.reason.Reason.{Reason}
use Rattle.lq_base.specs.declared.tracking.Tracked.{Tracked}
use Rattle.lq_model.proofs.Lists.{and_left, and_right, any_less, any-append, filter-append, filter_kept, named_itself, or_false, or_left, or_right}
use Rattle.lq_model.specs.Catalogue.{Catalogue}
use Rattle.lq_model.specs.Sound.{IsSound}
use Rattle.lq_model.specs.Step.{run}
use Rattle.lq_model.specs.declared.caller.By.TheVariants.{User}
use Rattle.lq_model.specs.declared.statement.Statement.{Statement}
use Rattle.lq_track.specs.Database.{Database, has_twin_rows, same_identity}
use Rattle.lq_track.specs.Log.{identity_of}
use Rattle.lq_turns.specs.Deed.{Contents, contents_of, is_of, others}
use Rattle.lq_turns.specs.Set.{all_fresh, effects, inverses, statements_of, IsKept, Meaning, Set, has_row}
use Rattle.lq_turns.specs.Laws.{AreKnown, IsAtRest, RollbackRestores, rollback_calls}
use Rattle.lq_turns.specs.Ran.{AreRowsOf, RanSince, Run, all_effects, are_reversible, effects_of, exec_in, is_reversible}
use Rattle.lq_turns.specs.Settle.{row_for}
use Rattle.lq_turns.specs.Session.{Session, all_called, left_by}
use Rattle.lq_turns.specs.Script.{calls_if_finished, rollback_of, set_of, turns_made, undo_by, undo_turn, undo_turns}
use Rattle.lq_turns.specs.declared.call.Call.{Call}
use Rattle.lq_turns.specs.declared.deed.OnRows.TheVariants.{Deleted}
use Rattle.lq_turns.specs.declared.stamp.Stamp.{Stamp}
use Rattle.lq_turns.specs.declared.turn.Turn.{Turn}
use Rattle.lq_turns.specs.Turn.{Ending, Finished, Stuck, Through, contents_in, ending, is_marked, kept, made, refused, row_ending, turn_calls}
use Rattle.lq_turns.proofs.Effects.{all_spelled, not_ok, run_effects, ok_same, course_through, run_both, run_sound, then_run}
use Rattle.lq_turns.proofs.Made.{At, calls_both, with_users}
use Rattle.lq_turns.proofs.Updates.{free_before, freed, locked_leaves, unmoved}
use Rattle.lq_turns.proofs.TurnLeft.{turn_taken, twice}

-- turns that all finish

module _ (d : Dialect) where
  -- these turns lead from the first contents to the second, and none is refused
  abbrev pub Undone : List Turn → Contents → Contents → Type 0
  Undone [] c e = c ≡ e
  Undone (turn ∷ turns) c e = (now : Contents) × (ending d turn c ≡ Finished now) × Undone turns now e

  pub undone_both : (turns more : List Turn) (c now e : Contents) → Undone turns c now → Undone more now e → Undone (turns ++ more) c e
  undone_both [] more c now e first second = subst (λ x. Undone more x e) (sym first) second
  undone_both (turn ∷ turns) more c now e first second = (first.0, first.1, undone_both turns more first.0 now e first.2 second)

module _ {Key : Type 0} (d : Dialect) (m : Meaning Key) where
  pub undone_taken : (who : List ℕ) (turns : List Turn) (c e : Contents) (s : Session) → Undone d turns c e → At s (twice c) → At (all_called d (turns_made d who turns c) s) (twice e)
  undone_taken who [] c e s is at = subst (λ x. At s (twice x)) is at
  undone_taken who (turn ∷ turns) c e s is at =
      let now = ap contents_in is.1 in
      let after = subst (λ x. At (all_called d (made d (turn_calls d who turn) c) s) (twice x)) now (turn_taken d who turn c s at) in
      let more = undone_taken who turns is.0 e (all_called d (made d (turn_calls d who turn) c) s) is.2 after in
      subst (λ (t : Session). At t (twice e)) (sym (calls_both d (made d (turn_calls d who turn) c) (calls_if_finished (turns_made d who turns (contents_in (ending d turn c))) (ending d turn c)) s))
      (subst (λ q. At (all_called d (calls_if_finished (turns_made d who turns (contents_in q)) q) (all_called d (made d (turn_calls d who turn) c) s)) (twice e)) (sym is.1) more)

  -- a turn whose statements run, and that deletes a row
  pub deleting : (turn : Turn) (of : Identity) (c : Contents) (users : Catalogue) → turn.row ≡ Deleted of → run User d turn.statements c.users ≡ Ok users → ending d turn c ≡ Finished (with_users users (others of c.rows))
  deleting turn of c users is ran =
      ap (λ q. elim q as (λ _. Ending) [ Through u ↦ row_ending d turn u c | Stuck before s reason ↦ refused d before (kept d turn before (is_marked d turn s)) reason c ]) (course_through d turn.statements c.users users ran)
      ∙ ap (λ w. row_ending d (record turn { row = w }) users c) is

  abbrev both_turns : Option (List Turn) → Option (List Turn) → Option (List Turn)
  both_turns ts us = option_and_then (λ xs. option_map (λ ys. xs ++ ys) us) ts

  as_it_is : (us : Option (List Turn)) → us ≡ option_map (λ ys. ys) us
  as_it_is None = refl
  as_it_is (Some us) = refl

  turn_first : (turn : Turn) (ts us : Option (List Turn)) → option_map (λ turns. turn ∷ turns) (both_turns ts us) ≡ both_turns (option_map (λ turns. turn ∷ turns) ts) us
  turn_first turn None us = refl
  turn_first turn (Some ts) None = refl
  turn_first turn (Some ts) (Some us) = refl

  turns_split : (sets : List (Set Key)) (rows more : List Tracked) → undo_turns d m sets (rows ++ more) ≡ both_turns (undo_turns d m sets rows) (undo_turns d m sets more)
  turns_split sets [] more = as_it_is (undo_turns d m sets more)
  turns_split sets (row ∷ rows) more = elim (undo_turn d m sets row) as (λ q. option_and_then (λ turn. option_map (λ turns. turn ∷ turns) (undo_turns d m sets (rows ++ more))) q ≡ both_turns (option_and_then (λ turn. option_map (λ turns. turn ∷ turns) (undo_turns d m sets rows)) q) (undo_turns d m sets more)) [
    | None ↦ refl
    | Some turn ↦ ap (λ o. option_map (λ turns. turn ∷ turns) o) (turns_split sets rows more) ∙ turn_first turn (undo_turns d m sets rows) (undo_turns d m sets more)
  ]

  pub turns_both : (sets : List (Set Key)) (rows more : List Tracked) (ts us : List Turn) → undo_turns d m sets rows ≡ Some ts → undo_turns d m sets more ≡ Some us → undo_turns d m sets (rows ++ more) ≡ Some (ts ++ us)
  turns_both sets rows more ts us first second = turns_split sets rows more ∙ ap (λ o. both_turns o (undo_turns d m sets more)) first ∙ ap (λ o. both_turns (Some ts) o) second

-- the rows

pub one_itself : (of : Identity) → same_identity of of ≡ true
one_itself of = ap (λ b. b && (is_named of.id of.id && is_named of.author of.author)) (named_itself of.file) ∙ ap (λ b. b && is_named of.author of.author) (named_itself of.id) ∙ named_itself of.author

pub new_row : (before rest : List Tracked) (row : Tracked) → has_twin_rows (before ++ row ∷ rest) ≡ false → has_row before (identity_of row) ≡ false
new_row [] rest row differ = refl
new_row (r ∷ rs) rest row differ =
    let at = or_left (list_any (λ s. same_identity (identity_of r) (identity_of s) || nat_eq r.order s.order) (rs ++ row ∷ rest)) _ differ in
    let there = or_right (list_any (λ s. same_identity (identity_of r) (identity_of s) || nat_eq r.order s.order) rs) _ (sym (any-append (λ (s : Tracked). same_identity (identity_of r) (identity_of s) || nat_eq r.order s.order) rs (row ∷ rest)) ∙ at) in
    or_false _ _
    (or_left (same_identity (identity_of r) (identity_of row)) _ (or_left (same_identity (identity_of r) (identity_of row) || nat_eq r.order row.order) _ there))
    (new_row rs rest row (or_right (list_any (λ s. same_identity (identity_of r) (identity_of s) || nat_eq r.order s.order) (rs ++ row ∷ rest)) _ differ))

only_it : (before : List Tracked) (row : Tracked) → has_row before (identity_of row) ≡ false → others (identity_of row) (before ++ row ∷ []) ≡ before
only_it before row none =
    filter-append (λ r. not (is_of (identity_of row) r)) before (row ∷ [])
    ∙ ap (λ b. others (identity_of row) before ++ cond (not b) (row ∷ []) []) (one_itself (identity_of row))
    ∙ append-nil (others (identity_of row) before)
    ∙ filter_kept (λ r. not (is_of (identity_of row) r)) before (any_less _ (is_of (identity_of row)) before (λ r out. ap (λ b. not (not b)) out) none)

-- the statements

module _ {Key : Type 0} (m : Meaning Key) (keeps : IsKept m) (d : Dialect) where
  inverse_by : (x : Key) (xs : List Key) (more : List Statement) (c now e : Catalogue) (us : List Statement) → m.is_for d x ≡ true → IsSound d c → m.fresh d x c ≡ true → m.effect d x c ≡ Ok now
      → run User d more e ≡ Ok now → (first : Option (List Statement)) → m.inverse d x ≡ first → option_map (λ f. more ++ f) first ≡ Some us → run User d us e ≡ Ok c
  inverse_by x xs more c now e us read sound new is gone None at all = Prim.cc
  inverse_by x xs more c now e us read sound new is gone (Some first) at all =
      let same : more ++ first ≡ us = Prim.cc in
      subst (λ ss. run User d ss e ≡ Ok c) same (run_both d more first e ∙ ap (then_run d first) gone ∙ keeps.restores d x c now first read sound new is at)

  -- what is generated for changes that were fresh takes them back
  pub takes_back : (xs : List Key) (c e : Catalogue) (us : List Statement) → list_all (m.is_for d) xs ≡ true → IsSound d c → all_fresh d m xs c ≡ true → effects d m xs c ≡ Ok e → inverses d m xs ≡ Some us → run User d us e ≡ Ok c
  takes_back [] c e us read sound new is all =
      let none : [] ≡ us = Prim.cc in
      subst (λ ss. run User d ss e ≡ Ok c) none (sym is)
  takes_back (x ∷ xs) c e us read sound new is all =
      let one : m.is_for d x ≡ true = and_left _ (list_all (m.is_for d) xs) read in
      (elim (m.effect d x c) as (λ q. m.effect d x c ≡ q → elim q as (λ _. Result Catalogue Reason) [ Ok y ↦ effects d m xs y | Err r ↦ Err r ] ≡ Ok e → elim q as (λ _. Bool) [ Ok y ↦ all_fresh d m xs y | Err r ↦ true ] ≡ true → run User d us e ≡ Ok c) [
        | Ok now ↦ λ at go still. (elim (inverses d m xs) as (λ o. inverses d m xs ≡ o → option_and_then (λ more. option_map (λ first. more ++ first) (m.inverse d x)) o ≡ Some us → run User d us e ≡ Ok c) [
          | None ↦ λ inv found. Prim.cc
          | Some more ↦ λ inv found.
              inverse_by x xs more c now e us one sound (and_left (m.fresh d x c) _ new) at
              (takes_back xs now e more (and_right (m.is_for d x) _ read) (run_sound d (m.gives d x) c now (keeps.spelled d x one) sound (keeps.does d x c one sound ∙ at)) still go inv)
              (m.inverse d x) refl found
        ]) refl all
        | Err r ↦ λ at go still. absurd (not_ok go)
      ]) refl is (and_right (m.fresh d x c) _ new)

  pub effects_sound : (xs : List Key) (c e : Catalogue) → list_all (m.is_for d) xs ≡ true → IsSound d c → effects d m xs c ≡ Ok e → IsSound d e
  effects_sound xs c e read sound is = run_sound d (statements_of d m xs) c e (all_spelled m keeps d xs read) sound (run_effects m keeps d xs c read sound ∙ is)

  -- one row

  is_nothing : {A : Type 0} (o : Option A) → is_none o ≡ true → o ≡ None
  is_nothing None is = refl
  is_nothing (Some x) is = Prim.cc

  is_something : {A : Type 0} (o : Option A) → is_some o ≡ true → (x : A) × (o ≡ Some x)
  is_something None is = Prim.cc
  is_something (Some x) is = (x, refl)

  abbrev pub TakenBack : Bool → List (Set Key) → Tracked → List Tracked → Catalogue → Catalogue → Type 0
  TakenBack whole sets row rows before now = (turn : Turn) × (undo_turn d m sets row ≡ Some turn) × (ending d turn (with_users now (rows ++ row ∷ [])) ≡ Finished (with_users before rows)) × (whole ≡ true → turn.in_transaction ≡ true)

  abbrev pub row_in : Bool → Run Key → ℕ → Option (List ℕ) → Tracked
  row_in marked x order tag = record (row_for x.reading order (exec_in marked) x.set) { tag = tag }

  abbrev undo_of : Set Key → List Statement → Turn
  undo_of x us = record { identity = x.identity; statements = us; in_transaction = x.in_transaction; is_undo = true; row = Deleted x.identity }

  module _ (sets : List (Set Key)) (x : Run Key) (order : ℕ) (tag : Option (List ℕ)) (rows : List Tracked) (before now : Catalogue) where
    marked_back : Ok before ≡ (let r : Result Catalogue Reason = Ok now in r) → has_row rows x.set.identity ≡ false → TakenBack x.set.in_transaction sets (row_in true x order tag) rows before now
    marked_back is none = (
      record { identity = x.set.identity; statements = []; in_transaction = true; is_undo = true; row = Deleted x.set.identity },
      refl,
      deleting d m (record { identity = x.set.identity; statements = []; in_transaction = true; is_undo = true; row = Deleted x.set.identity }) x.set.identity (with_users now (rows ++ row_in true x order tag ∷ [])) now refl refl
          ∙ ap (λ r. Finished (with_users now r)) (only_it rows (row_in true x order tag) none) ∙ ap (λ u. Finished (with_users u rows)) (sym (ok_same is)),
      λ whole. refl,
    )

    ran_back : set_of sets x.set.identity ≡ Some x.set → list_all (m.is_for d) x.set.changes ≡ true → IsSound d before
        → (is_none x.set.rollback && (is_some (inverses d m x.set.changes) && all_fresh d m x.set.changes before)) ≡ true → effects d m x.set.changes before ≡ Ok now → has_row rows x.set.identity ≡ false
        → TakenBack x.set.in_transaction sets (row_in false x order tag) rows before now
    ran_back known read sound can is none =
        let bare = is_nothing x.set.rollback (and_left _ (is_some (inverses d m x.set.changes) && all_fresh d m x.set.changes before) can) in
        let rest = and_right (is_none x.set.rollback) _ can in
        let us = is_something (inverses d m x.set.changes) (and_left _ (all_fresh d m x.set.changes before) rest) in
        let back = takes_back x.set.changes before now us.0 read sound (and_right (is_some (inverses d m x.set.changes)) _ rest) is us.1 in (
          undo_of x.set us.0,
          ap (λ o. option_and_then (undo_by d m x.set.identity) o) known
              ∙ ap (λ o. option_map (undo_of x.set) (elim o as (λ _. Option (List Statement)) [ Some block ↦ Some (statements_of d m block) | None ↦ inverses d m x.set.changes ])) bare
              ∙ ap (λ o. option_map (undo_of x.set) o) us.1,
          deleting d m (undo_of x.set us.0) x.set.identity (with_users now (rows ++ row_in false x order tag ∷ [])) before refl back ∙ ap (λ r. Finished (with_users before r)) (only_it rows (row_in false x order tag) none),
          λ whole. whole,
        )

    pub taken_back : (marked : Bool) → set_of sets x.set.identity ≡ Some x.set → list_all (m.is_for d) x.set.changes ≡ true → IsSound d before
        → is_reversible d m (record x { is_marked = marked }) before ≡ true → effects_of d m (record x { is_marked = marked }) before ≡ Ok now → has_row rows x.set.identity ≡ false
        → TakenBack x.set.in_transaction sets (row_in marked x order tag) rows before now
    taken_back true known read sound can is none = marked_back is none
    taken_back false known read sound can is none = ran_back known read sound can is none

  -- all rows, the last first

  pub effects_kept : (x : Run Key) (marked : Bool) (c e : Catalogue) → list_all (m.is_for d) x.set.changes ≡ true → IsSound d c → effects_of d m (record x { is_marked = marked }) c ≡ Ok e → IsSound d e
  effects_kept x true c e read sound is = subst (IsSound d) (ok_same is) sound
  effects_kept x false c e read sound is = effects_sound x.set.changes c e read sound is

  pub all_back : (sets : List (Set Key)) (xs : List (Run Key)) (added rows : List Tracked) (before now : Catalogue) → AreRowsOf xs added → AreKnown d m sets xs → IsSound d before
      → are_reversible d m xs before ≡ true → all_effects d m xs before ≡ Ok now → has_twin_rows (rows ++ added) ≡ false
      → (turns : List Turn) × (undo_turns d m sets (reverse added) ≡ Some turns) × Undone d turns (with_users now (rows ++ added)) (with_users before rows)
  all_back sets [] [] rows before now are known sound can is differ = ([], refl, ap (λ r. with_users now r) (append-nil rows) ∙ ap (λ u. with_users u rows) (sym (ok_same is)))
  all_back sets [] (row ∷ added) rows before now are known sound can is differ = absurd are
  all_back sets (x ∷ xs) [] rows before now are known sound can is differ = absurd are
  all_back sets (x ∷ xs) (row ∷ added) rows before now are known sound can is differ =
      (elim (effects_of d m x before) as (λ q. effects_of d m x before ≡ q → elim q as (λ _. Result Catalogue Reason) [ Ok y ↦ all_effects d m xs y | Err r ↦ Err r ] ≡ Ok now → elim q as (λ _. Bool) [ Ok y ↦ are_reversible d m xs y | Err r ↦ true ] ≡ true
      → (turns : List Turn) × (undo_turns d m sets (reverse (row ∷ added)) ≡ Some turns) × Undone d turns (with_users now (rows ++ row ∷ added)) (with_users before rows)) [
        | Ok c ↦ λ at go more.
            let none : has_row rows x.set.identity ≡ false = subst (λ (r : Tracked). has_row rows (identity_of r) ≡ false) are.0.is (new_row rows added row differ) in
            let one = subst (λ r. TakenBack x.set.in_transaction sets r rows before c) (sym are.0.is) (taken_back sets x are.0.order are.0.tag rows before c x.is_marked known.0.0 known.0.1 sound (and_left (is_reversible d m x before) _ can) at none) in
            let others = all_back sets xs added (rows ++ row ∷ []) c now are.1 known.1 (effects_kept x x.is_marked before c known.0.1 sound at) more go (ap has_twin_rows (append_assoc rows (row ∷ []) added) ∙ differ) in
            let last = ap (λ o. option_and_then (λ turn. option_map (λ turns. turn ∷ turns) (undo_turns d m sets [])) o) one.1 in (
              others.0 ++ one.0 ∷ [],
              ap (undo_turns d m sets) (reverse-append (row ∷ []) added) ∙ turns_both d m sets (reverse added) (row ∷ []) others.0 (one.0 ∷ []) others.1 last,
              undone_both d others.0 (one.0 ∷ []) (with_users now (rows ++ row ∷ added)) (with_users c (rows ++ row ∷ [])) (with_users before rows)
                  (subst (λ r. Undone d others.0 (with_users now r) (with_users c (rows ++ row ∷ []))) (append_assoc rows (row ∷ []) added) others.2)
                  (with_users before rows, one.2, refl),
            )
        | Err r ↦ λ at go more. absurd (not_ok go)
      ]) refl is (and_right (is_reversible d m x before) _ can)

module _ {Key : Type 0} (m : Meaning Key) (d : Dialect) (stamp : Stamp) where
  back_by : (turns : List Turn) (database : Database) (before : Contents) → Undone d turns (contents_of database) before
      → IsAtRest database before (left_by d (rollback_of d stamp turns database) database)
  back_by [] database before undone = unmoved database before (sym undone)
  back_by (turn ∷ turns) database before undone =
      freed database (left_by d (rollback_of d stamp (turn ∷ turns) database) database) before
      (locked_leaves d stamp database (turns_made d stamp.who (turn ∷ turns) (contents_of database)) before (λ s at. undone_taken d m stamp.who (turn ∷ turns) (contents_of database) before s undone at))

pub rollback_rests : {Key : Type 0} (m : Meaning Key) → IsKept m → (d : Dialect) (stamp : Stamp) (sets : List (Set Key)) (before : Contents) (xs : List (Run Key)) (database : Database)
    → RanSince d m before xs (contents_of database) → are_reversible d m xs before.users ≡ true → AreKnown d m sets xs
    → IsAtRest database before (left_by d (rollback_calls d m stamp sets (length before.rows) database) database)
rollback_rests m keeps d stamp sets before xs database ran can known =
    let back = all_back m keeps d sets xs ran.added before.rows before.users database.users ran.are_theirs known ran.sound can ran.users (sym (ap has_twin_rows ran.rows) ∙ ran.differ) in
    let undone = ap reverse (ap (drop (length before.rows)) ran.rows ∙ drop-append_seam before.rows ran.added) in
    let turns = ap (undo_turns d m sets) undone ∙ back.1 in
    subst (λ o. IsAtRest database before (left_by d (elim o as (λ _. List Call) [ Some turns ↦ rollback_of d stamp turns database | None ↦ [] ]) database)) (sym turns)
    (back_by m d stamp back.0 database before (subst (λ r. Undone d back.0 (with_users database.users r) before) (sym ran.rows) back.2))

pub rollback_restores : {Key : Type 0} (m : Meaning Key) → IsKept m → RollbackRestores m
rollback_restores m keeps d stamp sets before xs database unlocked ran can known =
    free_before database (left_by d (rollback_calls d m stamp sets (length before.rows) database) database) before unlocked (rollback_rests m keeps d stamp sets before xs database ran can known)
