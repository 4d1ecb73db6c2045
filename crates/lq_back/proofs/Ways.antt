-- What takes a row back is told by its changeset, looked for in the changelog.
use Rattle.std.proofs.Common.{ap, arith, sym, refl, ◌≡◌, ◌∙◌, ◌+◌, ◌++◌, Bool, true, false, cond, is_none, is_some, not, List, [], ◌∷◌, map, Option, Some, None, option_map, length, suc, ℕ}
use Rattle.std.proofs.lemmas.List.{append_assoc, reverse-append}
use Rattle.std.specs.List.{list_all, slice_get}
use Rattle.std.specs.Option.{unwrap_or}
use Rattle.std.specs.Prelude.{Err, if◌then◌else◌, option_and_then, reverse, ◌&&◌, ◌||◌}
use Rattle.lq_base.specs.declared.dialect.Dialect.{Dialect}
use Rattle.lq_base.specs.declared.identity.Identity.{Identity}
use Rattle.lq_base.specs.declared.tracking.Tracked.{Tracked}
use Rattle.lq_expr.specs.declared.options.Options.{Options}
use Rattle.lq_any.specs.AnyChange.{inverse}
use Rattle.lq_any.specs.declared.any_change.AnyChange.{AnyChange}
use Rattle.lq_any.specs.declared.any_change.AnyChange.TheVariants.{DropTable}
use Rattle.lq_kinds.specs.declared.change_set.ChangeSet.{ChangeSet}
use Rattle.lq_back.proofs.Indexed.{one}
use Rattle.lq_back.specs.Laws.{PlacesAreKnown}
use Rattle.lq_back.specs.Reversal.{IsRefusal, IsReversed, found_at, found_from, has_inverse, is_its, is_undoable, taken_back, undoable_place}
use Rattle.lq_seen.specs.View.{any_meaning, view, views}
use Rattle.lq_kept.specs.declared.way.TakenBack.{TakenBack}
use Rattle.lq_kept.specs.declared.way.TakenBack.TheVariants.{Alone, By}
use Rattle.lq_back.specs.declared.reverse_fault.ReverseFault.{ReverseFault}
use Rattle.lq_back.specs.declared.reverse_fault.ReverseFault.TheVariants.{Not, OutOfMemory}
use Rattle.lq_track.specs.Log.{identity_of}
use Rattle.lq_model.specs.declared.statement.Statement.{Statement}
use Rattle.lq_turns.specs.Set.{inverses, statements_of, undoing}
use Rattle.lq_turns.specs.Script.{is_mark_ran, not_reversible, set_of, undo_turn}

-- whether something takes a changeset back

its_inverse : (d : Dialect) (x : AnyChange) → has_inverse x ≡ is_some (inverse d x)
its_inverse d (DropTable x) = refl
its_inverse d x = refl

both_there : {A : Type 0} (a b : Option (List A)) → (is_some a && is_some b) ≡ is_some (option_and_then (λ more. option_map (λ first. more ++ first) a) b)
both_there (Some x) (Some y) = refl
both_there (Some x) None = refl
both_there None (Some y) = refl
both_there None None = refl

have_inverses : (d : Dialect) (xs : List AnyChange) → list_all has_inverse xs ≡ is_some (inverses d any_meaning xs)
have_inverses d [] = refl
have_inverses d (x ∷ xs) = ap (λ b. b && list_all has_inverse xs) (its_inverse d x) ∙ (ap (λ b. is_some (inverse d x) && b) (have_inverses d xs) ∙ both_there (inverse d x) (inverses d any_meaning xs))

abbrev pub undone : Dialect → Option (List AnyChange) → List AnyChange → Option (List Statement)
undone d r xs = elim r [ Some block ↦ Some (statements_of d any_meaning block) | None ↦ inverses d any_meaning xs ]

pub undone_by : (d : Dialect) (r : Option (List AnyChange)) (xs : List AnyChange) → (is_some r || list_all has_inverse xs) ≡ is_some (undone d r xs)
undone_by d (Some block) xs = refl
undone_by d None xs = have_inverses d xs

pub undoable : (o : Options) (x : ChangeSet) → is_undoable x ≡ is_some (undoing o.dialect any_meaning (view o x))
undoable o x = undone_by o.dialect x.rollback x.changes

-- the changeset of a row

pub set_found : (o : Options) (n : ℕ) (of : Identity) (xs : List ChangeSet) → set_of (views o xs) of ≡ option_map (λ (f : ℕ × ChangeSet). view o f.1) (found_from n of xs)
set_found o n of [] = refl
set_found o n of (x ∷ xs) =
    elim (is_its of x) as (λ b. cond b (Some (view o x)) (set_of (views o xs) of) ≡ option_map (λ (f : ℕ × ChangeSet). view o f.1) (cond b (one n x) (found_from (suc n) of xs))) [
      | true ↦ refl
      | false ↦ set_found o (suc n) of xs
    ]

abbrev pub Stands : ℕ → ℕ → List ChangeSet → ChangeSet → Type 0
Stands n m xs x = (k : ℕ) × (m ≡ n + k) × (slice_get xs k ≡ Some x)

stands_by : (n m : ℕ) (of : Identity) (y : ChangeSet) (ys : List ChangeSet) (x : ChangeSet) (b : Bool) → (found_from (suc n) of ys ≡ one m x → Stands (suc n) m ys x) → cond b (one n y) (found_from (suc n) of ys) ≡ one m x → Stands n m (y ∷ ys) x
stands_by n m of y ys x true more same =
    let at : n ≡ m = ap (λ (o : Option (ℕ × ChangeSet)). unwrap_or (option_map (λ (f : ℕ × ChangeSet). f.0) o) 0) same in
    let its : y ≡ x = ap (λ (o : Option (ℕ × ChangeSet)). unwrap_or (option_map (λ (f : ℕ × ChangeSet). f.1) o) y) same in
    (0, omega (arith, at), ap (λ (z : ChangeSet). let o : Option ChangeSet = Some z in o) its)
stands_by n m of y ys x false more later =
    let found = more later in
    let at : m ≡ suc n + found.0 = found.1 in
    (suc found.0, omega (arith, at), found.2)

pub place_is : (n m : ℕ) (of : Identity) (xs : List ChangeSet) (x : ChangeSet) → found_from n of xs ≡ one m x → Stands n m xs x
place_is n m of [] x is = Prim.cc
place_is n m of (y ∷ ys) x is = stands_by n m of y ys x (is_its of y) (λ later. place_is (suc n) m of ys x later) is

-- how it is taken back

none_of : {A B : Type 0} (p : Option A) (f : A → B) → not (is_some p) ≡ is_none (option_map f p)
none_of None f = refl
none_of (Some x) f = refl

abbrev pub by : Option ℕ → Option TakenBack
by place = option_map (λ n. By n) place

none_if : (b : Bool) (n : ℕ) → is_none (by (cond b (Some n) None)) ≡ not b
none_if true n = refl
none_if false n = refl

module _ (o : Options) (xs : List ChangeSet) (row : Tracked) where
  none_lost : is_mark_ran row.exec ≡ false → None ≡ found_at (identity_of row) xs → true ≡ is_none (undo_turn o.dialect any_meaning (views o xs) row)
  none_lost unmarked lost = rw (unmarked, set_found o 0 (identity_of row) xs, ← lost) refl

  none_found : (n : ℕ) (x : ChangeSet) → is_mark_ran row.exec ≡ false → one n x ≡ found_at (identity_of row) xs → is_none (by (cond (is_undoable x) (Some n) None)) ≡ is_none (undo_turn o.dialect any_meaning (views o xs) row)
  none_found n x unmarked found =
      none_if (is_undoable x) n ∙ (ap not (undoable o x) ∙ rw (unmarked, set_found o 0 (identity_of row) xs, ← found) (none_of (undoing o.dialect any_meaning (view o x)) _))

  by_mark : (b : Bool) → is_mark_ran row.exec ≡ b → (found : Option (ℕ × ChangeSet)) → found ≡ found_at (identity_of row) xs
      → is_none (cond b (Some Alone) (by (option_and_then undoable_place found))) ≡ is_none (undo_turn o.dialect any_meaning (views o xs) row)
  by_mark true marked found at = rw marked refl
  by_mark false unmarked None at = none_lost unmarked at
  by_mark false unmarked (Some f) at = none_found f.0 f.1 unmarked at

  -- nothing takes the row back exactly where it has no way
  pub none_way : is_none (taken_back xs row) ≡ is_none (undo_turn o.dialect any_meaning (views o xs) row)
  none_way = by_mark (is_mark_ran row.exec) refl (found_at (identity_of row) xs) refl

pub way_is : (xs : List ChangeSet) (row : Tracked) (way : Option TakenBack) (place : Option ℕ) → way ≡ (if is_mark_ran row.exec then Some Alone else by place) → place ≡ option_and_then undoable_place (found_at (identity_of row) xs) → way ≡ taken_back xs row
way_is xs row way place is found = is ∙ ap (λ (p : Option ℕ). if is_mark_ran row.exec then Some Alone else by p) found

pub no_place : (xs : List ChangeSet) (row : Tracked) → None ≡ found_at (identity_of row) xs → None ≡ option_and_then undoable_place (found_at (identity_of row) xs)
no_place xs row lost = ap (λ (f : Option (ℕ × ChangeSet)). option_and_then undoable_place f) lost

pub some_place : (xs : List ChangeSet) (row : Tracked) (n : ℕ) (x : ChangeSet) (place : Option ℕ) → place ≡ undoable_place (n, x) → one n x ≡ found_at (identity_of row) xs → place ≡ option_and_then undoable_place (found_at (identity_of row) xs)
some_place xs row n x place is found = is ∙ ap (λ (f : Option (ℕ × ChangeSet)). option_and_then undoable_place f) found

-- rows one after another, the last one first

pub map_behind : {A B : Type 0} (f : A → B) (xs : List A) (x : A) → map f (xs ++ x ∷ []) ≡ map f xs ++ f x ∷ []
map_behind f [] x = refl
map_behind f (y ∷ xs) x = ap (λ ys. f y ∷ ys) (map_behind f xs x)

pub last_first : {A : Type 0} (rest front : List A) (row : A) → rest ≡ front ++ row ∷ [] → reverse rest ≡ row ∷ reverse front
last_first rest front row is = ap reverse is ∙ reverse-append front (row ∷ [])

abbrev pub some_way : TakenBack → Option TakenBack
some_way way = Some way

pub more_ways : (xs : List ChangeSet) (rest front : List Tracked) (row : Tracked) (ways new : List TakenBack) (way : TakenBack) (all : List (Option TakenBack)) → rest ≡ front ++ row ∷ [] → taken_back xs row ≡ Some way → new ≡ ways ++ way ∷ []
    → map some_way ways ++ map (taken_back xs) (reverse rest) ≡ all → map some_way new ++ map (taken_back xs) (reverse front) ≡ all
more_ways xs rest front row ways new way all is goes grown so =
    rw grown (ap (λ ys. ys ++ map (taken_back xs) (reverse front)) (map_behind some_way ways way)
    ∙ (append_assoc (map some_way ways) (some_way way ∷ []) (map (taken_back xs) (reverse front))
    ∙ (ap (λ y. map some_way ways ++ y ∷ map (taken_back xs) (reverse front)) (sym goes)
    ∙ (ap (λ ys. map some_way ways ++ map (taken_back xs) ys) (sym (last_first rest front row is)) ∙ so))))

module _ (o : Options) (xs : List ChangeSet) (rest front : List Tracked) (row : Tracked) (is : rest ≡ front ++ row ∷ []) where
  abbrev first_lost : List Tracked → Option Identity
  first_lost rows = not_reversible o.dialect any_meaning (views o xs) rows

  pub one_passed : {all : Option Identity} → false ≡ is_none (undo_turn o.dialect any_meaning (views o xs) row) → first_lost (reverse rest) ≡ all → first_lost (reverse front) ≡ all
  one_passed goes so = sym (ap first_lost (last_first rest front row is) ∙ (rw (← goes) refl)) ∙ so

  pub one_lost : {all : Option Identity} → true ≡ is_none (undo_turn o.dialect any_meaning (views o xs) row) → first_lost (reverse rest) ≡ all → all ≡ Some (identity_of row)
  one_lost lost so = sym so ∙ (ap first_lost (last_first rest front row is) ∙ (rw (← lost) refl))

pub refused : (meant : Option Identity) (row : Tracked) (fault : ReverseFault) → meant ≡ Some (identity_of row) → IsRefusal row fault → IsReversed {A = List TakenBack} meant (Err fault)
refused meant row (Not of) is its = is ∙ ap (λ (i : Identity). let o : Option Identity = Some i in o) (sym its)
refused meant row OutOfMemory is its = tt

pub none_left : (o : Options) (xs : List ChangeSet) (rest : List Tracked) {all : Option Identity} → length rest ≡ 0 → not_reversible o.dialect any_meaning (views o xs) (reverse rest) ≡ all → all ≡ None
none_left o xs [] none so = sym so
none_left o xs (row ∷ rest) none so = Prim.cc

-- the changeset by which a row is taken back

pub record IsBy (xs : List ChangeSet) (row : Tracked) (x : ChangeSet) : Type 0 where
  pub undoable : is_undoable x ≡ true
  pub unmarked : is_mark_ran row.exec ≡ false
  pub known : (o : Options) → set_of (views o xs) (identity_of row) ≡ Some (view o x)

-- it stands at the place
abbrev pub AtPlace : List ChangeSet → Tracked → ℕ → Type 0
AtPlace xs row n = (x : ChangeSet) × (slice_get xs n ≡ Some x) × IsBy xs row x

by_found : (xs : List ChangeSet) (row : Tracked) (n : ℕ) (f : ℕ × ChangeSet) → is_mark_ran row.exec ≡ false → found_at (identity_of row) xs ≡ Some f → (b : Bool) → is_undoable f.1 ≡ b → by (cond b (Some f.0) None) ≡ Some (By n) → AtPlace xs row n
by_found xs row n f unmarked at false not_so is = Prim.cc
by_found xs row n f unmarked at true so is =
    let same : f.0 ≡ n = Prim.cc in
    let place = place_is 0 f.0 (identity_of row) xs f.1 at in
    let from : f.0 ≡ 0 + place.0 = place.1 in
    let there : place.0 ≡ n = omega (arith, from, same) in (
      f.1,
      ap (slice_get xs) (sym there) ∙ place.2,
      record { undoable = so; unmarked = unmarked; known = λ o. set_found o 0 (identity_of row) xs ∙ ap (option_map (λ (g : ℕ × ChangeSet). view o g.1)) at },
    )

by_way : (xs : List ChangeSet) (row : Tracked) (n : ℕ) (b : Bool) → is_mark_ran row.exec ≡ b → (found : Option (ℕ × ChangeSet)) → found_at (identity_of row) xs ≡ found → cond b (Some Alone) (by (option_and_then undoable_place found)) ≡ Some (By n) → AtPlace xs row n
by_way xs row n true marked found at is = Prim.cc
by_way xs row n false unmarked None at is = Prim.cc
by_way xs row n false unmarked (Some f) at is = by_found xs row n f unmarked at (is_undoable f.1) refl is

pub at_place : (xs : List ChangeSet) (row : Tracked) (n : ℕ) → taken_back xs row ≡ Some (By n) → AtPlace xs row n
at_place xs row n is = by_way xs row n (is_mark_ran row.exec) refl (found_at (identity_of row) xs) refl is

pub places_are_known : PlacesAreKnown
places_are_known = λ o xs row n is. let found = at_place xs row n is in (found.0, found.1, found.2.known o, found.2.unmarked)
