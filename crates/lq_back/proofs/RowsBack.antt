-- Rows that are taken back, each in its way.
use Rattle.std.proofs.Common.{ap, sym, refl, subst, ◌≡◌, ◌∙◌, ◌++◌, Bool, true, false, cond, List, [], ◌∷◌, map, Option, Some, None, option_map, is_some, ℕ}
use Rattle.std.proofs.lemmas.List.{reverse-append, reverse-reverse}
use Rattle.std.specs.List.{AllZip, slice_get}
use Rattle.std.specs.Prelude.{option_and_then, reverse}
use Rattle.lq_base.specs.declared.dialect.Dialect.{Dialect}
use Rattle.lq_base.specs.declared.tracking.Tracked.{Tracked}
use Rattle.lq_expr.specs.declared.options.Options.{Options}
use Rattle.lq_kinds.specs.declared.change_set.ChangeSet.{ChangeSet}
use Rattle.lq_model.specs.declared.statement.Statement.{Statement}
use Rattle.lq_back.proofs.Ways.{IsBy, at_place, by, map_behind, some_way, undone_by}
use Rattle.lq_back.specs.Reversal.{AreWays, IsTurn, IsWay, found_at, is_undoable, taken_back, turn_back, undoable_place}
use Rattle.lq_seen.specs.View.{any_meaning, view, views}
use Rattle.lq_kept.specs.declared.way.TakenBack.{TakenBack}
use Rattle.lq_kept.specs.declared.way.TakenBack.TheVariants.{Alone, By}
use Rattle.lq_track.specs.Log.{identity_of}
use Rattle.lq_turns.specs.Set.{undoing}
use Rattle.lq_turns.specs.Script.{is_mark_ran, undo_by, undo_turn, undo_turns}
use Rattle.lq_turns.specs.declared.turn.Turn.{Turn}

-- one row

-- any command's options that name the dialect
abbrev pub of_dialect : Dialect → Options
of_dialect d = record { dialect = d; contexts = []; labels = None }

pub never_absent : (d : Dialect) (x : ChangeSet) → is_undoable x ≡ true → ((o : Options) → None ≡ undoing d any_meaning (view o x)) → ⊥
never_absent d x goes none =
    let there : is_undoable x ≡ is_some (undoing d any_meaning (view (of_dialect d) x)) = undone_by d x.rollback x.changes in
    let lost : false ≡ true = ap is_some (none (of_dialect d)) ∙ (sym there ∙ goes) in
    Prim.cc

pub turn_by_set : (d : Dialect) (row : Tracked) (x : ChangeSet) (statements : List Statement) (turn : Turn) → ((o : Options) → Some statements ≡ undoing d any_meaning (view o x)) → turn ≡ turn_back row statements x.in_transaction
    → (o : Options) → undo_by d any_meaning (identity_of row) (view o x) ≡ Some turn
turn_by_set d row x statements turn made is o =
    ap (option_map (λ (ss : List Statement). turn_back row ss x.in_transaction)) (sym (made o)) ∙ ap (λ (t : Turn). let goes : Option Turn = Some t in goes) (sym is)

not_alone : (place : Option ℕ) → by place ≡ Some Alone → ⊥
not_alone None is = Prim.cc
not_alone (Some n) is = Prim.cc

marked_alone : (place : Option ℕ) (marked b : Bool) → marked ≡ b → cond b (Some Alone) (by place) ≡ Some Alone → marked ≡ true
marked_alone place marked true so is = so
marked_alone place marked false so is = absurd (not_alone place is)

module _ (d : Dialect) (xs : List ChangeSet) (row : Tracked) where
  pub alone : (turn : Turn) → turn ≡ turn_back row [] true → taken_back xs row ≡ Some Alone → (o : Options) → undo_turn d any_meaning (views o xs) row ≡ Some turn
  alone turn made is o = rw (marked_alone (option_and_then undoable_place (found_at (identity_of row) xs)) (is_mark_ran row.exec) (is_mark_ran row.exec) refl is) (ap (λ (t : Turn). let goes : Option Turn = Some t in goes) (sym made))

  pub by_its : (x : ChangeSet) (turn : Turn) → IsBy xs row x → ((o : Options) → undo_by d any_meaning (identity_of row) (view o x) ≡ Some turn) → (o : Options) → undo_turn d any_meaning (views o xs) row ≡ Some turn
  by_its x turn its made o = rw (its.unmarked, its.known o) (made o)

pub its_set : (xs : List ChangeSet) (row : Tracked) (n : ℕ) (x : ChangeSet) → taken_back xs row ≡ Some (By n) → slice_get xs n ≡ Some x → IsBy xs row x
its_set xs row n x goes there =
    let found = at_place xs row n goes in
    let at : slice_get xs n ≡ Some found.0 = found.1 in
    let same : found.0 ≡ x = Prim.cc in
    subst (IsBy xs row) same found.2

pub no_set : (xs : List ChangeSet) (row : Tracked) (n : ℕ) → taken_back xs row ≡ Some (By n) → slice_get xs n ≡ None → ⊥
no_set xs row n goes none =
    let found = at_place xs row n goes in
    let at : slice_get xs n ≡ Some found.0 = found.1 in
    Prim.cc

-- rows one after another

heads : {A : Type 0} (x y : A) (xs ys : List A) → x ∷ xs ≡ y ∷ ys → x ≡ y
heads x y xs ys is = Prim.cc

tails : {A : Type 0} (x y : A) (xs ys : List A) → x ∷ xs ≡ y ∷ ys → xs ≡ ys
tails x y xs ys is = Prim.cc

map_reverse : {A B : Type 0} (f : A → B) (xs : List A) → map f (reverse xs) ≡ reverse (map f xs)
map_reverse f [] = refl
map_reverse f (x ∷ xs) = ap (map f) (reverse-append (x ∷ []) xs) ∙ (map_behind f (reverse xs) x ∙ (ap (λ ys. ys ++ f x ∷ []) (map_reverse f xs) ∙ sym (reverse-append (f x ∷ []) (map f xs))))

abbrev pub some_turn : Turn → Option Turn
some_turn turn = Some turn

abbrev pub turns_of : Dialect → Options → List ChangeSet → List Tracked → List (Option Turn)
turns_of d o xs rows = map (undo_turn d any_meaning (views o xs)) rows

each_way : (xs : List ChangeSet) (rows : List Tracked) (ways : List TakenBack) → map some_way ways ≡ map (taken_back xs) rows → AllZip (IsWay xs) rows ways
each_way xs [] [] are = tt
each_way xs [] (way ∷ ways) are = Prim.cc
each_way xs (row ∷ rows) [] are = Prim.cc
each_way xs (row ∷ rows) (way ∷ ways) are = (
  sym (heads (some_way way) (taken_back xs row) (map some_way ways) (map (taken_back xs) rows) are),
  each_way xs rows ways (tails (some_way way) (taken_back xs row) (map some_way ways) (map (taken_back xs) rows) are),
)

pub their_ways : (xs : List ChangeSet) (rows : List Tracked) (ways : List TakenBack) → AreWays xs rows ways → AllZip (IsWay xs) rows (reverse ways)
their_ways xs rows ways are =
    each_way xs rows (reverse ways)
    (map_reverse some_way ways ∙ (ap reverse are ∙ (sym (map_reverse (taken_back xs) (reverse rows)) ∙ ap (map (taken_back xs)) (reverse-reverse rows))))

each_turn : (d : Dialect) (o : Options) (xs : List ChangeSet) (rows : List Tracked) (turns : List Turn) → AllZip (IsTurn d xs) rows turns → map some_turn turns ≡ turns_of d o xs rows
each_turn d o xs [] [] all = refl
each_turn d o xs [] (turn ∷ turns) all = absurd all
each_turn d o xs (row ∷ rows) [] all = absurd all
each_turn d o xs (row ∷ rows) (turn ∷ turns) all =
    ap (λ (t : Option Turn). t ∷ map some_turn turns) (sym (all.0 o)) ∙ ap (λ (ts : List (Option Turn)). undo_turn d any_meaning (views o xs) row ∷ ts) (each_turn d o xs rows turns all.1)

all_turns : (d : Dialect) (o : Options) (xs : List ChangeSet) (rows : List Tracked) (turns : List Turn) → map some_turn turns ≡ turns_of d o xs rows → undo_turns d any_meaning (views o xs) rows ≡ Some turns
all_turns d o xs [] [] are = refl
all_turns d o xs [] (turn ∷ turns) are = Prim.cc
all_turns d o xs (row ∷ rows) [] are = Prim.cc
all_turns d o xs (row ∷ rows) (turn ∷ turns) are =
    let first = heads (some_turn turn) (undo_turn d any_meaning (views o xs) row) (map some_turn turns) (turns_of d o xs rows) are in
    let later = tails (some_turn turn) (undo_turn d any_meaning (views o xs) row) (map some_turn turns) (turns_of d o xs rows) are in
    ap (λ (t : Option Turn). option_and_then (λ (one : Turn). option_map (λ (more : List Turn). one ∷ more) (undo_turns d any_meaning (views o xs) rows)) t) (sym first)
    ∙ ap (option_map (λ (more : List Turn). turn ∷ more)) (all_turns d o xs rows turns later)

pub all_back : (d : Dialect) (xs : List ChangeSet) (rows : List Tracked) (turns : List Turn) → AllZip (IsTurn d xs) rows turns
    → (o : Options) → undo_turns d any_meaning (views o xs) (reverse rows) ≡ Some (reverse turns)
all_back d xs rows turns all o =
    all_turns d o xs (reverse rows) (reverse turns)
    (map_reverse some_turn turns ∙ (ap reverse (each_turn d o xs rows turns all) ∙ sym (map_reverse (undo_turn d any_meaning (views o xs)) rows)))
