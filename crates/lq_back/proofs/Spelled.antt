-- What turns back run are statements of the dialect.
use Rattle.std.proofs.Common.{ap, sym, refl, subst, ◌≡◌, ◌∙◌, ◌++◌, Bool, true, false, cond, List, [], ◌∷◌, Option, Some, None, option_map, ℕ}
use Rattle.std.specs.List.{list_all}
use Rattle.std.specs.Prelude.{option_and_then}
use Rattle.lq_base.specs.declared.dialect.Dialect.{Dialect}
use Rattle.lq_base.specs.declared.tracking.Tracked.{Tracked}
use Rattle.lq_expr.specs.declared.options.Options.{Options}
use Rattle.lq_any.specs.AnyChange.{inverse, is_for}
use Rattle.lq_kinds.specs.ReadFor.{is_block_for, is_read_for}
use Rattle.lq_any.specs.AnyChangeLaws.{returned}
use Rattle.lq_any.specs.declared.any_change.AnyChange.{AnyChange}
use Rattle.lq_kinds.specs.declared.change_set.ChangeSet.{ChangeSet}
use Rattle.lq_model.proofs.Lists.{all-append, and_left, and_right, and_true}
use Rattle.lq_model.specs.Step.{is_statement}
use Rattle.lq_model.specs.declared.statement.Statement.{Statement}
use Rattle.lq_seen.proofs.Read.{all_at}
use Rattle.lq_seen.proofs.Spelled.{statements_spelled}
use Rattle.lq_back.proofs.Ways.{place_is, set_found, undone}
use Rattle.lq_back.specs.Laws.{TurnsBackAreSpelled}
use Rattle.lq_back.specs.Reversal.{found_at, turn_back, goes_back}
use Rattle.lq_seen.specs.View.{any_meaning, view, views}
use Rattle.lq_track.specs.Log.{identity_of}
use Rattle.lq_turns.specs.Set.{inverses, undoing}
use Rattle.lq_turns.specs.Script.{is_mark_ran, set_of, undo_by, undo_turn, undo_turns}
use Rattle.lq_turns.specs.declared.turn.Turn.{Turn}

abbrev are_spelled : Dialect → Option (List Statement) → Bool
are_spelled d None = true
are_spelled d (Some statements) = list_all (is_statement d) statements

inverse_by : (d : Dialect) (x : AnyChange) → is_for d x ≡ true → (o : Option (List Statement)) → inverse d x ≡ o → are_spelled d o ≡ true
inverse_by d x read None is = refl
inverse_by d x read (Some statements) is = returned d x statements read is

joined : (d : Dialect) (a b : Option (List Statement)) → are_spelled d a ≡ true → are_spelled d b ≡ true → are_spelled d (option_and_then (λ (more : List Statement). option_map (λ (first : List Statement). more ++ first) a) b) ≡ true
joined d None None p q = refl
joined d None (Some ys) p q = refl
joined d (Some xs) None p q = refl
joined d (Some xs) (Some ys) p q = all-append (is_statement d) ys xs q p

inverses_spelled : (d : Dialect) (xs : List AnyChange) → list_all (is_for d) xs ≡ true → are_spelled d (inverses d any_meaning xs) ≡ true
inverses_spelled d [] all = refl
inverses_spelled d (x ∷ xs) all = joined d (inverse d x) (inverses d any_meaning xs) (inverse_by d x (and_left (is_for d x) _ all) (inverse d x) refl) (inverses_spelled d xs (and_right (is_for d x) _ all))

undone_spelled : (d : Dialect) (r : Option (List AnyChange)) (xs : List AnyChange) → list_all (is_for d) xs ≡ true → is_block_for d r ≡ true → are_spelled d (undone d r xs) ≡ true
undone_spelled d (Some block) xs all read = statements_spelled d block read
undone_spelled d None xs all read = inverses_spelled d xs all

undoing_spelled : (d : Dialect) (o : Options) (x : ChangeSet) → is_read_for d x ≡ true → are_spelled d (undoing d any_meaning (view o x)) ≡ true
undoing_spelled d o x read = undone_spelled d x.rollback x.changes (and_left (list_all (is_for d) x.changes) _ read) (and_right (list_all (is_for d) x.changes) _ read)

by_statements : (d : Dialect) (row : Tracked) (whole : Bool) (turn : Turn) (made : Option (List Statement)) → are_spelled d made ≡ true → option_map (λ (statements : List Statement). turn_back row statements whole) made ≡ Some turn → goes_back d turn ≡ true
by_statements d row whole turn None all is = Prim.cc
by_statements d row whole turn (Some statements) all is = let same : turn_back row statements whole ≡ turn = Prim.cc in subst (λ (t : Turn). goes_back d t ≡ true) same all

module _ (d : Dialect) (o : Options) (xs : List ChangeSet) (read : list_all (is_read_for d) xs ≡ true) where
  by_found : (row : Tracked) (turn : Turn) (found : Option (ℕ × ChangeSet)) → found_at (identity_of row) xs ≡ found → option_and_then (undo_by d any_meaning (identity_of row)) (option_map (λ (f : ℕ × ChangeSet). view o f.1) found) ≡ Some turn → goes_back d turn ≡ true
  by_found row turn None at is = Prim.cc
  by_found row turn (Some f) at is =
      let place = place_is 0 f.0 (identity_of row) xs f.1 at in
      by_statements d row f.1.in_transaction turn (undoing d any_meaning (view o f.1)) (undoing_spelled d o f.1 (all_at (is_read_for d) xs place.0 f.1 read place.2)) is

  by_mark : (row : Tracked) (turn : Turn) (b : Bool) → cond b (Some (turn_back row [] true)) (option_and_then (undo_by d any_meaning (identity_of row)) (set_of (views o xs) (identity_of row))) ≡ Some turn → goes_back d turn ≡ true
  by_mark row turn true is = by_statements d row true turn (Some []) refl is
  by_mark row turn false is = by_found row turn (found_at (identity_of row) xs) refl (ap (option_and_then (undo_by d any_meaning (identity_of row))) (sym (set_found o 0 (identity_of row) xs)) ∙ is)

  by_turns : (rows : List Tracked) (turn : Option Turn) (later : Option (List Turn)) (turns : List Turn) → ((t : Turn) → turn ≡ Some t → goes_back d t ≡ true) → ((ts : List Turn) → later ≡ Some ts → list_all (goes_back d) ts ≡ true)
      → option_and_then (λ (one : Turn). option_map (λ (more : List Turn). one ∷ more) later) turn ≡ Some turns → list_all (goes_back d) turns ≡ true
  by_turns rows None later turns first more is = Prim.cc
  by_turns rows (Some t) None turns first more is = Prim.cc
  by_turns rows (Some t) (Some ts) turns first more is = let same : t ∷ ts ≡ turns = Prim.cc in subst (λ (all : List Turn). list_all (goes_back d) all ≡ true) same (and_true _ _ (first t refl) (more ts refl))

  all_spelled : (rows : List Tracked) (turns : List Turn) → undo_turns d any_meaning (views o xs) rows ≡ Some turns → list_all (goes_back d) turns ≡ true
  all_spelled [] turns is = let same : [] ≡ turns = Prim.cc in subst (λ (all : List Turn). list_all (goes_back d) all ≡ true) same refl
  all_spelled (row ∷ rows) turns is = by_turns rows (undo_turn d any_meaning (views o xs) row) (undo_turns d any_meaning (views o xs) rows) turns (λ t one. by_mark row t (is_mark_ran row.exec) one) (λ ts later. all_spelled rows ts later) is

pub turns_back_spelled : TurnsBackAreSpelled
turns_back_spelled = λ d o g rows turns read is. all_spelled d o g.sets read rows turns is
