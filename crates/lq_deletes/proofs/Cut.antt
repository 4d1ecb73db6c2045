-- The marks of all rows, cut into those of each table.
use Rattle.std.proofs.Common.{ap, arith, drop, sym, take, ◌∙◌}
use Rattle.std.specs.List.{list_any}
use Rattle.std.specs.Prelude.{Bool, List, Some, [], cond, false, length, map, not, refl, slice_get, suc, true, zero, ℕ, ◌+◌, ◌++◌, ◌||◌, ◌∷◌, ◌≡◌, ◌≤◌}
use Rattle.lq_base.specs.declared.name.Name.{Name}
use Rattle.lq_base.specs.declared.value.Value.{Value}
use Rattle.lq_model.specs.Catalogue.{Table}
use Rattle.lq_model.proofs.Lists.{whether}
use Rattle.lq_deletes.specs.Places.{losses, lost_in, Named, row_total, rows_in, is_marked, Choice}
use Rattle.lq_deletes.proofs.Descent.{named_rows}
use Rattle.lq_deletes.proofs.Thinned.{chosen, chosen_none, chosen_some, drops_in, staying}

module _ (stay : Choice) where
  -- the rows that go are marked, and no others
  abbrev Marks : List Bool → List Named → Type 0
  Marks marks rows = (x : ℕ) (a : Named) → slice_get rows x ≡ Some a → is_marked marks x ≡ not (stay a.0 a.1)

  turned : (a b : Bool) → a ≡ not b → not a ≡ b
  turned a true e = ap not e
  turned a false e = ap not e

  -- the marks of the rows that come first, and of those after them
  parted : (marks : List Bool) (n : Name) (rows : List (List Value)) (rest : List Named) → Marks marks (named_rows n rows ++ rest) → length rows ≤ length marks
      → (take (length rows) marks ≡ map (λ r. not (stay n r)) rows) × Marks (drop (length rows) marks) rest
  parted marks n [] rest h le = (none marks, λ x a k. h x a k) where
    none : (ms : List Bool) → take 0 ms ≡ []
    none [] = refl
    none (m ∷ ms) = refl
  parted [] n (r ∷ rows) rest h le = absurd (omega (arith, le))
  parted (m ∷ marks) n (r ∷ rows) rest h le =
      let more = parted marks n rows rest (λ x a k. h (suc x) a k) (omega (arith, le)) in
      (ap (λ b. b ∷ take (length rows) marks) (h zero (n, r) refl) ∙ ap (λ ms. not (stay n r) ∷ ms) more.0, more.1)

  shorter : (n : ℕ) (marks : List Bool) → n ≤ length marks → length (drop n marks) + n ≡ length marks
  shorter zero marks le = omega arith
  shorter (suc n) [] le = absurd (omega (arith, le))
  shorter (suc n) (m ∷ marks) le = let more = shorter n marks (omega (arith, le)) in omega (arith, more)

  -- one table's marks say which of its rows stay
  one : (e : Name × Table) (es : List (Name × Table)) → lost_in e.0 (map (λ r. not (stay e.0 r)) e.1.rows) ++ chosen stay es ≡ chosen stay (e ∷ es)
  one e es = whether (drops_in stay e)
      (λ some. by true (any_is e.1.rows ∙ some) ∙ sym (chosen_some stay e es some))
      (λ none. by false (any_is e.1.rows ∙ none) ∙ sym (chosen_none stay e es none)) where
        any_is : (rows : List (List Value)) → list_any (λ mark. mark) (map (λ r. not (stay e.0 r)) rows) ≡ list_any (λ r. not (stay e.0 r)) rows
        any_is [] = refl
        any_is (r ∷ rows) = ap (λ b. not (stay e.0 r) || b) (any_is rows)

        twice : (rows : List (List Value)) → map not (map (λ r. not (stay e.0 r)) rows) ≡ map (stay e.0) rows
        twice [] = refl
        twice (r ∷ rows) = ap (λ b. b ∷ map not (map (λ x. not (stay e.0 x)) rows)) (turned (not (stay e.0 r)) (stay e.0 r) refl) ∙ ap (λ ms. stay e.0 r ∷ ms) (twice rows)

        by : (b : Bool) → list_any (λ mark. mark) (map (λ r. not (stay e.0 r)) e.1.rows) ≡ b → lost_in e.0 (map (λ r. not (stay e.0 r)) e.1.rows) ++ chosen stay es ≡ cond b (staying stay e ∷ chosen stay es) (chosen stay es)
        by true is = ap (λ (b : Bool). cond b ((e.0, map not (map (λ r. not (stay e.0 r)) e.1.rows)) ∷ []) [] ++ chosen stay es) is ∙ ap (λ ms. (e.0, ms) ∷ chosen stay es) (twice e.1.rows)
        by false is = ap (λ (b : Bool). cond b ((e.0, map not (map (λ r. not (stay e.0 r)) e.1.rows)) ∷ []) [] ++ chosen stay es) is

  pub cut_is : (es : List (Name × Table)) (marks : List Bool) → row_total es ≤ length marks → Marks marks (rows_in es) → losses marks es ≡ chosen stay es
  cut_is [] marks len h = refl
  cut_is (e ∷ es) marks len h =
      let le : length e.1.rows ≤ length marks = omega (arith, len) in
      let here = parted marks e.0 e.1.rows (rows_in es) h le in
      let rest = shorter (length e.1.rows) marks le in
      ap (λ ms. lost_in e.0 ms ++ losses (drop (length e.1.rows) marks) es) here.0
      ∙ ap (λ xs. lost_in e.0 (map (λ r. not (stay e.0 r)) e.1.rows) ++ xs) (cut_is es (drop (length e.1.rows) marks) (omega (arith, len, rest)) here.1)
      ∙ one e es
