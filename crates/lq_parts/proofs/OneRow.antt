-- One row taken out or replaced among rows that stay, and rows that are looked for at some places alone.
use Rattle.std.proofs.Common.{Bool, List, None, Option, Some, [], ap, arith, cond, false, length, nat_eq, not, refl, slice_get, slice_set, suc, sym, true, unwrap_or, zero, ℕ, ◌∙◌, ◌∷◌, ◌≡◌}
use Rattle.std.proofs.lemmas.Bool.Decides.{nat_tests}
use Rattle.std.specs.List.{Contains, remove}
use Rattle.lq_base.specs.declared.value.Value.{Value}
use Rattle.lq_base.specs.declared.value.Value.TheVariants.{Text}
use Rattle.lq_chain.specs.Marks.{kept_rows, replaced}
use Rattle.lq_rows.specs.Stored.{ArePlaces}

same_here : nat_eq 0 0 ≡ true
same_here = refl

behind_first : (i : ℕ) → nat_eq (suc i) 0 ≡ false
behind_first i = grind (arith, nat_tests)

before_next : (at : ℕ) → nat_eq 0 (suc at) ≡ false
before_next at = grind (arith, nat_tests)

one_less : (i at : ℕ) → nat_eq (suc i) (suc at) ≡ nat_eq i at
one_less i at = grind (arith, nat_tests)

module _ {X : Type 0} where
  all_kept : (marks : List Bool) (rows : List X) → length marks ≡ length rows → ((i : ℕ) (mark : Bool) → slice_get marks i ≡ Some mark → mark ≡ true) → kept_rows marks rows ≡ rows
  all_kept [] [] long all = refl
  all_kept [] (row ∷ rows) long all = absurd (omega (arith, long))
  all_kept (mark ∷ marks) [] long all = absurd (omega (arith, long))
  all_kept (mark ∷ marks) (row ∷ rows) long all =
      ap (λ (b : Bool). cond b (row ∷ kept_rows marks rows) (kept_rows marks rows)) (all 0 mark refl)
      ∙ ap (λ more. row ∷ more) (all_kept marks rows (omega (arith, long)) (λ i m e. all (suc i) m e))

  -- where all marks but one stand, one row goes
  pub one_taken : (marks : List Bool) (rows : List X) (at : ℕ) → length marks ≡ length rows → ((i : ℕ) (mark : Bool) → slice_get marks i ≡ Some mark → mark ≡ not (nat_eq i at)) → kept_rows marks rows ≡ remove rows at
  one_taken [] [] zero long but = refl
  one_taken [] [] (suc at) long but = refl
  one_taken [] (row ∷ rows) at long but = absurd (omega (arith, long))
  one_taken (mark ∷ marks) [] at long but = absurd (omega (arith, long))
  one_taken (mark ∷ marks) (row ∷ rows) zero long but =
      ap (λ (b : Bool). cond b (row ∷ kept_rows marks rows) (kept_rows marks rows)) (but 0 mark refl ∙ ap not same_here)
      ∙ all_kept marks rows (omega (arith, long)) (λ i m e. but (suc i) m e ∙ ap not (behind_first i))
  one_taken (mark ∷ marks) (row ∷ rows) (suc at) long but =
      ap (λ (b : Bool). cond b (row ∷ kept_rows marks rows) (kept_rows marks rows)) (but 0 mark refl ∙ ap not (before_next at))
      ∙ ap (λ more. row ∷ more) (one_taken marks rows at (omega (arith, long)) (λ i m e. but (suc i) m e ∙ ap not (one_less i at)))

  none_replaced : (by : List (Option X)) (rows : List X) → length by ≡ length rows → ((i : ℕ) (new : Option X) → slice_get by i ≡ Some new → new ≡ None) → replaced by rows ≡ rows
  none_replaced [] [] long none = refl
  none_replaced [] (row ∷ rows) long none = absurd (omega (arith, long))
  none_replaced (new ∷ by) [] long none = absurd (omega (arith, long))
  none_replaced (new ∷ by) (row ∷ rows) long none =
      ap (λ (o : Option X). unwrap_or o row ∷ replaced by rows) (none 0 new refl) ∙ ap (λ more. row ∷ more) (none_replaced by rows (omega (arith, long)) (λ i n e. none (suc i) n e))

  -- where there is one new row, one row is replaced
  pub one_replaced : (by : List (Option X)) (rows : List X) (at : ℕ) (with : X) → length by ≡ length rows → ((i : ℕ) (new : Option X) → slice_get by i ≡ Some new → new ≡ cond (nat_eq i at) (Some with) None) → replaced by rows ≡ slice_set rows at with
  one_replaced [] [] zero with long but = refl
  one_replaced [] [] (suc at) with long but = refl
  one_replaced [] (row ∷ rows) at with long but = absurd (omega (arith, long))
  one_replaced (new ∷ by) [] at with long but = absurd (omega (arith, long))
  one_replaced (new ∷ by) (row ∷ rows) zero with long but =
      ap (λ (o : Option X). unwrap_or o row ∷ replaced by rows) (but 0 new refl)
      ∙ ap (λ more. with ∷ more) (none_replaced by rows (omega (arith, long)) (λ i n e. but (suc i) n e ∙ ap (λ (b : Bool). cond b (Some with) None) (behind_first i)))
  one_replaced (new ∷ by) (row ∷ rows) (suc at) with long but =
      ap (λ (o : Option X). unwrap_or o row ∷ replaced by rows) (but 0 new refl ∙ ap (λ (b : Bool). cond b (Some with) None) (before_next at))
      ∙ ap (λ more. row ∷ more) (one_replaced by rows at with (omega (arith, long)) (λ i n e. but (suc i) n e ∙ ap (λ (b : Bool). cond b (Some with) None) (one_less i at)))

-- what only rows that begin with the text pass is known of all rows where it is known at the places
module _ (text : List ℕ) (rows : List (List Value)) (places : List ℕ) (are : ArePlaces text rows places) (p : List Value → Bool) (q : ℕ → Bool) where
  pub only_there : ((i : ℕ) (row : List Value) → slice_get rows i ≡ Some row → p row ≡ true → slice_get row 0 ≡ Some (Text text)) → ((i : ℕ) → q i ≡ true → Contains places i)
      → ((i : ℕ) (row : List Value) → Contains places i → slice_get rows i ≡ Some row → p row ≡ q i) → (i : ℕ) (row : List Value) → slice_get rows i ≡ Some row → p row ≡ q i
  only_there begins inside there i row e = by (p row) (q i) refl refl where
    by : (a b : Bool) → p row ≡ a → q i ≡ b → p row ≡ q i
    by true b passes of = there i row (are.each i row e (begins i row e passes)) e
    by false true passes of = there i row (inside i of) e
    by false false passes of = passes ∙ sym of
