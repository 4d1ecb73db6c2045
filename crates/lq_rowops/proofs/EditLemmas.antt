-- Lemmas on new rows in place of old ones.
use Rattle.std.proofs.Common.{Bool, List, None, Some, [], ap, arith, cond, false, length, nat_lt, not, refl, slice_set, subst, suc, sym, tests, true, zero, ℕ, ◌+◌, ◌∙◌, ◌∷◌, ◌≡◌, ◌≤◌}
use Rattle.std.specs.List.{position, position_or_len}
use Rattle.lq_base.specs.Name.{is_named}
use Rattle.lq_base.specs.declared.name.Name.{Name}
use Rattle.lq_base.specs.declared.value.Value.{Value}
use Rattle.lq_model.proofs.Maps.{not_some, some_same}
use Rattle.lq_model.specs.Rows.{set_in}
use Rattle.lq_model.specs.declared.column.Column.{Column}

past : {A : Type 0} (xs : List A) (at : ℕ) (v : A) → length xs ≤ at → slice_set xs at v ≡ xs
past [] at v le = refl
past (x ∷ xs) zero v le = absurd (omega (arith, le))
past (x ∷ xs) (suc at) v le = ap (λ ys. x ∷ ys) (past xs at v (omega (arith, le)))

both_suc : (a b : ℕ) → nat_lt a b ≡ nat_lt (suc a) (suc b)
both_suc a b = grind (arith, tests)

none_less : (b : ℕ) → true ≡ nat_lt zero (suc b)
none_less b = grind (arith, tests)

module _ (n : Name) (v : Value) where
  abbrev p : Column → Bool
  p c = is_named n c.name

  set_is : (cs : List Column) (row : List Value) → set_in n v cs row ≡ cond (nat_lt (position_or_len p cs) (length cs)) (slice_set row (position_or_len p cs) v) row
  set_is [] row = refl
  set_is (c ∷ cs) [] = elim (nat_lt (position_or_len p (c ∷ cs)) (length (c ∷ cs))) as (λ b. [] ≡ cond b (slice_set [] (position_or_len p (c ∷ cs)) v) []) [ true ↦ refl | false ↦ refl ]
  set_is (c ∷ cs) (x ∷ xs) = at (p c) (set_is cs xs) where
    turned : (b : Bool) → x ∷ cond b (slice_set xs (position_or_len p cs) v) xs ≡ cond b (x ∷ slice_set xs (position_or_len p cs) v) (x ∷ xs)
    turned true = refl
    turned false = refl

    at : (b : Bool) → set_in n v cs xs ≡ cond (nat_lt (position_or_len p cs) (length cs)) (slice_set xs (position_or_len p cs) v) xs
        → cond b (v ∷ xs) (x ∷ set_in n v cs xs) ≡ cond (nat_lt (cond (not b) (1 + position_or_len p cs) 0) (suc (length cs))) (slice_set (x ∷ xs) (cond (not b) (1 + position_or_len p cs) 0) v) (x ∷ xs)
    at true more = ap (λ b. cond b (v ∷ xs) (x ∷ xs)) (none_less (length cs))
    at false more =
        let one : suc (position_or_len p cs) ≡ 1 + position_or_len p cs = omega arith in
        subst (λ k. x ∷ set_in n v cs xs ≡ cond (nat_lt k (suc (length cs))) (slice_set (x ∷ xs) k v) (x ∷ xs)) one (ap (λ ys. x ∷ ys) more ∙ turned (nat_lt (position_or_len p cs) (length cs)) ∙ ap (λ b. cond b (x ∷ slice_set xs (position_or_len p cs) v) (x ∷ xs)) (both_suc (position_or_len p cs) (length cs)))

  pub none_set : (cs : List Column) (row : List Value) → position p cs ≡ None → set_in n v cs row ≡ row
  none_set cs row none = set_is cs row ∙ at (nat_lt (position_or_len p cs) (length cs)) none where
    at : (b : Bool) → cond b (Some (position_or_len p cs)) None ≡ None → cond b (slice_set row (position_or_len p cs) v) row ≡ row
    at true h = not_some h
    at false h = refl

  pub some_set : (cs : List Column) (row : List Value) (at : ℕ) → position p cs ≡ Some at → set_in n v cs row ≡ slice_set row at v
  some_set cs row i some = set_is cs row ∙ at (nat_lt (position_or_len p cs) (length cs)) some where
    at : (b : Bool) → cond b (Some (position_or_len p cs)) None ≡ Some i → cond b (slice_set row (position_or_len p cs) v) row ≡ slice_set row i v
    at true h = ap (λ k. slice_set row k v) (some_same h)
    at false h = not_some (sym h)

  pub short_set : (cs : List Column) (row : List Value) (at : ℕ) → position p cs ≡ Some at → length row ≤ at → set_in n v cs row ≡ row
  short_set cs row at some short = some_set cs row at some ∙ past row at v short
