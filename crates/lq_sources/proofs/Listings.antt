-- The files under a folder stand in one order of their bytes.
use Rattle.std.proofs.Common.{◌≡◌, ◌⊎◌, ◌∙◌, ◌+◌, ◌<◌, ℕ, zero, suc, List, [], ◌∷◌, ◌++◌, length, reverse, Option, Some, None, Ok, IfSome, inl, inr, refl, sym, ap, subst, true, false, true≢false, Bool, arith}
use Rattle.std.specs.Cmp.{IsTotalOrder}
use Rattle.std.specs.Cmp.Lexicographic.{nat_list_cmp_total, nat_list_eq_equiv, texts_ties}
use Rattle.std.specs.List.{AllByRecursion, Contains, IsDistinct, slice_index_or}
use Rattle.std.specs.List.Sorted.{IsPermutation, IsSorted, IsStrictlySortedBy}
use Rattle.std.specs.Ordering.{is_eq, is_lt, ordering_reverse}
use Rattle.std.specs.Str.{bytes_eq}
use Rattle.std.specs.declared.cmp.Ordering.{Ordering}
use Rattle.std.specs.declared.cmp.Ordering.TheVariants.{Less, Equal, Greater}
use Rattle.std.proofs.lemmas.List.{append-nil}
use Rattle.std.proofs.lemmas.List.Sorted.{Contains-permutation, IsPermutation-reverse, IsPermutation-sym}
use Rattle.std.proofs.lemmas.Map.Keys.{IsDistinct-IsPermutation, apart_from_distinct, sorted_from_all_adjacent}
use Rattle.lq_base.specs.Name.{text_cmp}
use Rattle.lq_outside.specs.Forms.{IsListing}
use Rattle.lq_sources.specs.Faults.{Finds}

module _ {K : Type 0} where
  abbrev pub Member : K → List K → Type 0
  Member k [] = ⊥
  Member k (x ∷ xs) = (k ≡ x) ⊎ Member k xs

  pub member : (xs : List K) (k : K) → Contains xs k → Member k xs
  member [] k (i, lt, is) = absurd (omega (arith, lt))
  member (x ∷ xs) k (zero, lt, is) = inl (sym is)
  member (x ∷ xs) k (suc i, lt, is) = inr (member xs k (i, omega (arith, lt), is))

  pub contained : (xs : List K) (k : K) → Member k xs → Contains xs k
  contained [] k none = absurd none
  contained (x ∷ xs) k (inl is) = (zero, omega arith, sym is)
  contained (x ∷ xs) k (inr m) = let rest = contained xs k m in (suc rest.0, omega (arith, rest.1), rest.2)

module _ {K : Type 0} (c : K → K → Ordering) (o : IsTotalOrder c) where
  abbrev is_less : Ordering → Bool
  is_less Less = true
  is_less Equal = false
  is_less Greater = false

  not_below_itself : (x : K) → c x x ≡ Less → ⊥
  not_below_itself x is = true≢false (sym (ap is_less is) ∙ ap is_less (o.antisymm x x ∙ ap ordering_reverse is))

  above : (x : K) (ys : List K) → AllByRecursion (λ y. c x y ≡ Less) ys → (k : K) → Member k ys → c x k ≡ Less
  above x [] all k none = absurd none
  above x (y ∷ ys) all k (inl is) = subst (λ z. c x z ≡ Less) (sym is) all.0
  above x (y ∷ ys) all k (inr in_rest) = above x ys all.1 k in_rest

  first : (x y : K) (xs ys : List K) → AllByRecursion (λ z. c x z ≡ Less) xs → AllByRecursion (λ z. c y z ≡ Less) ys → (x ≡ y) ⊎ Member x ys → (y ≡ x) ⊎ Member y xs → x ≡ y
  first x y xs ys over_x over_y (inl is) found = is
  first x y xs ys over_x over_y (inr m) (inl is) = sym is
  first x y xs ys over_x over_y (inr m) (inr n) = absurd (not_below_itself x (o.trans x y x (above x xs over_x y n) (above y ys over_y x m)))

  rest : (x y : K) (xs ys : List K) → AllByRecursion (λ z. c x z ≡ Less) xs → x ≡ y → (k : K) → Member k xs → (k ≡ y) ⊎ Member k ys → Member k ys
  rest x y xs ys over_x is k m (inl so) = absurd (not_below_itself x (subst (λ z. c x z ≡ Less) (so ∙ sym is) (above x xs over_x k m)))
  rest x y xs ys over_x is k m (inr n) = n

  pub same_listing : (xs ys : List K) → IsStrictlySortedBy c xs → IsStrictlySortedBy c ys → ((k : K) → Member k xs → Member k ys) → ((k : K) → Member k ys → Member k xs) → xs ≡ ys
  unfolding IsStrictlySortedBy
  same_listing [] [] sx sy forth back = refl
  same_listing [] (y ∷ ys) sx sy forth back = absurd (back y (inl refl))
  same_listing (x ∷ xs) [] sx sy forth back = absurd (forth x (inl refl))
  same_listing (x ∷ xs) (y ∷ ys) sx sy forth back =
      let is : x ≡ y = first x y xs ys sx.0 sy.0 (forth x (inl refl)) (back y (inl refl)) in
      ap (λ z. z ∷ xs) is ∙ ap (λ zs. y ∷ zs) (same_listing xs ys sx.1 sy.1 (λ k m. rest x y xs ys sx.0 is k m (forth k (inr m))) (λ k m. rest y x ys xs sy.0 (sym is) k m (back k (inr m))))

-- two listings of a folder in order are the same list
pub one_listing : (files : List ℕ → Option (List ℕ)) (folder : List ℕ) (xs ys : List (List ℕ)) → IsListing files folder xs → IsListing files folder ys → IsStrictlySortedBy text_cmp xs → IsStrictlySortedBy text_cmp ys → xs ≡ ys
one_listing files folder xs ys one other sx sy = same_listing text_cmp nat_list_cmp_total xs ys sx sy (among xs ys one other) (among ys xs other one)
  where
    among : (xs ys : List (List ℕ)) → IsListing files folder xs → IsListing files folder ys → (k : List ℕ) → Member k xs → Member k ys
    among xs ys one other k m = let found = one.each k (contained xs k m) in member ys k (other.all k found.0 found.1)

-- ---- the listing that was put in order

-- the last one moved first
pub reversed : {X : Type 0} (xs done left : List X) → done ++ reverse left ≡ reverse xs → left ≡ [] → IsPermutation xs done
reversed xs done left is none = subst (λ l. IsPermutation xs l) (sym is ∙ (ap (λ l. done ++ reverse l) none ∙ append-nil done)) (IsPermutation-reverse xs)

below : (r s : Ordering) → r ≡ ordering_reverse s → is_lt s ≡ false → is_eq r ≡ false → r ≡ Less
below Less s turned up apart = refl
below Equal s turned up apart = absurd (true≢false apart)
below Greater Less turned up apart = absurd (true≢false up)
below Greater Equal turned up apart = cc turned
below Greater Greater turned up apart = turned

strictly : (ys : List (List ℕ)) → IsSorted text_cmp ys → IsDistinct bytes_eq ys → IsStrictlySortedBy text_cmp ys
strictly ys sorted distinct = sorted_from_all_adjacent nat_list_cmp_total ys [] (λ k lt.
    let one = slice_index_or ys k [] in
    let next = slice_index_or ys (k + 1) [] in
    below (text_cmp one next) (text_cmp next one) (nat_list_cmp_total.antisymm one next) (sorted k [] (omega arith) lt)
    (sym (texts_ties one next) ∙ apart_from_distinct bytes_eq ys k (k + 1) [] distinct (omega arith) lt))

moved : (files : List ℕ → Option (List ℕ)) (folder : List ℕ) (xs ys : List (List ℕ)) → IsPermutation xs ys → IsListing files folder xs → IsListing files folder ys
moved files folder xs ys moves listing = record {
  each = λ path among. listing.each path (Contains-permutation ys xs path (IsPermutation-sym xs ys moves) among);
  all = λ path some under. Contains-permutation xs ys path moves (listing.all path some under);
  once = IsDistinct-IsPermutation bytes_eq nat_list_eq_equiv.symm xs ys moves listing.once;
}

pub under_is : (told : Option (List ℕ → Option (List ℕ))) (folder : List ℕ) (xs ys : List (List ℕ)) → IfSome told (λ files. IsListing files folder xs) → IsPermutation xs ys → IsSorted text_cmp ys
    → Finds told (λ source. Ok (source.under folder)) (Ok ys)
under_is None folder xs ys listing moves sorted = λ source known. absurd known
under_is (Some files) folder xs ys listing moves sorted = λ source known.
    let after = moved files folder xs ys moves listing in
    ap Ok (one_listing files folder (source.under folder) ys (known.listing folder) after (known.ordered folder) (strictly ys sorted after.once))
