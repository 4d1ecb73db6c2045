-- The items at the end that pass a test are dropped one by one.
use Rattle.std.proofs.Common.{◌≡◌, ℕ, ◌<◌, ◌≤◌, ◌+◌, ◌-◌, Bool, true, false, List, [], ◌∷◌, ◌++◌, length, take, get_or, arith, refl, sym, ap, ◌∙◌}
use Rattle.std.proofs.lemmas.List.{take_more}
use Rattle.lq_yaml.specs.Tree.{unless_last, without_last}

module _ {A : Type 0} (test : A → Bool) where
  dropped : (xs : List A) (c : A) → test c ≡ true → without_last test (xs ++ c ∷ []) ≡ without_last test xs
  dropped [] c is = rw is refl
  dropped (x ∷ xs) c is = ap (λ (l : List A). unless_last test x l) (dropped xs c is)

  stays : (x : A) (xs : List A) (c : A) → unless_last test x (xs ++ c ∷ []) ≡ x ∷ (xs ++ c ∷ [])
  stays x [] c = refl
  stays x (y ∷ xs) c = refl

  kept : (xs : List A) (c : A) → test c ≡ false → without_last test (xs ++ c ∷ []) ≡ xs ++ c ∷ []
  kept [] c is = rw is refl
  kept (x ∷ xs) c is = ap (λ (l : List A). unless_last test x l) (kept xs c is) ∙ stays x xs c

  last : (xs : List A) (end : ℕ) (d : A) → 0 < end → end ≤ length xs → take end xs ≡ take (end - 1) xs ++ get_or xs (end - 1) d ∷ []
  last xs end d some le =
      let back : end - 1 + 1 ≡ end = omega arith in
      ap (λ (k : ℕ). take k xs) (sym back) ∙ take_more xs (end - 1) d (omega arith)

  pub one_less : (xs : List A) (end : ℕ) (c : A) → 0 < end → end ≤ length xs → c ≡ get_or xs (end - 1) c → test c ≡ true → without_last test (take end xs) ≡ without_last test (take (end - 1) xs)
  one_less xs end c some le at is =
      ap (λ (l : List A). without_last test l) (last xs end c some le ∙ ap (λ (d : A). take (end - 1) xs ++ d ∷ []) (sym at)) ∙ dropped (take (end - 1) xs) c is

  pub no_less : (xs : List A) (end : ℕ) (c : A) → 0 < end → end ≤ length xs → c ≡ get_or xs (end - 1) c → test c ≡ false → without_last test (take end xs) ≡ take end xs
  no_less xs end c some le at is =
      let same = last xs end c some le ∙ ap (λ (d : A). take (end - 1) xs ++ d ∷ []) (sym at) in
      ap (λ (l : List A). without_last test l) same ∙ kept (take (end - 1) xs) c is ∙ sym same

  pub none_left : (xs : List A) (end : ℕ) → end ≡ 0 → without_last test (take end xs) ≡ take end xs
  none_left xs end is = rw is refl
