-- Lists of linked nodes, taken apart and put together.
use Rattle.std.proofs.Common.{◌≡◌, ◌≢◌, ◌⊎◌, ℕ, zero, suc, ◌<◌, List, [], ◌∷◌, ◌++◌, length, set, Option, Some, None, refl, sym, ap, ◌∙◌, subst, inl, inr, arith}
use Rattle.std.specs.Prelude.{slice_get}
use denote.RawPtr.{Ptr}
use Rattle.lq_links.specs.declared.node.Node.{Node}
use Rattle.lq_links.specs.declared.node.Spot.{Spot}
use Rattle.lq_links.specs.State.{Has, with_at, node, first_or, last_or, Linked, NotIn, NotInIf, Apart, IsThereIf}

pub get_set_other : {A : Type 0} → (xs : List A) (i j : ℕ) (a : A) → j ≢ i → slice_get (set xs i a) j ≡ slice_get xs j
get_set_other [] i j a d = refl
get_set_other (x ∷ xs) zero zero a d = absurd (d refl)
get_set_other (x ∷ xs) zero (suc j) a d = refl
get_set_other (x ∷ xs) (suc i) zero a d = refl
get_set_other (x ∷ xs) (suc i) (suc j) a d = get_set_other xs i j a (λ e. d (ap suc e))

pub get_set_same : {A : Type 0} → (xs : List A) (i : ℕ) (a b : A) → slice_get xs i ≡ Some b → slice_get (set xs i a) i ≡ Some a
get_set_same [] i a b e = absurd (let none : None ≡ Some b = e in cc)
get_set_same (x ∷ xs) zero a b e = refl
get_set_same (x ∷ xs) (suc i) a b e = get_set_same xs i a b e

pub get_append : {A : Type 0} → (xs ys : List A) (i : ℕ) (a : A) → slice_get xs i ≡ Some a → slice_get (xs ++ ys) i ≡ Some a
get_append [] ys i a e = absurd (let none : None ≡ Some a = e in cc)
get_append (x ∷ xs) ys zero a e = e
get_append (x ∷ xs) ys (suc i) a e = get_append xs ys i a e

pub get_last : {A : Type 0} → (xs : List A) (a : A) → slice_get (xs ++ a ∷ []) (length xs) ≡ Some a
get_last [] a = refl
get_last (x ∷ xs) a = get_last xs a

pub get_below : {A : Type 0} → (xs : List A) (i : ℕ) (a : A) → slice_get xs i ≡ Some a → i < length xs
get_below [] i a e = absurd (let none : None ≡ Some a = e in cc)
get_below (x ∷ xs) zero a e = omega arith
get_below (x ∷ xs) (suc i) a e = let rest : i < length xs = get_below xs i a e in omega (arith, rest)

pub some_not : {A : Type 0} → (s : A) → None ≡ Some s → ⊥
some_not s e = cc

pub some_same : {A : Type 0} → (s t : A) → Some s ≡ Some t → s ≡ t
some_same s t e = cc

module _ {X : Type 0} where
  -- a node at another number stays
  pub has_other : (slots : List (Ptr × Option (Node X))) (a s : Spot) (w n : Node X) → s.id ≢ a.id → Has slots s n → Has (with_at slots a w) s n
  has_other slots a s w n d h = get_set_other slots a.id s.id (a.place.ptr, Some w) d ∙ h

  pub has_same : (slots : List (Ptr × Option (Node X))) (a : Spot) (w n : Node X) → Has slots a n → Has (with_at slots a w) a w
  has_same slots a w n h = get_set_same slots a.id (a.place.ptr, Some w) (a.place.ptr, Some n) h

  pub linked_other : (slots : List (Ptr × Option (Node X))) (a : Spot) (w : Node X) (ss : List (Spot × X)) (p n : Option Spot) → NotIn a.id ss → Linked slots p ss n → Linked (with_at slots a w) p ss n
  linked_other slots a w [] p n d h = tt
  linked_other slots a w (s ∷ ss) p n d h = (has_other slots a s.0 w (node p (first_or ss n) s.1) d.0 h.0, linked_other slots a w ss (Some s.0) n d.1 h.1)

  pub linked_append : (slots more : List (Ptr × Option (Node X))) (ss : List (Spot × X)) (p n : Option Spot) → Linked slots p ss n → Linked (slots ++ more) p ss n
  linked_append slots more [] p n h = tt
  linked_append slots more (s ∷ ss) p n h = (get_append slots more s.0.id (s.0.place.ptr, Some (node p (first_or ss n) s.1)) h.0, linked_append slots more ss (Some s.0) n h.1)

  pub first_snoc : (xs : List (Spot × X)) (s : Spot × X) (n m : Option Spot) → first_or (xs ++ s ∷ []) n ≡ first_or (xs ++ s ∷ []) m
  first_snoc [] s n m = refl
  first_snoc (x ∷ xs) s n m = refl

  pub first_append : (xs ys : List (Spot × X)) (n : Option Spot) → first_or (xs ++ ys) n ≡ first_or xs (first_or ys n)
  first_append [] ys n = refl
  first_append (x ∷ xs) ys n = refl

  pub last_append : (xs ys : List (Spot × X)) (p : Option Spot) → last_or (xs ++ ys) p ≡ last_or ys (last_or xs p)
  last_append [] ys p = refl
  last_append (x ∷ xs) ys p = last_append xs ys (Some x.0)

  pub last_snoc : (xs : List (Spot × X)) (s : Spot × X) (p : Option Spot) → last_or (xs ++ s ∷ []) p ≡ Some s.0
  last_snoc xs s p = last_append xs (s ∷ []) p

  -- the last node leads on to m
  pub relast : (slots : List (Ptr × Option (Node X))) (xs : List (Spot × X)) (a : Spot × X) (p n m : Option Spot) → Apart (xs ++ a ∷ []) → Linked slots p (xs ++ a ∷ []) n
      → Linked (with_at slots a.0 (node (last_or xs p) m a.1)) p (xs ++ a ∷ []) m
  relast slots [] a p n m d h = (has_same slots a.0 (node p m a.1) (node p n a.1) h.0, tt)
  relast slots (x ∷ xs) a p n m d h =
      let w = node (last_or xs (Some x.0)) m a.1 in
      let apart : NotIn x.0.id (xs ++ a ∷ []) = d.0 in (
        subst (λ f. Has (with_at slots a.0 w) x.0 (node p f x.1)) (first_snoc xs a n m) (has_other slots a.0 x.0 w (node p (first_or (xs ++ a ∷ []) n) x.1) (λ e. not_last xs a x.0.id apart (sym e)) h.0),
        relast slots xs a (Some x.0) n m d.1 h.1,
      )
    where
      not_last : (xs : List (Spot × X)) (a : Spot × X) (i : ℕ) → NotIn i (xs ++ a ∷ []) → a.0.id ≢ i
      not_last [] a i d = d.0
      not_last (x ∷ xs) a i d = not_last xs a i d.1

  pub linked_cut : (slots : List (Ptr × Option (Node X))) (xs ys : List (Spot × X)) (p n : Option Spot) → Linked slots p (xs ++ ys) n → Linked slots p xs (first_or ys n) × Linked slots (last_or xs p) ys n
  linked_cut slots [] ys p n h = (tt, h)
  linked_cut slots (x ∷ xs) ys p n h =
      let rest = linked_cut slots xs ys (Some x.0) n h.1 in
      ((subst (λ f. Has slots x.0 (node p f x.1)) (first_append xs ys n) h.0, rest.0), rest.1)

  pub linked_glue : (slots : List (Ptr × Option (Node X))) (xs ys : List (Spot × X)) (p n : Option Spot) → Linked slots p xs (first_or ys n) → Linked slots (last_or xs p) ys n → Linked slots p (xs ++ ys) n
  linked_glue slots [] ys p n g h = h
  linked_glue slots (x ∷ xs) ys p n g h = (subst (λ f. Has slots x.0 (node p f x.1)) (sym (first_append xs ys n)) g.0, linked_glue slots xs ys (Some x.0) n g.1 h)

  pub notin_cut : (i : ℕ) (xs ys : List (Spot × X)) → NotIn i (xs ++ ys) → NotIn i xs × NotIn i ys
  notin_cut i [] ys d = (tt, d)
  notin_cut i (x ∷ xs) ys d = let rest = notin_cut i xs ys d.1 in ((d.0, rest.0), rest.1)

  pub notin_glue : (i : ℕ) (xs ys : List (Spot × X)) → NotIn i xs → NotIn i ys → NotIn i (xs ++ ys)
  notin_glue i [] ys d e = e
  notin_glue i (x ∷ xs) ys d e = (d.0, notin_glue i xs ys d.1 e)

  pub apart_cut : (xs ys : List (Spot × X)) → Apart (xs ++ ys) → Apart xs × Apart ys
  apart_cut [] ys d = (tt, d)
  apart_cut (x ∷ xs) ys d = let rest = apart_cut xs ys d.1 in (((notin_cut x.0.id xs ys d.0).0, rest.0), rest.1)

  -- a node that is put between two lists, or taken from there
  pub apart_with : (xs : List (Spot × X)) (s : Spot × X) (ys : List (Spot × X)) → Apart (xs ++ ys) → NotIn s.0.id (xs ++ ys) → Apart (xs ++ s ∷ ys)
  apart_with [] s ys d n = (n, d)
  apart_with (x ∷ xs) s ys d n = let both = notin_cut x.0.id xs ys d.0 in
      (notin_glue x.0.id xs (s ∷ ys) both.0 ((λ e. n.0 (sym e)), both.1), apart_with xs s ys d.1 n.1)

  pub apart_without : (xs : List (Spot × X)) (s : Spot × X) (ys : List (Spot × X)) → Apart (xs ++ s ∷ ys) → Apart (xs ++ ys)
  apart_without [] s ys d = d.1
  apart_without (x ∷ xs) s ys d = let both = notin_cut x.0.id xs (s ∷ ys) d.0 in (notin_glue x.0.id xs ys both.0 both.1.1, apart_without xs s ys d.1)

  pub apart_from : (xs : List (Spot × X)) (s : Spot × X) (ys : List (Spot × X)) → Apart (xs ++ s ∷ ys) → NotIn s.0.id (xs ++ ys)
  apart_from [] s ys d = d.0
  apart_from (x ∷ xs) s ys d = ((λ e. (notin_cut x.0.id xs (s ∷ ys) d.0).1.0 (sym e)), apart_from xs s ys d.1)

  -- neither end of a gap lies on the other side
  pub last_notin : (xs : List (Spot × X)) (p : Option Spot) (ys : List (Spot × X)) → NotInIf p ys → Apart (xs ++ ys) → NotInIf (last_or xs p) ys
  last_notin [] p ys g d = g
  last_notin (x ∷ xs) p ys g d = last_notin xs (Some x.0) ys (notin_cut x.0.id xs ys d.0).1 d.1

  pub first_notin : (xs ys : List (Spot × X)) → Apart (xs ++ ys) → NotInIf (first_or ys None) xs
  first_notin xs [] d = tt
  first_notin [] (y ∷ ys) d = tt
  first_notin (x ∷ xs) (y ∷ ys) d = ((λ e. (notin_cut x.0.id xs (y ∷ ys) d.0).1.0 (sym e)), first_notin xs (y ∷ ys) d.1)

  pub snoc : (xs : List (Spot × X)) → (xs ≡ []) ⊎ ((ys : List (Spot × X)) × (s : Spot × X) × (xs ≡ ys ++ s ∷ []))
  snoc [] = inl refl
  snoc (x ∷ xs) = (elim (snoc xs) as (λ _. (x ∷ xs ≡ []) ⊎ ((ys : List (Spot × X)) × (s : Spot × X) × (x ∷ xs ≡ ys ++ s ∷ []))) [
    | inl e ↦ inr ([], x, ap (λ ys. x ∷ ys) e)
    | inr f ↦ inr (x ∷ f.0, f.1, ap (λ ys. x ∷ ys) f.2)
  ])

  pub there_last : (slots : List (Ptr × Option (Node X))) (xs : List (Spot × X)) (p n : Option Spot) → Linked slots p xs n → IsThereIf slots p → IsThereIf slots (last_or xs p)
  there_last slots [] p n h g = g
  there_last slots (x ∷ xs) p n h g = there_last slots xs (Some x.0) n h.1 (node p (first_or xs n) x.1, h.0)

  pub there_first : (slots : List (Ptr × Option (Node X))) (ys : List (Spot × X)) (p n : Option Spot) → Linked slots p ys n → IsThereIf slots n → IsThereIf slots (first_or ys n)
  there_first slots [] p n h g = g
  there_first slots (y ∷ ys) p n h g = (node p (first_or ys n) y.1, h.0)

  -- a new number is that of no node of a list
  pub notin_new : (slots : List (Ptr × Option (Node X))) (ss : List (Spot × X)) (p n : Option Spot) (i : ℕ) → length slots ≡ i → Linked slots p ss n → NotIn i ss
  notin_new slots [] p n i e h = tt
  notin_new slots (s ∷ ss) p n i e h = let below = get_below slots s.0.id (s.0.place.ptr, Some (node p (first_or ss n) s.1)) h.0 in
      ((λ same. omega (arith, same, e, below)), notin_new slots ss (Some s.0) n i e h.1)
