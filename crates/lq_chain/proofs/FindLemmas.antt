-- Places of a list of nodes.
use Rattle.std.proofs.Common.{◌≡◌, ℕ, zero, suc, ◌+◌, ◌-◌, ◌<◌, ◌⊎◌, inl, inr, List, [], ◌∷◌, ◌++◌, length, Option, Some, None, refl, sym, ap, ◌∙◌, subst, arith}
use Rattle.lq_links.specs.declared.node.Node.{Node}
use Rattle.lq_links.specs.declared.node.Spot.{Spot}
use Rattle.lq_links.specs.declared.node.Finger.{Finger}
use Rattle.std.specs.Prelude.{slice_get, slice_set}
use Rattle.std.specs.List.{remove}
use Rattle.std.specs.Option.{option_map}
use Rattle.lq_links.specs.State.{Has, node, first_or, last_or, rows, IsThereIf, spot_at, IsOn, State, IsList}
use Rattle.lq_links.proofs.ShapeLemmas.{some_not, some_same}
use Rattle.lq_chain.proofs.StepLemmas.{node_in, prev_in, next_in}

module _ {X : Type 0} where
  -- what stands before a place, there and behind it
  pub record Split (ss : List (Spot × X)) (i : ℕ) (s : Spot) : Type 0 where
    pub front : List (Spot × X)
    pub row : X
    pub rest : List (Spot × X)
    pub is : ss ≡ front ++ (s, row) ∷ rest
    pub long : length front ≡ i

  pub split : (ss : List (Spot × X)) (i : ℕ) (s : Spot) → spot_at ss i ≡ Some s → Split ss i s
  split [] zero s e = absurd (some_not s e)
  split [] (suc i) s e = absurd (some_not s e)
  split (x ∷ ss) zero s e = record { front = []; row = x.1; rest = ss; is = ap (λ (t : Spot). (t, x.1) ∷ ss) (some_same x.0 s e); long = refl }
  split (x ∷ ss) (suc i) s e = let more = split ss i s e in record { front = x ∷ more.front; row = more.row; rest = more.rest; is = ap (λ ts. x ∷ ts) more.is; long = ap suc more.long }

  pub spot_below : (ss : List (Spot × X)) (i : ℕ) (s : Spot) → spot_at ss i ≡ Some s → i < length ss
  spot_below [] zero s e = absurd (some_not s e)
  spot_below [] (suc i) s e = absurd (some_not s e)
  spot_below (x ∷ ss) zero s e = omega arith
  spot_below (x ∷ ss) (suc i) s e = let less : i < length ss = spot_below ss i s e in omega (arith, less)

  pub spot_within : (ss : List (Spot × X)) (i : ℕ) → i < length ss → spot_at ss i ≡ None → ⊥
  spot_within [] i less e = omega (arith, less)
  spot_within (x ∷ ss) zero less e = some_not x.0 (sym e)
  spot_within (x ∷ ss) (suc i) less e = spot_within ss i (omega (arith, less)) e

  spot_behind : (xs : List (Spot × X)) (s : Spot × X) (ys : List (Spot × X)) → spot_at (xs ++ s ∷ ys) (suc (length xs)) ≡ first_or ys None
  spot_behind [] s ys = refl
  spot_behind (x ∷ xs) s ys = spot_behind xs s ys

  spot_ahead : (xs ys : List (Spot × X)) (i : ℕ) → suc i ≡ length xs → spot_at (xs ++ ys) i ≡ last_or xs None
  spot_ahead [] ys i e = absurd (omega (arith, e))
  spot_ahead (x ∷ []) ys zero e = refl
  spot_ahead (x ∷ []) ys (suc i) e = absurd (omega (arith, e))
  spot_ahead (x ∷ y ∷ xs) ys zero e = absurd (omega (arith, e))
  spot_ahead (x ∷ y ∷ xs) ys (suc i) e = spot_ahead (y ∷ xs) ys i (omega (arith, e))

  row_behind : (xs : List (Spot × X)) (s : Spot × X) (ys : List (Spot × X)) → slice_get (rows (xs ++ s ∷ ys)) (length xs) ≡ Some s.1
  row_behind [] s ys = refl
  row_behind (x ∷ xs) s ys = row_behind xs s ys

  -- the node at a place, which leads on to the place behind and back to the one before
  pub record At (st : State X) (ss : List (Spot × X)) (i : ℕ) (s : Spot) : Type 0 where
    pub node : Node X
    pub has : Has st.slots s node
    pub prev_there : IsThereIf st.slots node.prev
    pub next_there : IsThereIf st.slots node.next
    pub next : node.next ≡ spot_at ss (i + 1)
    pub prev : 0 < i → node.prev ≡ spot_at ss (i - 1)
    pub row : slice_get (rows ss) i ≡ Some node.row

  pub node_at : (st : State X) (ss : List (Spot × X)) (i : ℕ) (s : Spot) → IsList st ss → spot_at ss i ≡ Some s → At st ss i s
  node_at st ss i s is e =
      let cut = split ss i s e in let whole : IsList st (cut.front ++ (s, cut.row) ∷ cut.rest) = subst (IsList st) cut.is is in
      let more : suc (length cut.front) ≡ i + 1 = omega (arith, cut.long) in record {
        node = node (last_or cut.front None) (first_or cut.rest None) cut.row;
        has = node_in st cut.front (s, cut.row) cut.rest whole;
        prev_there = prev_in st cut.front (s, cut.row) cut.rest whole;
        next_there = next_in st cut.front (s, cut.row) cut.rest whole;
        next = sym (ap (λ ts. spot_at ts (i + 1)) cut.is ∙ ap (spot_at (cut.front ++ (s, cut.row) ∷ cut.rest)) (sym more) ∙ spot_behind cut.front (s, cut.row) cut.rest);
        prev = λ some. let less : suc (i - 1) ≡ length cut.front = omega (arith, cut.long, some) in
            sym (ap (λ ts. spot_at ts (i - 1)) cut.is ∙ spot_ahead cut.front ((s, cut.row) ∷ cut.rest) (i - 1) less);
        row = ap (λ ts. slice_get (rows ts) i) cut.is ∙ ap (slice_get (rows (cut.front ++ (s, cut.row) ∷ cut.rest))) (sym cut.long) ∙ row_behind cut.front (s, cut.row) cut.rest;
      }

  -- no row past the end
  pub no_row : (ss : List (Spot × X)) (i : ℕ) → spot_at ss i ≡ None → slice_get (rows ss) i ≡ None
  no_row [] zero e = refl
  no_row [] (suc i) e = refl
  no_row (x ∷ ss) zero e = absurd (some_not x.0 (sym e))
  no_row (x ∷ ss) (suc i) e = no_row ss i e

  pub spot_first : (ss : List (Spot × X)) → spot_at ss 0 ≡ first_or ss None
  spot_first [] = refl
  spot_first (s ∷ ss) = refl

  pub spot_last : (ss : List (Spot × X)) → spot_at ss (length ss - 1) ≡ last_or ss None
  spot_last [] = refl
  spot_last (x ∷ []) = refl
  spot_last (x ∷ y ∷ ss) =
      let less : suc (suc (length ss)) - 1 ≡ suc (suc (length ss) - 1) = omega arith in
      ap (spot_at (x ∷ y ∷ ss)) less ∙ spot_last (y ∷ ss)

  pub spot_pushed : (ss ts : List (Spot × X)) (i : ℕ) (s : Spot) → spot_at ss i ≡ Some s → spot_at (ss ++ ts) i ≡ Some s
  spot_pushed [] ts zero s e = absurd (some_not s e)
  spot_pushed [] ts (suc i) s e = absurd (some_not s e)
  spot_pushed (x ∷ ss) ts zero s e = e
  spot_pushed (x ∷ ss) ts (suc i) s e = spot_pushed ss ts i s e

  pub on_pushed : (ss ts : List (Spot × X)) (f : Option Finger) → IsOn ss f → IsOn (ss ++ ts) f
  on_pushed ss ts None on = tt
  on_pushed ss ts (Some f) on = spot_pushed ss ts f.at f.spot on

  -- the finger on what stands at a place
  pub on_spot : (ss : List (Spot × X)) (at : ℕ) (o : Option Spot) → spot_at ss at ≡ o → IsOn ss (option_map (λ s. record { at = at; spot = s }) o)
  on_spot ss at None e = tt
  on_spot ss at (Some s) e = e

  pub spot_after : (xs ys : List (Spot × X)) → spot_at (xs ++ ys) (length xs) ≡ first_or ys None
  spot_after [] [] = refl
  spot_after [] (y ∷ ys) = refl
  spot_after (x ∷ xs) ys = spot_after xs ys

  -- the rows after a step
  pub rows_removed : (xs : List (Spot × X)) (s : Spot × X) (ys : List (Spot × X)) → rows (xs ++ ys) ≡ remove (rows (xs ++ s ∷ ys)) (length xs)
  rows_removed [] s ys = refl
  rows_removed (x ∷ xs) s ys = ap (λ rest. x.1 ∷ rest) (rows_removed xs s ys)

  pub rows_set : (xs : List (Spot × X)) (s t : Spot × X) (ys : List (Spot × X)) → rows (xs ++ t ∷ ys) ≡ slice_set (rows (xs ++ s ∷ ys)) (length xs) t.1
  rows_set [] s t ys = refl
  rows_set (x ∷ xs) s t ys = ap (λ rest. x.1 ∷ rest) (rows_set xs s t ys)

  pub length_rows : (ss : List (Spot × X)) → length (rows ss) ≡ length ss
  length_rows [] = refl
  length_rows (s ∷ ss) = ap suc (length_rows ss)

  pub nearer_on : (ss : List (Spot × X)) (one : Option Finger) (other result : Finger) → (one ≡ Some result) ⊎ (result ≡ other) → IsOn ss one → IsOn ss (Some other) → IsOn ss (Some result)
  nearer_on ss one other result is a b = (elim is as (λ _. IsOn ss (Some result)) [
    | inl e ↦ subst (IsOn ss) e a
    | inr e ↦ subst (λ f. IsOn ss (Some f)) (sym e) b
  ])

  pub front_on : (st : State X) (ss : List (Spot × X)) (s : Spot) → IsList st ss → st.head ≡ Some s → spot_at ss 0 ≡ Some s
  front_on st ss s is e = spot_first ss ∙ sym is.1 ∙ e

  pub end_on : (st : State X) (ss : List (Spot × X)) (n : ℕ) → n ≡ st.len - 1 → IsList st ss → IsOn ss (option_map (λ s. record { at = n; spot = s }) st.tail)
  end_on st ss n e is = on_spot ss n st.tail (ap (spot_at ss) e ∙ ap (λ n. spot_at ss (n - 1)) is.4 ∙ spot_last ss ∙ sym is.2)

  pub head_none : (st : State X) (ss : List (Spot × X)) → IsList st ss → st.head ≡ None → length ss ≡ 0
  head_none st [] is e = refl
  head_none st (s ∷ ss) is e = absurd (some_not s.0 (sym e ∙ is.1))
