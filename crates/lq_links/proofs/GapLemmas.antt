-- What the two sides of a gap lead to, and that leading them elsewhere is undone.
use Rattle.std.proofs.Common.{◌≡◌, ◌≢◌, ◌⊎◌, ℕ, zero, suc, List, [], ◌∷◌, ◌++◌, length, set, Option, Some, None, refl, sym, ap, ◌∙◌, subst, inl, inr, arith}
use Rattle.std.specs.Prelude.{slice_get}
use Rattle.std.proofs.lemmas.List.{length-set}
use denote.RawPtr.{Ptr}
use Rattle.lq_links.specs.declared.node.Node.{Node}
use Rattle.lq_links.specs.declared.node.Spot.{Spot}
use Rattle.lq_links.specs.State.{Has, with_at, node, first_or, last_or, Linked, NotIn, NotInIf, Apart, IsThere, IsThereIf, State, put, with_next, with_prev, led_on, led_back, joined, rejoined, node_of, relinked_node, relinked, CanRelink, CanPop}
use Rattle.lq_links.proofs.ShapeLemmas.{some_not, some_same, has_other, has_same, linked_other, linked_cut, snoc, last_snoc, first_snoc, last_notin, first_notin, relast, apart_cut}

set_back : {A : Type 0} → (xs : List A) (i : ℕ) (w v : A) → slice_get xs i ≡ Some v → set (set xs i w) i v ≡ xs
set_back [] i w v e = refl
set_back (x ∷ xs) zero w v e = λ j. sym (some_same x v e) j ∷ xs
set_back (x ∷ xs) (suc i) w v e = λ j. x ∷ set_back xs i w v e j

same_or : (i j : ℕ) → (i ≡ j) ⊎ (j ≢ i)
same_or zero zero = inl refl
same_or zero (suc j) = inr (λ e. omega (arith, e))
same_or (suc i) zero = inr (λ e. omega (arith, e))
same_or (suc i) (suc j) = (elim (same_or i j) as (λ _. (suc i ≡ suc j) ⊎ (suc j ≢ suc i)) [
  | inl e ↦ inl (ap suc e)
  | inr d ↦ inr (λ e. d (omega (arith, e)))
])

module _ {X : Type 0} where
  -- what the two sides of a gap lead to
  pub record Gap (st : State X) (xs ys : List (Spot × X)) (on back : Option Spot) : Type 0 where
    pub front : Linked st.slots None xs on
    pub rest : Linked st.slots back ys None
    pub head : st.head ≡ first_or xs on
    pub tail : st.tail ≡ last_or ys back
    pub apart : Apart (xs ++ ys)

  pub put_is : (slots : List (Ptr × Option (Node X))) (s : Spot) (f : Node X → Node X) (n : Node X) → Has slots s n → put slots s f (slice_get slots s.id) ≡ with_at slots s (f n)
  put_is slots s f n h = ap (put slots s f) h

  put_back : (slots : List (Ptr × Option (Node X))) (s : Spot) (f g : Node X → Node X) (n : Node X) → Has slots s n → g (f n) ≡ n
      → put (put slots s f (slice_get slots s.id)) s g (slice_get (put slots s f (slice_get slots s.id)) s.id) ≡ slots
  put_back slots s f g n h same =
      let once = put_is slots s f n h in
      ap (λ t. put t s g (slice_get t s.id)) once ∙ put_is (with_at slots s (f n)) s g (f n) (has_same slots s (f n) n h) ∙ ap (λ m. with_at (with_at slots s (f n)) s m) same
      ∙ set_back slots s.id (s.place.ptr, Some (f n)) (s.place.ptr, Some n) h

  -- the node at the end of a front, and at the beginning of a rest
  last_node : (slots : List (Ptr × Option (Node X))) (xs : List (Spot × X)) (n : Option Spot) → Linked slots None xs n → (a : Spot) → last_or xs None ≡ Some a → (m : Node X) × Has slots a m × (m.next ≡ n)
  last_node slots xs n h a last = (elim (snoc xs) as (λ _. (m : Node X) × Has slots a m × (m.next ≡ n)) [
    | inl e ↦ absurd (some_not a (sym (ap (λ ys. last_or ys None) e) ∙ last))
    | inr f ↦ (
        let same : f.1.0 ≡ a = some_same f.1.0 a (sym (last_snoc f.0 f.1 None) ∙ sym (ap (λ ys. last_or ys None) f.2) ∙ last) in
        let here = (linked_cut slots f.0 (f.1 ∷ []) None n (subst (λ zs. Linked slots None zs n) f.2 h)).1.0 in
        (node (last_or f.0 None) n f.1.1, subst (λ (t : Spot). Has slots t (node (last_or f.0 None) n f.1.1)) same here, refl))
  ])

  first_node : (slots : List (Ptr × Option (Node X))) (ys : List (Spot × X)) (p : Option Spot) → Linked slots p ys None → (b : Spot) → first_or ys None ≡ Some b → (m : Node X) × Has slots b m × (m.prev ≡ p)
  first_node slots [] p h b e = absurd (some_not b e)
  first_node slots (y ∷ ys) p h b e = (node p (first_or ys None) y.1, subst (λ (t : Spot). Has slots t (node p (first_or ys None) y.1)) (some_same y.0 b e) h.0, refl)

  none_last : (xs : List (Spot × X)) → last_or xs None ≡ None → xs ≡ []
  none_last xs e = (elim (snoc xs) as (λ _. xs ≡ []) [
    | inl f ↦ f
    | inr f ↦ absurd (some_not f.1.0 (sym e ∙ ap (λ ys. last_or ys None) f.2 ∙ last_snoc f.0 f.1 None))
  ])

  none_first : (ys : List (Spot × X)) → first_or ys None ≡ None → ys ≡ []
  none_first [] e = refl
  none_first (y ∷ ys) e = absurd (some_not y.0 (sym e))

  -- writes of nodes outside a list keep it
  put_keeps : (slots : List (Ptr × Option (Node X))) (a : Spot) (f : Node X → Node X) (o : Option (Ptr × Option (Node X))) (zs : List (Spot × X)) (q m : Option Spot) → NotIn a.id zs → Linked slots q zs m → Linked (put slots a f o) q zs m
  put_keeps slots a f None zs q m d h = h
  put_keeps slots a f (Some (p, None)) zs q m d h = h
  put_keeps slots a f (Some (p, Some n)) zs q m d h = linked_other slots a (f n) zs q m d h

  on_keeps : (st : State X) (prev to : Option Spot) (zs : List (Spot × X)) (q m : Option Spot) → NotInIf prev zs → Linked st.slots q zs m → Linked (led_on st prev to).slots q zs m
  on_keeps st None to zs q m d h = h
  on_keeps st (Some a) to zs q m d h = put_keeps st.slots a (λ n. record n { next = to }) (slice_get st.slots a.id) zs q m d h

  back_keeps : (st : State X) (next to : Option Spot) (zs : List (Spot × X)) (q m : Option Spot) → NotInIf next zs → Linked st.slots q zs m → Linked (led_back st next to).slots q zs m
  back_keeps st None to zs q m d h = h
  back_keeps st (Some a) to zs q m d h = put_keeps st.slots a (λ n. record n { prev = to }) (slice_get st.slots a.id) zs q m d h

  pub joined_keeps : (st : State X) (prev next on back : Option Spot) (zs : List (Spot × X)) (q m : Option Spot) → NotInIf prev zs → NotInIf next zs → Linked st.slots q zs m → Linked (joined st prev next on back).slots q zs m
  joined_keeps st prev next on back zs q m d e h = back_keeps (led_on st prev on) next back zs q m e (on_keeps st prev on zs q m d h)

  -- a node that is there stays there
  same_place : (p q : Ptr) (n m : Node X) → ◌≡◌ {A = Option (Ptr × Option (Node X))} (Some (p, Some n)) (Some (q, Some m)) → p ≡ q
  same_place p q n m e =
      let a : Ptr × Option (Node X) = (p, Some n) in let b : Ptr × Option (Node X) = (q, Some m) in
      ap (λ (c : Ptr × Option (Node X)). c.0) (some_same a b e)

  there_put : (slots : List (Ptr × Option (Node X))) (a s : Spot) (f : Node X → Node X) → IsThere slots a → IsThere slots s → IsThere (put slots a f (slice_get slots a.id)) s
  there_put slots a s f at is = subst (λ t. IsThere t s) (sym (put_is slots a f at.0 at.1)) ((elim (same_or a.id s.id) as (λ _. IsThere (with_at slots a (f at.0)) s) [
    | inl e ↦ (
      f at.0,
      (let same : a.place.ptr ≡ s.place.ptr = same_place a.place.ptr s.place.ptr at.0 is.0 (sym at.1 ∙ ap (slice_get slots) e ∙ is.1) in
          sym (ap (slice_get (with_at slots a (f at.0))) e) ∙ has_same slots a (f at.0) at.0 at.1 ∙ ap (λ p. Some (p, Some (f at.0))) same),
    )
    | inr d ↦ (is.0, has_other slots a s (f at.0) is.0 d is.1)
  ]))

  pub there_on : (st : State X) (prev to : Option Spot) (s : Spot) → IsThereIf st.slots prev → IsThere st.slots s → IsThere (led_on st prev to).slots s
  there_on st None to s at is = is
  there_on st (Some a) to s at is = there_put st.slots a s (λ n. record n { next = to }) at is

  pub there_back : (st : State X) (next to : Option Spot) (s : Spot) → IsThereIf st.slots next → IsThere st.slots s → IsThere (led_back st next to).slots s
  there_back st None to s at is = is
  there_back st (Some a) to s at is = there_put st.slots a s (λ n. record n { prev = to }) at is

  pub there_if_on : (st : State X) (prev to s : Option Spot) → IsThereIf st.slots prev → IsThereIf st.slots s → IsThereIf (led_on st prev to).slots s
  there_if_on st prev to None at is = tt
  there_if_on st prev to (Some s) at is = there_on st prev to s at is

  pub there_if_back : (st : State X) (next to s : Option Spot) → IsThereIf st.slots next → IsThereIf st.slots s → IsThereIf (led_back st next to).slots s
  there_if_back st next to None at is = tt
  there_if_back st next to (Some s) at is = there_back st next to s at is

  pub there_joined : (st : State X) (prev next on back : Option Spot) (s : Spot) → IsThereIf st.slots prev → IsThereIf st.slots next → IsThere st.slots s → IsThere (joined st prev next on back).slots s
  there_joined st prev next on back s p n is = there_back (led_on st prev on) next back s (there_if_on st prev on next p n) (there_on st prev on s p is)

  pub there_if_joined : (st : State X) (prev next on back s : Option Spot) → IsThereIf st.slots prev → IsThereIf st.slots next → IsThereIf st.slots s → IsThereIf (joined st prev next on back).slots s
  there_if_joined st prev next on back s p n is = there_if_back (led_on st prev on) next back s (there_if_on st prev on next p n) (there_if_on st prev on s p is)

  length-put : (slots : List (Ptr × Option (Node X))) (a : Spot) (f : Node X → Node X) (o : Option (Ptr × Option (Node X))) → length (put slots a f o) ≡ length slots
  length-put slots a f None = refl
  length-put slots a f (Some (p, None)) = refl
  length-put slots a f (Some (p, Some n)) = length-set slots a.id (a.place.ptr, Some (f n))

  pub length_on : (st : State X) (prev to : Option Spot) → length (led_on st prev to).slots ≡ length st.slots
  length_on st None to = refl
  length_on st (Some a) to = length-put st.slots a (λ n. record n { next = to }) (slice_get st.slots a.id)

  pub length_back : (st : State X) (next to : Option Spot) → length (led_back st next to).slots ≡ length st.slots
  length_back st None to = refl
  length_back st (Some a) to = length-put st.slots a (λ n. record n { prev = to }) (slice_get st.slots a.id)

  pub length_joined : (st : State X) (prev next on back : Option Spot) → length (joined st prev next on back).slots ≡ length st.slots
  length_joined st prev next on back = length_back (led_on st prev on) next back ∙ length_on st prev on

  len_on : (st : State X) (prev to : Option Spot) → (led_on st prev to).len ≡ st.len
  len_on st None to = refl
  len_on st (Some a) to = refl

  len_back : (st : State X) (next to : Option Spot) → (led_back st next to).len ≡ st.len
  len_back st None to = refl
  len_back st (Some a) to = refl

  pub len_joined : (st : State X) (prev next on back : Option Spot) → (joined st prev next on back).len ≡ st.len
  len_joined st prev next on back = len_back (led_on st prev on) next back ∙ len_on st prev on

  pub len_rejoined : (st : State X) (prev next on back : Option Spot) → (rejoined st prev next on back).len ≡ st.len
  len_rejoined st prev next on back = len_on (led_back st next back) prev on ∙ len_back st next back

  pub len_relinked : (st : State X) (s : Spot) (o : Option (Node X)) → (relinked_node st s o).len ≡ st.len
  len_relinked st s None = refl
  len_relinked st s (Some n) = len_rejoined st n.prev n.next (Some s) (Some s)

  -- the last slot can still be given back
  pub pop_rejoined : (st : State X) (prev next on back : Option Spot) (s : Spot) → IsThereIf st.slots prev → IsThereIf st.slots next → CanPop st s → CanPop (rejoined st prev next on back) s
  pop_rejoined st prev next on back s p n can = (
    there_on (led_back st next back) prev on s (there_if_back st next back prev n p) (there_back st next back s n can.0),
    can.1 ∙ sym (length_on (led_back st next back) prev on ∙ length_back st next back),
  )

  pub pop_relinked : (st : State X) (s by : Spot) → CanRelink st s → CanPop st by → CanPop (relinked st s) by
  pop_relinked st s by link can = subst (λ o. CanPop (relinked_node st s (node_of o)) by) (sym link.1) (pop_rejoined st link.0.prev link.0.next (Some s) (Some s) by link.2 link.3 can)

  -- the front leads on to something else
  front_led : (slots : List (Ptr × Option (Node X))) (xs : List (Spot × X)) (on to : Option Spot) (a : Spot) → Apart xs → Linked slots None xs on → last_or xs None ≡ Some a
      → Linked (with_next slots a to) None xs to × (first_or xs on ≡ first_or xs to)
  front_led slots xs on to a d h last = (elim (snoc xs) as (λ _. Linked (with_next slots a to) None xs to × (first_or xs on ≡ first_or xs to)) [
    | inl e ↦ absurd (some_not a (sym (ap (λ ys. last_or ys None) e) ∙ last))
    | inr f ↦ (
        let ys = f.0 in let s = f.1 in
        let same : s.0 ≡ a = some_same s.0 a (sym (last_snoc ys s None) ∙ sym (ap (λ zs. last_or zs None) f.2) ∙ last) in
        let d' : Apart (ys ++ s ∷ []) = subst Apart f.2 d in
        let h' : Linked slots None (ys ++ s ∷ []) on = subst (λ zs. Linked slots None zs on) f.2 h in
        let here : Has slots s.0 (node (last_or ys None) on s.1) = (linked_cut slots ys (s ∷ []) None on h').1.0 in
        let became : with_next slots a to ≡ with_at slots s.0 (node (last_or ys None) to s.1) = ap (λ (t : Spot). with_next slots t to) (sym same) ∙ put_is slots s.0 (λ n. record n { next = to }) (node (last_or ys None) on s.1) here in (
          subst (λ zs. Linked (with_next slots a to) None zs to) (sym f.2) (subst (λ t. Linked t None (ys ++ s ∷ []) to) (sym became) (relast slots ys s None on to d' h')),
          ap (λ zs. first_or zs on) f.2 ∙ first_snoc ys s on to ∙ ap (λ zs. first_or zs to) (sym f.2),
        ))
  ])

  on_by : (st : State X) (xs ys : List (Spot × X)) (on back to prev : Option Spot) → last_or xs None ≡ prev → Gap st xs ys on back → Gap (led_on st prev to) xs ys to back
  on_by st xs ys on back to None e g = record {
    front = subst (λ zs. Linked st.slots None zs to) (sym (none_last xs e)) tt;
    rest = g.rest;
    head = subst (λ zs. to ≡ first_or zs to) (sym (none_last xs e)) refl;
    tail = g.tail;
    apart = g.apart;
  }
  on_by st xs ys on back to (Some a) e g =
      let led = front_led st.slots xs on to a (apart_cut xs ys g.apart).0 g.front e in
      let out : NotInIf (Some a) ys = subst (λ (o : Option Spot). NotInIf o ys) e (last_notin xs None ys tt g.apart) in record {
        front = led.0;
        rest = on_keeps st (Some a) to ys back None out g.rest;
        head = g.head ∙ led.1;
        tail = g.tail;
        apart = g.apart;
      }

  back_by : (st : State X) (xs ys : List (Spot × X)) (on back to next : Option Spot) → first_or ys None ≡ next → Gap st xs ys on back → Gap (led_back st next to) xs ys on to
  back_by st xs [] on back to None e g = record { front = g.front; rest = tt; head = g.head; tail = refl; apart = g.apart }
  back_by st xs [] on back to (Some b) e g = absurd (some_not b e)
  back_by st xs (y ∷ ys) on back to None e g = absurd (some_not y.0 (sym e))
  back_by st xs (y ∷ ys) on back to (Some b) e g =
      let same : y.0 ≡ b = some_same y.0 b e in
      let old = node back (first_or ys None) y.1 in let w = node to (first_or ys None) y.1 in
      let became : with_prev st.slots b to ≡ with_at st.slots y.0 w = ap (λ (t : Spot). with_prev st.slots t to) (sym same) ∙ put_is st.slots y.0 (λ n. record n { prev = to }) old g.rest.0 in
      let out : NotInIf (Some b) xs = subst (λ (o : Option Spot). NotInIf o xs) e (first_notin xs (y ∷ ys) g.apart) in record {
        front = back_keeps st (Some b) to xs None on out g.front;
        rest = subst (λ t. Linked t to (y ∷ ys) None) (sym became) (has_same st.slots y.0 w old g.rest.0, linked_other st.slots y.0 w ys (Some y.0) None (apart_cut xs (y ∷ ys) g.apart).1.0 g.rest.1);
        head = g.head;
        tail = g.tail;
        apart = g.apart;
      }

  pub gap_joined : (st : State X) (xs ys : List (Spot × X)) (on back on2 back2 : Option Spot) → Gap st xs ys on back → Gap (joined st (last_or xs None) (first_or ys None) on2 back2) xs ys on2 back2
  gap_joined st xs ys on back on2 back2 g = back_by (led_on st (last_or xs None) on2) xs ys on2 back back2 (first_or ys None) refl (on_by st xs ys on back on2 (last_or xs None) refl g)

  back_undone : (st : State X) (ys : List (Spot × X)) (back to next : Option Spot) → first_or ys None ≡ next → Linked st.slots back ys None → st.tail ≡ last_or ys back → led_back (led_back st next to) next back ≡ st
  back_undone st ys back to None e h tail = ap (λ (t : Option Spot). record st { tail = t }) (sym (tail ∙ ap (λ zs. last_or zs back) (none_first ys e)))
  back_undone st ys back to (Some b) e h tail = let m = first_node st.slots ys back h b e in
      ap (λ (t : List (Ptr × Option (Node X))). record st { slots = t }) (put_back st.slots b (λ n. record n { prev = to }) (λ n. record n { prev = back }) m.0 m.1 (ap (λ (o : Option Spot). record m.0 { prev = o }) (sym m.2)))

  on_undone : (st : State X) (xs : List (Spot × X)) (on to prev : Option Spot) → last_or xs None ≡ prev → Linked st.slots None xs on → st.head ≡ first_or xs on → led_on (led_on st prev to) prev on ≡ st
  on_undone st xs on to None e h head = ap (λ (t : Option Spot). record st { head = t }) (sym (head ∙ ap (λ zs. first_or zs on) (none_last xs e)))
  on_undone st xs on to (Some a) e h head = let m = last_node st.slots xs on h a e in
      ap (λ (t : List (Ptr × Option (Node X))). record st { slots = t }) (put_back st.slots a (λ n. record n { next = to }) (λ n. record n { next = on }) m.0 m.1 (ap (λ (o : Option Spot). record m.0 { next = o }) (sym m.2)))

  -- what led to the sides of a gap leads there again
  pub rejoined_joined : (st : State X) (xs ys : List (Spot × X)) (on back on2 back2 : Option Spot) → Gap st xs ys on back
      → rejoined (joined st (last_or xs None) (first_or ys None) on2 back2) (last_or xs None) (first_or ys None) on back ≡ st
  rejoined_joined st xs ys on back on2 back2 g =
      let prev = last_or xs None in let next = first_or ys None in let one = led_on st prev on2 in let h = on_by st xs ys on back on2 prev refl g in
      ap (λ t. led_on t prev on) (back_undone one ys back back2 next refl h.rest h.tail) ∙ on_undone st xs on on2 prev refl g.front g.head
