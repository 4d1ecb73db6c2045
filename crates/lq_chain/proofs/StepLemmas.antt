-- What each step makes of the list, and that it can be undone.
use Rattle.std.proofs.Common.{◌≡◌, ◌≢◌, ℕ, suc, ◌+◌, ◌-◌, ◌<◌, ◌^◌, List, [], ◌∷◌, ◌++◌, length, take, Option, Some, None, refl, sym, ap, ◌∙◌, subst, arith}
use Rattle.std.specs.Prelude.{slice_get}
use Rattle.std.proofs.lemmas.List.{append-nil, length-append, take-append-le, take_all}
use denote.RawPtr.{Ptr}
use Rattle.lq_links.specs.declared.node.Node.{Node}
use Rattle.lq_links.specs.declared.node.Spot.{Spot}
use Rattle.lq_links.specs.declared.done.Done.{Done}
use Rattle.lq_links.specs.declared.done.Done.TheVariants.{Pushed, Unlinked, Replaced}
use Rattle.lq_links.specs.State.{Has, node, first_or, last_or, Linked, NotIn, NotInIf, Apart, IsThere, IsThereIf, State, IsNone, gone, joined, rejoined, with_len, grown, popped, node_of, relinked_node, relinked, pushed, unlinked_node, unlinked, replaced_node, replaced_by, before, CanUndo, IsList, cons_node, spots_from, spots, Spare, IsSound}
use Rattle.lq_links.proofs.ShapeLemmas.{get_append, get_last, get_below, first_append, last_append, linked_append, linked_cut, linked_glue, notin_cut, notin_glue, apart_with, apart_without, apart_from, there_last, there_first, notin_new}
use Rattle.lq_links.proofs.GapLemmas.{Gap, joined_keeps, there_joined, there_if_joined, length_joined, len_joined, gap_joined, rejoined_joined}

module _ {X : Type 0} where
  pub spots_are : (slots : List (Ptr × Option (Node X))) (ss : List (Spot × X)) (p : Option Spot) → Linked slots p ss None → spots_from (length ss) slots (first_or ss None) ≡ ss
  unfolding spots_from
  spots_are slots [] p h = refl
  spots_are slots (s ∷ ss) p h = ap (λ o. cons_node (spots_from (length ss) slots) s.0 (node_of o)) h.0 ∙ ap (λ r. s ∷ r) (spots_are slots ss (Some s.0) h.1)

  -- there is one list
  pub list_is : (st : State X) (ts : List (Spot × X)) → IsList st ts → spots st ≡ ts
  list_is st ts is = ap (λ n. spots_from n st.slots st.head) is.4 ∙ ap (spots_from (length ts) st.slots) is.1 ∙ spots_are st.slots ts None is.0

  -- a list as the two sides of a gap
  pub gap_at : (st : State X) (xs : List (Spot × X)) (s : Spot × X) (ys : List (Spot × X)) → IsList st (xs ++ s ∷ ys) → Gap st xs ys (Some s.0) (Some s.0)
  gap_at st xs s ys is = let cut = linked_cut st.slots xs (s ∷ ys) None None is.0 in record {
    front = cut.0;
    rest = cut.1.1;
    head = is.1 ∙ first_append xs (s ∷ ys) None;
    tail = is.2 ∙ last_append xs (s ∷ ys) None;
    apart = apart_without xs s ys is.3;
  }

  gap_end : (st : State X) (ss : List (Spot × X)) → IsList st ss → Gap st ss [] None (last_or ss None)
  gap_end st ss is = record { front = is.0; rest = tt; head = is.1; tail = is.2; apart = subst Apart (sym (append-nil ss)) is.3 }

  list_at : (st : State X) (xs : List (Spot × X)) (s : Spot × X) (ys : List (Spot × X)) → Gap st xs ys (Some s.0) (Some s.0)
      → Has st.slots s.0 (node (last_or xs None) (first_or ys None) s.1) → NotIn s.0.id (xs ++ ys) → st.len ≡ length (xs ++ s ∷ ys) → IsList st (xs ++ s ∷ ys)
  list_at st xs s ys g has out len = (
    linked_glue st.slots xs (s ∷ ys) None None g.front (has, g.rest),
    g.head ∙ sym (first_append xs (s ∷ ys) None),
    g.tail ∙ sym (last_append xs (s ∷ ys) None),
    apart_with xs s ys g.apart out,
    len,
  )

  list_without : (st : State X) (xs ys : List (Spot × X)) → Gap st xs ys (first_or ys None) (last_or xs None) → st.len ≡ length (xs ++ ys) → IsList st (xs ++ ys)
  list_without st xs ys g len = (
    linked_glue st.slots xs ys None None g.front g.rest,
    g.head ∙ sym (first_append xs ys None),
    g.tail ∙ sym (last_append xs ys None),
    g.apart,
    len,
  )

  -- the node at a place of the list, and its neighbours
  pub node_in : (st : State X) (xs : List (Spot × X)) (s : Spot × X) (ys : List (Spot × X)) → IsList st (xs ++ s ∷ ys) → Has st.slots s.0 (node (last_or xs None) (first_or ys None) s.1)
  node_in st xs s ys is = (linked_cut st.slots xs (s ∷ ys) None None is.0).1.0

  pub prev_in : (st : State X) (xs : List (Spot × X)) (s : Spot × X) (ys : List (Spot × X)) → IsList st (xs ++ s ∷ ys) → IsThereIf st.slots (last_or xs None)
  prev_in st xs s ys is = there_last st.slots xs None (Some s.0) (linked_cut st.slots xs (s ∷ ys) None None is.0).0 tt

  pub next_in : (st : State X) (xs : List (Spot × X)) (s : Spot × X) (ys : List (Spot × X)) → IsList st (xs ++ s ∷ ys) → IsThereIf st.slots (first_or ys None)
  next_in st xs s ys is = there_first st.slots ys (Some s.0) None (linked_cut st.slots xs (s ∷ ys) None None is.0).1.1 tt

  pub tail_in : (st : State X) (ss : List (Spot × X)) → IsList st ss → IsThereIf st.slots st.tail
  tail_in st ss is = subst (IsThereIf st.slots) (sym is.2) (there_last st.slots ss None None is.0 tt)

  -- the nodes that were taken out stay so
  spare_moves : (slots slots2 : List (Ptr × Option (Node X))) (ss ts : List (Spot × X)) (gs : List Spot) → ((s : Spot) → IsThere slots s → IsThere slots2 s)
      → ((s : Spot) → IsThere slots s → NotIn s.id ss → NotIn s.id ts) → Spare slots ss gs → Spare slots2 ts gs
  spare_moves slots slots2 ss ts [] there out is = tt
  spare_moves slots slots2 ss ts (g ∷ gs) there out is = (out g is.2 is.0, is.1, there g is.2, spare_moves slots slots2 ss ts gs there out is.3)

  spare_none : (slots : List (Ptr × Option (Node X))) (ss : List (Spot × X)) (gs : List Spot) (i : ℕ) → Spare slots ss gs → ((s : Spot) → NotIn s.id ss → s.id ≢ i) → IsNone i gs
  spare_none slots ss [] i is other = tt
  spare_none slots ss (g ∷ gs) i is other = (other g is.0, spare_none slots ss gs i is.3 other)

  not_at : (xs : List (Spot × X)) (s : Spot × X) (ys : List (Spot × X)) (i : ℕ) → NotIn i (xs ++ s ∷ ys) → (s.0.id ≢ i) × NotIn i (xs ++ ys)
  not_at xs s ys i d = let both = notin_cut i xs (s ∷ ys) d in (both.1.0, notin_glue i xs ys both.0 both.1.1)

  -- slots made and given back
  there_grown : (st : State X) (t : Spot) (n : Node X) (s : Spot) → IsThere st.slots s → IsThere (grown st t n).slots s
  there_grown st t n s is = (is.0, get_append st.slots ((t.place.ptr, Some n) ∷ []) s.id (s.place.ptr, Some is.0) is.1)

  pub there_if_grown : (st : State X) (t : Spot) (n : Node X) (s : Option Spot) → IsThereIf st.slots s → IsThereIf (grown st t n).slots s
  there_if_grown st t n None is = tt
  there_if_grown st t n (Some s) is = there_grown st t n s is

  gap_grown : (st : State X) (t : Spot) (n : Node X) (xs ys : List (Spot × X)) (on back : Option Spot) → Gap st xs ys on back → Gap (grown st t n) xs ys on back
  gap_grown st t n xs ys on back g = record {
    front = linked_append st.slots ((t.place.ptr, Some n) ∷ []) xs None on g.front;
    rest = linked_append st.slots ((t.place.ptr, Some n) ∷ []) ys back None g.rest;
    head = g.head;
    tail = g.tail;
    apart = g.apart;
  }

  has_grown : (st : State X) (t : Spot) (n : Node X) → t.id ≡ length st.slots → Has (grown st t n).slots t n
  has_grown st t n e = ap (slice_get (st.slots ++ (t.place.ptr, Some n) ∷ [])) e ∙ get_last st.slots (t.place.ptr, Some n)

  popped_grown : (st : State X) (t : Spot) (n : Node X) → popped (grown st t n) ≡ st
  popped_grown st t n =
      let more : List (Ptr × Option (Node X)) = (t.place.ptr, Some n) ∷ [] in
      let len = length-append st.slots more in
      ap (λ (ts : List (Ptr × Option (Node X))). record st { slots = ts }) (
      ap (λ k. take k (st.slots ++ more)) (omega (arith, len))
      ∙ take-append-le (length st.slots) st.slots more (omega arith)
      ∙ take_all (length st.slots) st.slots (omega arith))

  rejoined_with_len : (st : State X) (n : ℕ) (prev next on back : Option Spot) → rejoined (with_len st n) prev next on back ≡ with_len (rejoined st prev next on back) n
  rejoined_with_len st n None None on back = refl
  rejoined_with_len st n None (Some b) on back = refl
  rejoined_with_len st n (Some a) None on back = refl
  rejoined_with_len st n (Some a) (Some b) on back = refl

  -- a node outside a gap
  has_joined : (st : State X) (prev next on back : Option Spot) (s : Spot) (n : Node X) → NotInIf prev ((s, n.row) ∷ []) → NotInIf next ((s, n.row) ∷ []) → Has st.slots s n → Has (joined st prev next on back).slots s n
  has_joined st prev next on back s n p q has = (joined_keeps st prev next on back ((s, n.row) ∷ []) n.prev n.next p q (has, tt)).0

  outside_last : (xs : List (Spot × X)) (p : Option Spot) (s : Spot × X) → NotInIf p (s ∷ []) → NotIn s.0.id xs → NotInIf (last_or xs p) (s ∷ [])
  outside_last [] p s g d = g
  outside_last (x ∷ xs) p s g d = outside_last xs (Some x.0) s ((λ e. d.0 (sym e)), tt) d.1

  outside_first : (ys : List (Spot × X)) (s : Spot × X) → NotIn s.0.id ys → NotInIf (first_or ys None) (s ∷ [])
  outside_first [] s d = tt
  outside_first (y ∷ ys) s d = ((λ e. d.0 (sym e)), tt)

  -- a step that was made, and what it made of the list
  pub record Made (st : State X) (ds : List Done) (new : State X) (d : Done) (ts : List (Spot × X)) : Type 0 where
    pub list : IsList new ts
    pub spare : Spare new.slots ts (gone (d ∷ ds))
    pub can : CanUndo d new
    pub back : before d new ≡ st

  pub made_pushed : (st : State X) (ds : List Done) (s : Spot) (row : X) → IsSound st ds → s.id ≡ length st.slots
      → Made st ds (pushed st s row) (Pushed s st.tail) (spots st ++ (s, row) ∷ [])
  unfolding before
  made_pushed st ds s row sound new =
      let ss = spots st in let last = last_or ss None in let is = sound.0 in
      let n : Node X = node st.tail None row in let one = grown st s n in
      let two = joined one st.tail None (Some s) (Some s) in
      let g : Gap one ss [] None last = gap_grown st s n ss [] None last (gap_end st ss is) in
      let same : joined one last None (Some s) (Some s) ≡ two = ap (λ t. joined one t None (Some s) (Some s)) (sym is.2) in
      let g2 : Gap two ss [] (Some s) (Some s) = subst (λ t. Gap t ss [] (Some s) (Some s)) same (gap_joined one ss [] None last (Some s) (Some s) g) in
      let out : NotIn s.id ss = notin_new st.slots ss None None s.id (sym new) is.0 in
      let out2 : NotIn s.id (ss ++ []) = subst (NotIn s.id) (sym (append-nil ss)) out in
      let side : NotInIf st.tail ((s, row) ∷ []) = subst (λ (o : Option Spot). NotInIf o ((s, row) ∷ [])) (sym is.2) (outside_last ss None (s, row) tt out) in
      let there : IsThereIf one.slots st.tail = there_if_grown st s n st.tail (tail_in st ss is) in
      let has : Has two.slots s n = has_joined one st.tail None (Some s) (Some s) s n side tt (has_grown st s n new) in
      let has2 : Has two.slots s (node last None row) = subst (λ (o : Option Spot). Has two.slots s (node o None row)) is.2 has in
      let slots : length two.slots ≡ length st.slots + 1 = length_joined one st.tail None (Some s) (Some s) ∙ length-append st.slots ((s.place.ptr, Some n) ∷ []) in
      let long : st.len + 1 ≡ length (ss ++ (s, row) ∷ []) = omega (arith, is.4, length-append ss ((s, row) ∷ [])) in
      let undone : rejoined two st.tail None None st.tail ≡ one = subst (λ (o : Option Spot). rejoined (joined one o None (Some s) (Some s)) o None None o ≡ one) (sym is.2) (rejoined_joined one ss [] None last (Some s) (Some s) g) in
      let less : st.len + 1 - 1 ≡ st.len = omega arith in
      record {
        list = list_at (with_len two (st.len + 1)) ss (s, row) [] (record { front = g2.front; rest = g2.rest; head = g2.head; tail = g2.tail; apart = g2.apart }) has2 out2 long;
        spare = spare_moves st.slots two.slots ss (ss ++ (s, row) ∷ []) (gone ds)
            (λ t is. there_joined one st.tail None (Some s) (Some s) t there tt (there_grown st s n t is))
            (λ t is d. let below = get_below st.slots t.id (t.place.ptr, Some is.0) is.1 in notin_glue t.id ss ((s, row) ∷ []) d ((λ e. omega (arith, e, new, below)), tt))
            sound.1;
        can = (((n, has), omega (arith, new, slots)), there_if_joined one st.tail None (Some s) (Some s) st.tail there tt there, omega arith);
        back = ap (λ t. popped (with_len t (st.len + 1 - 1))) (rejoined_with_len two (st.len + 1) st.tail None None st.tail ∙ ap (λ t. with_len t (st.len + 1)) undone) ∙ ap (λ k. popped (with_len one k)) less ∙ popped_grown st s n;
      }

  pub made_unlinked : (st : State X) (ds : List Done) (xs : List (Spot × X)) (s : Spot × X) (ys : List (Spot × X)) → IsSound st ds → st.len < 2 ^ 64 → spots st ≡ xs ++ s ∷ ys
      → Made st ds (unlinked st s.0) (Unlinked s.0) (xs ++ ys)
  unfolding before
  made_unlinked st ds xs s ys sound fits split =
      let is : IsList st (xs ++ s ∷ ys) = subst (IsList st) split sound.0 in
      let prev = last_or xs None in let next = first_or ys None in let n : Node X = node prev next s.1 in
      let has : Has st.slots s.0 n = node_in st xs s ys is in
      let one = joined st prev next next prev in
      let new = with_len one (st.len - 1) in
      let became : unlinked st s.0 ≡ new = ap (λ o. unlinked_node st (node_of o)) has in
      let g = gap_at st xs s ys is in
      let g2 : Gap one xs ys next prev = gap_joined st xs ys (Some s.0) (Some s.0) next prev g in
      let out = apart_from xs s ys is.3 in let sides = notin_cut s.0.id xs ys out in
      let has2 : Has one.slots s.0 n = has_joined st prev next next prev s.0 n (outside_last xs None s tt sides.0) (outside_first ys s sides.1) has in
      let there_prev = prev_in st xs s ys is in let there_next = next_in st xs s ys is in
      let long : length (xs ++ s ∷ ys) ≡ suc (length (xs ++ ys)) = omega (arith, length-append xs (s ∷ ys), length-append xs ys) in
      let less : st.len - 1 ≡ length (xs ++ ys) = omega (arith, long, is.4) in
      let more : st.len - 1 + 1 ≡ st.len = omega (arith, long, is.4) in
      let bound : st.len - 1 + 1 < 2 ^ 64 = subst (λ k. k < 2 ^ 64) (sym more) fits in
      let undone : with_len (relinked new s.0) (st.len - 1 + 1) ≡ st =
      ap (λ o. with_len (relinked_node new s.0 (node_of o)) (st.len - 1 + 1)) has2
      ∙ ap (λ t. with_len t (st.len - 1 + 1)) (rejoined_with_len one (st.len - 1) prev next (Some s.0) (Some s.0) ∙ ap (λ t. with_len t (st.len - 1)) (rejoined_joined st xs ys (Some s.0) (Some s.0) next prev g))
      ∙ ap (with_len st) more in
      let whole : Made st ds new (Unlinked s.0) (xs ++ ys) = record {
        list = list_without new xs ys (record { front = g2.front; rest = g2.rest; head = g2.head; tail = g2.tail; apart = g2.apart }) less;
        spare = (
          out,
          spare_none st.slots (xs ++ s ∷ ys) (gone ds) s.0.id (subst (λ ts. Spare st.slots ts (gone ds)) split sound.1) (λ t d e. (not_at xs s ys t.id d).0 (sym e)),
          (n, has2),
          spare_moves st.slots one.slots (xs ++ s ∷ ys) (xs ++ ys) (gone ds) (λ t is. there_joined st prev next next prev t there_prev there_next is) (λ t is d. (not_at xs s ys t.id d).1) (subst (λ ts. Spare st.slots ts (gone ds)) split sound.1),
        );
        can = ((n, has2, there_if_joined st prev next next prev prev there_prev there_next there_prev, there_if_joined st prev next next prev next there_prev there_next there_next), bound);
        back = undone;
      } in
      subst (λ t. Made st ds t (Unlinked s.0) (xs ++ ys)) (sym became) whole

  pub made_replaced : (st : State X) (ds : List Done) (xs : List (Spot × X)) (s : Spot × X) (ys : List (Spot × X)) (by : Spot) (row : X) → IsSound st ds → by.id ≡ length st.slots → spots st ≡ xs ++ s ∷ ys
      → Made st ds (replaced_by st s.0 by row) (Replaced s.0 by) (xs ++ (by, row) ∷ ys)
  unfolding before
  made_replaced st ds xs s ys by row sound fresh split =
      let is : IsList st (xs ++ s ∷ ys) = subst (IsList st) split sound.0 in
      let prev = last_or xs None in let next = first_or ys None in
      let n : Node X = node prev next s.1 in let m : Node X = node prev next row in
      let has : Has st.slots s.0 n = node_in st xs s ys is in
      let one = grown st by m in
      let new = joined one prev next (Some by) (Some by) in
      let became : replaced_by st s.0 by row ≡ new = ap (λ o. replaced_node st by row (node_of o)) has in
      let g = gap_grown st by m xs ys (Some s.0) (Some s.0) (gap_at st xs s ys is) in
      let g2 : Gap new xs ys (Some by) (Some by) = gap_joined one xs ys (Some s.0) (Some s.0) (Some by) (Some by) g in
      let out = apart_from xs s ys is.3 in let sides = notin_cut s.0.id xs ys out in
      let outside = not_at xs s ys by.id (notin_new st.slots (xs ++ s ∷ ys) None None by.id (sym fresh) is.0) in
      let news = notin_cut by.id xs ys outside.1 in
      let has1 : Has one.slots s.0 n = get_append st.slots ((by.place.ptr, Some m) ∷ []) s.0.id (s.0.place.ptr, Some n) has in
      let has2 : Has new.slots s.0 n = has_joined one prev next (Some by) (Some by) s.0 n (outside_last xs None s tt sides.0) (outside_first ys s sides.1) has1 in
      let has_by : Has new.slots by m = has_joined one prev next (Some by) (Some by) by m (outside_last xs None (by, row) tt news.0) (outside_first ys (by, row) news.1) (has_grown st by m fresh) in
      let there_prev = there_if_grown st by m prev (prev_in st xs s ys is) in let there_next = there_if_grown st by m next (next_in st xs s ys is) in
      let slots : length new.slots ≡ length st.slots + 1 = length_joined one prev next (Some by) (Some by) ∙ length-append st.slots ((by.place.ptr, Some m) ∷ []) in
      let long : st.len ≡ length (xs ++ (by, row) ∷ ys) = omega (arith, is.4, length-append xs (s ∷ ys), length-append xs ((by, row) ∷ ys)) in
      let undone : popped (relinked new s.0) ≡ st =
      ap (λ o. popped (relinked_node new s.0 (node_of o))) has2 ∙ ap popped (rejoined_joined one xs ys (Some s.0) (Some s.0) (Some by) (Some by) g) ∙ popped_grown st by m in
      let whole : Made st ds new (Replaced s.0 by) (xs ++ (by, row) ∷ ys) = record {
        list = list_at new xs (by, row) ys g2 has_by outside.1 (len_joined one prev next (Some by) (Some by) ∙ long);
        spare = (
          notin_glue s.0.id xs ((by, row) ∷ ys) sides.0 ((λ e. outside.0 (sym e)), sides.1),
          spare_none st.slots (xs ++ s ∷ ys) (gone ds) s.0.id (subst (λ ts. Spare st.slots ts (gone ds)) split sound.1) (λ t d e. (not_at xs s ys t.id d).0 (sym e)),
          (n, has2),
          spare_moves st.slots new.slots (xs ++ s ∷ ys) (xs ++ (by, row) ∷ ys) (gone ds) (λ t is. there_joined one prev next (Some by) (Some by) t there_prev there_next (there_grown st by m t is))
              (λ t is d. let below = get_below st.slots t.id (t.place.ptr, Some is.0) is.1 in let both = notin_cut t.id xs (s ∷ ys) d in notin_glue t.id xs ((by, row) ∷ ys) both.0 ((λ e. omega (arith, e, fresh, below)), both.1.1))
              (subst (λ ts. Spare st.slots ts (gone ds)) split sound.1),
        );
        can = ((n, has2, there_if_joined one prev next (Some by) (Some by) prev there_prev there_next there_prev, there_if_joined one prev next (Some by) (Some by) next there_prev there_next there_next), ((m, has_by), omega (arith, fresh, slots)));
        back = undone;
      } in
      subst (λ t. Made st ds t (Replaced s.0 by) (xs ++ (by, row) ∷ ys)) (sym became) whole
