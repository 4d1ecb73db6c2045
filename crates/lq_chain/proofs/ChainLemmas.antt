-- A list with its record of steps, after one more step and after one less.
use Rattle.std.proofs.Common.{◌≡◌, ◌⊎◌, inl, inr, ℕ, ◌+◌, ◌<◌, List, [], ◌∷◌, ◌++◌, length, Option, Some, None, refl, sym, ap, ◌∙◌, subst, arith}
use Rattle.std.specs.Prelude.{reverse}
use Rattle.std.proofs.lemmas.List.{reverse-append}
use denote.RawPtr.{Ptr}
use Rattle.lq_nodes.specs.Slots.{without_node}
use Rattle.lq_links.specs.declared.node.Node.{Node}
use Rattle.lq_links.specs.declared.node.Spot.{Spot}
use Rattle.lq_links.specs.declared.node.Links.{Links}
use Rattle.lq_links.specs.declared.node.Finger.{Finger}
use Rattle.lq_links.specs.declared.done.Done.{Done}
use Rattle.lq_links.specs.declared.done.Done.TheVariants.{Begun, Pushed, Unlinked, Replaced}
use Rattle.lq_chain.specs.History.{history, changed, back, IsWhole, seen}
use Rattle.lq_links.specs.State.{Linked, rows, NotIn, IsOn, State, state_of, Ties, IsNone, gone, before, IsList, spots_from, spots, Spare, IsSound, AllUndo, pasts, nothing}
use Rattle.lq_links.proofs.ShapeLemmas.{get_set_other}
use Rattle.lq_chain.proofs.StepLemmas.{Made, list_is}

newest : (items new : List Done) (d : Done) → new ≡ items ++ d ∷ [] → reverse new ≡ d ∷ reverse items
newest items new d e = ap reverse e ∙ reverse-append items (d ∷ [])

-- a step that begins no call
abbrev pub IsEdit : Type 0 → Done → Type 0
IsEdit X d = (st : State X) (ds : List Done) → pasts st (d ∷ ds) ≡ pasts (before d st) ds

module _ {X : Type 0} where
  pasts_begun : (st : State X) (ds : List Done) → pasts st (Begun ∷ ds) ≡ rows (spots st) ∷ pasts st ds
  unfolding pasts
  pasts_begun st ds = refl

  before_begun : (st : State X) → before Begun st ≡ st
  unfolding before
  before_begun st = refl

  pub pushed_edit : (s : Spot) (last : Option Spot) → IsEdit X (Pushed s last)
  unfolding pasts
  pushed_edit s last st ds = refl

  pub unlinked_edit : (s : Spot) → IsEdit X (Unlinked s)
  unfolding pasts
  unlinked_edit s st ds = refl

  pub replaced_edit : (s by : Spot) → IsEdit X (Replaced s by)
  unfolding pasts
  replaced_edit s by st ds = refl

  pub edit_of : (d : Done) → (d ≡ Begun → ⊥) → IsEdit X d
  edit_of Begun not = absurd (not refl)
  edit_of (Pushed s last) not = pushed_edit s last
  edit_of (Unlinked s) not = unlinked_edit s
  edit_of (Replaced s by) not = replaced_edit s by

  pub none_begun : (st : State X) (items : List Done) → length items ≡ 0 → 0 < length (pasts st (reverse items)) → ⊥
  unfolding pasts
  none_begun st [] e less = omega (arith, less)
  none_begun st (d ∷ items) e less = omega (arith, e)

  -- a call begins
  pub begun_whole : (l : Links X) (items new : List Done) (calls more : ℕ) (f : Option Finger) → new ≡ items ++ Begun ∷ [] → more ≡ calls + 1 → IsWhole l items calls f → IsWhole l new more f
  begun_whole l items new calls more f e m is =
      let st = state_of l in let ds = reverse items in
      let first = newest items new Begun e in
      let undo : AllUndo st (Begun ∷ ds) = (tt, subst (λ t. IsSound t ds) (sym (before_begun st)) is.1, subst (λ t. AllUndo t ds) (sym (before_begun st)) is.2) in
      let count : more ≡ length (pasts st (Begun ∷ ds)) = m ∙ omega (arith, is.3) ∙ sym (ap length (pasts_begun st ds)) in
      subst (λ xs. Ties l × IsSound st xs × AllUndo st xs × (more ≡ length (pasts st xs)) × IsOn (spots st) f) (sym first) (is.0, is.1, undo, count, is.4)

  pub begun_seen : (l : Links X) (items new : List Done) → new ≡ items ++ Begun ∷ [] → seen l new ≡ changed (seen l items) (seen l items).now
  begun_seen l items new e = ap (history (rows (spots (state_of l)))) (ap (pasts (state_of l)) (newest items new Begun e) ∙ pasts_begun (state_of l) (reverse items))

  -- a step was made
  pub step_whole : (l l2 : Links X) (items new : List Done) (d : Done) (ts : List (Spot × X)) (calls : ℕ) (f f2 : Option Finger)
      → IsEdit X d → new ≡ items ++ d ∷ [] → Ties l2 → Made (state_of l) (reverse items) (state_of l2) d ts → IsOn ts f2 → IsWhole l items calls f → IsWhole l2 new calls f2
  step_whole l l2 items new d ts calls f f2 edit e ties made on is =
      let st = state_of l in let st2 = state_of l2 in let ds = reverse items in
      let list = list_is st2 ts made.list in
      let sound : IsSound st2 (d ∷ ds) = subst (λ us. IsList st2 us × Spare st2.slots us (gone (d ∷ ds))) (sym list) (made.list, made.spare) in
      let undo : AllUndo st2 (d ∷ ds) = (made.can, subst (λ t. IsSound t ds) (sym made.back) is.1, subst (λ t. AllUndo t ds) (sym made.back) is.2) in
      let count : calls ≡ length (pasts st2 (d ∷ ds)) = is.3 ∙ sym (ap length (edit st2 ds ∙ ap (λ t. pasts t ds) made.back)) in
      subst (λ xs. Ties l2 × IsSound st2 xs × AllUndo st2 xs × (calls ≡ length (pasts st2 xs)) × IsOn (spots st2) f2) (sym (newest items new d e))
      (ties, sound, undo, count, subst (λ us. IsOn us f2) (sym list) on)

  pub step_seen : (l l2 : Links X) (items new : List Done) (d : Done) (ts : List (Spot × X)) (us : List X)
      → IsEdit X d → new ≡ items ++ d ∷ [] → Made (state_of l) (reverse items) (state_of l2) d ts → rows ts ≡ us → seen l2 new ≡ history us (seen l items).past
  step_seen l l2 items new d ts us edit e made r =
      let now : rows (spots (state_of l2)) ≡ us = ap rows (list_is (state_of l2) ts made.list) ∙ r in
      let past : pasts (state_of l2) (reverse new) ≡ pasts (state_of l) (reverse items) = ap (pasts (state_of l2)) (newest items new d e) ∙ edit (state_of l2) (reverse items) ∙ ap (λ t. pasts t (reverse items)) made.back in
      λ i. history (now i) (past i)

  -- a step is undone
  pub newest_undone : (st : State X) (items rest : List Done) (d : Done) → items ≡ rest ++ d ∷ [] → AllUndo st (reverse items) → AllUndo st (d ∷ reverse rest)
  newest_undone st items rest d e is = subst (AllUndo st) (newest rest items d e) is

  pub undone_begun : (st : State X) (items rest : List Done) → items ≡ rest ++ Begun ∷ [] → AllUndo st (reverse items) → AllUndo st (reverse rest)
  undone_begun st items rest e is = subst (λ t. AllUndo t (reverse rest)) (before_begun st) (newest_undone st items rest Begun e is).2

  pub pasts_newest : (st : State X) (items rest : List Done) (d : Done) → items ≡ rest ++ d ∷ [] → pasts st (reverse items) ≡ pasts st (d ∷ reverse rest)
  pasts_newest st items rest d e = ap (pasts st) (newest rest items d e)

  pub pasts_at_begun : (st : State X) (items rest : List Done) → items ≡ rest ++ Begun ∷ [] → pasts st (reverse items) ≡ rows (spots st) ∷ pasts st (reverse rest)
  pasts_at_begun st items rest e = pasts_newest st items rest Begun e ∙ pasts_begun st (reverse rest)

  -- what a call was begun with
  pub call_undone : (now : List X) (past : List (List X)) (old : List X) (older : List (List X)) → now ∷ past ≡ older → history now past ≡ back 1 old older
  call_undone now past old [] e = absurd (let no : ◌≡◌ {A = List (List X)} (now ∷ past) [] = e in cc)
  call_undone now past old (o ∷ os) e = λ i. history (head_or now (e i)) (tail_of (e i))
    where
      head_or : List X → List (List X) → List X
      head_or d [] = d
      head_or d (x ∷ xs) = x

      tail_of : List (List X) → List (List X)
      tail_of [] = []
      tail_of (x ∷ xs) = xs

  -- a node is freed
  pub linked_freed : (slots : List (Ptr × Option (Node X))) (a : Spot) (ss : List (Spot × X)) (p n : Option Spot) → NotIn a.id ss → Linked slots p ss n → Linked (without_node slots a.id a.place.ptr) p ss n
  linked_freed slots a [] p n d h = tt
  linked_freed slots a (s ∷ ss) p n d h = (get_set_other slots a.id s.0.id (a.place.ptr, None) d.0 ∙ h.0, linked_freed slots a ss (Some s.0) n d.1 h.1)

  pub spare_freed : (slots : List (Ptr × Option (Node X))) (a : Spot) (ss : List (Spot × X)) (gs : List Spot) → IsNone a.id gs → Spare slots ss gs → Spare (without_node slots a.id a.place.ptr) ss gs
  spare_freed slots a ss [] d is = tt
  spare_freed slots a ss (g ∷ gs) d is = (is.0, is.1, (is.2.0, get_set_other slots a.id g.id (a.place.ptr, None) d.0 ∙ is.2.1), spare_freed slots a ss gs d.1 is.3)

  pub list_freed : (st : State X) (a : Spot) (ss : List (Spot × X)) → NotIn a.id ss → IsList st ss → IsList (record st { slots = without_node st.slots a.id a.place.ptr }) ss
  list_freed st a ss d is = (linked_freed st.slots a ss None None d is.0, is.1, is.2, is.3, is.4)

  pub list_again : (st : State X) (ts : List (Spot × X)) → IsList st ts → IsList st (spots st)
  list_again st ts is = subst (IsList st) (sym (list_is st ts is)) is

  -- all is forgotten
  pub forgot_whole : (l l2 : Links X) (items new : List Done) (calls : ℕ) (f : Option Finger) → IsWhole l items calls f → Ties l2 → IsList (state_of l2) (spots (state_of l)) → new ≡ [] → IsWhole l2 new 0 f
  unfolding pasts
  forgot_whole l l2 items new calls f is ties list none =
      let st2 = state_of l2 in
      subst (λ xs. IsWhole l2 xs 0 f) (sym none) (ties, (list_again st2 (spots (state_of l)) list, tt), tt, refl, subst (λ us. IsOn us f) (sym (list_is st2 (spots (state_of l)) list)) is.4)

  pub forgot_seen : (l l2 : Links X) (items new : List Done) → IsList (state_of l2) (spots (state_of l)) → new ≡ [] → seen l2 new ≡ history (seen l items).now []
  unfolding pasts
  forgot_seen l l2 items new list none = ap (seen l2) none ∙ ap (λ us. history (rows us) []) (list_is (state_of l2) (spots (state_of l)) list)

  -- nothing is there yet
  pub new_whole : (l : Links X) (items : List Done) → Ties l → state_of l ≡ nothing → items ≡ [] → IsWhole l items 0 None
  unfolding pasts spots_from
  new_whole l items ties empty none =
      let list : IsList (nothing {X = X}) [] = (tt, refl, refl, tt, refl) in
      let list2 : IsList (state_of l) [] = subst (λ t. IsList t []) (sym empty) list in
      subst (λ xs. IsWhole l xs 0 None) (sym none) (ties, (list_again (state_of l) [] list2, tt), tt, refl, tt)

  pub new_seen : (l : Links X) (items : List Done) → state_of l ≡ nothing → items ≡ [] → seen l items ≡ history [] []
  unfolding pasts spots_from
  new_seen l items empty none = ap (seen l) none ∙ ap (λ t. history (rows (spots t)) []) empty

pub gone_newest : (items rest : List Done) (d : Done) (s : Spot) → items ≡ rest ++ d ∷ [] → (d ≡ Unlinked s) ⊎ ((by : Spot) × (d ≡ Replaced s by)) → gone (reverse items) ≡ s ∷ gone (reverse rest)
gone_newest items rest d s e is = ap gone (newest rest items d e) ∙ (elim is as (λ _. gone (d ∷ reverse rest) ≡ s ∷ gone (reverse rest)) [
  | inl u ↦ ap (λ x. gone (x ∷ reverse rest)) u
  | inr r ↦ ap (λ x. gone (x ∷ reverse rest)) r.1
])
