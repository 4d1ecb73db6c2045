-- What the walks of the arena share: one slot is taken out of the others and put back. Assumes `Logic`.
use Rattle.std.proofs.Common.{◌≡◌, ℕ, zero, suc, List, [], ◌∷◌, ◌++◌, Option, Some, None, refl, sym, ap, ◌∙◌, subst, ◌+◌, take, arith, length}
use seplogic.Ra.Ura.{Ura}
use mir.Syntax.{Ty}
use mir.Val.{Val, vstruct, vcons, vnil, of_list}
use base.Logic.{ent, sep, emp, via, fst∗, snd∗, id⊢}
use base.Fml.{Fml, Lft, ftrue, fsep}
use types.Logic.{Logic, sem}
use types.Kit.{‵, ◌⊛◌, ◌$◌, ◌∵◌, !, qed, done, move, drop, use1, use2, split, fsplit, fjoin}
use denote.RattleType.{RattleType}
use denote.Laws.{Is}
use denote.RawPtr.{Ptr, ptr_val}
use denote.Struct.Lending.{lent_at}
use denote.Struct.Struct.{Struct}
use denote.Steps.{nothing}
use Rattle.std_alloc.specs.Box.Ownership.{box_owns}
use denote.Shadow.{makes_shadow}
use mathlib.Core.Bool.{Bool, true, false, ◌&&◌}
use lib.Dec.{T}
use types.Kit.{Item, Goal, Step, step, fjoin3, fpack, feq_i}
use denote.RattleType.{Valss}
use denote.Struct.Struct.{within}
use denote.Struct.Tuple.{Tuple}
use denote.Struct.Owning.{shape}
use Rattle.std.specs.declared.alloc.Allocator.{Ghosts}
use Rattle.lq_nodes.specs.contracts.arena.Place as place
use Rattle.lq_nodes.specs.contracts.arena.Arena as arena
use Rattle.lq_nodes.specs.contracts.arena.Held as held
use Rattle.lq_nodes.specs.Slots.{IsAt, with_node, without_node}
use Rattle.lq_nodes.specs.Ownership.{slot_owns, slots_own, slot_lent, slots_lent}

abbrev pub word : Ptr → Val
word p = vstruct (vcons (ptr_val p) vnil)

pub place_told : (p : Ptr) (vs : List Val) → Is place.the_row (record { ptr = p }) vs → vs ≡ word p ∷ []
place_told p vs is = is.1.0 ∙ ap (λ (ws : List Val). vstruct (of_list (ws ++ [])) ∷ []) is.1.1.0

pub place_made : {M : Type 1} {𝓤 : Ura M} (𝓛 : Logic 𝓤) (p : Ptr) → ent 𝓤 (emp 𝓤) (sem 𝓛 (place.the_row.own_val (record { ptr = p }) (word p ∷ [])))
place_made 𝓛 p = makes_shadow 𝓛 (place.the_row.own_val (record { ptr = p }) (word p ∷ [])) (λ vss. (tt, (tt, tt))) ((ptr_val p ∷ [], tt), (refl, (refl, tt)))

module _ (R P : RattleType) (g : Ghosts P.Denot) where
  abbrev pub HeldData : RattleType
  HeldData = Struct (shape (held.the_type R P g))

  pub held_told : (p : Ptr) (vs : List Val) → Is HeldData (p, tt) vs → vs ≡ word p ∷ []
  held_told p vs is = is.1.0 ∙ ap (λ (ws : List Val). vstruct (of_list (ws ++ [])) ∷ []) is.1.1.0

  pub held_made : {M : Type 1} {𝓤 : Ura M} (𝓛 : Logic 𝓤) (p : Ptr) → ent 𝓤 (emp 𝓤) (sem 𝓛 (HeldData.own_val (p, tt) (word p ∷ [])))
  held_made 𝓛 p = makes_shadow 𝓛 (HeldData.own_val (p, tt) (word p ∷ [])) (λ vss. (tt, (tt, tt))) ((ptr_val p ∷ [], tt), (refl, (refl, tt)))

module _ {X : Type 0} where
  some_is : (a b : Ptr × Option X) → Some a ≡ Some b → a ≡ b
  some_is a b e = cc

  node_is : (x y : X) → Some x ≡ Some y → x ≡ y
  node_is x y e = cc

  pub one_node : (ss : List (Ptr × Option X)) (i : ℕ) (p : Ptr) (x y : X) → IsAt ss i p x → IsAt ss i p y → x ≡ y
  one_node ss i p x y a b = node_is x y (ap (λ s. s.1) (some_is (p, Some x) (p, Some y) (sym a ∙ b)))

module _ {M : Type 1} {𝓤 : Ura M} (𝓛 : Logic 𝓤) (R : RattleType) where
  pub slot_seen : (κ : Lft) (ss : List (Ptr × Option R.Denot)) (i : ℕ) (p : Ptr) (x : R.Denot) → IsAt ss i p x → ent 𝓤 (sem 𝓛 (slots_lent R ss κ)) (sem 𝓛 (lent_at R p x κ))
  slot_seen κ [] i p x e = absurd (let none : None ≡ Some (p, Some x) = e in cc)
  slot_seen κ (s ∷ ss) zero p x e =
      let here : s ≡ (p, Some x) = some_is s (p, Some x) e in
      via 𝓤 (sem 𝓛 (slot_lent R s.0 s.1 κ)) (fst∗ 𝓤 (sem 𝓛 (slot_lent R s.0 s.1 κ)) (sem 𝓛 (slots_lent R ss κ)))
      (subst (λ (t : Ptr × Option R.Denot). ent 𝓤 (sem 𝓛 (slot_lent R t.0 t.1 κ)) (sem 𝓛 (lent_at R p x κ))) (sym here) (id⊢ 𝓤 _))
  slot_seen κ (s ∷ ss) (suc i) p x e = via 𝓤 (sem 𝓛 (slots_lent R ss κ)) (snd∗ 𝓤 (sem 𝓛 (slot_lent R s.0 s.1 κ)) (sem 𝓛 (slots_lent R ss κ))) (slot_seen κ ss i p x e)

  module _ (holds : Ty → Ptr → Fml) where
    abbrev Own : List (Ptr × Option R.Denot) → Fml
    Own = slots_own holds R

    abbrev One : Ptr → R.Denot → Fml
    One = box_owns holds R

    pub slot_cut : (ss : List (Ptr × Option R.Denot)) (i : ℕ) (p : Ptr) (x : R.Denot) → IsAt ss i p x → ent 𝓤 (sem 𝓛 (Own ss)) (sep 𝓤 (sem 𝓛 (One p x)) (sem 𝓛 (Own (without_node ss i p))))
    slot_cut [] i p x e = absurd (let none : None ≡ Some (p, Some x) = e in cc)
    slot_cut (s ∷ ss) zero p x e =
        let here : s ≡ (p, Some x) = some_is s (p, Some x) e in
        subst (λ (t : Ptr × Option R.Denot). ent 𝓤 (sem 𝓛 (Own (t ∷ ss))) (sep 𝓤 (sem 𝓛 (One p x)) (sem 𝓛 (Own ((p, None) ∷ ss))))) (sym here)
        (qed 𝓛 (‵ (fsep (One p x) (Own ss)) ∷ []) ∵ fsplit ! $ move ! (1 ∷ []) $ nothing ! $ fjoin ! $ move ! (1 ∷ 0 ∷ []) $ done !)
    slot_cut (s ∷ ss) (suc i) p x e =
        qed 𝓛 (‵ (fsep (slot_owns holds R s.0 s.1) (Own ss)) ∷ []) ∵ fsplit ! $ move ! (1 ∷ []) $
        use1 𝓛 (‵ (One p x) ⊛ ‵ (Own (without_node ss i p))) (slot_cut ss i p x e) $ split ! $ move ! (2 ∷ 1 ∷ []) $ fjoin ! $ move ! (1 ∷ 0 ∷ []) $ done !

    pub slot_glue : (ss : List (Ptr × Option R.Denot)) (i : ℕ) (p : Ptr) (x w : R.Denot) → IsAt ss i p x → ent 𝓤 (sep 𝓤 (sem 𝓛 (One p w)) (sem 𝓛 (Own (without_node ss i p)))) (sem 𝓛 (Own (with_node ss i p w)))
    slot_glue [] i p x w e = absurd (let none : None ≡ Some (p, Some x) = e in cc)
    slot_glue (s ∷ ss) zero p x w e =
        qed 𝓛 (‵ (One p w) ∷ ‵ (fsep ftrue (Own ss)) ∷ []) ∵ move ! (1 ∷ []) $ fsplit ! $ drop ! $ move ! (1 ∷ 0 ∷ []) $ fjoin ! $ done !
    slot_glue (s ∷ ss) (suc i) p x w e =
        qed 𝓛 (‵ (One p w) ∷ ‵ (fsep (slot_owns holds R s.0 s.1) (Own (without_node ss i p))) ∷ []) ∵ move ! (1 ∷ []) $ fsplit ! $ move ! (2 ∷ 1 ∷ []) $
        use2 𝓛 (‵ (Own (with_node ss i p w))) (slot_glue ss i p x w e) $ move ! (1 ∷ 0 ∷ []) $ fjoin ! $ done !

    slots_none : (ss : List (Ptr × Option R.Denot)) → length ss ≡ 0 → ss ≡ []
    slots_none [] e = refl
    slots_none (s ∷ ss) e = absurd (omega (arith, e))

    pub slot_popped : (ss : List (Ptr × Option R.Denot)) (i : ℕ) (p : Ptr) (x : R.Denot) → IsAt ss i p x → i + 1 ≡ length ss → ent 𝓤 (sem 𝓛 (Own ss)) (sep 𝓤 (sem 𝓛 (One p x)) (sem 𝓛 (Own (take i ss))))
    slot_popped [] i p x e l = absurd (let none : None ≡ Some (p, Some x) = e in cc)
    slot_popped (s ∷ ss) zero p x e l =
        let here : s ≡ (p, Some x) = some_is s (p, Some x) e in
        let last : ss ≡ [] = slots_none ss (omega (arith, l)) in
        subst (λ (t : (Ptr × Option R.Denot) × List (Ptr × Option R.Denot)). ent 𝓤 (sem 𝓛 (Own (t.0 ∷ t.1))) (sep 𝓤 (sem 𝓛 (One p x)) (sem 𝓛 ftrue))) (λ j. (sym here j, sym last j))
        (qed 𝓛 (‵ (fsep (One p x) ftrue) ∷ []) ∵ fsplit ! $ done !)
    slot_popped (s ∷ ss) (suc i) p x e l =
        qed 𝓛 (‵ (fsep (slot_owns holds R s.0 s.1) (Own ss)) ∷ []) ∵ fsplit ! $ move ! (1 ∷ []) $
        use1 𝓛 (‵ (One p x) ⊛ ‵ (Own (take i ss))) (slot_popped ss i p x e (omega (arith, l))) $ split ! $ move ! (2 ∷ 1 ∷ []) $ fjoin ! $ move ! (1 ∷ 0 ∷ []) $ done !

    pub slot_added : (ss : List (Ptr × Option R.Denot)) (p : Ptr) (x : R.Denot) → ent 𝓤 (sep 𝓤 (sem 𝓛 (One p x)) (sem 𝓛 (Own ss))) (sem 𝓛 (Own (ss ++ (p, Some x) ∷ [])))
    slot_added [] p x = id⊢ 𝓤 _
    slot_added (s ∷ ss) p x =
        qed 𝓛 (‵ (One p x) ∷ ‵ (fsep (slot_owns holds R s.0 s.1) (Own ss)) ∷ []) ∵ move ! (1 ∷ []) $ fsplit ! $ move ! (2 ∷ 1 ∷ []) $
        use2 𝓛 (‵ (Own (ss ++ (p, Some x) ∷ []))) (slot_added ss p x) $ move ! (1 ∷ 0 ∷ []) $ fjoin ! $ done !

abbrev pub both : Val → Val → Val
both v w = vstruct (vcons v (vcons w vnil))

pub both_tt : (x y : Bool) → T x → T y → T (x && (y && true))
both_tt true true s t = tt
both_tt true false s t = absurd t
both_tt false y s t = absurd s

module _ (P Q : RattleType) {M : Type 1} {𝓤 : Ura M} {𝓛 : Logic 𝓤} {K : Type 0} {Γ : List (Item 𝓤)} {G : Goal 𝓤 𝓛.H} where
  pub pair_in : K → (x : P.Denot) (y : Q.Denot) (v w : Val) → Step K 𝓛 (‵ ((Tuple (P ∷ Q ∷ [])).own_val (x, y) (both v w ∷ [])) ∷ Γ) G (‵ (P.own_val x (v ∷ [])) ∷ ‵ (Q.own_val y (w ∷ [])) ∷ Γ) G
  pair_in t x y v w = step (λ s. nothing t $ move t (1 ∷ 2 ∷ 0 ∷ []) $ fjoin3 t $ feq_i t (List Val) (both v w ∷ []) (both v w ∷ []) refl $ fjoin t $
      fpack t (Valss (P ∷ Q ∷ [])) (within (record { name = []; args = []; types = []; fields = P ∷ Q ∷ [] }) (x, (y, tt)) (both v w ∷ [])) (v ∷ [], (w ∷ [], tt)) $ s)

abbrev pub mark : Val
mark = vstruct (vcons (vstruct vnil) vnil)

module _ (R P : RattleType) (g : Ghosts P.Denot) where
  abbrev pub ArenaData : RattleType
  ArenaData = Struct (shape (arena.the_type R P g))

  pub mark_made : {M : Type 1} {𝓤 : Ura M} (𝓛 : Logic 𝓤) → ent 𝓤 (emp 𝓤) (sem 𝓛 (ArenaData.own_val (tt, tt) (mark ∷ [])))
  mark_made 𝓛 = makes_shadow 𝓛 (ArenaData.own_val (tt, tt) (mark ∷ [])) (λ vss. (tt, ((λ uss. (tt, tt)), tt))) ((vstruct vnil ∷ [], tt), (refl, ((tt, (refl, tt)), tt)))
