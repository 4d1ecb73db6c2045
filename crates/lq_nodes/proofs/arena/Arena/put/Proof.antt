-- `put` takes the memory of a box in.
use Rattle.std.proofs.Common.{◌≡◌, ℕ, Option, Some, List, [], ◌∷◌, ◌++◌, refl}
use mir.Syntax.{a_type, dcons, dnil, named}
use mir.Val.{Val, vptr}
use mir.MapTy.{inst_fn}
use base.Logic.{SProp, emp}
use base.Fml.{Lft, Fml, ftrue, fsep, flft}
use types.Kit.{‵, raw, ◌⊛◌, ◌$◌, ◌∵◌, !, qed, by, move, keep, drop, split, join, fsplit, fsplit3, fjoin, fjoin3, use2, rewrite, use0, feq_i}
use types.Run.{stop, fld, of_opd, and_then, no_more, returns, enter}
use types.ByLocal.{alloc_all, pass_all, free_all, look_at, get, get_in, sets}
use types.Part.{agg, sub, whole}
use contract.Running.{tables}
use contract.Monad.{fact, fact_i}
use denote.Exit.{no}
use denote.RattleType.{RattleType, owns}
use denote.Signature.{types_at, plain}
use denote.RawPtr.{Ptr}
use denote.Steps.{nothing, heard, opens, closes}
use denote.Param.{param, bounded}
use denote.Ref.{mut_vals, mut_Tells}
use denote.Triple.Walked.{Stays, stay_dropped, stay_ref, walk_of, Goes-dropped, Goes-ref}
use Rattle.std_alloc.proofs.RcSteps.{word-Good, Ptr-Good}
use Rattle.std.proofs.raw_atomic.Walks.{proved, leaves}
use Rattle.lq_nodes.specs.Ownership.{slots_own}
use Rattle.std_alloc.specs.Box.Ownership.{box_owns}
use Rattle.lq_nodes.specs.contracts.arena.Held as held
use Rattle.lq_nodes.proofs.Memory.{word, place_made, held_told, slot_added}
use Rattle.lq_nodes.specs.contracts.arena.Arena as arena
use Rattle.lq_nodes.specs.contracts.arena.Place as place
use Rattle.lq_nodes.specs.contracts.arena.Arena.put.{ended, clauses}
use Rattle.lq_nodes.specs.contracts.arena.Arena.put.Key.{name as #self}
use Rattle.lq_nodes.proofs.arena.Arena.put.Statement.{statement}
use Rattle.lq_nodes.proofs.arena.Arena.put.Code as code

pub put_spec : {M : Type 1} → statement M
put_spec 𝓤 𝓛 𝓜 𝓡 wired X Z L LZ g d dd met md =
    let H = 𝓛.H in let 𝓣 = tables 𝓤 H 𝓜 𝓡 𝓡.env in let R : RattleType = param 0 X in let P : RattleType = param 1 Z in
    let En = ended X Z g d dd in let inst = bounded (a_type ∷ a_type ∷ []) (X, (Z, tt)) (dcons d (dcons dd dnil)) in let fn = inst_fn inst code.function in
    let Row : RattleType = arena.the_row R P g in let Hd : RattleType = held.the_row R P g in let c = clauses X Z g d dd 𝓛 𝓜.mem 𝓡.returns in
    let self = plain (λ _. Row) in let node = plain (λ _. Hd) in
    let hs : Stays En.signature.params En.kept = (stay_ref (0 ∷ []) tt self, (stay_dropped node no, tt)) in
    proved 𝓛 En hs c 𝓜 𝓡 (Goes-ref 𝓛 3 0 tt self, (Goes-dropped 𝓛 3 node no (λ κs x f. refl), tt)) (#self inst) fn (code.unfolded 𝓤 H 𝓜 𝓡 wired (X, (Z, tt)) d dd)
    (λ κs. (mut_vals, ((λ e. word e.ptr ∷ []), tt))) (λ κs. (mut_Tells (named 0) κs.0 Row, ((λ e vs so. held_told R P g e.ptr vs so.0), tt))) (λ κs qs bounds a gh are.
    let b : ℕ = a.0.ref_ptr.0 in let o : ℕ = a.0.ref_ptr.1 in let κ : Lft = κs.0 in let v : Row.Denot = a.0.now in let e : Hd.Denot = a.1.0 in let p : Ptr = e.ptr in
    let others : Fml = fsep (flft κs.1.0 qs.1.0) (fsep (flft κs.1.1.0 qs.1.1.0) ftrue) in let Asked : Type 0 = e.alloc ≡ v.alloc in
    let ss : List (Ptr × Option X.Denot) = v.slots ++ (p, Some e.value) ∷ [] in let v' : Row.Denot = record v { slots = ss } in let Told : Type 0 = (ss ≡ ss) × (v.alloc ≡ v.alloc) in
    let y : (walk_of 𝓛 En hs c).Ghost = ((κs, qs, bounds, a, (vptr b o ∷ [], (word p ∷ [], tt))), gh) in let Post : Val → SProp 𝓤 = (walk_of 𝓛 En hs c).post y in
    qed 𝓛 (((‵ (flft κ qs.0) ⊛ ‵ others) ⊛ ‵ (owns (types_at En.signature.params κs) a y.0.4)) ∷ raw (fact 𝓤 _) ∷ raw (fact 𝓤 _) ∷ raw (fact 𝓤 Asked) ∷ []) ∵
    keep ! (3 ∷ 0 ∷ []) $ heard ! Asked (λ asked. split ! $ split ! $ move ! (2 ∷ []) $ fsplit3 ! $ move ! (1 ∷ []) $ fsplit ! $ drop ! $
    rewrite ! 0 (λ (α : Z.Denot). ‵ (box_owns (g.dealloc_token α) R p e.value)) asked refl $ move ! (1 ∷ []) $ fsplit3 ! $ keep ! (1 ∷ 2 ∷ 5 ∷ 6 ∷ 3 ∷ []) $
    enter ! 𝓣.C 𝓣.Λ fn (vptr b o ∷ word p ∷ []) Post $ alloc_all ! (λ l. pass_all ! refl ((tt, tt), (word-Good (held.the_type R P g).name p, tt)) $
    opens ! tt Row b o (λ vs. move ! (1 ∷ []) $ fsplit ! $ move ! (7 ∷ 1 ∷ []) $ use2 𝓛 (‵ (slots_own (g.dealloc_token v.alloc) R ss)) (slot_added 𝓛 R (g.dealloc_token v.alloc) v.slots p e.value) $
    move ! (1 ∷ 0 ∷ []) $ fjoin ! $ move ! (1 ∷ 0 ∷ []) $ closes ! tt Row v' vs b o $ feq_i ! (List Val) (vptr b o ∷ []) (vptr b o ∷ []) refl $ fjoin3 ! $
    nothing ! $ nothing ! $ fjoin ! $ move ! (1 ∷ 0 ∷ []) $ fjoin ! $ move ! (1 ∷ 2 ∷ []) $ join ! $
    sets ! (of_opd ! (get_in ! (fld ! refl (stop !)) (sub ! 0 refl (whole !)))) refl (Ptr-Good p) $ sets ! (of_opd ! (get ! refl)) refl (Ptr-Good p) $
    sets ! (agg ! (and_then ! (get ! refl) (no_more !))) refl (word-Good place.the_type.name p) $
    use0 𝓛 (‵ (place.the_row.own_val (record { ptr = p }) (word p ∷ []))) (place_made 𝓛 p) $ use0 𝓛 (raw (fact 𝓤 Told)) (fact_i 𝓤 Told (emp 𝓤) (refl, refl)) $
    returns ! (look_at ! 0 refl) $ free_all ! refl $ keep ! (2 ∷ 3 ∷ 1 ∷ 0 ∷ []) $ by ! (leaves 𝓛 En hs c y (word p) (record { ptr = p }) (v', (tt, tt)) (tt, (tt, tt)))))))
