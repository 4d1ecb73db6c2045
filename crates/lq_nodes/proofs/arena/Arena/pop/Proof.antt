-- `pop` gives the memory of a node out.
use Rattle.std.proofs.Common.{◌≡◌, ℕ, Option, List, [], ◌∷◌, refl, w64, ◌+◌, take, length}
use mir.Syntax.{a_type, dcons, dnil, named}
use mir.Val.{Val, vptr, vint}
use mir.MapTy.{inst_fn}
use base.Logic.{SProp, emp}
use base.Fml.{Lft, Fml, ftrue, fsep, flft}
use types.Kit.{‵, raw, ◌⊛◌, ◌$◌, ◌∵◌, !, qed, by, move, keep, split, join, fsplit, fsplit3, fjoin, fjoin3, use0, use1, feq_i}
use types.Run.{stop, fld, of_opd, and_then, no_more, returns, enter}
use types.ByLocal.{alloc_all, pass_all, free_all, look_at, get, get_in, sets}
use types.Part.{agg, sub, whole}
use contract.Running.{tables}
use contract.Monad.{fact, fact_i}
use denote.Exit.{yes}
use denote.RattleType.{RattleType, owns}
use denote.Signature.{types_at, plain}
use denote.RawPtr.{Ptr}
use denote.Steps.{nothing, heard, opens, closes}
use denote.Param.{param, bounded}
use denote.Builtin.{usize}
use denote.Plain.{uint_vals, uint_Tells}
use denote.Ref.{mut_vals, mut_Tells}
use denote.Triple.Walked.{Stays, stay_dropped, stay_ref, walk_of, Goes-dropped, Goes-ref}
use Rattle.std_alloc.proofs.RcSteps.{word-Good, Ptr-Good}
use Rattle.std.proofs.raw_atomic.Walks.{proved, leaves}
use Rattle.lq_nodes.specs.Slots.{IsAt}
use Rattle.lq_nodes.specs.Ownership.{slots_own}
use Rattle.std_alloc.specs.Box.Ownership.{box_owns}
use Rattle.lq_nodes.specs.contracts.arena.Held as held
use Rattle.lq_nodes.proofs.Memory.{word, place_told, held_made, HeldData, one_node, slot_popped}
use Rattle.lq_nodes.specs.contracts.arena.Arena as arena
use Rattle.lq_nodes.specs.contracts.arena.Place as place
use Rattle.lq_nodes.specs.contracts.arena.Arena.pop.{ended, clauses}
use Rattle.lq_nodes.specs.contracts.arena.Arena.pop.Key.{name as #self}
use Rattle.lq_nodes.proofs.arena.Arena.pop.Statement.{statement}
use Rattle.lq_nodes.proofs.arena.Arena.pop.Code as code

pub pop_spec : {M : Type 1} → statement M
pop_spec 𝓤 𝓛 𝓜 𝓡 wired X Z L LZ g d dd met md =
    let H = 𝓛.H in let 𝓣 = tables 𝓤 H 𝓜 𝓡 𝓡.env in let R : RattleType = param 0 X in let P : RattleType = param 1 Z in
    let En = ended X Z g d dd in let inst = bounded (a_type ∷ a_type ∷ []) (X, (Z, tt)) (dcons d (dcons dd dnil)) in let fn = inst_fn inst code.function in
    let Row : RattleType = arena.the_row R P g in let Hd : RattleType = held.the_row R P g in let c = clauses X Z g d dd 𝓛 𝓜.mem 𝓡.returns in
    let self = plain (λ _. Row) in let spot = plain (λ _. place.the_row) in let num = plain (λ _. usize) in
    let hs : Stays En.signature.params En.kept = (stay_ref (0 ∷ []) tt self, (stay_dropped spot yes, (stay_dropped num yes, tt))) in
    proved 𝓛 En hs c 𝓜 𝓡 (Goes-ref 𝓛 3 0 tt self, (Goes-dropped 𝓛 3 spot yes (λ κs x f. refl), (Goes-dropped 𝓛 3 num yes (λ κs x f. refl), tt))) (#self inst) fn (code.unfolded 𝓤 H 𝓜 𝓡 wired (X, (Z, tt)) d dd)
    (λ κs. (mut_vals, ((λ e. word e.ptr ∷ []), (uint_vals w64, tt)))) (λ κs. (mut_Tells (named 0) κs.0 Row, ((λ e vs so. place_told e.ptr vs so), (uint_Tells w64, tt)))) (λ κs qs bounds a gh are.
    let b : ℕ = a.0.ref_ptr.0 in let o : ℕ = a.0.ref_ptr.1 in let κ : Lft = κs.0 in let v : Row.Denot = a.0.now in let p : Ptr = a.1.0.ptr in let i : ℕ = a.1.1.0 in
    let others : Fml = fsep (flft κs.1.0 qs.1.0) (fsep (flft κs.1.1.0 qs.1.1.0) ftrue) in let Asked : Type 0 = ((x : X.Denot) × IsAt v.slots i p x) × (i + 1 ≡ length v.slots) in
    let ss : List (Ptr × Option X.Denot) = take i v.slots in let v' : Row.Denot = record v { slots = ss } in
    let y : (walk_of 𝓛 En hs c).Ghost = ((κs, qs, bounds, a, (vptr b o ∷ [], (word p ∷ [], (vint w64 i ∷ [], tt)))), gh) in let Post : Val → SProp 𝓤 = (walk_of 𝓛 En hs c).post y in
    qed 𝓛 (((‵ (flft κ qs.0) ⊛ ‵ others) ⊛ ‵ (owns (types_at En.signature.params κs) a y.0.4)) ∷ raw (fact 𝓤 _) ∷ raw (fact 𝓤 _) ∷ raw (fact 𝓤 Asked) ∷ []) ∵
    keep ! (3 ∷ 0 ∷ []) $ heard ! Asked (λ asked. let x : X.Denot = asked.0.0 in let Told : Type 0 = ((x' : X.Denot) → IsAt v.slots i p x' → x ≡ x') × (v.alloc ≡ v.alloc) × (ss ≡ ss) × (v.alloc ≡ v.alloc) in
    let r : Hd.Denot = record { ptr = p; value = x; alloc = v.alloc } in
    split ! $ split ! $ move ! (2 ∷ []) $ fsplit3 ! $ fsplit3 ! $ keep ! (1 ∷ 2 ∷ 5 ∷ 6 ∷ []) $
    enter ! 𝓣.C 𝓣.Λ fn (vptr b o ∷ word p ∷ vint w64 i ∷ []) Post $ alloc_all ! (λ l. pass_all ! refl ((tt, tt), (word-Good place.the_type.name p, ((tt, record { fits = are.1.1.0.1 }), tt))) $
    opens ! tt Row b o (λ vs. move ! (1 ∷ []) $ fsplit ! $ move ! (1 ∷ []) $ use1 𝓛 (‵ (box_owns (g.dealloc_token v.alloc) R p x) ⊛ ‵ (slots_own (g.dealloc_token v.alloc) R ss)) (slot_popped 𝓛 R (g.dealloc_token v.alloc) v.slots i p x asked.0.1 asked.1) $ split ! $
    -- [the node; the others; the field; the cell; the open borrow]
    move ! (2 ∷ 1 ∷ []) $ fjoin ! $ move ! (2 ∷ 0 ∷ 3 ∷ 4 ∷ 5 ∷ []) $ closes ! tt Row v' vs b o $ feq_i ! (List Val) (vptr b o ∷ []) (vptr b o ∷ []) refl $ fjoin3 ! $
    nothing ! $ nothing ! $ fjoin ! $ nothing ! $ fjoin ! $ move ! (1 ∷ 0 ∷ []) $ fjoin ! $
    -- [self; the token; the node; the other tokens]
    move ! (1 ∷ 3 ∷ []) $ join ! $
    sets ! (of_opd ! (get_in ! (fld ! refl (stop !)) (sub ! 0 refl (whole !)))) refl (Ptr-Good p) $
    sets ! (agg ! (and_then ! (get ! refl) (no_more !))) refl (word-Good (held.the_type R P g).name p) $
    move ! (2 ∷ []) $ use0 𝓛 (‵ ((HeldData R P g).own_val (p, tt) (word p ∷ []))) (held_made R P g 𝓛 p) $ fjoin ! $ use0 𝓛 (raw (fact 𝓤 Told)) (fact_i 𝓤 Told (emp 𝓤) ((λ x' at. one_node v.slots i p x x' asked.0.1 at), refl, refl, refl)) $
    returns ! (look_at ! 0 refl) $ free_all ! refl $ keep ! (2 ∷ 3 ∷ 1 ∷ 0 ∷ []) $ by ! (leaves 𝓛 En hs c y (word p) r (v', (tt, (tt, tt))) (tt, (tt, (tt, tt))))))))
