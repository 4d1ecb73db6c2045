-- `at_mut` lends one node, and the arena follows it.
use Rattle.std.proofs.Common.{◌≡◌, ℕ, Option, List, [], ◌∷◌, refl, sym, ap, w64}
use mir.Syntax.{a_type, dcons, dnil, named}
use mir.Val.{Val, vptr, vint}
use mir.MapTy.{inst_fn}
use base.Logic.{SProp, never, id⊢, emp}
use base.Fml.{Lft, GName, Fml, ftrue, fsep, flft}
use types.Logic.{sem}
use types.Kit.{‵, raw, some, later, await, pick, group, fpack, ◌⊛◌, at_ret, ◌$◌, ◌∵◌, !, qed, by, move, keep, split, join, fsplit, fsplit3, fjoin, use2, rewrite, use0, use1}
use types.Run.{stop, fld, addr, of_opd, first, blocks, exec, returns, enter}
use types.ByLocal.{alloc_all, pass_all, free_all, look_at, get, get_in, through, sets, sets_last, is, env}
use types.Part.{sub, whole}
use contract.Running.{tables}
use contract.Monad.{fact, fact_i}
use denote.Exit.{yes, no}
use denote.RattleType.{RattleType, owns}
use denote.Signature.{types_at, plain}
use denote.RawPtr.{Ptr, ptr_val, in_a_block}
use denote.Steps.{nothing, heard, opens}
use denote.Param.{param, bounded}
use denote.Builtin.{usize}
use denote.Plain.{uint_vals, uint_Tells}
use denote.Ref.{mut_vals, mut_Tells}
use denote.Triple.Walked.{Stays, stay_dropped, walk_of, Goes-dropped}
use Rattle.std_alloc.proofs.VecSteps.Shapes.{after}
use Rattle.std_alloc.proofs.RcSteps.{word-Good}
use Rattle.std.proofs.raw_atomic.Walks.{proved, leaves}
use Rattle.lq_nodes.specs.Slots.{IsAt, without_node, with_node, with_at}
use Rattle.lq_nodes.specs.Ownership.{slots_own}
use Rattle.std_alloc.specs.Box.Ownership.{box_owns}
use Rattle.lq_nodes.proofs.Memory.{word, place_told, one_node, slot_cut, slot_glue}
use Rattle.lq_nodes.specs.contracts.arena.Arena as arena
use Rattle.lq_nodes.specs.contracts.arena.Place as place
use Rattle.lq_nodes.specs.contracts.arena.Arena.at_mut.{ended, clauses}
use Rattle.lq_nodes.specs.contracts.arena.Arena.at_mut.Key.{name as #self}
use Rattle.lq_nodes.proofs.arena.Arena.at_mut.Statement.{statement}
use Rattle.lq_nodes.proofs.arena.Arena.at_mut.Code as code
use base.Fraction.{full_share}
use base.Logic.{sep, ent}
use denote.Memory.{mem, cell_at, part_at, part_of}
use denote.RawPtr.{lies_at}
use denote.Ref.{MutBor, MutRef}
use denote.Builtin.{RefMutOf}
use denote.Struct.Struct.{Struct}
use denote.Struct.Owning.{shape}
use types.Kit.{split3, done}
use denote.Follow.{follows, Part, lends_Part}
use denote.Triple.Walked.{Goes-spent_ref}
use mir.Raw.{raw as bare}
use denote.Memory.{lone}

pub at_mut_spec : {M : Type 1} → statement M
unfolding part_of
at_mut_spec 𝓤 𝓛 𝓜 𝓡 wired X Z L LZ g d dd met md =
    let H = 𝓛.H in let 𝓣 = tables 𝓤 H 𝓜 𝓡 𝓡.env in let R : RattleType = param 0 X in let P : RattleType = param 1 Z in
    let En = ended X Z g d dd in let inst = bounded (a_type ∷ a_type ∷ []) (X, (Z, tt)) (dcons d (dcons dd dnil)) in let fn = inst_fn inst code.function in
    let Row : RattleType = arena.the_row R P g in let c = clauses X Z g d dd 𝓛 𝓜.mem 𝓡.returns in
    let self = plain (λ _. Row) in let spot = plain (λ _. place.the_row) in let num = plain (λ _. usize) in let lent = RefMutOf (0 ∷ []) tt self (λ _. tt) in
    let hs : Stays En.signature.params En.kept = (stay_dropped lent no, (stay_dropped spot yes, (stay_dropped num yes, tt))) in
    proved 𝓛 En hs c 𝓜 𝓡 (Goes-spent_ref 𝓛 3 (0 ∷ []) tt self, (Goes-dropped 𝓛 3 spot yes (λ κs x f. refl), (Goes-dropped 𝓛 3 num yes (λ κs x f. refl), tt))) (#self inst) fn (code.unfolded 𝓤 H 𝓜 𝓡 wired (X, (Z, tt)) d dd)
    (λ κs. (mut_vals, ((λ e. word e.ptr ∷ []), (uint_vals w64, tt)))) (λ κs. (mut_Tells (named 0) κs.0 Row, ((λ e vs so. place_told e.ptr vs so), (uint_Tells w64, tt)))) (λ κs qs bounds a gh are.
    let b : ℕ = a.0.ref_ptr.0 in let o : ℕ = a.0.ref_ptr.1 in let γ : GName = a.0.ghost_name in let κ : Lft = κs.0 in let v : Row.Denot = a.0.now in let p : Ptr = a.1.0.ptr in let i : ℕ = a.1.1.0 in
    let others : Fml = fsep (flft κs.1.0 qs.1.0) (fsep (flft κs.1.1.0 qs.1.1.0) ftrue) in let Asked : Type 0 = (x : X.Denot) × IsAt v.slots i p x in
    let ss : List (Ptr × Option X.Denot) = without_node v.slots i p in let holds = g.dealloc_token v.alloc in let Data : RattleType = Struct (shape (arena.the_type R P g)) in
    let y : (walk_of 𝓛 En hs c).Ghost = ((κs, qs, bounds, a, (vptr b o ∷ [], (word p ∷ [], (vint w64 i ∷ [], tt)))), gh) in let Post : Val → SProp 𝓤 = (walk_of 𝓛 En hs c).post y in
    qed 𝓛 (((‵ (flft κ qs.0) ⊛ ‵ others) ⊛ ‵ (owns (types_at En.signature.params κs) a y.0.4)) ∷ raw (fact 𝓤 _) ∷ raw (fact 𝓤 _) ∷ raw (fact 𝓤 Asked) ∷ []) ∵
    keep ! (3 ∷ 0 ∷ []) $ heard ! Asked (λ asked. let x : X.Denot = asked.0 in
    let Given : X.Denot → Type 0 = λ w. (x' : X.Denot) → IsAt v.slots i p x' → w ≡ x' in
    let new : X.Denot → Row.Denot = λ w. with_at v i p w in let code' = Row.coded.code v in
    split ! $ split ! $ move ! (2 ∷ []) $ fsplit3 ! $ fsplit3 ! $ keep ! (1 ∷ 2 ∷ 5 ∷ 6 ∷ []) $
    enter ! 𝓣.C 𝓣.Λ fn (vptr b o ∷ word p ∷ vint w64 i ∷ []) Post $ alloc_all ! (λ l. pass_all ! refl ((tt, tt), (word-Good place.the_type.name p, ((tt, record { fits = are.1.1.0.1 }), tt))) $ let Ev = env fn.locals l in
    opens ! tt Row {h = v} b o (λ vs. move ! (1 ∷ []) $ fsplit ! $ move ! (1 ∷ []) $ use1 𝓛 (‵ (box_owns holds R p x) ⊛ ‵ (slots_own holds R ss)) (slot_cut 𝓛 R holds v.slots i p x asked.1) $ split ! $ fsplit ! $
    in_a_block ! p (λ r. lies_at R full_share r x) (id⊢ 𝓤 (never 𝓤)) (λ pb po e.
    -- [the node; its token; the other slots; the field; the cell; the open borrow; ..]
    let Rest : Fml = fsep (holds (bare (lone R.mir)) p) (fsep (slots_own holds R ss) (fsep (Data.own_val (tt, tt) vs) (cell_at full_share Row.mir vs b o))) in
    let way : (w : X.Denot) → ent 𝓤 (sep 𝓤 (sem 𝓛 ((mem R).own_at w pb po)) (sem 𝓛 Rest)) (sem 𝓛 ((mem Row).own_at (new w) b o)) = λ w.
    qed 𝓛 (‵ (part_at R full_share w pb po) ∷ ‵ Rest ∷ []) ∵ rewrite ! 0 (λ (r : Ptr). ‵ (lies_at R full_share r w)) (sym e) refl $
    move ! (1 ∷ []) $ fsplit ! $ move ! (2 ∷ 0 ∷ []) $ fjoin ! $ move ! (1 ∷ []) $ fsplit ! $ move ! (2 ∷ 0 ∷ []) $
    use2 𝓛 (‵ (slots_own holds R (with_node v.slots i p w))) (slot_glue 𝓛 R holds v.slots i p x w asked.1) $ move ! (1 ∷ []) $ fsplit ! $
    move ! (0 ∷ 2 ∷ []) $ fjoin ! $ move ! (1 ∷ 0 ∷ []) $ fjoin ! $ fpack ! (List Val) (λ us. fsep (cell_at full_share Row.mir us b o) (Row.own_val (new w) us)) vs $ done ! in
    first ! $ blocks ! $ sets ! (is ! (of_opd ! (get_in ! (fld ! refl (stop !)) (sub ! 0 refl (whole !)))) (ap ptr_val e)) refl (tt, tt) $
    sets_last ! (addr ! (through ! refl (stop !))) refl (tt, tt) $ exec ! 𝓣.C 𝓣.Λ Ev (after 1 fn.body) (at_ret Ev Post) $ sets ! (of_opd ! (get ! refl)) refl (tt, tt) $
    move ! (3 ∷ 4 ∷ []) $ fjoin ! $ move ! (3 ∷ 0 ∷ []) $ fjoin ! $ move ! (2 ∷ 0 ∷ []) $ fjoin ! $ move ! (2 ∷ 3 ∷ 4 ∷ 1 ∷ 0 ∷ []) $ group ! 5 $
    use1 𝓛 (later (some (λ (δ : GName). raw (Part 𝓛 Row R new (named 0) κ qs.0 b o pb po γ (sem 𝓛 Rest) way x δ))))
    (lends_Part 𝓛 Row R new (named 0) κ qs.0 b o pb po γ (sem 𝓛 Rest) way code' code' x) $ await ! tt $ pick ! (λ δ.
    let r : MutBor X.Denot = record { ref_ptr = (pb, po); ghost_name = δ; now = x } in
    use1 𝓛 (‵ ((MutRef (named 0) κ R).own_val r (vptr pb po ∷ [])) ⊛ ‵ (flft κ qs.0) ⊛ ‵ (follows Row R γ δ new)) (id⊢ 𝓤 _) $ split3 ! $
    returns ! (look_at ! 0 refl) $ free_all ! refl $
    -- [the loan; the token; what follows; the other tokens]
    move ! (2 ∷ []) $ use0 𝓛 (raw (fact 𝓤 (Given x))) (fact_i 𝓤 (Given x) (emp 𝓤) (λ x' at. one_node v.slots i p x x' asked.1 at)) $ move ! (1 ∷ 0 ∷ []) $ join ! $
    move ! (2 ∷ 3 ∷ []) $ join ! $ nothing ! $ nothing ! $ fjoin ! $ nothing ! $ fjoin ! $ nothing ! $ fjoin ! $ keep ! (1 ∷ 0 ∷ 3 ∷ 2 ∷ []) $
    by ! (leaves 𝓛 En hs c y (vptr pb po) r (tt, (tt, (tt, tt))) (tt, (tt, (tt, tt))))))))))
