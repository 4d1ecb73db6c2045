use Rattle.std.proofs.Common.{[], ◌∷◌, ◌++◌, sym, ap, ◌∙◌, subst}
use Rattle.std.specs.Prelude.{reverse, map}
use Rattle.std.proofs.lemmas.List.{map-append}
use Rattle.lq_links.specs.declared.done.Done.TheVariants.{Pushed}
use Rattle.lq_chain.specs.History.{history}
use Rattle.lq_links.specs.State.{state_of, spots}
use Rattle.lq_chain.proofs.ChainLemmas.{pushed_edit, step_whole, step_seen}
use Rattle.lq_chain.proofs.FindLemmas.{on_pushed}
use Rattle.lq_chain.proofs.StepLemmas.{Made, made_pushed, tail_in}
use Rattle.lq_chain.proofs.chain.Chain.add.Goals as goal

pub push_back-requires-clause-tail : goal.push_back-requires-clause-tail
push_back-requires-clause-tail g c = let st = state_of c.self.inside.links in tail_in st (spots st) c.self.invariant.1.0

pub invariant_of-self-2 : goal.invariant_of-self-2
invariant_of-self-2 g c =
    let l = c.self.inside.links in let st = state_of l in let s = c.in_ok-spot.spot in let d = Pushed s l.tail in let ts = spots st ++ (s, c.args.row) ∷ [] in
    let items = c.push_reserved.ensures.items ∙ ap (λ xs. xs ++ d ∷ []) c.reserve.ensures.items in
    let made = subst (λ t. Made st (reverse c.self.inside.done.items) t d ts) (sym c.in_ok-spot.ensures.state) (made_pushed st (reverse c.self.inside.done.items) s c.args.row c.self.invariant.1 c.in_ok-spot.ensures.id) in
    step_whole l c.push_back.new.links c.self.inside.done.items c.push_reserved.new.self.items d ts c.self.inside.calls c.self.inside.finger c.self.inside.finger
    (pushed_edit s l.tail) items c.push_back.ensures.ties made (on_pushed (spots st) ((s, c.args.row) ∷ []) c.self.inside.finger c.self.invariant.4) c.self.invariant

pub returns-clause-ok : goal.returns-clause-ok
returns-clause-ok g c =
    let l = c.self.inside.links in let st = state_of l in let s = c.in_ok-spot.spot in let d = Pushed s l.tail in let ts = spots st ++ (s, c.args.row) ∷ [] in
    let items = c.push_reserved.ensures.items ∙ ap (λ xs. xs ++ d ∷ []) c.reserve.ensures.items in
    let made = subst (λ t. Made st (reverse c.self.inside.done.items) t d ts) (sym c.in_ok-spot.ensures.state) (made_pushed st (reverse c.self.inside.done.items) s c.args.row c.self.invariant.1 c.in_ok-spot.ensures.id) in
    step_seen l c.push_back.new.links c.self.inside.done.items c.push_reserved.new.self.items d ts (map (λ t. t.1) (spots st) ++ c.args.row ∷ []) (pushed_edit s l.tail) items made (map-append (λ t. t.1) (spots st) ((s, c.args.row) ∷ []))
    ∙ ap (λ h. history (h.now ++ c.args.row ∷ []) h.past) c.self.view_is
