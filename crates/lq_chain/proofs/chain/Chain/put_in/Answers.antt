use Rattle.std.proofs.Common.{[], ◌∷◌, ◌++◌, ◌<◌, length, sym, ap, ◌∙◌, arith}
use Rattle.std.specs.Prelude.{slice_set}
use Rattle.lq_chain.specs.History.{history}
use Rattle.lq_links.specs.State.{state_of, spots}
use Rattle.lq_links.specs.declared.done.Done.TheVariants.{Replaced}
use Rattle.lq_chain.proofs.EditLemmas.{placed, can_relink}
use Rattle.lq_chain.proofs.FindLemmas.{spot_within, length_rows}
use Rattle.lq_chain.proofs.chain.Chain.put_in.Goals as goal

pub unreachable-requires : goal.unreachable-requires
unreachable-requires g c =
    let ss = spots (state_of c.self.inside.links) in let long = ap length (ap (λ h. h.now) c.self.view_is) in
    let less : c.args.at < length ss = omega (arith, c.requires, long, length_rows ss) in
    absurd (spot_within ss c.args.at less (sym c.find.ensures ∙ c.in-None.is))

pub replace-requires-clause-there : goal.replace-requires-clause-there
replace-requires-clause-there g c = let old = c.self.inside in can_relink old.links old.done.items old.calls old.finger c.args.at c.in-Some.spot c.self.invariant (sym c.find.ensures ∙ c.in-Some.is)

pub invariant_of-self-2 : goal.invariant_of-self-2
invariant_of-self-2 g c =
    let old = c.self.inside in let s = c.in-Some.spot in let put = c.in_ok-put.put in
    let items = c.push_reserved.ensures.items ∙ ap (λ xs. xs ++ Replaced s put ∷ []) c.reserve.ensures.items in
    (placed old.links c.replace.new.links old.done.items c.push_reserved.new.self.items old.calls old.finger c.finger_on-self-inside.result c.args.at s put c.args.by c.self.invariant (sym c.find.ensures ∙ c.in-Some.is) c.in_ok-put.ensures.id c.in_ok-put.ensures.state c.replace.ensures.ties items c.finger_on-self-inside.ensures).0

pub returns-clause-ok : goal.returns-clause-ok
returns-clause-ok g c =
    let old = c.self.inside in let s = c.in-Some.spot in let put = c.in_ok-put.put in
    let items = c.push_reserved.ensures.items ∙ ap (λ xs. xs ++ Replaced s put ∷ []) c.reserve.ensures.items in
    (placed old.links c.replace.new.links old.done.items c.push_reserved.new.self.items old.calls old.finger c.finger_on-self-inside.result c.args.at s put c.args.by c.self.invariant (sym c.find.ensures ∙ c.in-Some.is) c.in_ok-put.ensures.id c.in_ok-put.ensures.state c.replace.ensures.ties items c.finger_on-self-inside.ensures).1
    ∙ ap (λ h. history (slice_set h.now c.args.at c.args.by) h.past) c.self.view_is
