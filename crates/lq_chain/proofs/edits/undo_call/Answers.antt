use Rattle.std.proofs.Common.{[], ◌∷◌, ◌++◌, ◌≡◌, ◌<◌, length, rules, sym, ap, ◌∙◌, subst}
use Rattle.std.specs.Prelude.{reverse}
use Rattle.lq_links.specs.State.{State, state_of, IsSound, AllUndo, pasts}
use Rattle.lq_chain.proofs.ChainLemmas.{newest_undone, pasts_newest, pasts_at_begun, undone_begun, edit_of, none_begun}
use Rattle.lq_chain.proofs.edits.undo_call.Goals as goal

pub returns-in-Begun-clause-undo : goal.returns-in-Begun-clause-undo
returns-in-Begun-clause-undo g c =
    let rest = c.pop.new.self.items in
    undone_begun (state_of c.loop-step.links) c.loop-step.done.items rest (c.in-Some.ensures.items ∙ ap (λ d. rest ++ d ∷ []) c.in-Begun.is) c.loop-step.invariant.2

pub returns-in-Begun-clause-past : goal.returns-in-Begun-clause-past
returns-in-Begun-clause-past g c =
    let rest = c.pop.new.self.items in
    sym (pasts_at_begun (state_of c.loop-step.links) c.loop-step.done.items rest (c.in-Some.ensures.items ∙ ap (λ d. rest ++ d ∷ []) c.in-Begun.is)) ∙ c.loop-step.invariant.3

pub loop-step-preserved : goal.loop-step-preserved
loop-step-preserved g c =
    let st = state_of c.loop-step.links in let items = c.loop-step.done.items in let rest = c.pop.new.self.items in let step = c.in-Some.step in let ds = reverse rest in
    let e = c.in-Some.ensures.items in
    let undo = newest_undone st items rest step e c.loop-step.invariant.2 in
    let sound = subst (λ (t : State g.row.T.Denot). IsSound t ds) (sym c.undo.ensures.state) undo.1 in
    let more = subst (λ (t : State g.row.T.Denot). AllUndo t ds) (sym c.undo.ensures.state) undo.2 in
    let past = ap (λ (t : State g.row.T.Denot). pasts t ds) c.undo.ensures.state ∙ sym (edit_of step c.in_default-step.not-Begun st ds) ∙ sym (pasts_newest st items rest step e) ∙ c.loop-step.invariant.3 in
    (c.undo.ensures.ties, sound, more, past)

pub returns-clause-past : goal.returns-clause-past
returns-clause-past g c =
    let st = state_of c.loop-step.links in let items = c.loop-step.done.items in
    let none : length items ≡ 0 = search rules in
    absurd (none_begun st items none (subst (λ ps. 0 < length ps) (sym c.loop-step.invariant.3) c.requires.begun))
