use Rattle.std.proofs.Common.{◌+◌, ◌-◌, None, sym, ap, ◌∙◌, subst}
use Rattle.std.specs.Prelude.{slice_get}
use Rattle.lq_links.specs.State.{State, state_of, CanUndo, CanPop, before, popped, with_len, rejoined, relinked, node_of}
use Rattle.lq_links.proofs.GapLemmas.{pop_rejoined, pop_relinked, len_rejoined, len_relinked}
use Rattle.lq_chain.proofs.moves.undo.Goals as goal

pub free_last-requires-clause-last : goal.free_last-requires-clause-last
free_last-requires-clause-last g c =
    let st = state_of c.args.links.now in let last = c.in-Pushed.last in let can = subst (λ d. CanUndo d st) c.in-Pushed.is c.requires.can in
    subst (λ (t : State g.row.T.Denot). CanPop t c.in-Pushed.spot) (sym c.rejoin.ensures.state) (pop_rejoined st last None None last c.in-Pushed.spot can.1 tt can.0)

pub free_last-requires-in-Replaced-clause-last : goal.free_last-requires-in-Replaced-clause-last
free_last-requires-in-Replaced-clause-last g c =
    let st = state_of c.args.links.now in let can = subst (λ d. CanUndo d st) c.in-Replaced.is c.requires.can in
    subst (λ (t : State g.row.T.Denot). CanPop t c.in-Replaced.by) (sym c.relink-in-Replaced.ensures.state) (pop_relinked st c.in-Replaced.spot c.in-Replaced.by can.0 can.1)

pub returns-in-Begun-clause-state : goal.returns-in-Begun-clause-state
unfolding before
returns-in-Begun-clause-state g c = sym (ap (λ d. before d (state_of c.args.links.now)) c.in-Begun.is)

pub returns-in-Pushed-clause-state : goal.returns-in-Pushed-clause-state
unfolding before
returns-in-Pushed-clause-state g c =
    let st = state_of c.args.links.now in let last = c.in-Pushed.last in
    c.free_last.ensures.state ∙ ap (λ (t : State g.row.T.Denot). popped (with_len t (t.len - 1))) c.rejoin.ensures.state
    ∙ ap (λ n. popped (with_len (rejoined st last None None last) (n - 1))) (len_rejoined st last None None last) ∙ sym (ap (λ d. before d st) c.in-Pushed.is)

pub returns-in-Unlinked-clause-state : goal.returns-in-Unlinked-clause-state
unfolding before
returns-in-Unlinked-clause-state g c =
    let st = state_of c.args.links.now in let s = c.in-Unlinked.spot in
    ap (λ (t : State g.row.T.Denot). with_len t (t.len + 1)) c.relink.ensures.state
    ∙ ap (λ n. with_len (relinked st s) (n + 1)) (len_relinked st s (node_of (slice_get st.slots s.id))) ∙ sym (ap (λ d. before d st) c.in-Unlinked.is)

pub returns-in-Replaced-clause-state : goal.returns-in-Replaced-clause-state
unfolding before
returns-in-Replaced-clause-state g c =
    let st = state_of c.args.links.now in
    c.free_last-in-Replaced.ensures.state ∙ ap popped c.relink-in-Replaced.ensures.state ∙ sym (ap (λ d. before d st) c.in-Replaced.is)
