use Rattle.std.proofs.Common.{◌≡◌, ◌-◌, rules, sym, subst}
use Rattle.lq_links.specs.State.{IsOn, state_of, spots}
use Rattle.lq_links.specs.declared.node.Finger.{Finger}
use Rattle.lq_chain.proofs.FindLemmas.{nearer_on, front_on, end_on}
use Rattle.lq_chain.proofs.find.nearest.Goals as goal

pub returns : goal.returns
returns g c =
    let st = state_of c.args.links.now in let ss = spots st in
    let front : Finger = record { at = 0; spot = c.args.head } in
    let front_is = front_on st ss c.args.head c.requires.list c.requires.head in
    let last : c.saturating_sub.result ≡ st.len - 1 = search rules in
    let end_is = subst (IsOn ss) (sym c.finger_on-end.ensures) (end_on st ss c.saturating_sub.result last c.requires.list) in
    let side = nearer_on ss c.finger_on-end.result front c.nearer-side.result c.nearer-side.ensures end_is front_is in
    nearer_on ss c.args.finger c.nearer-side.result c.nearer.result c.nearer.ensures c.requires.on side
