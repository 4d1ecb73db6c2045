use Rattle.std.proofs.Common.{◌≡◌, rules, Some, None}
use Rattle.lq_props.specs.Replaced.{cut_at}
use Rattle.lq_props.proofs.Cuts.{piece_step, last_step}
use Rattle.lq_props.proofs.Defined.{on_ok}
use Rattle.lq_props.proofs.replacing.append_replaced.Goals as goal

pub loop-piece-preserved : goal.loop-piece-preserved
loop-piece-preserved c =
    let is : cut_at 125 c.loop-piece.rest.now ≡ Some (c.in-Some.piece.now, c.in-Some.behind.now) = search rules in
    (search rules, piece_step _ _ _ _ _ _ _ is c.in_ok-append_closed.ensures c.loop-piece.invariant.1)

pub returns : goal.returns
returns c =
    let is : cut_at 125 c.loop-piece.rest.now ≡ None = search rules in
    on_ok c.push_str.result c.push_str.ensures.ok (λ more. last_step _ _ _ _ _ is more c.loop-piece.invariant.1)
