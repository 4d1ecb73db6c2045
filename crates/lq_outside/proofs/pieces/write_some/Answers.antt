use Rattle.std.proofs.Common.{rules, ◌≡◌, drop}
use Rattle.lq_outside.proofs.Taking.{took_some}
use Rattle.lq_outside.proofs.pieces.write_some.Goals as goal

pub returns-clause-took : goal.returns-clause-took
returns-clause-took g c =
    let e : c.split_at.result.1.now ≡ drop c.in_ok-taken.taken c.args.piece.now = search rules in
    rw e (took_some _ _ _ _ c.in_ok-taken.ensures.told)
