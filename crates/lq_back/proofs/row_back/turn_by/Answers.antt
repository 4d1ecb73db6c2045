use Rattle.std.proofs.Common.{rules, ◌≡◌, None, Some}
use Rattle.lq_back.proofs.RowsBack.{never_absent, turn_by_set}
use Rattle.lq_back.proofs.row_back.turn_by.Goals as goal

pub unreachable-requires : goal.unreachable-requires
unreachable-requires c =
    let none : c.in_ok-made.made ≡ None = search rules in
    never_absent c.args.dialect c.args.set.now c.requires.undoable (λ o. rw none at (c.in_ok-made.ensures o))

pub returns : goal.returns
returns c =
    let some : c.in_ok-made.made ≡ Some c.in-Some.statements = search rules in
    turn_by_set c.args.dialect c.args.row.now c.args.set.now c.in-Some.statements c.in_ok-turn.turn (λ o. rw some at (c.in_ok-made.ensures o)) c.in_ok-turn.ensures
