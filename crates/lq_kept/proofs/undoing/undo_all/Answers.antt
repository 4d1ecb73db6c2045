use Rattle.std.proofs.Common.{rules, ◌≡◌, ◌++◌, ◌∷◌, []}
use Rattle.lq_kept.proofs.EachUndone.{all_undone, begins, goes_on, its_way, no_way_left}
use Rattle.lq_kept.proofs.undoing.undo_all.Goals as goal

pub loop-row-init : goal.loop-row-init
loop-row-init g c = begins (g.U.UndoesRows.is_way c.args.by.now) (g.U.UndoesRows.is_turn c.args.by.now) c.args.rows.now c.args.ways.now _ c.new-turns.ensures c.requires

pub unreachable-requires : goal.unreachable-requires
unreachable-requires g c =
    let is : c.loop-row.rest.now ≡ c.in-Some.row.now ∷ c.in-Some.after.now = search rules in
    no_way_left (g.U.UndoesRows.is_way c.args.by.now) (g.U.UndoesRows.is_turn c.args.by.now) c.args.rows.now c.loop-row.rest.now c.in-Some.after.now c.in-Some.row.now is c.loop-row.left.now c.loop-row.turns (search rules) c.loop-row.invariant

pub undo-requires : goal.undo-requires
undo-requires g c =
    let is : c.loop-row.rest.now ≡ c.in-Some.row.now ∷ c.in-Some.after.now = search rules in
    let ends : c.loop-row.left.now ≡ c.in-Some-split_last.front.now ++ c.in-Some-split_last.way.now ∷ [] = search rules in
    its_way (g.U.UndoesRows.is_way c.args.by.now) (g.U.UndoesRows.is_turn c.args.by.now) c.args.rows.now c.loop-row.rest.now c.in-Some.after.now c.in-Some.row.now is c.loop-row.left.now c.in-Some-split_last.front.now c.in-Some-split_last.way.now ends c.loop-row.turns c.loop-row.invariant

pub loop-row-preserved : goal.loop-row-preserved
loop-row-preserved g c =
    let is : c.loop-row.rest.now ≡ c.in-Some.row.now ∷ c.in-Some.after.now = search rules in
    let ends : c.loop-row.left.now ≡ c.in-Some-split_last.front.now ++ c.in-Some-split_last.way.now ∷ [] = search rules in
    goes_on (g.U.UndoesRows.is_way c.args.by.now) (g.U.UndoesRows.is_turn c.args.by.now) c.args.rows.now c.loop-row.rest.now c.in-Some.after.now c.in-Some.row.now is c.loop-row.left.now c.in-Some-split_last.front.now c.in-Some-split_last.way.now ends c.loop-row.turns c.loop-row.invariant
    c.push.new.self c.in_ok-turn.turn c.in_ok-push.ensures.ok c.in_ok-turn.ensures

pub returns : goal.returns
returns g c = all_undone (g.U.UndoesRows.is_way c.args.by.now) (g.U.UndoesRows.is_turn c.args.by.now) c.args.rows.now c.loop-row.rest.now c.loop-row.left.now c.loop-row.turns (search rules) c.loop-row.invariant
