use Rattle.std.proofs.Common.{rules, sym, ◌≡◌, None, Some}
use Rattle.std.specs.List.{slice_get}
use Rattle.lq_kinds.specs.ReadFor.{is_read_for}
use Rattle.lq_seen.proofs.Read.{all_at}
use Rattle.lq_back.proofs.RowsBack.{by_its, its_set, no_set}
use Rattle.lq_back.proofs.row_back.turn_at.Goals as goal

pub unreachable-requires : goal.unreachable-requires
unreachable-requires c =
    let none : c.get.result ≡ None = search rules in
    no_set c.args.changelog.now.sets c.args.row.now c.args.place c.requires.way (sym (rw none at c.get.ensures.value))

pub turn_by-requires-clause-read : goal.turn_by-requires-clause-read
turn_by-requires-clause-read c =
    let there : slice_get c.args.changelog.now.sets c.args.place ≡ Some c.in-Some.set.now = search rules in
    all_at (is_read_for c.args.dialect) c.args.changelog.now.sets c.args.place c.in-Some.set.now c.requires.read there

pub turn_by-requires-clause-undoable : goal.turn_by-requires-clause-undoable
turn_by-requires-clause-undoable c =
    let there : slice_get c.args.changelog.now.sets c.args.place ≡ Some c.in-Some.set.now = search rules in
    let its = its_set c.args.changelog.now.sets c.args.row.now c.args.place c.in-Some.set.now c.requires.way there in
    its.undoable

pub returns : goal.returns
returns c =
    let there : slice_get c.args.changelog.now.sets c.args.place ≡ Some c.in-Some.set.now = search rules in
    let its = its_set c.args.changelog.now.sets c.args.row.now c.args.place c.in-Some.set.now c.requires.way there in
    by_its c.args.dialect c.args.changelog.now.sets c.args.row.now c.in-Some.set.now c.in_ok-turn.turn its c.in_ok-turn.ensures
