use Rattle.std.proofs.Common.{ap, is_none, ◌∙◌}
use Rattle.lq_back.proofs.Ways.{none_way, way_is}
use Rattle.lq_back.proofs.reversal.way_found.Goals as goal

pub returns-clause-way : goal.returns-clause-way
returns-clause-way c = λ xs has. way_is xs c.args.row.now c.way_of.result c.undoing_place.result c.way_of.ensures (c.undoing_place.ensures xs has)

pub returns-clause-none : goal.returns-clause-none
returns-clause-none c = λ xs o has.
    ap is_none (way_is xs c.args.row.now c.way_of.result c.undoing_place.result c.way_of.ensures (c.undoing_place.ensures xs has)) ∙ none_way o xs c.args.row.now
