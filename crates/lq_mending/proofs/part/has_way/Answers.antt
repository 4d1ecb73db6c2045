use Rattle.std.proofs.Common.{ap, ◌∙◌}
use Rattle.std.specs.List.{list_all}
use Rattle.std.specs.Prelude.{None, not}
use Rattle.lq_back.proofs.Ways.{undone_by}
use Rattle.lq_back.specs.Reversal.{has_inverse}
use Rattle.lq_mending.proofs.Passing.{no_block}
use Rattle.lq_mending.proofs.part.has_way.Goals as goal

pub returns-then-is_none : goal.returns-then-is_none
returns-then-is_none c = λ d.
    no_block c.args.set.now.rollback (list_all has_inverse c.args.set.now.changes) _ c.is_undoable.result (c.is_none.ensures ∙ ap not c.if-is_none.true) c.is_undoable.ensures (undone_by d None c.args.set.now.changes)
