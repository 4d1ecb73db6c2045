use Rattle.std.proofs.Common.{ap, reverse}
use Rattle.lq_engine.proofs.Marks.{is_sound}
use Rattle.lq_engine.proofs.engine.Engine.parts.Goals as goal
use Rattle.lq_engine.specs.State.{State}
use Rattle.lq_model.proofs.Maps.{sorted_entries}

pub returns-clause-now : goal.returns-clause-now
returns-clause-now c = ap (λ (s : State). s.now) c.self.view_is

pub returns-clause-ordered : goal.returns-clause-ordered
returns-clause-ordered c =
    sorted_entries c.self.inside.parts.now.tables (is_sound c.self.inside.dialect c.self.inside.parts (reverse c.self.inside.starts.items) c.self.invariant).ordered
