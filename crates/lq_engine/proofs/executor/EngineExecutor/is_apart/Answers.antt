use Rattle.std.proofs.Common.{reverse}
use Rattle.lq_engine.proofs.Marks.{is_sound}
use Rattle.lq_engine.proofs.executor.EngineExecutor.is_apart.Goals as goal
use Rattle.lq_model.proofs.Maps.{sorted_entries}

pub is_apart-requires : goal.is_apart-requires
is_apart-requires c =
    sorted_entries c.self.inside.parts.now.tables (is_sound c.self.inside.dialect c.self.inside.parts (reverse c.self.inside.starts.items) c.self.invariant).ordered
