use Rattle.std.proofs.Common.{sym}
use Rattle.lq_sources.proofs.values.changed.Goals as goal

pub returns-then-is_plain : goal.returns-then-is_plain
returns-then-is_plain c = sym (c.is_plain.ensures _ c.if-is_plain.true)
