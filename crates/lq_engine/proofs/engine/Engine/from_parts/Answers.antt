use Rattle.lq_engine.proofs.Marks.{taken_over}
use Rattle.lq_engine.proofs.engine.Engine.from_parts.Goals as goal

pub of_sound-requires : goal.of_sound-requires
of_sound-requires c = taken_over c.args.dialect c.args.parts c.in_ok-restored.field-0 _ c.in_ok-restored.ensures c.in-Some.is
