use Rattle.lq_tell.proofs.SinkLemmas.{part_of_first, part_of_second}
use Rattle.lq_tell.proofs.log.write_lines.Goals as goal

pub returns-in-Ok-clause-part : goal.returns-in-Ok-clause-part
returns-in-Ok-clause-part g c =
    part_of_second c.args.warnings.now c.args.lines.now (g.L.Sink.told c.args.log.now) (g.L.Sink.told c.write_line.new.log) (g.L.Sink.told c.write_line-in-Ok.new.log) c.in-Ok.ensures.whole c.write_line-in-Ok.ensures.part

pub returns-in-Err-clause-part : goal.returns-in-Err-clause-part
returns-in-Err-clause-part g c =
    part_of_first c.args.warnings.now c.args.lines.now (g.L.Sink.told c.args.log.now) (g.L.Sink.told c.write_line.new.log) c.write_line.ensures.part
