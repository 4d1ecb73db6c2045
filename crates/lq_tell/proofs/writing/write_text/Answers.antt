use Rattle.lq_tell.specs.Texts.{text_or_none}
use Rattle.lq_tell.proofs.SinkLemmas.{part_of_nothing}
use Rattle.lq_tell.proofs.writing.write_text.Goals as goal

pub returns-else-has_output-clause-part : goal.returns-else-has_output-clause-part
returns-else-has_output-clause-part g c = part_of_nothing (text_or_none c.args.text.now) (g.O.Sink.told c.args.out.now)
