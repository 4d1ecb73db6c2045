use Rattle.std.proofs.Common.{◌∙◌, subst, option_copied}
use Rattle.lq_outside.specs.Forms.{IsPart}
use Rattle.lq_tell.specs.Texts.{out_text}
use Rattle.lq_tell.proofs.LogLemmas.{alone_log}
use Rattle.lq_tell.proofs.SinkLemmas.{part_of_nothing}
use Rattle.lq_tell.proofs.writing.tell.Goals as goal

pub returns-in-Ok-clause-logged : goal.returns-in-Ok-clause-logged
returns-in-Ok-clause-logged g c = c.write_told.ensures.logged (option_copied c.args.tag) c.args.done c.in-Ok.ensures

pub returns-in-Err-clause-part : goal.returns-in-Err-clause-part
returns-in-Err-clause-part g c = part_of_nothing (out_text c.args.done) (g.O.Sink.told c.args.out.now)

pub returns-in-Err-clause-log_part : goal.returns-in-Err-clause-log_part
returns-in-Err-clause-log_part g c =
    subst (λ text. IsPart text (g.L.Sink.told c.args.log.now) (g.L.Sink.told c.log_lines.new.log))
    (c.lone_line.ensures ∙ alone_log (option_copied c.args.tag) c.args.done c.in-Err.status c.in-Err.ensures.alone)
    c.log_lines.ensures.part
