use Rattle.lq_jobs.proofs.GeneratedOn.{memory_answers, place_answers, text_answers, text_tells, well_written}
use Rattle.lq_jobs.proofs.generating.generated.Goals as goal

pub returns-in-Ok-clause-answers : goal.returns-in-Ok-clause-answers
returns-in-Ok-clause-answers c = text_answers c.args.dialect c.args.author.now _ _ c.parts-parts.ensures.now c.in-Ok.text c.with.result c.in-Ok.ensures.generates c.with.ensures.status

pub returns-in-Ok-clause-tells : goal.returns-in-Ok-clause-tells
returns-in-Ok-clause-tells c =
    text_tells c.args.dialect c.args.author.now _ _ c.parts-parts.ensures.now c.in-Ok.text c.with.result c.in-Ok.ensures.generates c.with.ensures.status c.with.ensures.out c.with.ensures.own c.with.ensures.warned

pub returns-in-Ok-clause-written : goal.returns-in-Ok-clause-written
returns-in-Ok-clause-written c = well_written c.args.dialect c.args.author.now _ _ c.in-Ok.text c.parts-parts.ensures.now c.names_hold.ensures c.in-Ok.ensures.generates c.in-Ok.ensures.reads

pub returns-in-Err-NotWritable-clause-answers : goal.returns-in-Err-NotWritable-clause-answers
returns-in-Err-NotWritable-clause-answers c =
    rw c.in-Err-NotWritable.field-0-is
    (place_answers c.args.dialect c.args.author.now _ _ c.parts-parts.ensures.now c.in-Err-NotWritable.at (rw c.in-Err-NotWritable.field-0-is at c.in-Err-NotWritable.ensures.generates))

pub returns-in-Err-OutOfMemory-clause-answers : goal.returns-in-Err-OutOfMemory-clause-answers
returns-in-Err-OutOfMemory-clause-answers c = memory_answers c.args.dialect c.args.author.now _ _ c.parts-parts.ensures.now
