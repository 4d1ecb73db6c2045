use Rattle.lq_lines.proofs.FormLemmas.{formed}
use Rattle.lq_lines.proofs.reading.read_lines.Goals as goal

pub returns-in-Ok-clause-form : goal.returns-in-Ok-clause-form
returns-in-Ok-clause-form c = formed c.args.dialect c.args.path.now c.args.file.now c.in-Ok.lines c.in-Ok.ensures
