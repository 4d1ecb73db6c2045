use Rattle.std.proofs.Common.{rules}
use Rattle.lq_lines.proofs.TextLemmas.{no_text, text_gives}
use Rattle.lq_lines.proofs.reading.lines_of.Goals as goal

pub returns-in-Ok : goal.returns-in-Ok
returns-in-Ok c =
    text_gives c.args.dialect c.args.path.now c.args.file.now c.as_str.result.now c.in-Ok.text.now c.lines_in_text.result
    c.in-Ok.ensures.cases.1 c.in-Ok.ensures.cases.0 (search rules) c.lines_in_text.ensures

pub returns : goal.returns
returns c = no_text c.args.dialect c.args.path.now c.args.file.now c.in-Err.ensures.cases.0
