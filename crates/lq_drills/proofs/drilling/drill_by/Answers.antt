use Rattle.std.proofs.Common.{ap}
use Rattle.std.specs.Prelude.{Some}
use Rattle.lq_lines.specs.File.{lines_of}
use Rattle.lq_drills.proofs.DrillFiles.{finds_same}
use Rattle.lq_drills.proofs.ShortLines.{lines_short}
use Rattle.lq_drills.proofs.drilling.drill_by.Goals as goal
use Rattle.lq_jobs.specs.Drills.{drill_in}

pub drill_with-requires-clause-short : goal.drill_with-requires-clause-short
drill_with-requires-clause-short g c = lines_short c.args.dialect c.args.path.now c.args.bytes.now c.in-Ok.lines c.in-Ok.ensures.lines

pub returns-in-Ok-clause-finds : goal.returns-in-Ok-clause-finds
returns-in-Ok-clause-finds g c =
    let d = c.args.dialect in
    finds_same (g.F.Files.told c.args.files.now) (λ source. drill_in source d (Some c.in-Ok.lines)) (λ source. drill_in source d (lines_of d c.args.path.now c.args.bytes.now)) (λ source tells. ap (drill_in source d) c.in-Ok.ensures.lines) c.drill_with.result c.drill_with.ensures.finds

pub returns-in-Err-Usage-clause-finds : goal.returns-in-Err-Usage-clause-finds
returns-in-Err-Usage-clause-finds g c = λ source tells. ap (drill_in source c.args.dialect) (c.in-Err-Usage.ensures.usage c.in-Err-Usage.field-0-is)
