use Rattle.std.proofs.Common.{subst, sym}
use Rattle.std.specs.Prelude.{Err}
use Rattle.lq_lines.specs.File.{lines_of}
use Rattle.lq_drills.proofs.DrillFiles.{finds_fault, finds_same, then_fault, then_ok}
use Rattle.lq_drills.proofs.drilling.read_drill.Goals as goal
use Rattle.lq_drills.specs.Drilled.{FindsDrill}
use Rattle.lq_jobs.specs.Drills.{drill_in, drill_of, runs_in}

pub returns-in-Ok-clause-finds : goal.returns-in-Ok-clause-finds
returns-in-Ok-clause-finds g c =
    let d = c.args.dialect in
    let path = c.args.path.now in
    let runs = c.args.runs.now in
    let bytes = c.in-Ok.bytes in
    finds_same (g.F.Files.told c.args.files.now) (λ source. drill_in source d (lines_of d path bytes)) (λ source. drill_of source d path runs)
    (λ source tells. then_ok (λ bytes. drill_in source d (lines_of d path bytes)) (runs_in runs (source.content runs)) bytes (c.in-Ok.ensures.found source tells)) c.drill_by.result
    (subst (λ told. FindsDrill told (λ source. drill_in source d (lines_of d path bytes)) c.drill_by.result) c.in-Ok.ensures.told
    (subst (λ all. FindsDrill (g.F.Files.told c.read_runs.new.files) (λ source. drill_in source d (lines_of d path all)) c.drill_by.result) c.as_slice.ensures c.drill_by.ensures.finds))

pub returns-in-Err-clause-finds : goal.returns-in-Err-clause-finds
returns-in-Err-clause-finds g c =
    let d = c.args.dialect in
    let path = c.args.path.now in
    let runs = c.args.runs.now in
    subst (λ s. FindsDrill (g.F.Files.told c.args.files.now) (λ source. drill_of source d path runs) (Err s)) (sym c.file_status.ensures)
    (finds_fault (g.F.Files.told c.args.files.now) (λ source. runs_in runs (source.content runs)) (λ source. drill_of source d path runs) (λ source fault is. then_fault (λ bytes. drill_in source d (lines_of d path bytes)) (runs_in runs (source.content runs)) fault is) c.in-Err.fault c.in-Err.ensures.found)
