use Rattle.std.proofs.Common.{ap, subst, sym}
use Rattle.std.specs.Int.{IsInRange}
use Rattle.std.specs.List.{All}
use Rattle.std.specs.Prelude.{Err}
use Rattle.lq_sources.specs.Faults.{map_ok}
use Rattle.lq_drills.proofs.DrillFiles.{finds_fault, mapped_fault}
use Rattle.lq_drills.proofs.drilling.drill_with.Goals as goal
use Rattle.lq_drills.specs.Drilled.{FindsDrill}
use Rattle.lq_jobs.specs.Drills.{drilling_by, entrants_of}

pub returns-in-Ok-clause-finds : goal.returns-in-Ok-clause-finds
returns-in-Ok-clause-finds g c = λ source tells. ap (map_ok (drilling_by c.args.lines.steps)) (c.in-Ok.ensures.found source tells)

pub returns-in-Ok-clause-is : goal.returns-in-Ok-clause-is
returns-in-Ok-clause-is g c = record {
  few = subst (IsInRange 1 64) (sym c.in-Ok.ensures.count) c.requires.few;
  each = c.in-Ok.ensures.each;
  steps = subst (λ n. All (IsInRange 1 n) c.args.lines.steps) (sym c.in-Ok.ensures.count) c.requires.steps;
}

pub returns-in-Err-clause-finds : goal.returns-in-Err-clause-finds
returns-in-Err-clause-finds g c =
    let d = c.args.dialect in
    let lines = c.args.lines.lines in
    let steps = c.args.lines.steps in
    subst (λ s. FindsDrill (g.F.Files.told c.args.files.now) (λ source. map_ok (drilling_by steps) (entrants_of source d lines)) (Err s)) (sym c.file_status.ensures)
    (finds_fault (g.F.Files.told c.args.files.now) (λ source. entrants_of source d lines) (λ source. map_ok (drilling_by steps) (entrants_of source d lines)) (λ source fault is. mapped_fault (drilling_by steps) (entrants_of source d lines) fault is) c.in-Err.fault c.in-Err.ensures.found)
