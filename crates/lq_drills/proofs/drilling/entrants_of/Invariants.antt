use Rattle.std.specs.List.{All}
use Rattle.std.specs.Prelude.{length, true, ◌+◌, ◌≡◌, ◌≤◌}
use Rattle.lq_cli.specs.declared.line.Line.{Line}
use Rattle.lq_lines.specs.File.{is_run}
use Rattle.lq_players.specs.AtOnce.{HasShortTag}
use Rattle.lq_sources.specs.Faults.{IsTold, Source}
use Rattle.lq_drills.proofs.DrillFiles.{behind}
use Rattle.lq_drills.proofs.drilling.entrants_of.Given as goal
use Rattle.lq_drills.specs.Drilled.{IsEntrant}
use Rattle.lq_jobs.specs.Drills.{command_in, entrants_of}

abbrev pub invariant-loop-alloc : goal.invariant-loop-alloc
invariant-loop-alloc g l = record {
  told : g.F.Files.told l.files ≡ g.F.Files.told l.fn.files;
  later : g.F.Files.faults l.fn.files ≤ g.F.Files.faults l.files;
  count : length l.entrants + length l.lines ≡ length l.fn.lines;
  each : All (IsEntrant l.fn.dialect) l.entrants;
  runs : All (λ (line : Line). is_run line.job ≡ true) l.lines;
  short : All (λ (line : Line). HasShortTag (command_in line.job)) l.lines;
  found : (source : Source) → IsTold (g.F.Files.told l.fn.files) source → entrants_of source l.fn.dialect l.fn.lines ≡ behind l.entrants (entrants_of source l.fn.dialect l.lines);
}

abbrev pub decreases-loop-alloc : goal.decreases-loop-alloc
decreases-loop-alloc g l = length l.lines
