use Rattle.std.proofs.Common.{◌≡◌, ◌++◌, drop, map, option_map}
use Rattle.std.specs.List.{flat_map}
use Rattle.lq_cli.specs.Options.{each}
use Rattle.lq_lines.specs.File.{numbers_in, step_of}
use Rattle.lq_lines.proofs.steps.each_line.Given as goal

abbrev pub invariant-loop-line : goal.invariant-loop-line
invariant-loop-line l =
    each (step_of l.count) (flat_map numbers_in (map (λ t. t.now) l.lines))
    ≡ option_map (λ more. l.steps ++ more) (each (step_of l.count) (flat_map numbers_in (map (λ t. t.now) (drop l.line-index l.lines))))
