use Rattle.std.proofs.Common.{◌≡◌, ◌++◌, drop, filter, map, option_map}
use Rattle.lq_cli.specs.Options.{each}
use Rattle.lq_lines.specs.File.{is_word, step_of}
use Rattle.lq_lines.proofs.steps.with_parts.Given as goal

abbrev pub invariant-loop-part : goal.invariant-loop-part
invariant-loop-part l =
    option_map (λ more. l.fn.steps ++ more) (each (step_of l.count) (filter is_word (map (λ p. p.now) l.parts)))
    ≡ option_map (λ more. l.steps ++ more) (each (step_of l.count) (filter is_word (map (λ p. p.now) (drop l.part-index l.parts))))
