use Rattle.std.proofs.Common.{◌≡◌, ◌++◌, drop, map, option_map}
use Rattle.lq_cli.specs.Options.{each}
use Rattle.lq_lines.specs.File.{command_of}
use Rattle.lq_lines.proofs.reading.each_command.Given as goal

abbrev pub invariant-loop-text : goal.invariant-loop-text
invariant-loop-text l = each (command_of l.url) (map (λ t. t.now) l.texts) ≡ option_map (λ more. l.commands ++ more) (each (command_of l.url) (map (λ t. t.now) (drop l.text-index l.texts)))
