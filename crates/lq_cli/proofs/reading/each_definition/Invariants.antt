use Rattle.std.proofs.Common.{◌≡◌, ◌++◌, drop, map, option_map}
use Rattle.lq_cli.specs.Options.{definition_of, each}
use Rattle.lq_cli.proofs.reading.each_definition.Given as goal

abbrev pub invariant-loop-text : goal.invariant-loop-text
invariant-loop-text l = each definition_of (map (λ t. t.now) l.texts) ≡ option_map (λ more. l.properties ++ more) (each definition_of (map (λ t. t.now) (drop l.text-index l.texts)))
