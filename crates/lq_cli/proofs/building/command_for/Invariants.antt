use Rattle.std.proofs.Common.{◌≡◌, ◌++◌, map, take, true, false}
use Rattle.clap.specs.Simple.{app_of}
use Rattle.lq_cli.specs.Options.{command_of}
use Rattle.lq_option.specs.Rules.{option}
use Rattle.lq_cli.proofs.building.command_for.Given as goal

abbrev pub invariant-loop-name : goal.invariant-loop-name
invariant-loop-name l = app_of l.command ≡ command_of (map (option true) (map (λ w. w.now) (take l.name-index l.form.required.now)))

abbrev pub invariant-loop-name-2 : goal.invariant-loop-name-2
invariant-loop-name-2 l = app_of l.command ≡ command_of (map (option true) (map (λ w. w.now) l.form.required.now) ++ map (option false) (map (λ w. w.now) (take l.name-index l.form.optional.now)))
