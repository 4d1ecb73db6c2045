use Rattle.std.proofs.Common.{◌≡◌}
use Rattle.lq_yaml.specs.Machine.{deep_run}
use Rattle.lq_yaml.specs.Yaml.{deep_of}
use Rattle.lq_yaml.proofs.builder.Builder.take_all.Given as goal

abbrev pub invariant-loop-token : goal.invariant-loop-token
invariant-loop-token l =
    (goal.iterator-loop-token).can_next l.token-iterator
    × (goal.iterator-loop-token).is_finite l.token-iterator
    × (deep_run l.fn.tokens.items (deep_of l.initial.self) ≡ deep_run l.token-iterator.rest.items (deep_of l.self))
