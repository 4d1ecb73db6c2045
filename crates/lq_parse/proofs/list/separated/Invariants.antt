use Rattle.std.proofs.Common.{◌≡◌, ◌-◌, ◌++◌}
use Rattle.lq_model.specs.SqlParser.{and_then, led_by, many_of, pure, separated}
use Rattle.lq_model.specs.declared.word.WordKind.TheVariants as word
use Rattle.lq_parse.proofs.list.separated.Given as goal

-- all of it: what was found, and then what may still come
abbrev pub invariant-loop-turn : goal.invariant-loop-turn
invariant-loop-turn g l = separated g.p l.fn.words ≡ and_then (many_of (led_by word.Comma g.p) (l._turn-end - l._turn) l.words) (λ more. pure (l.found ++ more))
