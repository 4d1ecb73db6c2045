use Rattle.std.proofs.Common.{◌≡◌, ◌-◌}
use Rattle.lq_model.specs.SqlParser.{many, many_of}
use Rattle.lq_parse.proofs.Found.{behind}
use Rattle.lq_parse.proofs.list.many.Given as goal

abbrev pub invariant-loop-turn : goal.invariant-loop-turn
invariant-loop-turn g l = many g.p l.fn.words ≡ behind l.found (many_of g.p (l._turn-end - l._turn) l.words)
