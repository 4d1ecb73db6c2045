use Rattle.std.proofs.Common.{◌≡◌, ◌++◌, string_bytes}
use Rattle.lq_expr.specs.Words.{words}
use Rattle.lq_expr.proofs.Runs.{words_behind}
use Rattle.lq_expr.proofs.words.words.Given as goal

abbrev pub invariant-loop-c : goal.invariant-loop-c
invariant-loop-c l = l.found ++ words_behind (string_bytes l.run) l.c-iterator.rest.now ≡ words l.text
