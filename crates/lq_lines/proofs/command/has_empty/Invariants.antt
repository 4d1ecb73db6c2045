use Rattle.std.proofs.Common.{◌≡◌, drop, map}
use Rattle.std.specs.List.{list_any}
use Rattle.lq_lines.specs.File.{is_empty}
use Rattle.lq_lines.proofs.command.has_empty.Given as goal

abbrev pub invariant-loop-word : goal.invariant-loop-word
invariant-loop-word l = list_any is_empty (map (λ w. w.now) l.words) ≡ list_any is_empty (map (λ w. w.now) (drop l.word-index l.words))
