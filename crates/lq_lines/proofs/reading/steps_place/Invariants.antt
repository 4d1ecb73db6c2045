use Rattle.std.proofs.Common.{◌≡◌, ◌+◌, drop, map}
use Rattle.std.specs.List.{position_or_len}
use Rattle.lq_lines.specs.File.{is_steps}
use Rattle.lq_lines.proofs.reading.steps_place.Given as goal

abbrev pub invariant-loop-place : goal.invariant-loop-place
invariant-loop-place l = position_or_len is_steps (map (λ t. t.now) l.lines) ≡ l.place + position_or_len is_steps (map (λ t. t.now) (drop l.place l.lines))
