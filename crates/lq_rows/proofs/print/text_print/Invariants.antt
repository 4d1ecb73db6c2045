use Rattle.std.proofs.Common.{◌≡◌, drop}
use Rattle.std.specs.List.{fold}
use Rattle.lq_rows.specs.Stored.{with_digit}
use Rattle.lq_rows.proofs.print.text_print.Given as goal

abbrev pub invariant-loop-byte : goal.invariant-loop-byte
invariant-loop-byte l = fold with_digit 0 l.byte-items ≡ fold with_digit l.number (drop l.byte-index l.byte-items)
