use Rattle.std.proofs.Common.{◌≡◌, ◌+◌, drop}
use Rattle.std.specs.List.{prefix_len}
use Rattle.lq_parse.specs.Plain.{is_plain}
use Rattle.lq_parse.proofs.quoted.plain_front.Given as goal

abbrev pub invariant-loop-count : goal.invariant-loop-count
invariant-loop-count l = prefix_len (is_plain l.escaping l.quote) l.text ≡ l.count + prefix_len (is_plain l.escaping l.quote) (drop l.count l.text)
