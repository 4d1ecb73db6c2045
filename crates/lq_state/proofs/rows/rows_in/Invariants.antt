use Rattle.std.proofs.Common.{◌≡◌, ◌-◌}
use Rattle.lq_codec.specs.Codec.{each, read_each}
use Rattle.lq_codec.specs.Values.{value_codec}
use Rattle.lq_coded.proofs.Each.{prefixed}
use Rattle.lq_state.proofs.rows.rows_in.Given as goal

abbrev pub invariant-loop-i : goal.invariant-loop-i
invariant-loop-i l = read_each (each l.width value_codec) l.n l.bytes ≡ prefixed l.rows (read_each (each l.width value_codec) (l.n - l._i) l.rest)
