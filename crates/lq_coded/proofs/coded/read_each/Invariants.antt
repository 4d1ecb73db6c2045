use Rattle.std.proofs.Common.{◌≡◌, ◌-◌}
use Rattle.lq_codec.specs.Codec.{read_each}
use Rattle.lq_coded.proofs.Each.{prefixed}
use Rattle.lq_coded.proofs.coded.read_each.Given as goal

abbrev pub invariant-loop-i : goal.invariant-loop-i
invariant-loop-i g l = read_each g.T.Coded.codec l.n l.bytes ≡ prefixed l.items (read_each g.T.Coded.codec (l.n - l._i) l.rest)
