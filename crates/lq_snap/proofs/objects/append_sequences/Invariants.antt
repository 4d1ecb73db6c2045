use Rattle.std.proofs.Common.{◌≡◌, ◌++◌, length, true}
use Rattle.std.specs.List.{list_all}
use Rattle.lq_codec.specs.Codec.{both, write_each}
use Rattle.lq_codec.specs.Tables.{sequence_codec}
use Rattle.lq_codec.specs.Words.{name}
use Rattle.lq_snap.proofs.objects.append_sequences.Given as goal

abbrev pub invariant-loop-entry : goal.invariant-loop-entry
invariant-loop-entry l =
    (l.to.items ++ write_each (both name sequence_codec) l.rest ≡ l.fn.to.items ++ write_each (both name sequence_codec) l.entries)
    × (list_all (both name sequence_codec).ok l.rest ≡ true → list_all (both name sequence_codec).ok l.entries ≡ true)

abbrev pub decreases-loop-entry : goal.decreases-loop-entry
decreases-loop-entry l = length l.rest
