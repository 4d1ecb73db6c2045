use Rattle.std.proofs.Common.{◌≡◌, ◌++◌, length}
use Rattle.lq_frames.proofs.encoded.EncodedEntry.from_texts.Given as goal

abbrev pub invariant-loop-rest : goal.invariant-loop-rest
invariant-loop-rest l = l.entry ++ l.rest ≡ l.texts

abbrev pub decreases-loop-rest : goal.decreases-loop-rest
decreases-loop-rest l = length l.rest
