use Rattle.std.proofs.Common.{◌≡◌}
use Rattle.std.specs.Prelude.{length, map}
use Rattle.lq_db.specs.Db.{last_text}
use Rattle.lq_entries.specs.Log.{unplaced}
use Rattle.lq_db.proofs.last_texts.last_of.Given as goal

abbrev pub invariant-loop-entry : goal.invariant-loop-entry
invariant-loop-entry l = last_text (map unplaced l.entries) ≡ last_text (map unplaced l.fn.entries)

abbrev pub decreases-loop-entry : goal.decreases-loop-entry
decreases-loop-entry l = length l.entries
