use Rattle.std.proofs.Common.{◌≡◌, ◌++◌, length}
use Rattle.lq_codec.specs.Codec.{both, write_each}
use Rattle.lq_codec.specs.Tables.{table_codec}
use Rattle.lq_codec.specs.Words.{name}
use Rattle.lq_parts.specs.Steps.{tables_of}
use Rattle.lq_snap.proofs.EntryLemmas.{TablesFit}
use Rattle.lq_snap.proofs.tables.append_tables.Given as goal

abbrev pub invariant-loop-entry : goal.invariant-loop-entry
invariant-loop-entry l =
    (l.to.items ++ write_each (both name table_codec) (tables_of l.rest) ≡ l.fn.to.items ++ write_each (both name table_codec) (tables_of l.entries))
    × (TablesFit l.rest → TablesFit l.entries)

abbrev pub decreases-loop-entry : goal.decreases-loop-entry
decreases-loop-entry l = length l.rest
