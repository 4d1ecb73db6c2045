use Rattle.lq_keyops.proofs.TableLemmas.{Dropping, count}
use Rattle.lq_keyops.proofs.anywhere.drop_everywhere.Given as goal

abbrev pub invariant-loop-table : goal.invariant-loop-table
invariant-loop-table l = Dropping l.name l.fn.parts l.parts

abbrev pub decreases-loop-table : goal.decreases-loop-table
decreases-loop-table l = count l.name l.parts.now.tables
