use Rattle.std.proofs.Common.{length, true, ◌≡◌}
use Rattle.std.specs.List.{filter, list_all}
use Rattle.laws_repair.specs.Repair.{is_named_so}
use Rattle.lq_base.specs.declared.dialect.Dialect.{Dialect}
use Rattle.lq_expr.specs.declared.options.Options.{Options}
use Rattle.lq_kinds.specs.ReadFor.{is_read_for}
use Rattle.lq_seen.specs.View.{views}
use Rattle.lq_unrecorded.proofs.named.next_named.Given as goal

abbrev pub invariant-loop-set : goal.invariant-loop-set
invariant-loop-set l = record {
  found : (options : Options) → filter (is_named_so l.name l.rows) (views options l.sets) ≡ filter (is_named_so l.name l.rows) (views options l.rest);
  read : (d : Dialect) → list_all (is_read_for d) l.sets ≡ true → list_all (is_read_for d) l.rest ≡ true;
}

abbrev pub decreases-loop-set : goal.decreases-loop-set
decreases-loop-set l = length l.rest
