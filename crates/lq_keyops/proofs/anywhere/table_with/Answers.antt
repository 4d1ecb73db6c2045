use Rattle.std.proofs.Common.{arith, sym, ◌&&◌, ◌∙◌}
use Rattle.lq_base.specs.Name.{is_named}
use Rattle.lq_model.specs.Constraints.{has_index_in}
use Rattle.lq_model.proofs.Lists.{named_itself}
use Rattle.lq_keyops.proofs.TableLemmas.{any_at}
use Rattle.lq_keyops.proofs.anywhere.table_with.Goals as goal

pub returns-then-is_on : goal.returns-then-is_on
returns-then-is_on c =
    let it = c.entry-item.result in
    any_at (λ e. is_named it.0 e.0 && has_index_in c.args.name.now e.0 e.1.now) c.args.tables.now c.loop-entry.entry-index _ it (omega arith) c.entry-item.is (rw (named_itself it.0) (sym c.is_on.ensures ∙ c.if-is_on.true))
