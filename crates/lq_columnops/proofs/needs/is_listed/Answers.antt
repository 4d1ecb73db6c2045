use Rattle.std.proofs.Common.{sym}
use Rattle.lq_columnops.proofs.NeedLemmas.{listed_is}
use Rattle.lq_columnops.proofs.needs.is_listed.Goals as goal

pub returns : goal.returns
returns c = rw (c.key_has.ensures, c.unique_has.ensures, c.index_has.ensures, c.key.ensures, c.uniques.ensures, c.indexes.ensures) (sym (listed_is c.args.column.now c.args.held.now.now))
