use Rattle.lq_engine.specs.State.{is_sought}
use Rattle.lq_engine.proofs.ApartLemmas.{inner_are}
use Rattle.lq_engine.proofs.apart.inner_named.Goals as goal

pub returns : goal.returns
returns c =
    rw (c.key_named.ensures, c.unique_named.ensures, c.index_named.ensures, c.key.ensures, c.uniques.ensures, c.indexes.ensures) (inner_are (is_sought c.args.sought) c.args.held.now.now)
