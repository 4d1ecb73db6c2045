use Rattle.lq_model.specs.NameSpaces.{lock_key}
use Rattle.lq_engine.proofs.ApartLemmas.{shared_are}
use Rattle.lq_engine.proofs.apart.has_key.Goals as goal

pub returns : goal.returns
returns c =
    rw (c.object_named.ensures, c.table_has_key.ensures) (shared_are lock_key c.args.parts.now.now c.requires)
