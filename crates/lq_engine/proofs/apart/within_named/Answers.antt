use Rattle.lq_model.specs.NameSpaces.{is_tracking}
use Rattle.lq_engine.proofs.ApartLemmas.{within_are}
use Rattle.lq_engine.proofs.apart.within_named.Goals as goal

pub returns : goal.returns
returns c =
    rw (c.inner_named.ensures, c.foreign_named.ensures, c.foreign_aimed.ensures, c.foreign_keys.ensures, c.foreign_keys-2.ensures) (within_are is_tracking c.args.held.now.now)
