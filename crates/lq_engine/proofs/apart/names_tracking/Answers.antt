use Rattle.lq_engine.proofs.ApartLemmas.{tracking_are}
use Rattle.lq_engine.proofs.apart.names_tracking.Goals as goal

pub returns : goal.returns
returns c =
    rw (c.object_named.ensures, c.table_names_tracking.ensures, c.one_shows.ensures, c.views.ensures) (tracking_are c.args.parts.now.now c.requires)
