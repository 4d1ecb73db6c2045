use Rattle.lq_engine.specs.State.{is_sought}
use Rattle.lq_engine.proofs.ApartLemmas.{objects_are}
use Rattle.lq_engine.proofs.apart.object_named.Goals as goal

pub returns : goal.returns
returns c =
    rw (c.table_named.ensures, c.one_view.ensures, c.one_sequence.ensures, c.views.ensures, c.sequences.ensures) (objects_are (is_sought c.args.sought) c.args.parts.now.now c.requires)
