use Rattle.lq_objectops.proofs.Objects.{view_gone, view_replaced}
use Rattle.lq_objectops.proofs.creating.set_view.Goals as goal

pub put_view-requires-2 : goal.put_view-requires-2
put_view-requires-2 c = rw (c.in_ok-take_view.ensures.ok) (view_gone c.args.name c.args.parts.now.now c.requires)

pub returns-clause-now : goal.returns-clause-now
returns-clause-now c = rw (c.in_ok-put_view-2.ensures.ok, c.in_ok-take_view.ensures.ok) (view_replaced c.args.name c.args.parts.now.now c.args.view c.requires)
