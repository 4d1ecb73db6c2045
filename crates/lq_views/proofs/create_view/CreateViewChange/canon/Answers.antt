use Rattle.lq_views.proofs.create_view.CreateViewChange.canon.Goals as goal

pub returns-clause-written : goal.returns-clause-written
returns-clause-written c = rw (← c.text.ensures, ← c.truth_field.ensures) c.write_change.ensures.written
