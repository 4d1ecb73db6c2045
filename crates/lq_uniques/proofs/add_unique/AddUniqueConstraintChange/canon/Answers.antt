use Rattle.lq_uniques.proofs.add_unique.AddUniqueConstraintChange.canon.Goals as goal

pub returns-clause-written : goal.returns-clause-written
returns-clause-written c = rw (← c.text.ensures.value, ← c.as_slice.ensures, ← c.name_field.ensures, ← c.schema_field.ensures) c.write_change.ensures.written
