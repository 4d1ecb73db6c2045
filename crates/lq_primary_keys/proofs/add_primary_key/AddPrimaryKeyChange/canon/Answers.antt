use Rattle.lq_primary_keys.proofs.add_primary_key.AddPrimaryKeyChange.canon.Goals as goal

pub returns-clause-written : goal.returns-clause-written
returns-clause-written c = rw (← c.text.ensures.value, ← c.as_slice.ensures, ← c.name_field.ensures, ← c.schema_field.ensures) c.write_change.ensures.written
