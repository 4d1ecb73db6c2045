use Rattle.lq_primary_keys.proofs.drop_primary_key.DropPrimaryKeyChange.canon.Goals as goal

pub returns-clause-written : goal.returns-clause-written
returns-clause-written c = rw (← c.text.ensures.value, ← c.name_field.ensures, ← c.schema_field.ensures) c.write_change.ensures.written
