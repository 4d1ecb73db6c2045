use Rattle.lq_keys.proofs.add_foreign_key.AddForeignKeyConstraintChange.canon.Goals as goal

pub returns-clause-written : goal.returns-clause-written
returns-clause-written c = rw (← c.as_key.ensures.value, ← c.text.ensures.value, ← c.as_slice.ensures, ← c.text-2.ensures.value, ← c.as_slice-2.ensures, ← c.on_delete_field.ensures, ← c.schema_field.ensures, ← c.schema_field-2.ensures) c.write_change.ensures.written
