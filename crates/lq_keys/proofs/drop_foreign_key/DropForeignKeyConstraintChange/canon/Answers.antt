use Rattle.lq_keys.proofs.drop_foreign_key.DropForeignKeyConstraintChange.canon.Goals as goal

pub returns-clause-written : goal.returns-clause-written
returns-clause-written c = rw (← c.text.ensures.value, ← c.as_key.ensures.value, ← c.schema_field.ensures) c.write_change.ensures.written
