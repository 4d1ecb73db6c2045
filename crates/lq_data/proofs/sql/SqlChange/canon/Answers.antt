use Rattle.lq_data.proofs.sql.SqlChange.canon.Goals as goal

pub returns-clause-written : goal.returns-clause-written
returns-clause-written c = rw (← c.sql.ensures, ← c.split_statements.ensures, ← c.end_delimiter.ensures) c.write_change.ensures.written
