use Rattle.lq_tableops.proofs.naming.clashes.Goals as goal

pub returns-in-Postgresql-clause-found : goal.returns-in-Postgresql-clause-found
returns-in-Postgresql-clause-found c = rw (c.in-Postgresql.is) c.clashes_shared.ensures.found

pub returns-in-Mysql-clause-found : goal.returns-in-Mysql-clause-found
returns-in-Mysql-clause-found c = rw (c.in-Mysql.is) c.clashes_apart.ensures.found
