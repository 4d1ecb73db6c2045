use Rattle.lq_generate.specs.Faults.{place_in, tables_in, with_tables}
use Rattle.lq_generate.proofs.Outcome.{told_generates}
use Rattle.lq_generate.proofs.generating.hindered.Goals as goal

pub returns-clause-generates : goal.returns-clause-generates
returns-clause-generates c =
    told_generates c.args.dialect c.args.author.now (with_tables c.args.parts.now.now (tables_in c.args.tables.now)) (place_in c.args.place) c.not_writable.result c.requires c.not_writable.ensures
