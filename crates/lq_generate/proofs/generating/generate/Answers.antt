use Rattle.std.proofs.Common.{ap, subst, ◌∙◌}
use Rattle.std.specs.Prelude.{IfOk}
use Rattle.lq_generate.specs.Faults.{Generates, IsReadBack, tables_in, with_tables}
use Rattle.lq_generate.proofs.generating.generate.Goals as goal

pub returns-clause-generates : goal.returns-clause-generates
returns-clause-generates c =
    subst (λ ts. Generates c.args.dialect c.args.author.now (with_tables c.args.parts.now.now ts) c.generated.result) (ap tables_in c.as_slice.ensures.value ∙ c.in_ok-tables.ensures) c.generated.ensures.generates

pub returns-clause-reads : goal.returns-clause-reads
returns-clause-reads c =
    subst (λ ts. IfOk c.generated.result (λ text. IsReadBack c.args.dialect c.args.author.now (with_tables c.args.parts.now.now ts) text)) (ap tables_in c.as_slice.ensures.value ∙ c.in_ok-tables.ensures) c.generated.ensures.reads
