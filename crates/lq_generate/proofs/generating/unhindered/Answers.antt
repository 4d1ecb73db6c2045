use Rattle.std.proofs.Common.{Ok, subst, sym, ◌≡◌}
use Rattle.std.specs.Prelude.{IfOk}
use Rattle.lq_jsontext.specs.JsonText.{IsWritable}
use Rattle.lq_tree.specs.Json.{json_tree}
use Rattle.lq_generate.specs.Faults.{tables_in, with_tables}
use Rattle.lq_generate.proofs.Outcome.{sized_generates}
use Rattle.lq_generate.proofs.generating.unhindered.Goals as goal

pub returns-clause-generates : goal.returns-clause-generates
returns-clause-generates c =
    sized_generates c.args.dialect c.args.author.now (with_tables c.args.parts.now.now (tables_in c.args.tables.now)) c.in_ok-tree.tree c.sized.result c.in_ok-tree.ensures (sym c.requires) c.sized.ensures.sized

pub returns-clause-reads : goal.returns-clause-reads
returns-clause-reads c =
    subst (λ t. IfOk c.sized.result (λ text. IsWritable t → json_tree text ≡ Ok t)) c.in_ok-tree.ensures c.sized.ensures.reads
