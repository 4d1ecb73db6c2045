use Rattle.std.proofs.Common.{ap, ◌++◌, ◌∙◌, ◌≡◌}
use Rattle.lq_arm.proofs.Arms.{good}
use Rattle.lq_arm.specs.Verdict.{verdict_of}
use Rattle.lq_model.specs.Catalogue.{the_table, with_table}
use Rattle.lq_model.specs.Tables.{columns_without}
use Rattle.lq_columnops.proofs.Arms as arm
use Rattle.lq_columnops.proofs.RowLemmas as lemma
use Rattle.lq_columnops.proofs.columns.drop_unless.Goals as goal

pub reshape-requires-clause-there : goal.reshape-requires-clause-there
reshape-requires-clause-there c = arm.found c.args.parts.now.now c.args.table.now c.args.tests.now c.requires (good (verdict_of c.args.tests.now) c.verdict.result c.verdict.ensures c.in-Ok.is)

pub returns : goal.returns
returns c =
    let db = c.args.parts.now.now in
    let t = c.args.table.now in
    let n = c.args.column.now in
    let less : c.push_columns_without.new.to ≡ columns_without n c.in_ok-shape.shape.columns = c.in_ok-push_columns_without.ensures ∙ ap (λ xs. xs ++ columns_without n c.as_slice.result.now) c.new-columns.ensures ∙ ap (columns_without n) c.as_slice.ensures in
    lemma.did c.args.tests.now _ c.args.parts.now c.reshape.new.parts c.verdict.result c.verdict.ensures c.in-Ok.is
    (c.in_ok-reshape.ensures.ok ∙ ap (with_table db t) (lemma.less_is (the_table db t) n c.in_ok-by.by.items c.in_ok-shape.shape _ c.in_ok-by.ensures c.in_ok-shape.ensures less)) c.in_ok-reshape.ensures.goes
