use Rattle.std.proofs.Common.{ap, false, is_some, rules, ◌∙◌, ◌≡◌}
use Rattle.lq_base.specs.Name.{is_named}
use Rattle.lq_model.specs.Catalogue.{Catalogue}
use Rattle.lq_chain.specs.History.{History}
use Rattle.lq_model.specs.Tables.{targets_table, with_column_renamed}
use Rattle.lq_renames.proofs.Alone.{left_alone}
use Rattle.lq_renames.proofs.Places.{changed_at, found_at, kept_at}
use Rattle.lq_renames.proofs.shapes.rename_at.Goals as goal

pub returns-then-not-targets_table-clause-ok : goal.returns-then-not-targets_table-clause-ok
returns-then-not-targets_table-clause-ok c =
    let t = c.args.table.now in
    let a = c.args.from.now in
    let b = c.args.to.now in
    let e = c.index-tables-at.result in
    let other : is_named t e.0 ≡ false = search rules in
    let none : targets_table t e.1.now ≡ false = search rules in
    kept_at (λ n. with_column_renamed t (is_named t n) a b) c.args.parts.now.now c.tables.result.now c.args.at e c.tables.ensures c.index-tables-at.is (ap (λ own. with_column_renamed t own a b e.1.now) other ∙ left_alone t a b e.1.now none)

pub shape_table-requires : goal.shape_table-requires
shape_table-requires c = ap is_some (found_at c.args.parts.now.now c.tables.result.now c.args.at c.index-tables-at.result c.in_ok-name.name c.tables.ensures c.requires.ordered c.requires.within c.index-tables-at.is c.in_ok-name.ensures)

pub returns-clause-ok : goal.returns-clause-ok
returns-clause-ok c =
    let t = c.args.table.now in
    let e = c.index-tables-at.result in
    let shaped = c.in_ok-shape.ensures ∙ ap (λ own. with_column_renamed t own c.args.from.now c.args.to.now e.1.now) c.eq-own.ensures in
    ap (λ (h : History Catalogue). h.now) c.in_ok-shape_table.ensures.ok
    ∙ changed_at c.args.parts.now.now c.tables.result.now c.args.at e c.in_ok-name.name c.tables.ensures c.requires.ordered c.requires.within c.index-tables-at.is c.in_ok-name.ensures (λ n. with_column_renamed t (is_named t n) c.args.from.now c.args.to.now) c.in_ok-shape.shape shaped
