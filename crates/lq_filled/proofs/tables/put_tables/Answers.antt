use Rattle.std.proofs.Common.{List, ap, ◌++◌, ◌∙◌}
use Rattle.std.specs.FinMap.Entries.{is_sorted}
use Rattle.lq_base.specs.Name.{name_cmp}
use Rattle.lq_base.specs.declared.name.Name.{Name}
use Rattle.lq_model.specs.Catalogue.{Table}
use Rattle.lq_filled.proofs.Behind.{twice_turned}
use Rattle.lq_filled.proofs.tables.put_tables.Goals as goal
use Rattle.lq_filled.specs.With.{with_tables}

pub put_all-requires : goal.put_all-requires
put_all-requires c =
    let there = c.args.parts.now.now in
    ap (λ (es : List (Name × Table)). is_sorted name_cmp (there.tables ++ es)) (twice_turned c.args.tables c.in_ok-last_first.last_first c.in_ok-last_first.ensures) ∙ c.requires

pub returns : goal.returns
returns c =
    let there = c.args.parts.now.now in
    c.in_ok-put_all.ensures
    ∙ ap (λ (es : List (Name × Table)). with_tables (there.tables ++ es) there) (twice_turned c.args.tables c.in_ok-last_first.last_first c.in_ok-last_first.ensures)
