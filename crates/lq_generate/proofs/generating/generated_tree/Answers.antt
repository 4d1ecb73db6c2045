use Rattle.std.proofs.Common.{[], ap, ◌∷◌}
use Rattle.std.specs.List.{flat_map}
use Rattle.std.specs.Prelude.{codes, map}
use Rattle.lq_tree.specs.declared.node.Node.{List as ListNode}
use Rattle.lq_generate.specs.Generated.{first_sets, foreign_items, view_item}
use Rattle.lq_generate.specs.Types.{under}
use Rattle.lq_generate.specs.Faults.{tables_in, with_tables}
use Rattle.lq_generate.proofs.Laid.{sets_three}
use Rattle.lq_generate.proofs.generating.generated_tree.Goals as goal

pub returns : goal.returns
returns c =
    let ts = tables_in c.args.tables.now in
    let now = c.args.parts.now.now in
    rw (c.in_ok-root.ensures, c.in_ok-fifth.ensures, c.in_ok-fourth.ensures, c.in_ok-third.ensures, c.in_ok-foreign.ensures, c.in_ok-views.ensures, c.views.ensures)
    (ap (λ ns. under (codes "databaseChangeLog") (ListNode ns)) (sets_three c.args.author.now (first_sets c.args.dialect (with_tables now ts)) ((codes "4", flat_map foreign_items ts) ∷ []) ((codes "5", map (view_item c.args.dialect) now.views) ∷ [])))
