use Rattle.std.proofs.Common.{[], Some, ap, ◌∷◌}
use Rattle.std.specs.Prelude.{codes, map}
use Rattle.lq_base.specs.Name.{text_of}
use Rattle.lq_tree.specs.declared.node.Node.{List as ListNode, Map as MapNode, Text as TextNode}
use Rattle.lq_generate.specs.Created.{column_tree}
use Rattle.lq_generate.specs.Types.{schema_at}
use Rattle.lq_generate.proofs.Laid.{three}
use Rattle.lq_generate.proofs.created.created_tree.Goals as goal

pub returns : goal.returns
returns c =
    let t = c.args.table.now in
    let it = c.args.held.now.now in
    rw (c.in_ok-named.ensures, c.in_ok-placed.ensures, c.in_ok-listed.ensures, c.in_ok-columns.ensures, c.new.ensures, c.text.ensures.value, c.key.ensures, c.columns.ensures)
    (ap MapNode (three ((codes "columns", Some (ListNode (map (column_tree c.args.dialect it.key) it.columns))) ∷ []) ((codes "schemaName", schema_at t) ∷ []) ((codes "tableName", Some (TextNode (text_of t))) ∷ [])))
