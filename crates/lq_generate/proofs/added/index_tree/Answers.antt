use Rattle.std.proofs.Common.{[], Some, ap, ◌∷◌}
use Rattle.std.specs.Prelude.{codes, map}
use Rattle.lq_base.specs.Name.{text_of}
use Rattle.lq_tree.specs.declared.node.Node.{List as ListNode, Map as MapNode, Text as TextNode}
use Rattle.lq_generate.specs.Created.{index_column_tree, if_true}
use Rattle.lq_generate.specs.Types.{schema_at}
use Rattle.lq_generate.proofs.Laid.{four}
use Rattle.lq_generate.proofs.added.index_tree.Goals as goal

pub returns : goal.returns
returns c =
    let x = c.args.index.now in
    let t = c.args.table.now in
    rw (c.in_ok-marked.ensures, c.in_ok-placed.ensures, c.in_ok-within.ensures, c.in_ok-named.ensures, c.in_ok-listed.ensures, c.in_ok-columns.ensures, c.new.ensures, c.text.ensures.value, c.as_key.ensures.value, c.as_slice.ensures, c.true_if.ensures)
    (ap MapNode (four ((codes "columns", Some (ListNode (map index_column_tree x.columns))) ∷ (codes "indexName", Some (TextNode x.name)) ∷ []) ((codes "schemaName", schema_at t) ∷ []) ((codes "tableName", Some (TextNode (text_of t))) ∷ []) ((codes "unique", if_true x.unique) ∷ [])))
