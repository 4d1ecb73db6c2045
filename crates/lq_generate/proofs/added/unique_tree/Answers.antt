use Rattle.std.proofs.Common.{[], Some, ap, ◌∷◌}
use Rattle.std.specs.Prelude.{codes}
use Rattle.lq_base.specs.Name.{text_of}
use Rattle.lq_tree.specs.declared.node.Node.{Map as MapNode, Text as TextNode}
use Rattle.lq_generate.specs.Created.{listed}
use Rattle.lq_generate.specs.Types.{schema_at}
use Rattle.lq_generate.proofs.Laid.{three}
use Rattle.lq_generate.proofs.added.unique_tree.Goals as goal

pub returns : goal.returns
returns c =
    let u = c.args.unique.now in
    let t = c.args.table.now in
    rw (c.in_ok-placed.ensures, c.in_ok-within.ensures, c.in_ok-named.ensures, c.in_ok-keyed.ensures, c.in_ok-columns.ensures, c.new.ensures, c.text.ensures.value, c.as_key.ensures.value, c.as_slice.ensures)
    (ap MapNode (three ((codes "columnNames", Some (TextNode (listed u.columns))) ∷ (codes "constraintName", Some (TextNode u.name)) ∷ []) ((codes "schemaName", schema_at t) ∷ []) ((codes "tableName", Some (TextNode (text_of t))) ∷ [])))
