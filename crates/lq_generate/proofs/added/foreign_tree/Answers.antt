use Rattle.std.proofs.Common.{[], Some, ap, ◌∷◌}
use Rattle.std.specs.Prelude.{codes}
use Rattle.lq_base.specs.Name.{text_of}
use Rattle.lq_tree.specs.declared.node.Node.{Map as MapNode, Text as TextNode}
use Rattle.lq_generate.specs.Created.{foreign_front, listed}
use Rattle.lq_generate.specs.Types.{schema_at}
use Rattle.lq_generate.proofs.Laid.{four}
use Rattle.lq_generate.proofs.added.foreign_tree.Goals as goal

pub returns : goal.returns
returns c =
    let f = c.args.foreign.now in
    rw (c.in_ok-within.ensures, c.in_ok-placed.ensures, c.in_ok-aimed.ensures, c.in_ok-front.ensures, c.in_ok-targets.ensures, c.text.ensures.value, c.as_slice.ensures)
    (ap MapNode (four (foreign_front c.args.table.now f) ((codes "referencedColumnNames", Some (TextNode (listed f.targets))) ∷ []) ((codes "referencedTableName", Some (TextNode (text_of f.table))) ∷ []) ((codes "referencedTableSchemaName", schema_at f.table) ∷ [])))
