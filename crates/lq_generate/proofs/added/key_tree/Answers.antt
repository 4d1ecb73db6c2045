use Rattle.std.proofs.Common.{[], Some, ap, ◌∷◌}
use Rattle.std.specs.Prelude.{codes}
use Rattle.lq_base.specs.Name.{text_of}
use Rattle.lq_tree.specs.declared.node.Node.{Map as MapNode, Text as TextNode}
use Rattle.std.specs.Option.{option_map}
use Rattle.lq_base.specs.declared.name.Name.{Name}
use Rattle.lq_generate.specs.Created.{listed, named_in}
use Rattle.lq_generate.specs.Types.{schema_at}
use Rattle.lq_generate.proofs.Laid.{four}
use Rattle.lq_generate.proofs.added.key_tree.Goals as goal

pub returns : goal.returns
returns c =
    let k = c.args.key.now in
    let t = c.args.table.now in
    rw (c.in_ok-placed.ensures, c.in_ok-within.ensures, c.in_ok-named.ensures, c.in_ok-keyed.ensures, c.in_ok-columns.ensures, c.new.ensures, c.text.ensures.value, c.as_slice.ensures, c.named_in.ensures)
    (ap MapNode (four ((codes "columnNames", Some (TextNode (listed k.columns))) ∷ []) ((codes "constraintName", option_map (λ (n : Name). TextNode n) (named_in c.args.dialect (Some k))) ∷ []) ((codes "schemaName", schema_at t) ∷ []) ((codes "tableName", Some (TextNode (text_of t))) ∷ [])))
