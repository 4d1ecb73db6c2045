use Rattle.std.proofs.Common.{[], Some, ◌∷◌}
use Rattle.std.specs.Prelude.{codes}
use Rattle.lq_base.specs.Name.{text_of}
use Rattle.lq_tree.specs.declared.node.Node.{Text as TextNode}
use Rattle.lq_generate.specs.Created.{if_cascade, listed}
use Rattle.lq_generate.specs.Types.{schema_at}
use Rattle.lq_generate.proofs.Laid.{four}
use Rattle.lq_generate.proofs.added.foreign_front.Goals as goal

pub returns : goal.returns
returns c =
    let f = c.args.foreign.now in
    let t = c.args.table.now in
    rw (c.in_ok-bound.ensures, c.in_ok-deleted.ensures, c.in_ok-named.ensures, c.in_ok-within.ensures, c.in_ok-placed.ensures, c.in_ok-keyed.ensures, c.in_ok-columns.ensures, c.new.ensures, c.text.ensures.value, c.as_key.ensures.value, c.as_slice.ensures)
    (four ((codes "baseColumnNames", Some (TextNode (listed f.columns))) ∷ (codes "baseTableName", Some (TextNode (text_of t))) ∷ []) ((codes "baseTableSchemaName", schema_at t) ∷ []) ((codes "constraintName", Some (TextNode f.name)) ∷ []) ((codes "onDelete", if_cascade f.cascade) ∷ []))
