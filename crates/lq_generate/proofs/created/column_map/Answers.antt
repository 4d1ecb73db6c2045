use Rattle.std.proofs.Common.{[], Some, ap, ◌∷◌}
use Rattle.std.specs.Prelude.{codes}
use Rattle.std.specs.Option.{option_copied}
use Rattle.lq_tree.specs.declared.node.Node.{Map as MapNode, Text as TextNode}
use Rattle.lq_generate.specs.Created.{constraints_at, default_rows, if_true}
use Rattle.lq_generate.specs.Types.{type_text}
use Rattle.lq_generate.proofs.Laid.{five}
use Rattle.lq_generate.proofs.created.column_map.Goals as goal

pub returns : goal.returns
returns c =
    let x = c.args.column.now in
    rw (c.in_ok-typed.ensures, c.in_ok-named.ensures, c.in_ok-valued.ensures, c.in_ok-bound.ensures, c.in_ok-numbered.ensures, c.in_ok-constraints.ensures, c.new.ensures, c.as_key.ensures.value, c.true_if.ensures)
    (ap MapNode (five ((codes "autoIncrement", if_true x.numbered) ∷ []) ((codes "constraints", constraints_at c.args.dialect (option_copied c.args.key) x) ∷ []) (default_rows x.default) ((codes "name", Some (TextNode x.name)) ∷ []) ((codes "type", Some (TextNode (type_text x.kind))) ∷ [])))
