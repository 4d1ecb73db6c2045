use Rattle.std.proofs.Common.{[], Some, None, ap, ◌∷◌}
use Rattle.std.specs.Prelude.{codes, false, if◌then◌else◌}
use Rattle.std.specs.Option.{option_copied, option_map}
use Rattle.lq_base.specs.declared.name.Name.{Name}
use Rattle.lq_tree.specs.declared.node.Node.{Map as MapNode, Text as TextNode, Truth as TruthNode}
use Rattle.lq_generate.specs.Created.{if_true, key_name_of}
use Rattle.lq_generate.proofs.Laid.{three}
use Rattle.lq_generate.proofs.created.constraints_map.Goals as goal

pub returns : goal.returns
returns c =
    let x = c.args.column.now in
    rw (c.in_ok-named.ensures, c.in_ok-primary.ensures, c.in_ok-firm.ensures, c.new.ensures, c.false_unless.ensures, c.true_if.ensures, c.key_name.ensures)
    (ap MapNode (three ((codes "nullable", if x.nullable then None else Some (TruthNode false)) ∷ []) ((codes "primaryKey", if_true x.numbered) ∷ []) ((codes "primaryKeyName", option_map (λ (n : Name). TextNode n) (key_name_of c.args.dialect (option_copied c.args.key) x)) ∷ [])))
