use Rattle.std.proofs.Common.{◌∙◌, List, ℕ, ap, codes}
use Rattle.lq_tree.specs.declared.node.Node.{Map as MapNode, Node}
use Rattle.lq_sqltree.specs.SqlTree.{change_set, elsewhere, heading, here}
use Rattle.lq_sqltree.proofs.Pushed.{pushed_three, same_three}
use Rattle.lq_sqltree.proofs.change_set.change_set.Goals as goal

pub returns : goal.returns
unfolding change_set
returns c =
    let parts = pushed_three c.new-parts.result c.push_entry.new.to c.push_entry-2.new.to c.push_entry-3.new.to
    (codes "heading", c.in_ok-heading.field-0) (codes "elsewhere", c.in_ok-elsewhere.field-0) (codes "here", c.in_ok-here.field-0)
    c.new-parts.ensures c.in_ok-push_entry.ensures c.in_ok-push_entry-2.ensures c.in_ok-push_entry-3.ensures in
    let meant = same_three (codes "heading") (codes "elsewhere") (codes "here") c.in_ok-heading.field-0 c.in_ok-elsewhere.field-0 c.in_ok-here.field-0
    (heading c.args.set.now) (elsewhere c.args.logical.now c.args.set.now) (here c.args.logical.now c.args.set.now)
    c.in_ok-heading.ensures c.in_ok-elsewhere.ensures c.in_ok-here.ensures in
    ap (λ (es : List (List ℕ × Node)). MapNode es) (parts ∙ meant)
