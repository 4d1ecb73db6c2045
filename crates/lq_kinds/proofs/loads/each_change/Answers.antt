use Rattle.std.proofs.Common.{ap, length, sym, ◌∙◌, ◌≡◌}
use Rattle.std.specs.Prelude.{codes}
use Rattle.lq_model.proofs.Lists.{all_one_more}
use Rattle.lq_tree.specs.Items.{item_path}
use Rattle.lq_any.specs.AnyChange.{is_for}
use Rattle.lq_kinds.specs.Changes.{change_at}
use Rattle.lq_kinds.proofs.EachChange.{one_more}
use Rattle.lq_kinds.proofs.loads.each_change.Goals as goal

pub loop-node-preserved : goal.loop-node-preserved
loop-node-preserved g c =
    let place : c.as_str.result.now ≡ item_path (codes "changes") (length c.loop-node.changes) = c.as_str.ensures ∙ c.in_ok-path.ensures ∙ ap (item_path (codes "changes")) c.len.ensures in
    let read = ap (λ p. change_at c.args.dialect p c.loop-node.rest.now c.node-item.result) (sym place) ∙ c.in_ok-change.ensures.read in (
      c.loop-node.invariant.0
          ∙ one_more c.args.dialect c.loop-node.changes c.push.new.self c.loop-node.rest.now c.left_by-rest.result.now c.args.nodes.now c.loop-node.node-index c.node-item.result c.in_ok-change.change c.loop-node-test.true c.node-item.is read c.in_ok-push.ensures.ok c.left_by-rest.ensures,
      rw c.in_ok-push.ensures.ok (all_one_more (is_for c.args.dialect) c.loop-node.changes c.in_ok-change.change c.loop-node.invariant.1 c.in_ok-change.ensures.right),
    )
