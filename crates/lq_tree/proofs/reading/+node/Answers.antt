use Rattle.std.proofs.Common.{rules, ◌≡◌, ◌∙◌, refl, string_bytes}
use Rattle.serde_json.specs.View.{view}
use Rattle.lq_tree.specs.Json.{tree_of}
use Rattle.lq_tree.proofs.Prefix.{prefix_step}
use Rattle.lq_tree.proofs.reading.+node.Goals as goal

pub entries_of-loop-key-preserved : goal.entries_of-loop-key-preserved
entries_of-loop-key-preserved t c =
    let named : c.in_ok-name.name ≡ string_bytes c.in-Some.key.now = search rules in
    rw (c.in_ok-push.ensures.ok, named)
    (prefix_step _ _ (λ n. (string_bytes c.in-Some.key.now, n)) _ (tree_of (view c.in-Some.value.now)) _ c.in_ok-node.ensures.ok (c.loop-key.invariant ∙ rw c.in-Some.ensures.steps refl))
