use Rattle.std.proofs.Common.{◌≡◌, ◌∙◌, ap, map, sym, rules}
use Rattle.lq_sources.specs.Items.{filled}
use Rattle.lq_sources.proofs.Plain.{one_more}
use Rattle.lq_sources.proofs.StillSmall.{filled_list, filled_map}
use Rattle.lq_tree.specs.declared.node.Node.{List as ListNode, Map as MapNode}
use Rattle.lq_sources.proofs.values.+plain.Goals as goal

pub are_plain-loop-node-preserved : goal.are_plain-loop-node-preserved
are_plain-loop-node-preserved t c = λ value rest.
    c.loop-node.invariant value (one_more (filled value) c.args.nodes.now c.loop-node.node-index c.node-item.result c.loop-node-test.true c.node-item.is (c.is_plain.ensures value (search rules)) rest)

pub have_plain-loop-entry-preserved : goal.have_plain-loop-entry-preserved
have_plain-loop-entry-preserved t c = λ value rest.
    c.loop-entry.invariant value (one_more (λ e. (e.0, filled value e.1)) c.args.entries.now c.loop-entry.entry-index c.entry-item.result c.loop-entry-test.true c.entry-item.is (ap (λ n. (c.entry-item.result.0, n)) (c.is_plain.ensures value (search rules))) rest)

pub is_plain-returns-in-List : goal.is_plain-returns-in-List
is_plain-returns-in-List t c = λ value is.
    let same : map (filled value) c.in-List.nodes ≡ c.in-List.nodes = ap (map (filled value)) (sym c.as_slice.ensures) ∙ c.are_plain.ensures value is ∙ c.as_slice.ensures in
    ap (filled value) c.in-List.is ∙ filled_list value c.in-List.nodes ∙ ap (λ ns. ListNode ns) same ∙ sym c.in-List.is

pub is_plain-returns-in-Map : goal.is_plain-returns-in-Map
is_plain-returns-in-Map t c = λ value is.
    let same : map (λ e. (e.0, filled value e.1)) c.in-Map.entries ≡ c.in-Map.entries = ap (map (λ e. (e.0, filled value e.1))) (sym c.as_slice-in-Map.ensures) ∙ c.have_plain.ensures value is ∙ c.as_slice-in-Map.ensures in
    ap (filled value) c.in-Map.is ∙ filled_map value c.in-Map.entries ∙ ap (λ es. MapNode es) same ∙ sym c.in-Map.is
