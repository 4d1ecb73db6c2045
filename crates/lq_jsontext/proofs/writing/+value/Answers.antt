use Rattle.std.proofs.Common.{ap, sym, ◌∙◌, ◌≡◌}
use Rattle.serde_json.proofs.Views.{view-Array, view-Object}
use Rattle.serde_json.specs.Data.{array, object}
use Rattle.serde_json.specs.View.{items_of}
use Rattle.lq_tree.specs.declared.node.Node.{List as ListNode, Map as MapNode}
use Rattle.lq_jsontext.specs.JsonText.{data_of}
use Rattle.lq_jsontext.proofs.Trees.{data_list, data_map}
use Rattle.lq_jsontext.proofs.writing.+value.Goals as goal

pub value_of-returns-in_ok-values_of-in-List : goal.value_of-returns-in_ok-values_of-in-List
value_of-returns-in_ok-values_of-in-List t c =
    let same : c.args.node.now ≡ ListNode c.as_slice.result.now = rw c.as_slice.ensures c.in-List.is in
    view-Array c.in_ok-values_of-in-List.field-0 ∙ ap (λ ds. array (items_of ds)) c.in_ok-values_of-in-List.ensures ∙ sym (data_list c.as_slice.result.now) ∙ ap data_of (sym same)

pub value_of-returns-in_ok-members_of-in-Map : goal.value_of-returns-in_ok-members_of-in-Map
value_of-returns-in_ok-members_of-in-Map t c =
    let same : c.args.node.now ≡ MapNode c.as_slice-in-Map.result.now = rw c.as_slice-in-Map.ensures c.in-Map.is in
    view-Object c.in_ok-members_of-in-Map.field-0 ∙ ap object c.in_ok-members_of-in-Map.ensures ∙ sym (data_map c.as_slice-in-Map.result.now) ∙ ap data_of (sym same)
