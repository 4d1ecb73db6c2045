use Rattle.std.proofs.Common.{◌≡◌, ◌++◌, drop, map}
use Rattle.serde_json.specs.Data.{no_members}
use Rattle.serde_json.specs.View.{members_view, view}
use Rattle.lq_jsontext.specs.JsonText.{data_of, entry_data, members_from}
use Rattle.lq_jsontext.proofs.writing.+value.Given as goal

abbrev pub invariant-values_of-loop-node : goal.invariant-values_of-loop-node
invariant-values_of-loop-node l = map view l.values.items ++ map data_of (drop l.node-index l.nodes) ≡ map data_of l.nodes

abbrev pub invariant-members_of-loop-entry : goal.invariant-members_of-loop-entry
invariant-members_of-loop-entry l = members_from (map entry_data (drop l.entry-index l.entries)) (members_view l.members.entries) ≡ members_from (map entry_data l.entries) no_members
