use Rattle.std.proofs.Common.{◌≡◌, ◌*◌, ◌++◌, ◌+◌, ◌≤◌, Some, length, ℕ}
use Rattle.json.specs.Json.{items, members, parse_map, value}
use Rattle.serde_json.specs.Data.{Members}
use Rattle.serde_json.specs.Read.{converted}
use Rattle.lq_json.specs.Trees.{entries_from, trees_from}
use Rattle.lq_json.proofs.Turns.{entries_into}
use Rattle.lq_tree.specs.Json.{entries_of}
use Rattle.lq_json.proofs.reading.+read.Given as goal

abbrev pub decreases-read_value : goal.decreases-read_value
decreases-read_value l = 2 * l.depth

abbrev pub decreases-read_items : goal.decreases-read_items
decreases-read_items l = 2 * l.depth + 1

abbrev pub decreases-read_members : goal.decreases-read_members
decreases-read_members l = 2 * l.depth + 1

abbrev pub invariant-read_items-items : goal.invariant-read_items-items
invariant-read_items-items l =
    (n : ℕ) × (length l.reader ≤ n)
    × (converted trees_from (items (value l.depth) (length l.initial.reader) l.initial.reader) ≡ parse_map (λ more. l.nodes ++ more) (converted trees_from (items (value l.depth) n l.reader)))
    × (length l.reader ≤ length l.initial.reader)

abbrev pub decreases-read_items-items : goal.decreases-read_items-items
decreases-read_items-items l = length l.reader

abbrev pub invariant-read_members-members : goal.invariant-read_members-members
invariant-read_members-members l =
    (n : ℕ) × (length l.reader ≤ n)
    × ((old : Members) × (entries_of old ≡ Some l.entries.items)
    × (converted entries_from (members (value l.depth) (length l.initial.reader) l.initial.reader) ≡ converted (entries_into old) (members (value l.depth) n l.reader)))
    × (length l.reader ≤ length l.initial.reader)

abbrev pub decreases-read_members-members : goal.decreases-read_members-members
decreases-read_members-members l = length l.reader
