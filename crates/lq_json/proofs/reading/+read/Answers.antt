use Rattle.std.proofs.Common.{◌≡◌, ◌-◌, ◌<◌, ◌∷◌, ◌++◌, [], length, Some, None, sym, ap, refl, ◌∙◌, append-nil, arith, rules}
use Rattle.json.specs.Json.{parse_map, after_end_array, read_key, items, members, value}
use Rattle.json.specs.Reads.{token_of}
use Rattle.json.proofs.Grammar.{value-begin_array, value-begin_object, read_key-shorter}
use Rattle.serde_json.specs.Data.{no_members, put}
use Rattle.serde_json.specs.Read.{converted}
use Rattle.lq_json.specs.Trees.{entries_from, tree_from, trees_from}
use Rattle.lq_json.proofs.Turns.{converted-array, converted-object, entries_into, entries_put, item_read, items_over, member_read, members_over, one_more, put_entry}
use Rattle.lq_tree.specs.declared.node.Node.{List as ListNode, Map as MapNode}
use Rattle.lq_json.proofs.reading.+read.Goals as goal

pub read_value-returns-in_ok-read_items-in-BeginArray-clause-tree : goal.read_value-returns-in_ok-read_items-in-BeginArray-clause-tree
read_value-returns-in_ok-read_items-in-BeginArray-clause-tree t c =
    let first : c.args.reader.now ≡ token_of c.in_ok-token.token ∷ c.next.new.self = grind arith in
    let opened = ap (converted tree_from) (ap (value c.args.depth) (first ∙ ap (λ k. token_of k ∷ c.next.new.self) c.in-BeginArray.is) ∙ value-begin_array c.args.depth c.next.new.self (omega arith)) ∙ converted-array (items (value (c.args.depth - 1)) (length c.next.new.self) c.next.new.self) in
    opened ∙ ap (parse_map ListNode) c.in_ok-read_items-in-BeginArray.ensures.trees

pub read_value-returns-in_ok-read_members-in-BeginObject-clause-tree : goal.read_value-returns-in_ok-read_members-in-BeginObject-clause-tree
read_value-returns-in_ok-read_members-in-BeginObject-clause-tree t c =
    let first : c.args.reader.now ≡ token_of c.in_ok-token.token ∷ c.next.new.self = grind arith in
    let opened = ap (converted tree_from) (ap (value c.args.depth) (first ∙ ap (λ k. token_of k ∷ c.next.new.self) c.in-BeginObject.is) ∙ value-begin_object c.args.depth c.next.new.self (omega arith)) ∙ converted-object (members (value (c.args.depth - 1)) (length c.next.new.self) c.next.new.self) in
    opened ∙ ap (parse_map MapNode) c.in_ok-read_members-in-BeginObject.ensures.entries

pub read_items-items-preserved : goal.read_items-items-preserved
read_items-items-preserved t c =
    let p = value c.args.depth in
    let l = c.items in
    let n = l.invariant.0 in
    let going : (after_end_array l.reader ≡ None) × (c.take_end_array.new.self ≡ l.reader) = grind arith in
    let done = c.in_ok-node.ensures in
    let node = c.in_ok-node.node in
    let r = c.read_value.new.reader in
    let less : length r < length l.reader = rw (← going.1) done.shorter in
    let turn = item_read p n l.reader r node (omega (arith, l.invariant.1)) going.0 (rw (← going.1) done.tree) in
    let pushed : c.push.new.self ≡ l.nodes ++ node ∷ [] = search rules in (
      n - 1,
      omega (arith, l.invariant.1),
      l.invariant.2 ∙ ap (parse_map (λ more. l.nodes ++ more)) turn ∙ one_more l.nodes node _ ∙ ap (λ ns. parse_map (λ more. ns ++ more) (converted trees_from (items p (n - 1) r))) (sym pushed),
      omega (arith, l.invariant.3),
    )

pub read_items-returns-clause-trees : goal.read_items-returns-clause-trees
read_items-returns-clause-trees t c =
    let p = value c.args.depth in
    let l = c.items in
    let r = c.take_end_array.new.self in
    l.invariant.2 ∙ ap (parse_map (λ more. l.nodes ++ more)) (items_over p l.invariant.0 l.reader r l.invariant.1 (grind arith)) ∙ ap (λ ns. Some (ns, r)) (append-nil l.nodes)

pub read_members-members-init : goal.read_members-members-init
read_members-members-init t c = (length c.args.reader.now, omega arith, (no_members, ap Some (sym c.new-entries.ensures.items), refl), omega arith)

pub read_members-members-preserved : goal.read_members-members-preserved
read_members-members-preserved t c =
    let p = value c.args.depth in
    let l = c.members in
    let n = l.invariant.0 in
    let old = l.invariant.2.0 in
    let k = c.in-Some.name.now in
    let s = c.next_key.new.self in
    let node = c.in_ok-node.node in
    let r = c.read_value.new.reader in
    let named : read_key l.reader ≡ Some (Some k, s) = grind arith in
    let less = read_key-shorter l.reader (Some k) s named in
    let done = c.in_ok-node.ensures in
    let lesser = done.shorter in
    let turn = member_read p old n k l.reader s r node (omega (arith, l.invariant.1)) named done.tree in
    let copied : c.in_ok-key.key ≡ k = search rules in
    let is_put : c.put.new.entries.items ≡ put_entry c.in_ok-key.key node l.entries.items = search rules in
    let goes = entries_put k turn.0 node turn.1 old l.entries.items l.invariant.2.1 in (
      n - 1,
      omega (arith, l.invariant.1),
      (put k turn.0 old, goes ∙ ap Some (sym (is_put ∙ ap (λ key. put_entry key node l.entries.items) copied)), l.invariant.2.2 ∙ turn.2),
      omega (arith, l.invariant.3),
    )

pub read_members-returns-clause-entries : goal.read_members-returns-clause-entries
read_members-returns-clause-entries t c =
    let p = value c.args.depth in
    let l = c.members in
    let over = members_over p l.invariant.2.0 l.invariant.0 l.reader c.next_key.new.self l.entries.items l.invariant.2.1 l.invariant.1 (grind arith) in
    l.invariant.2.2 ∙ over ∙ ap (λ es. Some (es, c.next_key.new.self)) (sym c.from_vec.ensures)

pub read_value-returns-in_ok-node-in_default-clause-tree : goal.read_value-returns-in_ok-node-in_default-clause-tree
read_value-returns-in_ok-node-in_default-clause-tree t c =
    let first : c.args.reader.now ≡ token_of c.in_ok-token.token ∷ c.next.new.self = grind arith in
    c.in_ok-node-in_default.ensures c.args.depth _ _ first
