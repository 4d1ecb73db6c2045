use Rattle.std.proofs.Common.{◌≡◌, ◌∙◌, Ok, Some, [], ap, arith, rules, cond, None}
use Rattle.std.proofs.lemmas.Str.{is_utf8-from_IsUtf8}
use Rattle.std.specs.Str.{is_utf8, IsUtf8}
use Rattle.json.specs.Json.{value}
use Rattle.json.specs.Lex.{tokens}
use Rattle.serde_json.specs.Read.{converted, read}
use Rattle.lq_json.specs.Trees.{tree_from}
use Rattle.lq_json.proofs.Turns.{whole_read}
use Rattle.lq_tree.specs.Json.{tree_or_fault}
use Rattle.lq_json.proofs.reading.tree_of.Goals as goal

pub returns : goal.returns
returns c =
    let bytes = c.args.bytes.now in
    let text : (c.in_ok-text.text.now ≡ bytes) × IsUtf8 bytes = search rules in
    let begun : c.in_ok-reader.reader ≡ tokens c.in_ok-text.text.now = search rules in
    let ended : c.read_value.new.reader ≡ [] = search rules in
    let read_all : converted tree_from (value 127 (tokens bytes)) ≡ Some (c.in_ok-node.node, []) =
    rw (← text.0, ← begun) (c.in_ok-node.ensures.tree ∙ ap (λ rest. Some (c.in_ok-node.node, rest)) ended) in
    ap (λ is. tree_or_fault (cond is (read bytes) None)) (is_utf8-from_IsUtf8 bytes text.1) ∙ whole_read (value 127 (tokens bytes)) c.in_ok-node.node read_all
