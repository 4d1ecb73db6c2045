-- What is written of a tree, with a line feed behind it, is read as that tree.
use Rattle.std.proofs.Common.{◌≡◌, ◌∙◌, ◌≤◌, ℕ, true, List, [], ◌∷◌, ◌++◌, Option, Some, Ok, ap, refl, sym, subst, arith, option_and_then}
use Rattle.std.specs.Str.{is_utf8}
use Rattle.json.specs.Json as json
use Rattle.json.specs.Json.{Items, Json, Members, array, boolean, item, member, no_items, no_members, null, number, object, string}
use Rattle.json.specs.Lex.{tokens}
use Rattle.json.specs.Print.{ArePrintable, ArePrintableOrBad, print}
use Rattle.json.specs.Token.{Token}
use Rattle.json.specs.Tree.{HasNumbers, ItemsHaveNumbers, MembersHaveNumbers, items_tokens, json_tokens, members_tokens}
use Rattle.json.proofs.Numbered.{ArePrintableOrBad-tokens}
use Rattle.json.proofs.Printed.Trees.{ArePrintable-json_tokens}
use Rattle.serde_json.specs.Data.{Data, depth}
use Rattle.serde_json.specs.Read.{max_depth, of_json, read}
use Rattle.serde_json.specs.Written.{IsInOrder}
use Rattle.lq_tree.specs.Json.{json_tree, tree_of}
use Rattle.lq_tree.specs.declared.node.Node.{Node}
use Rattle.lq_jsontext.specs.JsonText.{IsWritable, data_of}
use Rattle.lq_jsontext.proofs.Back.{tree_back}
use Rattle.lq_jsontext.proofs.Ended.{tokens_ended}
use Rattle.lq_jsontext.proofs.Levels.{levels_bound}

-- the tokens of a value that was read can be written

front : (ts us : List Token) → ArePrintableOrBad (ts ++ us) → ArePrintableOrBad ts
front [] us h = tt
front (t ∷ ts) us h = (h.0, front ts us h.1)

behind : (ts us : List Token) → ArePrintableOrBad (ts ++ us) → ArePrintableOrBad us
behind [] us h = h
behind (t ∷ ts) us h = behind ts us h.1

mutual
  numbers : (j : Json) → ArePrintableOrBad (json_tokens j) → HasNumbers j
  numbers null h = tt
  numbers (boolean b) h = tt
  numbers (number s) h = h.0
  numbers (string s) h = tt
  numbers (array js) h = item_numbers js h.1
  numbers (object ms) h = member_numbers ms h.1

  item_numbers : (js : Items) → ArePrintableOrBad (items_tokens js) → ItemsHaveNumbers js
  item_numbers no_items h = tt
  item_numbers (item j js) h = (numbers j (front (json_tokens j) (items_tokens js) h), item_numbers js (behind (json_tokens j) (items_tokens js) h))

  member_numbers : (ms : Members) → ArePrintableOrBad (members_tokens ms) → MembersHaveNumbers ms
  member_numbers no_members h = tt
  member_numbers (member k j ms) h = (numbers j (front (json_tokens j) (members_tokens ms) h.1), member_numbers ms (behind (json_tokens j) (members_tokens ms) h.1))

printable : (text : List ℕ) (d : Data) → IsInOrder text d → ArePrintable (tokens text)
printable text d order =
    subst ArePrintable (sym order.1) (ArePrintable-json_tokens order.0 (numbers order.0 (subst ArePrintableOrBad order.1 (ArePrintableOrBad-tokens text))))

ended : (text : List ℕ) → text ≡ print (tokens text) → ArePrintable (tokens text) → tokens (text ++ 10 ∷ []) ≡ tokens text
ended text compact h = ap (λ t. tokens (t ++ 10 ∷ [])) compact ∙ tokens_ended (tokens text) h ∙ ap tokens (sym compact)

abbrev of_tokens : List Token → Option Data
of_tokens ts = option_and_then of_json (option_and_then (λ p. json.if_last p.0 p.1) (json.value max_depth ts))

read_ended : (text : List ℕ) (d : Data) → IsInOrder text d → text ≡ print (tokens text) → read (text ++ 10 ∷ []) ≡ read text
read_ended text d order compact = ap of_tokens (ended text compact (printable text d order))

tree_is : (bytes : List ℕ) (d : Data) (n : Node) → is_utf8 bytes ≡ true → read bytes ≡ Some d → tree_of d ≡ Some n → json_tree bytes ≡ Ok n
tree_is bytes d n utf8 is tree = rw (utf8, is, tree) refl

pub read_back : (n : Node) (text : List ℕ)
    → IsInOrder text (data_of n)
    → text ≡ print (tokens text)
    → (depth (data_of n) ≤ max_depth → read text ≡ Some (data_of n))
    → is_utf8 (text ++ 10 ∷ []) ≡ true
    → IsWritable n
    → json_tree (text ++ 10 ∷ []) ≡ Ok n
read_back n text order compact reads utf8 can =
    tree_is (text ++ 10 ∷ []) (data_of n) n utf8 (read_ended text (data_of n) order compact ∙ reads (omega (arith, levels_bound n, can.shallow))) (tree_back n can.ordered can.held)
