-- The whole numbers of a YAML file have 128 signed bits.
use Rattle.std.proofs.Common.{ap, sym, ◌∙◌}
use Rattle.std.proofs.lemmas.Bool.{and_from, and_parts}
use Rattle.std.proofs.lemmas.List.Folds.{list_all-append}
use Rattle.std.specs.BTreeMap.{insert_entry}
use Rattle.std.specs.List.{list_all}
use Rattle.std.specs.Ordering.{match_ordering}
use Rattle.std.specs.Prelude.{Bool, Err, IfOk, IfSome, List, None, Ok, Option, Result, Some, [], codes, cond, drop, encode_utf8_all, false, if◌then◌else◌, nat_lt, option_and_then, option_map, refl, true, ℕ, ◌&&◌, ◌*◌, ◌+◌, ◌++◌, ◌==◌, ◌||◌, ◌∷◌, ◌≡◌}
use Rattle.std.specs.Str.{bytes_eq, is_utf8}
use Rattle.std.specs.Str.Parse.{signed_digits_value}
use Rattle.std.specs.declared.cmp.Ordering.{Ordering}
use Rattle.std.specs.declared.cmp.Ordering.TheVariants.{Equal, Greater, Less}
use Rattle.lq_base.specs.Name.{text_cmp}
use Rattle.lq_tree.proofs.Says.{IsSo}
use Rattle.lq_tree.proofs.Small.{are_small, have_small, is_small, list_is, map_is, null_small, text_small, truth_small, whole_is}
use Rattle.lq_tree.specs.declared.node.Node.{List as ListNode, Map as MapNode, Node, Null, Text as TextNode, Truth, Whole}
use Rattle.lq_yaml.specs.Tree.{is_nil}
use Rattle.lq_yaml.specs.Machine.{Deep, deep_run, deep_start, deep_step, Cell, Frame, Part, Place, again, add_line, begin, begun, block, cell_node, done, entries, filled, finish, fits, frame, items, made, next, none, open_more, place, put, settled, step, top}
use Rattle.lq_yaml.specs.File.{lines_of, most_levels}
use Rattle.lq_yaml.specs.Layout.{block_text}
use Rattle.lq_yaml.specs.Line.{Lexed, base_of, behind_key, behind_pair, blank_tokens, content_tokens, entry_by, entry_tokens, has_tab, header, is_dash, is_end, is_marker, key, line_by, line_tokens, mode_after, parent_of, scalar_token, tokens_at, value_by, value_if, value_token, value_tokens, without_block, Front, front, scalar_node, begins_with, spaces, trimmed, without_blanks, without_spaces}
use Rattle.lq_yaml.specs.Yaml.{State, file_start, line_step, state, after_line, at_end, lines_tree, text_tree, yaml_tree}
use Rattle.lq_yaml.specs.Meaning.{fits_128, is_whole, plain_node, whole_or_text}
use Rattle.lq_yaml.specs.declared.fault.YamlFault.{YamlFault}
use Rattle.lq_yaml.specs.declared.fault.YamlFault.TheVariants.{NotUtf8, TooDeep}
use Rattle.lq_yaml.specs.declared.mode.Mode.{Mode}
use Rattle.lq_yaml.specs.declared.mode.Mode.TheVariants.{AfterHeader, Between, Fresh, InLiteral}
use Rattle.lq_yaml.specs.declared.token.Chomping.{Chomping}
use Rattle.lq_yaml.specs.declared.token.Head.{Head}
use Rattle.lq_yaml.specs.declared.token.Head.TheVariants.{Dash, Key}
use Rattle.lq_yaml.specs.declared.token.Token.{Token}
use Rattle.lq_yaml.specs.declared.token.Token.TheVariants.{Begin, LiteralHeader, LiteralLine, Value}

map_some : {X Y : Type 0} (P : X → Type 0) (Q : Y → Type 0) (f : X → Y) (o : Option X) → ((x : X) → P x → Q (f x)) → IfSome o P → IfSome (option_map f o) Q
map_some P Q f None to h = tt
map_some P Q f (Some x) to h = to x h

then_some : {X Y : Type 0} (P : X → Type 0) (Q : Y → Type 0) (f : X → Option Y) (o : Option X) → ((x : X) → P x → IfSome (f x) Q) → IfSome o P → IfSome (option_and_then f o) Q
then_some P Q f None to h = tt
then_some P Q f (Some x) to h = to x h

any : {X : Type 0} (o : Option X) → IfSome o (λ _. Unit {0})
any None = tt
any (Some x) = tt

-- ---- scalars

whole_small : (bytes : List ℕ) → is_small (whole_or_text bytes) ≡ true
whole_small bytes = by (is_whole bytes && fits_128 (signed_digits_value 10 bytes)) refl where
  by : (is : Bool) → (is_whole bytes && fits_128 (signed_digits_value 10 bytes)) ≡ is → is_small (if is then Whole (signed_digits_value 10 bytes) else TextNode bytes) ≡ true
  by true is = whole_is (signed_digits_value 10 bytes) ∙ (and_parts (is_whole bytes) (fits_128 (signed_digits_value 10 bytes)) is).1
  by false is = text_small bytes

plain_small : (bytes : List ℕ) → is_small (plain_node bytes) ≡ true
plain_small bytes = by (bytes_eq bytes (codes "null") || bytes_eq bytes (codes "~")) (bytes_eq bytes (codes "true")) (bytes_eq bytes (codes "false")) where
  by : (null yes no_truth : Bool) → is_small (if null then Null else (if yes then Truth true else (if no_truth then Truth false else whole_or_text bytes))) ≡ true
  by true b c = null_small
  by false true c = truth_small true
  by false false true = truth_small false
  by false false false = whole_small bytes

scalar_small : (f : Front) → is_small (scalar_node f) ≡ true
scalar_small f = by f.plain where
  by : (plain : Bool) → is_small (if plain then plain_node (encode_utf8_all f.chars) else TextNode (encode_utf8_all f.chars)) ≡ true
  by true = plain_small (encode_utf8_all f.chars)
  by false = text_small (encode_utf8_all f.chars)

-- ---- tokens

-- its value is small
abbrev token_small : Token → Bool
token_small (Value q v) = is_small v
token_small _ = true

abbrev tokens_small : List Token → Bool
tokens_small ts = list_all token_small ts

if_small : (q : ℕ) (v : Node) (rest : List ℕ) → is_small v ≡ true → IfSome (value_if q v rest) (IsSo token_small)
if_small q v rest small = by (is_end rest) where
  by : (end : Bool) → IfSome (cond end (Some (Value q v)) None) (IsSo token_small)
  by true = small
  by false = tt

scalar_token_small : (q : ℕ) (cs : List ℕ) → IfSome (scalar_token q cs) (IsSo token_small)
scalar_token_small q cs = then_some (λ _. Unit {0}) (IsSo token_small) (λ f. value_if q (scalar_node f) f.rest) (front cs) (λ f _. if_small q (scalar_node f) f.rest (scalar_small f)) (any (front cs))

value_by_small : (q : ℕ) (cs : List ℕ) (list map : Option (List ℕ)) (chomping : Option Chomping) → IfSome (value_by q cs list map chomping) (IsSo token_small)
value_by_small q cs (Some rest) map chomping = if_small q (ListNode []) rest (list_is [])
value_by_small q cs None (Some rest) chomping = if_small q (MapNode []) rest (map_is [])
value_by_small q cs None None (Some chomping) = refl
value_by_small q cs None None None = scalar_token_small q cs

values_small : (q : ℕ) (cs : List ℕ) → IfSome (value_tokens q cs) (IsSo tokens_small)
values_small q cs = map_some (IsSo token_small) (IsSo tokens_small) (λ t. t ∷ []) (value_token q cs) (λ t small. and_from (token_small t) true small refl) (value_by_small q cs (behind_pair 91 93 cs) (behind_pair 123 125 cs) (header cs))

behind_small : (q : ℕ) (cs : List ℕ) → IfSome (behind_key q cs) (IsSo tokens_small)
behind_small q [] = refl
behind_small q (c ∷ cs) = values_small q (c ∷ cs)

entry_small : (column : ℕ) (cs : List ℕ) (k : Option (List ℕ × List ℕ)) → IfSome (entry_by column cs k) (IsSo tokens_small)
entry_small column cs (Some k) = map_some (IsSo tokens_small) (IsSo tokens_small) (λ ts. Begin (2 * column + 1) (Key (encode_utf8_all k.0)) ∷ ts) (behind_key (2 * column + 2) (without_blanks k.1)) (λ ts small. small) (behind_small (2 * column + 2) (without_blanks k.1))
entry_small column cs None = values_small (2 * column + 1) cs

at_small : (column : ℕ) (cs : List ℕ) → IfSome (tokens_at column cs) (IsSo tokens_small)
at_small column [] = refl
at_small column (c ∷ cs) = by (c == 32) (is_dash c cs) (at_small (column + 1) cs) where
  by : (blank dash : Bool) → IfSome (tokens_at (column + 1) cs) (IsSo tokens_small)
      → IfSome (cond blank (tokens_at (column + 1) cs) (cond dash (option_map (λ ts. Begin (2 * column + 2) Dash ∷ ts) (tokens_at (column + 1) cs)) (entry_tokens column (c ∷ cs)))) (IsSo tokens_small)
  by true dash more = more
  by false true more = map_some (IsSo tokens_small) (IsSo tokens_small) (λ ts. Begin (2 * column + 2) Dash ∷ ts) (tokens_at (column + 1) cs) (λ ts small. small) more
  by false false more = entry_small column (c ∷ cs) (key (c ∷ cs))

-- the tokens of a line
abbrev IsLexed : Lexed → Type 0
IsLexed x = tokens_small x.0 ≡ true

content_small : (m : Mode) (column : ℕ) (cs : List ℕ) → IfSome (content_tokens m column cs) IsLexed
content_small m column cs = by (is_marker m column cs) where
  by : (marker : Bool) → IfSome (if marker then Some ([], Between 0) else option_map (λ ts. (ts, mode_after (parent_of m) ts)) (tokens_at column cs)) IsLexed
  by true = refl
  by false = map_some (IsSo tokens_small) IsLexed (λ ts. (ts, mode_after (parent_of m) ts)) (tokens_at column cs) (λ ts small. small) (at_small column cs)

line_by_small : (m : Mode) (cs : List ℕ) (base : Option ℕ) → IfSome (line_by m cs base) IsLexed
line_by_small m cs (Some base) = by (has_tab cs) where
  by : (tab : Bool) → IfSome (if tab then None else Some (LiteralLine (encode_utf8_all (drop base cs)) ∷ [], InLiteral (parent_of m) base)) IsLexed
  by true = tt
  by false = refl
line_by_small m cs None = by (begins_with 35 (without_blanks cs)) (has_tab cs) where
  by : (comment tab : Bool) → IfSome (if comment then Some ([], without_block m) else (if tab then None else content_tokens (without_block m) (spaces cs) (trimmed (without_spaces cs)))) IsLexed
  by true tab = refl
  by false true = tt
  by false false = content_small (without_block m) (spaces cs) (trimmed (without_spaces cs))

blank_small : (m : Mode) → tokens_small (blank_tokens m) ≡ true
blank_small Fresh = refl
blank_small (Between parent) = refl
blank_small (AfterHeader parent) = refl
blank_small (InLiteral parent base) = refl

line_small : (m : Mode) (cs : List ℕ) → IfSome (line_tokens m cs) IsLexed
line_small m cs = by (is_nil (without_blanks cs)) where
  by : (blank : Bool) → IfSome (if blank then Some (blank_tokens m, m) else line_by m cs (base_of m (spaces cs))) IsLexed
  by true = blank_small m
  by false = line_by_small m cs (base_of m (spaces cs))

-- ---- places

insert_small : (es : List (List ℕ × Node)) (k : List ℕ) (n : Node) → have_small es ≡ true → is_small n ≡ true → have_small (insert_entry text_cmp es k n) ≡ true
insert_small [] k n all small = and_from (is_small n) true small refl
insert_small (e ∷ es) k n all small =
    let parts = and_parts (is_small e.1) (have_small es) all in
    by (text_cmp k e.0) parts.0 parts.1 (insert_small es k n parts.1 small)
  where
    by : (o : Ordering) → is_small e.1 ≡ true → have_small es ≡ true → have_small (insert_entry text_cmp es k n) ≡ true → have_small (match_ordering o ((k, n) ∷ e ∷ es) ((e.0, n) ∷ es) (e ∷ insert_entry text_cmp es k n)) ≡ true
    by Less first rest more = and_from (is_small n) (is_small e.1 && have_small es) small (and_from (is_small e.1) (have_small es) first rest)
    by Equal first rest more = and_from (is_small n) (have_small es) small rest
    by Greater first rest more = and_from (is_small e.1) (have_small (insert_entry text_cmp es k n)) first more

abbrev part_small : Part → Bool
part_small (items ns) = are_small ns
part_small (entries es k) = have_small es

abbrev cell_small : Cell → Bool
cell_small none = true
cell_small (done n) = is_small n
cell_small (block chomping ls) = true

abbrev frames_small : List Frame → Bool
frames_small fs = list_all (λ (f : Frame). part_small f.part) fs

abbrev IsSmallPlace : Place → Type 0
IsSmallPlace s = (cell_small s.cell ≡ true) × (frames_small s.frames ≡ true)

node_small : (c : Cell) → cell_small c ≡ true → is_small (cell_node c) ≡ true
node_small none small = null_small
node_small (done n) small = small
node_small (block chomping ls) small = text_small (block_text chomping ls)

begun_small : (h : Head) → part_small (begun h) ≡ true
begun_small Dash = refl
begun_small (Key k) = refl

one_more : (ns : List Node) (n : Node) → are_small ns ≡ true → is_small n ≡ true → are_small (ns ++ n ∷ []) ≡ true
one_more ns n all small = list_all-append is_small ns (n ∷ []) ∙ and_from (are_small ns) (is_small n && true) all (and_from (is_small n) true small refl)

filled_small : (p : Part) (n : Node) → part_small p ≡ true → is_small n ≡ true → is_small (filled p n) ≡ true
filled_small (items ns) n all small = list_is (ns ++ n ∷ []) ∙ one_more ns n all small
filled_small (entries es k) n all small = map_is (insert_entry text_cmp es k n) ∙ insert_small es k n all small

next_small : (h : Head) (p : Part) (n : Node) → part_small p ≡ true → is_small n ≡ true → part_small (next h p n) ≡ true
next_small Dash (items ns) n all small = one_more ns n all small
next_small Dash (entries es k) n all small = all
next_small (Key j) (items ns) n all small = all
next_small (Key j) (entries es k) n all small = insert_small es k n all small

settled_small : (q : ℕ) (c : Cell) (fs : List Frame) → cell_small c ≡ true → frames_small fs ≡ true → IsSmallPlace (settled q c fs)
settled_small q c [] cell all = (cell, refl)
settled_small q c (f ∷ fs) cell all =
    let parts = and_parts (part_small f.part) (frames_small fs) all in
    by (nat_lt q f.rank) (settled_small q (done (filled f.part (cell_node c))) fs (filled_small f.part (cell_node c) parts.0 (node_small c cell)) parts.1)
  where
    by : (shut : Bool) → IsSmallPlace (settled q (done (filled f.part (cell_node c))) fs) → IsSmallPlace (cond shut (settled q (done (filled f.part (cell_node c))) fs) (place c (f ∷ fs)))
    by true more = more
    by false more = (cell, all)

put_small : (q : ℕ) (v c : Cell) (fs : List Frame) → cell_small v ≡ true → frames_small fs ≡ true → IfSome (put q v c fs) IsSmallPlace
put_small q v none [] cell all = tt
put_small q v none (f ∷ fs) cell all = by (nat_lt f.rank q) where
  by : (inside : Bool) → IfSome (cond inside (Some (place v (f ∷ fs))) None) IsSmallPlace
  by true = (cell, all)
  by false = tt
put_small q v (done n) fs cell all = tt
put_small q v (block chomping ls) fs cell all = tt

open_small : (q : ℕ) (h : Head) (c : Cell) (fs : List Frame) → frames_small fs ≡ true → IfSome (open_more q h c fs) IsSmallPlace
open_small q h none fs all = (refl, and_from (part_small (begun h)) (frames_small fs) (begun_small h) all)
open_small q h (done n) fs all = tt
open_small q h (block chomping ls) fs all = tt

add_small : (l : List ℕ) (c : Cell) (fs : List Frame) → frames_small fs ≡ true → IfSome (add_line l c fs) IsSmallPlace
add_small l none fs all = tt
add_small l (done n) fs all = tt
add_small l (block chomping ls) fs all = (refl, all)

again_small : (h : Head) (c : Cell) (fs : List Frame) → cell_small c ≡ true → frames_small fs ≡ true → IfSome (again h c fs) IsSmallPlace
again_small h c [] cell all = tt
again_small h c (f ∷ fs) cell all =
    let parts = and_parts (part_small f.part) (frames_small fs) all in
    by (fits h f.part) (and_from (part_small (next h f.part (cell_node c))) (frames_small fs) (next_small h f.part (cell_node c) parts.0 (node_small c cell)) parts.1)
  where
    by : (may : Bool) → (part_small (next h f.part (cell_node c)) && frames_small fs) ≡ true → IfSome (cond may (Some (place none (frame f.rank (next h f.part (cell_node c)) ∷ fs))) None) IsSmallPlace
    by true more = (refl, more)
    by false more = tt

begin_small : (q : ℕ) (h : Head) (c : Cell) (fs : List Frame) → cell_small c ≡ true → frames_small fs ≡ true → IfSome (begin q h c fs) IsSmallPlace
begin_small q h c fs cell all = by (nat_lt (top fs) q) where
  by : (deeper : Bool) → IfSome (cond deeper (open_more q h c fs) (again h c fs)) IsSmallPlace
  by true = open_small q h c fs all
  by false = again_small h c fs cell all

step_small : (t : Token) (s : Place) → token_small t ≡ true → IsSmallPlace s → IfSome (step t s) IsSmallPlace
step_small (Value q v) s small so =
    let at = settled_small q s.cell s.frames so.0 so.1 in
    put_small q (done v) (settled q s.cell s.frames).cell (settled q s.cell s.frames).frames small at.1
step_small (LiteralHeader q chomping) s small so =
    let at = settled_small q s.cell s.frames so.0 so.1 in
    put_small q (block chomping []) (settled q s.cell s.frames).cell (settled q s.cell s.frames).frames refl at.1
step_small (LiteralLine l) s small so = add_small l s.cell s.frames so.1
step_small (Begin q h) s small so =
    let at = settled_small q s.cell s.frames so.0 so.1 in
    begin_small q h (settled q s.cell s.frames).cell (settled q s.cell s.frames).frames at.0 at.1

abbrev IsSmallDeep : Deep → Type 0
IsSmallDeep d = IsSmallPlace d.at

run_small : (ts : List Token) (s : Deep) → tokens_small ts ≡ true → IsSmallDeep s → IfSome (deep_run ts s) IsSmallDeep
run_small [] s all so = so
run_small (t ∷ ts) s all so =
    let parts = and_parts (token_small t) (tokens_small ts) all in
    then_some IsSmallDeep IsSmallDeep (λ n. deep_run ts n) (deep_step t s) (λ n more. run_small ts n parts.1 more) (map_some IsSmallPlace IsSmallDeep _ (step t s.at) (λ n more. more) (step_small t s.at parts.0 so))

-- ---- files

abbrev IsSmallState : State → Type 0
IsSmallState s = IsSmallDeep s.deep

line_step_small : (l : List ℕ) (s : State) → IsSmallState s → IfSome (line_step l s) IsSmallState
line_step_small l s so =
    then_some IsLexed IsSmallState (λ x. option_map (λ d. state x.1 d) (deep_run x.0 s.deep)) (line_tokens s.mode l) (λ x small.
    map_some IsSmallDeep IsSmallState (λ d. state x.1 d) (deep_run x.0 s.deep) (λ d more. more) (run_small x.0 s.deep small so)) (line_small s.mode l)

finish_small : (s : Place) → IsSmallPlace s → IfSome (finish s) (IsSo is_small)
finish_small s so = by (settled 0 s.cell s.frames).cell (settled_small 0 s.cell s.frames so.0 so.1).0 where
  by : (c : Cell) → cell_small c ≡ true → IfSome (made c) (IsSo is_small)
  by none small = tt
  by (done n) small = small
  by (block chomping ls) small = tt

lines_small : (n : ℕ) (ls : List (List ℕ)) (s : State) → IsSmallState s → IfOk (lines_tree n ls s) (IsSo is_small)
lines_small n [] s so = by (finish s.deep.at) (finish_small s.deep.at so) where
  by : (node : Option Node) → IfSome node (IsSo is_small) → IfOk (at_end n node) (IsSo is_small)
  by None small = tt
  by (Some node) small = small
lines_small n (l ∷ ls) s so = by (line_step l s) (line_step_small l s so) (λ t more. lines_small (n + 1) ls t more) where
  deep_enough : (deep : Bool) (r : Result Node YamlFault) → IfOk r (IsSo is_small) → IfOk (cond deep (Err TooDeep) r) (IsSo is_small)
  deep_enough true r more = tt
  deep_enough false r more = more

  by : (t : Option State) → IfSome t IsSmallState → ((t : State) → IsSmallState t → IfOk (lines_tree (n + 1) ls t) (IsSo is_small)) → IfOk (after_line n (lines_tree (n + 1) ls) t) (IsSo is_small)
  by None small more = tt
  by (Some t) small more = deep_enough (nat_lt most_levels t.deep.levels) (lines_tree (n + 1) ls t) (more t small)

text_tree_small : (ls : List (List ℕ)) → IfOk (text_tree ls) (IsSo is_small)
unfolding text_tree
text_tree_small ls = lines_small 1 ls file_start (refl, refl)

pub yaml_tree_small : (bytes : List ℕ) → IfOk (yaml_tree bytes) (IsSo is_small)
unfolding yaml_tree
yaml_tree_small bytes = by (is_utf8 bytes) where
  by : (utf8 : Bool) → IfOk (if utf8 then text_tree (lines_of bytes) else Err NotUtf8) (IsSo is_small)
  by true = text_tree_small (lines_of bytes)
  by false = tt
