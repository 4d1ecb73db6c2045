-- What the code computes of a line's characters. `Written` and `Made` say what these find, so they need not be believed.
use Rattle.std.specs.Prelude.{Bool, List, None, Option, Some, [], cond, drop, encode_utf8_all, false, if◌then◌else◌, length, nat_le, nat_lt, not, option_and_then, option_map, slice_index, take, true, ℕ, ◌&&◌, ◌*◌, ◌++◌, ◌+◌, ◌-◌, ◌/◌, ◌==◌, ◌||◌, ◌∷◌}
use Rattle.lq_tree.specs.declared.node.Node.{List as ListNode, Map as MapNode, Node, Text as TextNode}
use Rattle.lq_yaml.specs.Meaning.{coded, escaped, is_mark, plain_node}
use Rattle.lq_yaml.specs.Tree.{is_blank, is_nil, without_last}
use Rattle.lq_yaml.specs.declared.mode.Mode.{Mode}
use Rattle.lq_yaml.specs.declared.mode.Mode.TheVariants.{AfterHeader, Between, Fresh, InLiteral}
use Rattle.lq_yaml.specs.declared.token.Chomping.{Chomping}
use Rattle.lq_yaml.specs.declared.token.Chomping.TheVariants.{Clip, Strip}
use Rattle.lq_yaml.specs.declared.token.Head.TheVariants.{Dash, Key}
use Rattle.lq_yaml.specs.declared.token.Token.{Token}
use Rattle.lq_yaml.specs.declared.token.Token.TheVariants.{Begin, LiteralHeader, LiteralLine, Value}

-- how many spaces stand in front
abbrev pub spaces : List ℕ → ℕ
spaces [] = 0
spaces (c ∷ cs) = cond (c == 32) (spaces cs + 1) 0

-- what follows the spaces in front
abbrev pub without_spaces : List ℕ → List ℕ
without_spaces [] = []
without_spaces (c ∷ cs) = cond (c == 32) (without_spaces cs) (c ∷ cs)

-- what follows the blanks in front
abbrev pub without_blanks : List ℕ → List ℕ
without_blanks [] = []
without_blanks (c ∷ cs) = cond (is_blank c) (without_blanks cs) (c ∷ cs)

-- the characters without the blanks at their end
abbrev pub trimmed : List ℕ → List ℕ
trimmed = without_last is_blank

-- whether a character stands in front
abbrev pub begins_with : ℕ → List ℕ → Bool
begins_with c [] = false
begins_with c (d ∷ ds) = d == c

-- whether a word ends here: at a space, or at the end
abbrev pub is_word_end : List ℕ → Bool
is_word_end [] = true
is_word_end (c ∷ cs) = c == 32

-- What the code computes of scalars in a line's characters. `Written` says what these find (the law `scalars`), so they need not be believed.

-- ---- quoted

-- the characters that are meant, and what follows
abbrev pub Found : Type 0
Found = List ℕ × List ℕ

abbrev pub with_front : List ℕ → Found → Found
with_front front f = (front ++ f.0, f.1)

abbrev mutual
  -- behind `'`: up to the next quote, where two quotes mean one
  pub single : List ℕ → Option Found
  single [] = None
  single (c ∷ cs) = cond (c == 39) (quote cs) (option_map (with_front (c ∷ [])) (single cs))

  pub quote : List ℕ → Option Found
  quote [] = Some ([], [])
  quote (c ∷ cs) = cond (c == 39) (option_map (with_front (39 ∷ [])) (single cs)) (Some ([], c ∷ cs))

-- behind `u`: four hexadecimal digits
abbrev pub by_code : List ℕ → Option (ℕ × List ℕ)
by_code (a ∷ b ∷ c ∷ d ∷ cs) = option_map (λ e. (e, cs)) (coded a b c d)
by_code _ = None

-- behind a backslash: the character that is meant, and what follows
abbrev pub by_escape : List ℕ → Option (ℕ × List ℕ)
by_escape [] = None
by_escape (c ∷ cs) = cond (c == 117) (by_code cs) (option_map (λ e. (e, cs)) (escaped c))

abbrev mutual
  -- behind `"`: up to the next quote that is not escaped
  pub double : List ℕ → Option Found
  double [] = None
  double (c ∷ cs) = cond (c == 34) (Some ([], cs)) (cond (c == 92) (behind cs) (option_map (with_front (c ∷ [])) (double cs)))

  -- behind a backslash
  pub behind : List ℕ → Option Found
  behind [] = None
  behind (c ∷ cs) = cond (c == 117) (behind_u cs) (option_and_then (λ e. option_map (with_front (e ∷ [])) (double cs)) (escaped c))

  pub behind_u : List ℕ → Option Found
  behind_u (a ∷ b ∷ c ∷ d ∷ cs) = option_and_then (λ e. option_map (with_front (e ∷ [])) (double cs)) (coded a b c d)
  behind_u _ = None

-- ---- plain

-- where a plain scalar ends: at a `:` that ends a word, at a space before `#`, and at the line's end
abbrev pub stops : ℕ → List ℕ → Bool
stops c cs = (c == 58 && is_word_end cs) || (c == 32 && begins_with 35 cs)

abbrev pub plain_length : List ℕ → ℕ
plain_length [] = 0
plain_length (c ∷ cs) = cond (stops c cs) 0 (plain_length cs + 1)

-- a plain scalar does not begin with `- ` or `? `, and is not `-`
abbrev pub begins_otherwise : ℕ → List ℕ → Bool
begins_otherwise c cs = (c == 45 && is_word_end cs) || (c == 63 && begins_with 32 cs)

abbrev pub is_plain : List ℕ → Bool
is_plain [] = false
is_plain (c ∷ cs) = not (is_mark c) && not (begins_otherwise c cs)

abbrev pub ends_with_colon : List ℕ → Bool
ends_with_colon cs = slice_index cs (length cs - 1) == 58

-- ---- at the front of a line's rest

-- a scalar, whether it is plain, and what follows
pub record Front : Type 0 where
  pub chars : List ℕ
  pub plain : Bool
  pub rest : List ℕ

abbrev pub quoted_front : Found → Front
quoted_front f = record { chars = f.0; plain = false; rest = f.1 }

abbrev pub plain_text : List ℕ → List ℕ
plain_text cs = trimmed (take (plain_length cs) cs)

abbrev pub plain_front : List ℕ → Option Front
plain_front cs =
    if is_plain (plain_text cs) && not (ends_with_colon (plain_text cs))
    then Some (record { chars = plain_text cs; plain = true; rest = drop (plain_length cs) cs }) else None

abbrev pub front : List ℕ → Option Front
front [] = None
front (c ∷ cs) = cond (c == 39) (option_map quoted_front (single cs)) (cond (c == 34) (option_map quoted_front (double cs)) (plain_front (c ∷ cs)))

abbrev pub scalar_node : Front → Node
scalar_node f = if f.plain then plain_node (encode_utf8_all f.chars) else TextNode (encode_utf8_all f.chars)

-- What the code computes of a line and of all lines of a file. `Made` says what these find (the laws `contents` and `tokens`), so they need not be believed.

-- ---- within a line

-- nothing but a comment follows, after a blank
abbrev pub is_end : List ℕ → Bool
is_end [] = true
is_end (c ∷ cs) = is_blank c && begins_with 35 (without_blanks cs)

abbrev pub colon : List ℕ → Option (List ℕ)
colon [] = None
colon (c ∷ cs) = cond (c == 58 && is_word_end cs) (Some cs) None

abbrev pub value_if : ℕ → Node → List ℕ → Option Token
value_if q v rest = cond (is_end rest) (Some (Value q v)) None

abbrev pub scalar_token : ℕ → List ℕ → Option Token
scalar_token q cs = option_and_then (λ f. value_if q (scalar_node f) f.rest) (front cs)

-- what follows two signs
abbrev pub behind_pair : ℕ → ℕ → List ℕ → Option (List ℕ)
behind_pair first second (c ∷ d ∷ cs) = cond (c == first && d == second) (Some cs) None
behind_pair first second _ = None

-- the header of a literal block, `|` or `|-`: its chomping
abbrev pub header : List ℕ → Option Chomping
header (c ∷ []) = cond (c == 124) (Some Clip) None
header (c ∷ d ∷ []) = cond (c == 124 && d == 45) (Some Strip) None
header _ = None

abbrev pub value_by : ℕ → List ℕ → Option (List ℕ) → Option (List ℕ) → Option Chomping → Option Token
value_by q cs (Some rest) _ _ = value_if q (ListNode []) rest
value_by q cs None (Some rest) _ = value_if q (MapNode []) rest
value_by q cs None None (Some chomping) = Some (LiteralHeader q chomping)
value_by q cs None None None = scalar_token q cs

-- a value in its line: `[]`, `{}`, the header of a block, or a scalar
abbrev pub value_token : ℕ → List ℕ → Option Token
value_token q cs = value_by q cs (behind_pair 91 93 cs) (behind_pair 123 125 cs) (header cs)

abbrev pub value_tokens : ℕ → List ℕ → Option (List Token)
value_tokens q cs = option_map (λ t. t ∷ []) (value_token q cs)

-- a scalar before a `:` is a key: its characters, and what follows
abbrev pub key : List ℕ → Option (List ℕ × List ℕ)
key cs = option_and_then (λ f. option_map (λ rest. (f.chars, rest)) (colon (without_blanks f.rest))) (front cs)

-- what follows a key
abbrev pub behind_key : ℕ → List ℕ → Option (List Token)
behind_key q [] = Some []
behind_key q (c ∷ cs) = value_tokens q (c ∷ cs)

abbrev pub entry_by : ℕ → List ℕ → Option (List ℕ × List ℕ) → Option (List Token)
entry_by column cs (Some k) = option_map (λ ts. Begin (2 * column + 1) (Key (encode_utf8_all k.0)) ∷ ts) (behind_key (2 * column + 2) (without_blanks k.1))
entry_by column cs None = value_tokens (2 * column + 1) cs

-- `KEY:`, `KEY: VALUE` or a value
abbrev pub entry_tokens : ℕ → List ℕ → Option (List Token)
entry_tokens column cs = entry_by column cs (key cs)

-- a dash that ends a word
abbrev pub is_dash : ℕ → List ℕ → Bool
is_dash c cs = c == 45 && is_word_end cs

-- what begins at a column: spaces are passed over, and a dash begins an item
abbrev pub tokens_at : ℕ → List ℕ → Option (List Token)
tokens_at column [] = Some []
tokens_at column (c ∷ cs) =
    cond (c == 32) (tokens_at (column + 1) cs)
    (cond (is_dash c cs) (option_map (λ ts. Begin (2 * column + 2) Dash ∷ ts) (tokens_at (column + 1) cs))
    (entry_tokens column (c ∷ cs)))

-- ---- from line to line

-- how far the lines of the block that stands open are indented, if a line of that indent is one of them
abbrev pub base_of : Mode → ℕ → Option ℕ
base_of (AfterHeader parent) indent = cond (nat_lt parent indent) (Some indent) None
base_of (InLiteral parent base) indent = cond (nat_lt parent indent && nat_le base indent) (Some base) None
base_of _ indent = None

-- the column of the innermost collection
abbrev pub parent_of : Mode → ℕ
parent_of Fresh = 0
parent_of (Between parent) = parent
parent_of (AfterHeader parent) = parent
parent_of (InLiteral parent base) = parent

-- no block is open
abbrev pub without_block : Mode → Mode
without_block Fresh = Fresh
without_block m = Between (parent_of m)

-- a blank line is an empty line of an open block, and else none
abbrev pub blank_tokens : Mode → List Token
blank_tokens (AfterHeader parent) = LiteralLine [] ∷ []
blank_tokens (InLiteral parent base) = LiteralLine [] ∷ []
blank_tokens _ = []

-- `---`, before all others
abbrev pub is_marker : Mode → ℕ → List ℕ → Bool
is_marker Fresh column (a ∷ b ∷ c ∷ []) = column == 0 && (a == 45 && (b == 45 && c == 45))
is_marker _ _ _ = false

-- after these tokens, of which a header is the last
abbrev pub mode_after : ℕ → List Token → Mode
mode_after parent [] = Between parent
mode_after parent (Begin rank h ∷ ts) = mode_after ((rank - 1) / 2) ts
mode_after parent (LiteralHeader rank chomping ∷ ts) = AfterHeader parent
mode_after parent (t ∷ ts) = mode_after parent ts

abbrev pub Lexed : Type 0
Lexed = List Token × Mode

abbrev pub content_tokens : Mode → ℕ → List ℕ → Option Lexed
content_tokens m column cs =
    if is_marker m column cs then Some ([], Between 0)
    else option_map (λ ts. (ts, mode_after (parent_of m) ts)) (tokens_at column cs)

-- a tab in the indent
abbrev pub has_tab : List ℕ → Bool
has_tab cs = begins_with 9 (without_spaces cs)

abbrev pub line_by : Mode → List ℕ → Option ℕ → Option Lexed
line_by m cs (Some base) = if has_tab cs then None else Some (LiteralLine (encode_utf8_all (drop base cs)) ∷ [], InLiteral (parent_of m) base)
line_by m cs None =
    if begins_with 35 (without_blanks cs) then Some ([], without_block m)
    else (if has_tab cs then None else content_tokens (without_block m) (spaces cs) (trimmed (without_spaces cs)))

-- the tokens of a line, and the mode after it
abbrev pub line_tokens : Mode → List ℕ → Option Lexed
line_tokens m cs = if is_nil (without_blanks cs) then Some (blank_tokens m, m) else line_by m cs (base_of m (spaces cs))

-- the tokens of all lines
abbrev pub tokens_of : Mode → List (List ℕ) → Option (List Token)
tokens_of m [] = Some []
tokens_of m (l ∷ ls) = option_and_then (λ x. option_map (λ ts. x.0 ++ ts) (tokens_of x.1 ls)) (line_tokens m l)
