-- How scalars are written in a line: what a text is made of, and which characters it means.
use Rattle.std.specs.List.{list_all}
use Rattle.std.specs.Prelude.{Bool, List, Some, [], codes, cond, encode_utf8_all, false, replicate, true, ℕ, ◌*◌, ◌++◌, ◌+◌, ◌-◌, ◌/◌, ◌<◌, ◌==◌, ◌∷◌, ◌≡◌, ◌⊎◌}
use Rattle.lq_tree.specs.declared.node.Node.{List as ListNode, Map as MapNode, Text as TextNode}
use Rattle.lq_yaml.specs.Layout.{literal_lines}
use Rattle.lq_yaml.specs.Meaning.{coded, escaped, is_mark, plain_node}
use Rattle.lq_yaml.specs.Tree.{is_blank}
use Rattle.lq_yaml.specs.declared.token.Chomping.TheVariants.{Clip, Strip}
use Rattle.lq_yaml.specs.declared.token.Head.TheVariants.{Dash, Key}
use Rattle.lq_yaml.specs.declared.token.Token.{Token}
use Rattle.lq_yaml.specs.declared.token.Token.TheVariants.{Begin, LiteralHeader, Value}

-- spaces and tabs alone
abbrev pub AreBlanks : List ℕ → Type 0
AreBlanks text = list_all is_blank text ≡ true

-- the text begins so
abbrev pub BeginsWith : List ℕ → List ℕ → Type 0
BeginsWith part text = (behind : List ℕ) × (text ≡ part ++ behind)

-- the part stands somewhere in the text
abbrev pub Holds : List ℕ → List ℕ → Type 0
Holds part text = (before behind : List ℕ) × (text ≡ before ++ (part ++ behind))

-- the text's last character
abbrev pub HasLast : List ℕ → ℕ → Type 0
HasLast text c = (before : List ℕ) × (text ≡ before ++ c ∷ [])

-- ---- quoted

-- the characters with each `'` twice
abbrev pub doubled : List ℕ → List ℕ
doubled [] = []
doubled (c ∷ cs) = cond (c == 39) (codes "''" ++ doubled cs) (c ∷ doubled cs)

-- `'..'`
abbrev pub IsSingle : List ℕ → List ℕ → Type 0
IsSingle text chars = text ≡ codes "'" ++ (doubled chars ++ codes "'")

-- how a character stands between `"`: as itself, unless it is `"` or `\`, by a backslash and a sign, or by `\u` and four hexadecimal digits
pub data IsPiece (c : ℕ) (text : List ℕ) : Type 0 where
  itself : (c == 34) ≡ false → (c == 92) ≡ false → text ≡ c ∷ [] → IsPiece c text
  sign : (s : ℕ) → escaped s ≡ Some c → text ≡ codes "\\" ++ s ∷ [] → IsPiece c text
  code : (h i j k : ℕ) → coded h i j k ≡ Some c → text ≡ codes "\\u" ++ h ∷ i ∷ j ∷ k ∷ [] → IsPiece c text

-- one piece for each character
abbrev pub ArePieces : List ℕ → List ℕ → Type 0
ArePieces [] text = text ≡ []
ArePieces (c ∷ cs) text = (piece more : List ℕ) × (text ≡ piece ++ more) × IsPiece c piece × ArePieces cs more

-- `".."`
abbrev pub IsDouble : List ℕ → List ℕ → Type 0
IsDouble text chars = (inside : List ℕ) × (text ≡ codes "\"" ++ (inside ++ codes "\"")) × ArePieces chars inside

abbrev pub IsQuoted : List ℕ → List ℕ → Type 0
IsQuoted text chars = IsSingle text chars ⊎ IsDouble text chars

-- ---- plain

pub record IsPlain (text : List ℕ) : Type 0 where
  -- neither a blank nor a mark stands first
  pub first : ℕ
  pub begins : BeginsWith (first ∷ []) text
  pub no_blank : is_blank first ≡ false
  pub no_mark : is_mark first ≡ false
  -- neither a blank nor `:` stands last
  pub last : ℕ
  pub ends : HasLast text last
  pub no_last_blank : is_blank last ≡ false
  pub no_last_colon : (last == 58) ≡ false
  -- it is not `-`, and does not begin with `- ` or `? `
  pub no_dash : text ≡ codes "-" → ⊥
  pub no_item : BeginsWith (codes "- ") text → ⊥
  pub no_question : BeginsWith (codes "? ") text → ⊥
  -- it holds neither `: ` nor ` #`
  pub no_pair : Holds (codes ": ") text → ⊥
  pub no_comment : Holds (codes " #") text → ⊥

-- a scalar as a key, and the key's characters
abbrev pub IsKey : List ℕ → List ℕ → Type 0
IsKey text chars = IsQuoted text chars ⊎ (IsPlain text × (chars ≡ text))

-- What the lines of a file are made of, and their tokens. A token's rank tells how far to the right it stands: a key or a value at column c has 2c + 1, a dash 2c + 2, and a value behind its key 2c + 2.

-- ---- within a line

-- so many spaces
abbrev pub spaced : ℕ → List ℕ
spaced n = replicate n 32

-- what may follow a value: nothing, or a blank, more blanks, `#` and anything
abbrev pub IsTail : List ℕ → Type 0
IsTail text = (text ≡ []) ⊎ ((b : ℕ) × (gap words : List ℕ) × (text ≡ b ∷ (gap ++ (codes "#" ++ words))) × (is_blank b ≡ true) × AreBlanks gap)

-- a plain scalar goes on up to ` #`, so a space stands right before that `#`
abbrev pub IsPlainTail : List ℕ → Type 0
IsPlainTail text = (text ≡ []) ⊎ ((gap words : List ℕ) × (text ≡ gap ++ (codes " #" ++ words)) × AreBlanks gap)

-- a value in its line, of that rank: `[]`, `{}` or a scalar, and perhaps a comment; or the header of a literal block, `|` or `|-`
pub data IsValue (rank : ℕ) (text : List ℕ) (token : Token) : Type 0 where
  empty_list : (tail : List ℕ) → text ≡ codes "[]" ++ tail → IsTail tail → token ≡ Value rank (ListNode []) → IsValue rank text token
  empty_map : (tail : List ℕ) → text ≡ codes "{}" ++ tail → IsTail tail → token ≡ Value rank (MapNode []) → IsValue rank text token
  quoted : (scalar tail chars : List ℕ) → text ≡ scalar ++ tail → IsQuoted scalar chars → IsTail tail → token ≡ Value rank (TextNode (encode_utf8_all chars)) → IsValue rank text token
  plain : (scalar tail : List ℕ) → text ≡ scalar ++ tail → IsPlain scalar → IsPlainTail tail → token ≡ Value rank (plain_node (encode_utf8_all scalar)) → IsValue rank text token
  clipping : text ≡ codes "|" → token ≡ LiteralHeader rank Clip → IsValue rank text token
  stripping : text ≡ codes "|-" → token ≡ LiteralHeader rank Strip → IsValue rank text token

-- at a column: a value, `KEY:` or `KEY: VALUE`; blanks around the `:` mean nothing
pub data IsEntry (column : ℕ) (text : List ℕ) (tokens : List Token) : Type 0 where
  value : (token : Token) → IsValue (2 * column + 1) text token → tokens ≡ token ∷ [] → IsEntry column text tokens
  key : (key gap chars : List ℕ) → text ≡ key ++ (gap ++ codes ":") → IsKey key chars → AreBlanks gap
      → tokens ≡ Begin (2 * column + 1) (Key (encode_utf8_all chars)) ∷ [] → IsEntry column text tokens
  pair : (key gap wide rest chars : List ℕ) (token : Token) → text ≡ key ++ (gap ++ (codes ": " ++ (wide ++ rest))) → IsKey key chars → AreBlanks gap → AreBlanks wide
      → IsValue (2 * column + 2) rest token → tokens ≡ Begin (2 * column + 1) (Key (encode_utf8_all chars)) ∷ token ∷ [] → IsEntry column text tokens

-- what begins at a column: an entry, `-` alone, or `-`, spaces and what begins at the column behind them
pub data IsContent : ℕ → List ℕ → List Token → Type 0 where
  entry : {column : ℕ} {text : List ℕ} {tokens : List Token} → IsEntry column text tokens → IsContent column text tokens
  dash : {column : ℕ} {text : List ℕ} {tokens : List Token} → text ≡ codes "-" → tokens ≡ Begin (2 * column + 2) Dash ∷ [] → IsContent column text tokens
  item : {column : ℕ} {text : List ℕ} {tokens : List Token} (gap : ℕ) (rest : List ℕ) (more : List Token) → text ≡ codes "- " ++ (spaced gap ++ rest)
      → tokens ≡ Begin (2 * column + 2) Dash ∷ more → IsContent (column + 2 + gap) rest more → IsContent column text tokens

-- a line with tokens: spaces, what begins behind them and does not end with a blank, and perhaps blanks
abbrev pub IsLine : List ℕ → List Token → Type 0
IsLine line tokens = (indent last : ℕ) × (content blanks : List ℕ) × (line ≡ spaced indent ++ (content ++ blanks)) × IsContent indent content tokens
    × HasLast content last × (is_blank last ≡ false) × AreBlanks blanks

-- ---- from line to line

-- a comment: `#` after blanks
abbrev pub IsComment : List ℕ → Type 0
IsComment line = (gap words : List ℕ) × (line ≡ gap ++ (codes "#" ++ words)) × AreBlanks gap

abbrev pub IsSkipped : List ℕ → Type 0
IsSkipped line = AreBlanks line ⊎ IsComment line

-- `---`, and perhaps blanks
abbrev pub IsMarker : List ℕ → Type 0
IsMarker line = (blanks : List ℕ) × (line ≡ codes "---" ++ blanks) × AreBlanks blanks

abbrev pub column_of : ℕ → ℕ
column_of rank = (rank - 1) / 2

-- the column of the last head, where the one before stood at `column`
abbrev pub column_after : ℕ → List Token → ℕ
column_after column [] = column
column_after column (Begin rank h ∷ tokens) = column_after (column_of rank) tokens
column_after column (t ∷ tokens) = column_after column tokens

-- whether the tokens of a line begin a literal block
abbrev pub opens_block : List Token → Bool
opens_block [] = false
opens_block (LiteralHeader rank chomping ∷ tokens) = true
opens_block (t ∷ tokens) = opens_block tokens

-- the line has that indent: so many spaces, and then no blank
abbrev pub HasIndent : ℕ → List ℕ → Type 0
HasIndent indent line = (c : ℕ) × (cs : List ℕ) × (line ≡ spaced indent ++ c ∷ cs) × (is_blank c ≡ false)

-- the indent of a block: that of its first line that is not blank, and greater than the parent's; where all are blank, the least such
abbrev pub IsBlockIndent : ℕ → ℕ → List (List ℕ) → Type 0
IsBlockIndent parent base [] = base ≡ parent + 1
IsBlockIndent parent base (line ∷ lines) = (AreBlanks line × IsBlockIndent parent base lines) ⊎ (HasIndent base line × (parent < base))

-- a line of a block and its text: a blank line is an empty one, and else the block's indent is dropped
abbrev pub IsBlockLine : ℕ → List ℕ → List ℕ → Type 0
IsBlockLine base line text =
    (AreBlanks line × (text ≡ [])) ⊎ ((indent : ℕ) × (chars : List ℕ) × (line ≡ spaced base ++ chars) × HasIndent indent chars × (text ≡ encode_utf8_all chars))

abbrev pub AreBlockLines : ℕ → List (List ℕ) → List (List ℕ) → Type 0
AreBlockLines base [] texts = texts ≡ []
AreBlockLines base (line ∷ lines) texts = (text : List ℕ) × (more : List (List ℕ)) × (texts ≡ text ∷ more) × IsBlockLine base line text × AreBlockLines base lines more

-- before these lines a block ends: there are none, or the first is not blank and has less than the block's indent
abbrev pub EndsBlock : ℕ → List (List ℕ) → Type 0
EndsBlock base [] = Unit {0}
EndsBlock base (line ∷ lines) = (AreBlanks line → ⊥) × (BeginsWith (spaced base) line → ⊥)

-- the lines behind a head at that column: skipped ones, lines with tokens, and lines that begin a literal block, each with its block
pub data AreLines : ℕ → List (List ℕ) → List Token → Type 0 where
  no_lines : {column : ℕ} {lines : List (List ℕ)} {tokens : List Token} → lines ≡ [] → tokens ≡ [] → AreLines column lines tokens
  skipped : {column : ℕ} {lines : List (List ℕ)} {tokens : List Token} (line : List ℕ) (rest : List (List ℕ)) → lines ≡ line ∷ rest
      → IsSkipped line → AreLines column rest tokens → AreLines column lines tokens
  with_tokens : {column : ℕ} {lines : List (List ℕ)} {tokens : List Token} (line : List ℕ) (own : List Token) (rest : List (List ℕ)) (more : List Token) → lines ≡ line ∷ rest → tokens ≡ own ++ more
      → IsLine line own → opens_block own ≡ false → AreLines (column_after column own) rest more → AreLines column lines tokens
  with_block : {column : ℕ} {lines : List (List ℕ)} {tokens : List Token} (line : List ℕ) (own : List Token) (base : ℕ) (block texts rest : List (List ℕ)) (more : List Token)
      → lines ≡ line ∷ (block ++ rest) → tokens ≡ own ++ (literal_lines texts ++ more) → IsLine line own → opens_block own ≡ true
      → IsBlockIndent (column_after column own) base block → AreBlockLines base block texts → EndsBlock base rest → AreLines (column_after column own) rest more → AreLines column lines tokens

abbrev pub AreSkipped : List (List ℕ) → Type 0
AreSkipped [] = Unit {0}
AreSkipped (line ∷ lines) = IsSkipped line × AreSkipped lines

-- the first line, if there is one, is neither skipped nor `---`
abbrev pub IsUnmarked : List (List ℕ) → Type 0
IsUnmarked [] = Unit {0}
IsUnmarked (line ∷ lines) = (IsSkipped line → ⊥) × (IsMarker line → ⊥)

-- the lines of a whole file: the first that is not skipped may be `---`
pub data IsFile (lines : List (List ℕ)) (tokens : List Token) : Type 0 where
  marked : (before : List (List ℕ)) (marker : List ℕ) (rest : List (List ℕ)) → lines ≡ before ++ marker ∷ rest → AreSkipped before → IsMarker marker
      → AreLines 0 rest tokens → IsFile lines tokens
  unmarked : (before rest : List (List ℕ)) → lines ≡ before ++ rest → AreSkipped before → IsUnmarked rest → AreLines 0 rest tokens → IsFile lines tokens
