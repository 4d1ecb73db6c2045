-- Values by name, and by file and name.
use Rattle.std.specs.List.{list_any}
use Rattle.std.specs.Prelude.{List, None, Option, Some, String, [], codes, false, if◌then◌else◌, length, option_and_then, option_map, string_bytes, unwrap_or, ℕ, ◌++◌, ◌==◌, ◌∷◌, ◌≡◌}
use Rattle.std.specs.Str.{bytes_eq}
use Rattle.std.specs.declared.alloc.Global.{Global}
use Rattle.indexmap.specs.IndexMap.{IndexMap, get_by_text}

module _ {S : Type 0} where
  -- the value of a name
  abbrev pub value_in : IndexMap (String Global) (String Global) S → List ℕ → Option (List ℕ)
  value_in values name = option_map string_bytes (get_by_text values name)

module _ {S T : Type 0} where
  -- the value of a name in a file
  abbrev pub value_in_file : IndexMap (String Global) (IndexMap (String Global) (String Global) S) T → List ℕ → List ℕ → Option (List ℕ)
  value_in_file files file name = option_and_then (λ values. value_in values name) (get_by_text files file)

-- the values after a name is given one: the one that it had stays
abbrev pub defined : (List ℕ → Option (List ℕ)) → List ℕ → List ℕ → List ℕ → Option (List ℕ)
defined look name value n = if bytes_eq name n then Some (unwrap_or (look n) value) else look n

-- the same in a file
abbrev pub defined_in_file : (List ℕ → List ℕ → Option (List ℕ)) → List ℕ → List ℕ → List ℕ → List ℕ → List ℕ → Option (List ℕ)
defined_in_file look file name value f n = if bytes_eq file f then defined (look f) name value n else look f n

module _ {S T U V : Type 0} where
  -- each name that has a value has one of these lengths
  abbrev pub AreOfLengths : IndexMap (String Global) (String Global) S → IndexMap (String Global) (IndexMap (String Global) (String Global) T) U → IndexMap (String Global) (String Global) V → List ℕ → Type 0
  AreOfLengths command files global lengths =
      (name : List ℕ) → list_any (λ n. length name == n) lengths ≡ false → (value_in command name ≡ None) × ((file : List ℕ) → value_in_file files file name ≡ None) × (value_in global name ≡ None)

-- A text with the values of its uses put in.

-- a byte before the parts
abbrev pub before : ℕ → Option (List ℕ × List ℕ) → Option (List ℕ × List ℕ)
before b found = option_map (λ parts. (b ∷ parts.0, parts.1)) found

-- the text before the first such mark, and that behind it
unfoldable pub cut_at : ℕ → List ℕ → Option (List ℕ × List ℕ)
cut_at mark [] = None
cut_at mark (b ∷ bs) = if b == mark then Some ([], bs) else before b (cut_at mark bs)

-- the first of the lists becomes longer at its front
abbrev pub longer : ℕ → List (List ℕ) → List (List ℕ)
longer b [] = (b ∷ []) ∷ []
longer b (p ∷ ps) = (b ∷ p) ∷ ps

-- a text cut at each `}`
unfoldable pub pieces : List ℕ → List (List ℕ)
pieces [] = [] ∷ []
pieces (b ∷ bs) = if b == 125 then [] ∷ pieces bs else longer b (pieces bs)

module _ (value : List ℕ → Option (List ℕ)) where
  -- the value of the name that stands behind `$` and `{`
  abbrev pub use_behind : List ℕ → Option (List ℕ)
  use_behind [] = None
  use_behind (b ∷ name) = if b == 123 then value name else None

  -- a text that a `}` follows, with that `}`: the first `${` that a name with a value follows is a use, and its name goes to the end
  unfoldable pub closed : List ℕ → List ℕ
  closed [] = codes "}"
  closed (b ∷ bs) = if b == 36 then unwrap_or (use_behind bs) (36 ∷ closed bs) else b ∷ closed bs

  -- the pieces of a text between its `}`, each but the last with the value of its use put in
  abbrev pub closed_pieces : List (List ℕ) → List ℕ
  closed_pieces [] = []
  closed_pieces (last ∷ []) = last
  closed_pieces (piece ∷ pieces) = closed piece ++ closed_pieces pieces

  -- a text with the values of its uses put in
  unfoldable pub replaced : List ℕ → List ℕ
  replaced text = closed_pieces (pieces text)
