-- What signs mean: escapes, and what a plain scalar stands for.
use Rattle.std.specs.List.{list_all, list_any}
use Rattle.std.specs.Prelude.{Bool, List, None, Option, Some, [], bytes_eq, codes, cond, false, if◌then◌else◌, int_le, nat_le, neg_ℤ, option_and_then, pos, true, ℕ, ℤ, ◌&&◌, ◌*◌, ◌++◌, ◌+◌, ◌-◌, ◌==◌, ◌^◌, ◌||◌, ◌∷◌}
use Rattle.std.specs.Str.Parse.{signed_digits_value}
use lib.Utf8.{scalar}
use Rattle.lq_tree.specs.declared.node.Node.{Node, Null, Text as TextNode, Truth, Whole}
use Rattle.lq_yaml.specs.Tree.{is_nil}

-- ---- escapes between `"`

-- what a sign behind a backslash means: itself for `\`, `"` and `/`; `n`, `t`, `r` and `0`
abbrev pub escaped : ℕ → Option ℕ
escaped c = cond (c == 92 || c == 34 || c == 47) (Some c) (cond (c == 110) (Some 10) (cond (c == 116) (Some 9) (cond (c == 114) (Some 13) (cond (c == 48) (Some 0) None))))

abbrev pub between : ℕ → ℕ → ℕ → Bool
between low high c = nat_le low c && nat_le c high

-- the value of a hexadecimal digit, small or capital
abbrev pub hex_digit : ℕ → Option ℕ
hex_digit c = cond (between 48 57 c) (Some (c - 48)) (cond (between 97 102 c) (Some (c - 87)) (cond (between 65 70 c) (Some (c - 55)) None))

-- a character, which a surrogate is not
abbrev pub character : ℕ → Option ℕ
character n = cond (scalar n) (Some n) None

-- `\u` and four hexadecimal digits
abbrev pub coded : ℕ → ℕ → ℕ → ℕ → Option ℕ
coded a b c d = option_and_then (λ w. option_and_then (λ x. option_and_then (λ y. option_and_then (λ z. character (w * 4096 + x * 256 + y * 16 + z))
    (hex_digit d)) (hex_digit c)) (hex_digit b)) (hex_digit a)

-- ---- plain scalars

-- no plain scalar begins with one of these of YAML's indicators, nor with a tab
abbrev pub marks : List ℕ
marks = codes "[]{},&*#|>!%@\"'`" ++ 9 ∷ []

abbrev pub is_mark : ℕ → Bool
is_mark c = list_any (λ m. c == m) marks

abbrev pub is_digit : ℕ → Bool
is_digit b = nat_le 48 b && nat_le b 57

-- digits that do not begin with 0
abbrev pub is_begun : ℕ → List ℕ → Bool
is_begun b bs = nat_le 49 b && nat_le b 57 && list_all is_digit bs

abbrev pub is_positive : List ℕ → Bool
is_positive [] = false
is_positive (b ∷ bs) = is_begun b bs

-- `0`, or digits that do not begin with 0, with or without `-`
abbrev pub is_whole : List ℕ → Bool
is_whole [] = false
is_whole (b ∷ bs) = cond (b == 45) (is_positive bs) ((b == 48 && is_nil bs) || is_begun b bs)

-- within 128 signed bits
abbrev pub fits_128 : ℤ → Bool
fits_128 z = int_le (neg_ℤ (pos (2 ^ 127))) z && int_le z (pos (2 ^ 127 - 1))

abbrev pub whole_or_text : List ℕ → Node
whole_or_text bytes = if is_whole bytes && fits_128 (signed_digits_value 10 bytes) then Whole (signed_digits_value 10 bytes) else TextNode bytes

-- null, a truth value, a whole number, and else a text
abbrev pub plain_node : List ℕ → Node
plain_node bytes =
    if bytes_eq bytes (codes "null") || bytes_eq bytes (codes "~") then Null
    else (if bytes_eq bytes (codes "true") then Truth true
    else (if bytes_eq bytes (codes "false") then Truth false
    else whole_or_text bytes))
