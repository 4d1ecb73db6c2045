-- The names of the types of changes are UTF-8, and so is a changeset's description.
use Rattle.std.proofs.Common.{rules, tests}
use Rattle.std.proofs.lemmas.Str.{IsAscii-append, IsUtf8-from_ascii}
use Rattle.std.proofs.lemmas.Str.Ascii.{IsAscii-cons, IsAscii-nil}
use Rattle.std.specs.List.{flat_map, join_by, list_all}
use Rattle.std.specs.Prelude.{List, [], codes, nat_lt, refl, true, ℕ, ◌++◌, ◌<◌, ◌∷◌, ◌≡◌}
use Rattle.std.specs.Str.{IsAscii, IsUtf8}
use Rattle.lq_model.proofs.Lists.{and_left, and_right}
use Rattle.lq_any.specs.AnyChange.{canonical_of}
use Rattle.lq_any.specs.declared.any_change.AnyChange.{AnyChange}
use Rattle.lq_any.specs.declared.any_change.AnyChange.TheVariants.{TagDatabase}

abbrev name_of : AnyChange → List ℕ
name_of x = (canonical_of x).name

ascii_by : (text : List ℕ) → list_all (λ b. nat_lt b 128) text ≡ true → IsAscii text
ascii_by [] h = IsAscii-nil
ascii_by (b ∷ text) h =
    let low : b < 128 = let first = and_left (nat_lt b 128) _ h in search (rules, tests) in
    IsAscii-cons b text low (ascii_by text (and_right (nat_lt b 128) _ h))

name_low : (x : AnyChange) → list_all (λ b. nat_lt b 128) (name_of x) ≡ true
name_low (TagDatabase x) = refl
name_low _ = refl

name_ascii : (x : AnyChange) → IsAscii (name_of x)
name_ascii x = ascii_by (name_of x) (name_low x)

more_ascii : (xs : List AnyChange) → IsAscii (flat_map (λ x. codes ", " ++ name_of x) xs)
more_ascii [] = IsAscii-nil
more_ascii (x ∷ xs) =
    IsAscii-append (codes ", " ++ name_of x) (flat_map (λ x. codes ", " ++ name_of x) xs) (IsAscii-append (codes ", ") (name_of x) (ascii_by (codes ", ") refl) (name_ascii x)) (more_ascii xs)

names_ascii : (xs : List AnyChange) → IsAscii (join_by name_of (codes ", ") xs)
names_ascii [] = IsAscii-nil
names_ascii (x ∷ xs) = IsAscii-append (name_of x) (flat_map (λ x. codes ", " ++ name_of x) xs) (name_ascii x) (more_ascii xs)

-- the names, joined with a comma and a blank
pub names_utf8 : (xs : List AnyChange) → IsUtf8 (join_by (λ x. (canonical_of x).name) (codes ", ") xs)
names_utf8 xs = IsUtf8-from_ascii (join_by name_of (codes ", ") xs) (names_ascii xs)
