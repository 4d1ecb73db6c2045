-- What has fewer than two bytes is spelled as none of the longer spellings, so those that stand first are enough.
use Rattle.std.proofs.Common.{◌≡◌, ℕ, ◌<◌, Bool, true, false, cond, ◌&&◌, List, [], ◌∷◌, ◌++◌, length, map, take, drop, ap, sym, arith, refl}
use Rattle.std.specs.List.{list_all}
use Rattle.std.specs.Str.{str_eq_ignore_ascii_case}
use Rattle.std.proofs.lemmas.Bool.{and_parts}
use Rattle.lq_model.specs.SqlWord.{kind_in, kind_of_word}
use Rattle.lq_model.specs.declared.word.TheConstants.{SPELLINGS}
use Rattle.lq_model.specs.declared.word.WordKind.{WordKind}

-- two bytes at least
abbrev is_long : List ℕ → Bool
is_long [] = false
is_long (b ∷ []) = false
is_long (b ∷ c ∷ more) = true

no_more : (same : Bool) → (same && false) ≡ false
no_more true = refl
no_more false = refl

differs : (spelling bytes : List ℕ) → length bytes < 2 → is_long spelling ≡ true → str_eq_ignore_ascii_case spelling bytes ≡ false
differs [] bytes short long = absurd cc
differs (b ∷ []) bytes short long = absurd cc
differs (b ∷ c ∷ more) [] short long = refl
differs (b ∷ c ∷ more) (d ∷ []) short long = no_more _
differs (b ∷ c ∷ more) (d ∷ e ∷ rest) short long = absurd (omega arith)

none_of : (spellings : List (List ℕ × WordKind)) (other : WordKind) (bytes : List ℕ) → length bytes < 2
    → list_all (λ spelling. is_long spelling.0) spellings ≡ true → kind_in spellings other bytes ≡ other
none_of [] other bytes short long = refl
none_of (spelling ∷ more) other bytes short long =
    let both = and_parts (is_long spelling.0) (list_all (λ spelling. is_long spelling.0) more) long in
    rw (differs spelling.0 bytes short both.0) (none_of more other bytes short both.1)

first_are_enough : (first longer : List (List ℕ × WordKind)) (other : WordKind) (bytes : List ℕ) → length bytes < 2
    → list_all (λ spelling. is_long spelling.0) longer ≡ true → kind_in (first ++ longer) other bytes ≡ kind_in first other bytes
first_are_enough [] longer other bytes short long = none_of longer other bytes short long
first_are_enough (spelling ∷ more) longer other bytes short long =
    ap (cond (str_eq_ignore_ascii_case spelling.0 bytes) spelling.1) (first_are_enough more longer other bytes short long)

pub marks_are_enough : (other : WordKind) (bytes : List ℕ) → length bytes < 2
    → kind_in (map (λ spelling. (spelling.0.now, spelling.1)) (take 13 SPELLINGS)) other bytes ≡ kind_of_word other bytes
unfolding kind_of_word
marks_are_enough other bytes short =
    sym (first_are_enough (map (λ spelling. (spelling.0.now, spelling.1)) (take 13 SPELLINGS)) (map (λ spelling. (spelling.0.now, spelling.1)) (drop 13 SPELLINGS)) other bytes short refl)
