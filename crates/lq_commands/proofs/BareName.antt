-- A name that was cleaned has no mark.
use Rattle.std.proofs.Common.{arith, get_or, inl, inr, refl, sym, ◌∙◌}
use Rattle.std.proofs.lemmas.Bool.{cases_lt}
use Rattle.std.proofs.lemmas.List.{append-nil}
use Rattle.std.proofs.lemmas.List.Folds.{list_any-append}
use Rattle.std.proofs.lemmas.Str.{encode_ascii, inside_one}
use Rattle.std.specs.List.{list_any}
use Rattle.std.specs.Prelude.{Bool, List, [], encode_utf8, encode_utf8_all, false, if◌then◌else◌, length, map, suc, true, ℕ, ◌<◌, ◌∷◌, ◌≡◌, ◌≤◌}
use Rattle.std.specs.Str.{chars}
use Rattle.lq_turns.proofs.MarkRead.{bare_names_have_no_mark}
use Rattle.lq_turns.specs.Stops.{is_mark}
use Rattle.lq_base.specs.Number.{is_control}
use Rattle.lq_words.specs.Words.{is_bar}
use Rattle.lq_commands.specs.Stamp.{clean, kept}

other_than_bar : (b : ℕ) → 124 < b → is_bar b ≡ false
other_than_bar b high = search (arith)

-- a character that is kept is no bar
kept_bare : (c : ℕ) → is_bar (kept c) ≡ false
kept_bare c = by (is_bar c) (is_control c) refl where
  by : (bar control : Bool) → is_bar c ≡ bar → is_bar (if bar then 95 else (if control then 95 else c)) ≡ false
  by true control is = refl
  by false true is = refl
  by false false is = is

-- nor has one of more than a byte a bar in its bytes

all_high : (c k : ℕ) → 128 ≤ c → k < length (encode_utf8 c) → 128 ≤ get_or (encode_utf8 c) k 0
all_high c k big inside =
    elim (cases_lt (get_or (encode_utf8 c) k 0) 128) [
      | inl low ↦ let same : c ≡ get_or (encode_utf8 c) k 0 = inside_one c [] (encode_utf8 c) k (sym (append-nil (encode_utf8 c))) inside low in absurd (omega arith)
      | inr high ↦ high
    ]

high_bare : (bytes : List ℕ) → ((k : ℕ) → k < length bytes → 128 ≤ get_or bytes k 0) → list_any is_bar bytes ≡ false
high_bare [] high = refl
high_bare (b ∷ bytes) high = rw (other_than_bar b (omega (arith, high 0 (omega arith)))) (high_bare bytes (λ k inside. high (suc k) (omega arith)))

char_bare : (c : ℕ) → is_bar c ≡ false → list_any is_bar (encode_utf8 c) ≡ false
char_bare c bare =
    elim (cases_lt c 128) [
      | inl small ↦ rw (encode_ascii c small, bare) refl
      | inr big ↦ high_bare (encode_utf8 c) (λ k inside. all_high c k big inside)
    ]

all_bare : (cs : List ℕ) → list_any is_bar (encode_utf8_all (map kept cs)) ≡ false
all_bare [] = refl
all_bare (c ∷ cs) = list_any-append is_bar (encode_utf8 (kept c)) (encode_utf8_all (map kept cs)) ∙ rw (char_bare (kept c) (kept_bare c)) (all_bare cs)

pub clean_no_bar : (who : List ℕ) → list_any is_bar (clean who) ≡ false
clean_no_bar who = all_bare (chars who)

pub clean_bare : (who : List ℕ) → is_mark (clean who) ≡ false
clean_bare who = bare_names_have_no_mark (clean who) (all_bare (chars who))
