-- The words of a text that is UTF-8 are UTF-8.
use Rattle.std.proofs.Common.{◌≡◌, ◌<◌, ◌≤◌, ℕ, zero, suc, ◌+◌, ◌==◌, ◌||◌, ◌&&◌, nat_le, nat_lt, Bool, true, false, if◌then◌else◌, cond, List, [], ◌∷◌, ◌++◌, length, drop, get_or, map, Option, Some, None, inl, inr, ap, ◌∙◌, subst, sym, refl, arith, append_assoc, length-append}
use Rattle.std.specs.Char.{is_ascii_alphanumeric, is_ascii_digit, to_ascii_lowercase}
use Rattle.std.specs.Int.{is_in_range}
use Rattle.std.specs.List.{list_all, prefix_len}
use Rattle.std.specs.Prelude.{slice_index}
use Rattle.std.specs.Str.{IsUtf8}
use Rattle.std.proofs.lemmas.Bool.{and_from, and_parts, cases_lt, eqb-true, le-leb, leb-true, ltb-true, ne_eqb, or_cases}
use Rattle.std.proofs.lemmas.List.{append-nil, drop_at, take_at}
use Rattle.std.proofs.lemmas.Str.{IsCharBoundary-after_ascii, IsCharBoundary-before_ascii, IsUtf8-append, IsUtf8-drop, IsUtf8-from_ascii, IsUtf8-nil, IsUtf8-take}
use Rattle.lq_base.specs.Sql.{escapes, is_blank, is_name_quote, is_number_byte, is_text_quote, is_word_byte, begins_block_comment, begins_line_comment, begins_number, length_at, length_of, sort_at, after, is_pair, quoted_end}
use Rattle.lq_base.specs.declared.dialect.Dialect.{Dialect}
use Rattle.lq_base.specs.declared.dialect.Dialect.TheVariants.{Postgresql, Mysql}
use Rattle.lq_base.specs.declared.lexeme.LexemeSort.{LexemeSort}
use Rattle.lq_base.specs.declared.lexeme.LexemeSort.TheVariants as sort
use Rattle.lq_model.specs.SqlWord.{bare, escaped, folded, inside, kind_of_word, may_be_name, pair_text, unquoted, unquoted_word, with_text, words_of}
use Rattle.lq_model.specs.declared.word.WordKind.{WordKind}
use Rattle.lq_model.specs.declared.word.WordKind.TheVariants as word
use Rattle.lq_parse.specs.Kinds.{AreTexts}
use Rattle.lq_parse.proofs.Bytes.{all_in}

-- a text cut at an ASCII byte

pub split_ascii : (a : List ℕ) (b : ℕ) (c : List ℕ) → b < 128 → IsUtf8 (a ++ b ∷ c) → IsUtf8 a × IsUtf8 c
split_ascii a b c low utf8 =
    let within : length a < length (a ++ b ∷ c) = omega (arith, length-append a (b ∷ c)) in
    let here : get_or (a ++ b ∷ c) (length a) 0 < 128 = subst (λ (n : ℕ). n < 128) (sym (at_seam a)) low in (
      subst IsUtf8 (take_at a (b ∷ c) (length a) refl) (IsUtf8-take (a ++ b ∷ c) (length a) utf8 (IsCharBoundary-before_ascii (a ++ b ∷ c) (length a) within here)),
      subst IsUtf8 (past a) (IsUtf8-drop (a ++ b ∷ c) (length a + 1) utf8 (IsCharBoundary-after_ascii (a ++ b ∷ c) (length a) utf8 within here)),
    )
  where
    at_seam : (xs : List ℕ) → get_or (xs ++ b ∷ c) (length xs) 0 ≡ b
    at_seam [] = refl
    at_seam (x ∷ xs) = at_seam xs

    past : (xs : List ℕ) → drop (length xs + 1) (xs ++ b ∷ c) ≡ c
    past xs = ap (λ z. drop (length xs + 1) z) (sym (append_assoc xs (b ∷ []) c)) ∙ drop_at (xs ++ b ∷ []) c (length xs + 1) (let n = length-append xs (b ∷ []) in omega (arith, n))

one_ascii : (b : ℕ) → b < 128 → IsUtf8 (b ∷ [])
one_ascii b low = IsUtf8-from_ascii (b ∷ []) alone
  where
    alone : (i : ℕ) → get_or (b ∷ []) i 0 < 128
    alone zero = low
    alone (suc i) = omega arith

-- without it
drop_ascii : (a : List ℕ) (b : ℕ) (c : List ℕ) → b < 128 → IsUtf8 (a ++ b ∷ c) → IsUtf8 (a ++ c)
drop_ascii a b c low utf8 = let parts = split_ascii a b c low utf8 in IsUtf8-append a c parts.0 parts.1

-- another in its place
other_ascii : (a : List ℕ) (b e : ℕ) (c : List ℕ) → b < 128 → e < 128 → IsUtf8 (a ++ b ∷ c) → IsUtf8 ((a ++ e ∷ []) ++ c)
other_ascii a b e c low small utf8 = let parts = split_ascii a b c low utf8 in IsUtf8-append (a ++ e ∷ []) c (IsUtf8-append a (e ∷ []) parts.0 (one_ascii e small)) parts.1

-- ASCII alone

pub all_ascii : (w : List ℕ) → list_all (λ b. nat_le b 127) w ≡ true → IsUtf8 w
all_ascii [] all = IsUtf8-nil
all_ascii (b ∷ w) all =
    let both = and_parts (nat_le b 127) (list_all (λ c. nat_le c 127) w) all in
    let low : b ≤ 127 = leb-true b 127 both.0 in
    IsUtf8-append (b ∷ []) w (one_ascii b (omega arith)) (all_ascii w both.1)

-- inside quotes

-- the last byte is ASCII
abbrev pub EndsLow : List ℕ → Type 0
EndsLow [] = Unit {0}
EndsLow (b ∷ []) = b < 128
EndsLow (b ∷ c ∷ w) = EndsLow (c ∷ w)

ends_rest : (b : ℕ) (w : List ℕ) → EndsLow (b ∷ w) → EndsLow w
ends_rest b [] low = tt
ends_rest b (c ∷ w) low = low

escaped_low : (c : ℕ) → c < 128 → escaped c < 128
escaped_low c low = by (c == 48) (c == 110) (c == 116) (c == 114) (c == 98) (c == 90)
  where
    by : (a b d e f g : Bool) → (if a then 0 else (if b then 10 else (if d then 9 else (if e then 13 else (if f then 8 else (if g then 26 else c)))))) < 128
    by true b d e f g = omega arith
    by false true d e f g = omega arith
    by false false true e f g = omega arith
    by false false false true f g = omega arith
    by false false false false true g = omega arith
    by false false false false false true = omega arith
    by false false false false false false = low

escaped_high : (c : ℕ) → 128 ≤ c → escaped c ≡ c
escaped_high c high = rw (other 48 (omega arith), other 110 (omega arith), other 116 (omega arith), other 114 (omega arith), other 98 (omega arith), other 90 (omega arith)) refl
  where
    other : (mark : ℕ) → mark < 128 → (c == mark) ≡ false
    other mark small = ne_eqb c mark (λ e. absurd (omega arith))

quotes_of : (x y z : Bool) → ((x && y) || (z && false)) ≡ true → y ≡ true
quotes_of true true z h = refl
quotes_of true false true h = absurd cc
quotes_of true false false h = absurd cc
quotes_of false y true h = absurd cc
quotes_of false y false h = absurd cc

-- after some text, what a pair stands for, in the place of the pair
pair_utf8 : (escaping : Bool) (quote b c : ℕ) (front rest : List ℕ) → quote < 128 → is_pair escaping quote b c ≡ true → IsUtf8 (front ++ b ∷ c ∷ rest) → IsUtf8 ((front ++ pair_text b c) ++ rest)
pair_utf8 escaping quote b c front rest low pair utf8 =
    elim (b == 92) as (λ t. (b == 92) ≡ t → IsUtf8 ((front ++ (if t then (if c == 37 || c == 95 then b ∷ c ∷ [] else escaped c ∷ []) else b ∷ [])) ++ rest)) [
      | true ↦ λ e. backslash e
      | false ↦ λ e. doubled e
    ] refl
  where
    again : (x y : ℕ) → (front ++ x ∷ []) ++ (y ∷ rest) ≡ front ++ x ∷ y ∷ rest
    again x y = append_assoc front (x ∷ []) (y ∷ rest)

    doubled : (b == 92) ≡ false → IsUtf8 ((front ++ b ∷ []) ++ rest)
    doubled e =
        let quotes = quotes_of (b == quote) (c == quote) escaping (subst (λ (x : Bool). ((b == quote && c == quote) || (escaping && x)) ≡ true) e pair) in
        let is_c : c ≡ quote = eqb-true c quote quotes in
        drop_ascii (front ++ b ∷ []) c rest (omega arith) (subst IsUtf8 (sym (again b c)) utf8)

    backslash : (b == 92) ≡ true → IsUtf8 ((front ++ (if c == 37 || c == 95 then b ∷ c ∷ [] else escaped c ∷ [])) ++ rest)
    backslash e =
        let is_b : b ≡ 92 = eqb-true b 92 e in
        let small : b < 128 = omega arith in
        elim (c == 37 || c == 95) as (λ t. IsUtf8 ((front ++ (if t then b ∷ c ∷ [] else escaped c ∷ [])) ++ rest)) [
          | true ↦ subst IsUtf8 (sym (append_assoc front (b ∷ c ∷ []) rest)) utf8
          | false ↦ elim (cases_lt c 128) [
            | inl less ↦ other_ascii front b (escaped c) rest small (escaped_low c less) (subst IsUtf8 (append_assoc front (b ∷ []) rest) (drop_ascii (front ++ b ∷ []) c rest less (subst IsUtf8 (sym (again b c)) utf8)))
            | inr more ↦ subst (λ (x : ℕ). IsUtf8 ((front ++ x ∷ []) ++ rest)) (sym (escaped_high c more)) (subst IsUtf8 (sym (append_assoc front (c ∷ []) rest)) (drop_ascii front b (c ∷ rest) small utf8))
          ]
        ]

pub inside_utf8 : (escaping : Bool) (quote : ℕ) (front w : List ℕ) → quote < 128 → EndsLow w → IsUtf8 (front ++ w) → IsUtf8 (front ++ inside escaping quote w)
inside_utf8 escaping quote front [] low ends utf8 = utf8
inside_utf8 escaping quote front (b ∷ []) low ends utf8 = subst IsUtf8 (sym (append-nil front)) (split_ascii front b [] ends utf8).0
inside_utf8 escaping quote front (b ∷ c ∷ rest) low ends utf8 =
    elim (is_pair escaping quote b c) as (λ t. is_pair escaping quote b c ≡ t → IsUtf8 (front ++ (if t then pair_text b c ++ inside escaping quote rest else b ∷ inside escaping quote (c ∷ rest)))) [
      | true ↦ λ pair. subst IsUtf8 (append_assoc front (pair_text b c) (inside escaping quote rest))
          (inside_utf8 escaping quote (front ++ pair_text b c) rest low (ends_rest c rest ends) (pair_utf8 escaping quote b c front rest low pair utf8))
      | false ↦ λ other. subst IsUtf8 (append_assoc front (b ∷ []) (inside escaping quote (c ∷ rest)))
          (inside_utf8 escaping quote (front ++ b ∷ []) (c ∷ rest) low ends (subst IsUtf8 (sym (append_assoc front (b ∷ []) (c ∷ rest))) utf8))
    ] refl

-- where the closing quote stands

some_end : (escaping : Bool) (quote : ℕ) (w : List ℕ) (n : ℕ) → quoted_end escaping quote w ≡ Some n → 0 < n
some_end escaping quote [] n e = absurd cc
some_end escaping quote (b ∷ []) n e = one (b == quote) e
  where
    one : (t : Bool) → (if t then Some 1 else None) ≡ Some n → 0 < n
    one true e = let same : 1 ≡ n = cc in omega arith
    one false e = absurd cc
some_end escaping quote (b ∷ c ∷ rest) n e = by (is_pair escaping quote b c) (b == quote) e
  where
    more : (k : ℕ) (o : Option ℕ) → 0 < k → after k o ≡ Some n → 0 < n
    more k None some e = absurd cc
    more k (Some m) some e = let same : k + m ≡ n = cc in omega arith

    by : (pair closing : Bool) → (if pair then after 2 (quoted_end escaping quote rest) else (if closing then Some 1 else after 1 (quoted_end escaping quote (c ∷ rest)))) ≡ Some n → 0 < n
    by true closing e = more 2 (quoted_end escaping quote rest) (omega arith) e
    by false true e = let same : 1 ≡ n = cc in omega arith
    by false false e = more 1 (quoted_end escaping quote (c ∷ rest)) (omega arith) e

after_is : (k n : ℕ) (o : Option ℕ) → after k o ≡ Some (k + n) → o ≡ Some n
after_is k n None e = absurd cc
after_is k n (Some m) e = let same : k + m ≡ k + n = cc in let equal : m ≡ n = omega arith in ap (λ x. Some x) equal

abbrev one_byte : Option ℕ
one_byte = Some 1

not_two : (o : Option ℕ) → after 2 o ≡ Some 1 → ⊥
not_two None e = absurd cc
not_two (Some m) e = let same : 2 + m ≡ 1 = cc in absurd (omega arith)

pub closing_quote : (escaping : Bool) (quote : ℕ) (w rest : List ℕ) → quote < 128 → quoted_end escaping quote (w ++ rest) ≡ Some (length w) → EndsLow w
closing_quote escaping quote [] rest low e = tt
closing_quote escaping quote (b ∷ []) [] low e = by (b == quote) refl e
  where
    by : (t : Bool) → (b == quote) ≡ t → (if t then one_byte else None) ≡ one_byte → b < 128
    by true is e = let same : b ≡ quote = eqb-true b quote is in omega arith
    by false is e = absurd cc
closing_quote escaping quote (b ∷ []) (c ∷ rest) low e = by (is_pair escaping quote b c) (b == quote) refl e
  where
    by : (pair closing : Bool) → (b == quote) ≡ closing → (if pair then after 2 (quoted_end escaping quote rest) else (if closing then Some 1 else after 1 (quoted_end escaping quote (c ∷ rest)))) ≡ Some 1 → b < 128
    by true closing is e = absurd (not_two (quoted_end escaping quote rest) e)
    by false true is e = let same : b ≡ quote = eqb-true b quote is in omega arith
    by false false is e = let none = some_end escaping quote (c ∷ rest) 0 (after_is 1 0 (quoted_end escaping quote (c ∷ rest)) e) in absurd (omega arith)
closing_quote escaping quote (b ∷ c ∷ w) rest low e = by (closing_quote escaping quote w rest low) (closing_quote escaping quote (c ∷ w) rest low) (is_pair escaping quote b c) (b == quote) e
  where
    last : (w : List ℕ) → quoted_end escaping quote (w ++ rest) ≡ Some (length w) → EndsLow w → EndsLow (c ∷ w)
    last [] e ends = let none = some_end escaping quote rest 0 e in absurd (omega arith)
    last (x ∷ w) e ends = ends

    by : (quoted_end escaping quote (w ++ rest) ≡ Some (length w) → EndsLow w) → (quoted_end escaping quote (c ∷ (w ++ rest)) ≡ Some (length (c ∷ w)) → EndsLow (c ∷ w)) → (pair closing : Bool)
        → (if pair then after 2 (quoted_end escaping quote (w ++ rest)) else (if closing then Some 1 else after 1 (quoted_end escaping quote (c ∷ (w ++ rest))))) ≡ Some (length (b ∷ c ∷ w)) → EndsLow (c ∷ w)
    by past next true closing e =
        let two : length (b ∷ c ∷ w) ≡ 2 + length w = omega arith in
        let inner = after_is 2 (length w) (quoted_end escaping quote (w ++ rest)) (e ∙ ap (λ n. Some n) two) in
        last w inner (past inner)
    by past next false true e = let same : 1 ≡ length (b ∷ c ∷ w) = cc in absurd (omega arith)
    by past next false false e =
        let one : length (b ∷ c ∷ w) ≡ 1 + length (c ∷ w) = omega arith in
        next (after_is 1 (length (c ∷ w)) (quoted_end escaping quote (c ∷ (w ++ rest))) (e ∙ ap (λ n. Some n) one))

-- up to an ASCII byte
front_utf8 : (front w rest : List ℕ) → 0 < length w → EndsLow w → IsUtf8 (front ++ (w ++ rest)) → IsUtf8 (front ++ w)
front_utf8 front [] rest some ends utf8 = absurd (omega arith)
front_utf8 front (b ∷ []) rest some ends utf8 = IsUtf8-append front (b ∷ []) (split_ascii front b rest ends utf8).0 (one_ascii b ends)
front_utf8 front (b ∷ c ∷ w) rest some ends utf8 =
    subst IsUtf8 (append_assoc front (b ∷ []) (c ∷ w)) (front_utf8 (front ++ b ∷ []) (c ∷ w) rest (omega arith) ends (subst IsUtf8 (sym (append_assoc front (b ∷ []) (c ∷ (w ++ rest)))) utf8))

whole_utf8 : (w rest : List ℕ) → EndsLow w → IsUtf8 (w ++ rest) → IsUtf8 w
whole_utf8 [] rest ends utf8 = IsUtf8-nil
whole_utf8 (b ∷ w) rest ends utf8 = front_utf8 [] (b ∷ w) rest (omega arith) ends utf8

-- what the sort of a lexeme says of its first bytes

Fact : (text name number plain : Bool) → LexemeSort → Type 0
Fact text name number plain sort.Text = text ≡ true
Fact text name number plain sort.Name = name ≡ true
Fact text name number plain sort.Number = number ≡ true
Fact text name number plain sort.Word = plain ≡ true
Fact text name number plain _ = Unit {0}

chain_fact : (line block text name blank number plain : Bool)
    → Fact text name number plain (if line then sort.LineComment else (if block then sort.BlockComment else (if text then sort.Text else (if name then sort.Name else (if blank then sort.Blank else (if number then sort.Number else (if plain then sort.Word else sort.Mark)))))))
unfolding Fact
chain_fact true block text name blank number plain = tt
chain_fact false true text name blank number plain = tt
chain_fact false false true name blank number plain = refl
chain_fact false false false true blank number plain = refl
chain_fact false false false false true number plain = tt
chain_fact false false false false false true plain = refl
chain_fact false false false false false false true = refl
chain_fact false false false false false false false = tt

sort_fact : (d : Dialect) (b : ℕ) (more : List ℕ) (s : LexemeSort) → sort_at d (b ∷ more) ≡ s → Fact (is_text_quote d b) (is_name_quote d b) (begins_number b (slice_index more 0)) (is_word_byte b) s
sort_fact d b more s is =
    subst (Fact (is_text_quote d b) (is_name_quote d b) (begins_number b (slice_index more 0)) (is_word_byte b)) is
    (chain_fact (begins_line_comment d (b ∷ more)) (begins_block_comment d (b ∷ more)) (is_text_quote d b) (is_name_quote d b) (is_blank b) (begins_number b (slice_index more 0)) (is_word_byte b))

range_low : (low high b : ℕ) → high ≤ 127 → (nat_le low b && nat_le b high) ≡ true → nat_le b 127 ≡ true
range_low low high b small is =
    let both = and_parts (nat_le low b) (nat_le b high) is in
    let below : b ≤ high = leb-true b high both.1 in
    le-leb b 127 (omega arith)

mark_low : (mark b : ℕ) → mark ≤ 127 → (b == mark) ≡ true → nat_le b 127 ≡ true
mark_low mark b small is = let same : b ≡ mark = eqb-true b mark is in le-leb b 127 (omega arith)

word_low : (b : ℕ) → is_word_byte b ≡ true → nat_le b 127 ≡ true
word_low b is =
    elim (or_cases (is_ascii_alphanumeric b) (b == 95) is) [
      | inl letter ↦ elim (or_cases (is_in_range 48 57 b || is_in_range 65 90 b) (is_in_range 97 122 b) letter) [
        | inl upper ↦ elim (or_cases (is_in_range 48 57 b) (is_in_range 65 90 b) upper) [
          | inl digit ↦ range_low 48 57 b (omega arith) digit
          | inr capital ↦ range_low 65 90 b (omega arith) capital
        ]
        | inr small ↦ range_low 97 122 b (omega arith) small
      ]
      | inr line ↦ mark_low 95 b (omega arith) line
    ]

number_low : (b : ℕ) → is_number_byte b ≡ true → nat_le b 127 ≡ true
number_low b is = elim (or_cases (is_word_byte b) (b == 46) is) [ inl w ↦ word_low b w | inr dot ↦ mark_low 46 b (omega arith) dot ]

begins_low : (b c : ℕ) → begins_number b c ≡ true → nat_le b 127 ≡ true
begins_low b c is = elim (or_cases (is_ascii_digit b) (b == 45 && is_ascii_digit c) is) [ inl digit ↦ range_low 48 57 b (omega arith) digit | inr minus ↦ mark_low 45 b (omega arith) (and_parts (b == 45) (is_ascii_digit c) minus).0 ]

name_low : (d : Dialect) (b : ℕ) → is_name_quote d b ≡ true → b < 128
name_low Postgresql b is = let low = leb-true b 127 (mark_low 34 b (omega arith) is) in omega arith
name_low Mysql b is = let low = leb-true b 127 (mark_low 96 b (omega arith) is) in omega arith

text_low : (d : Dialect) (b : ℕ) → is_text_quote d b ≡ true → b < 128
text_low Postgresql b is = let low = leb-true b 127 (mark_low 39 b (omega arith) is) in omega arith
text_low Mysql b is =
    let low = leb-true b 127 (elim (or_cases (b == 39) (b == 34) is) [ inl one ↦ mark_low 39 b (omega arith) one | inr two ↦ mark_low 34 b (omega arith) two ]) in
    omega arith

-- the bytes of a run pass its test
run_all : (p : ℕ → Bool) (w rest : List ℕ) → prefix_len p (w ++ rest) ≡ length w → list_all p w ≡ true
run_all p [] rest is = refl
run_all p (b ∷ w) rest is = by (run_all p w rest) (p b) refl is
  where
    by : (prefix_len p (w ++ rest) ≡ length w → list_all p w ≡ true) → (t : Bool) → p b ≡ t → cond t (1 + prefix_len p (w ++ rest)) 0 ≡ suc (length w) → (p b && list_all p w) ≡ true
    by others true e h = and_from (p b) (list_all p w) e (others (omega arith))
    by others false e h = absurd (omega arith)

run_low : (p : ℕ → Bool) → ((b : ℕ) → p b ≡ true → nat_le b 127 ≡ true) → (b : ℕ) (w rest : List ℕ) → nat_le b 127 ≡ true → Some (1 + prefix_len p (w ++ rest)) ≡ Some (length (b ∷ w)) → list_all (λ c. nat_le c 127) (b ∷ w) ≡ true
run_low p low b w rest first is =
    let equal : 1 + prefix_len p (w ++ rest) ≡ length (b ∷ w) = cc in
    and_from (nat_le b 127) (list_all (λ c. nat_le c 127) w) first (all_in p (λ c. nat_le c 127) low w (run_all p w rest (omega arith)))

lower_low : (b : ℕ) → nat_le b 127 ≡ true → nat_le (to_ascii_lowercase b) 127 ≡ true
lower_low b is = let below : b ≤ 127 = leb-true b 127 is in by (nat_lt b 65) (nat_lt b 91) refl below
  where
    by : (first second : Bool) → nat_lt b 91 ≡ second → b ≤ 127 → nat_le (cond first b (cond second (b + 32) b)) 127 ≡ true
    by true second e below = le-leb b 127 below
    by false true e below = let less = ltb-true b 91 e in le-leb (b + 32) 127 (omega arith)
    by false false e below = le-leb b 127 below

lowered : (w : List ℕ) → list_all (λ c. nat_le c 127) w ≡ true → list_all (λ c. nat_le c 127) (map to_ascii_lowercase w) ≡ true
lowered [] all = refl
lowered (b ∷ w) all =
    let both = and_parts (nat_le b 127) (list_all (λ c. nat_le c 127) w) all in
    and_from (nat_le (to_ascii_lowercase b) 127) _ (lower_low b both.0) (lowered w both.1)

folded_utf8 : (d : Dialect) (w : List ℕ) → list_all (λ c. nat_le c 127) w ≡ true → IsUtf8 (folded d w)
folded_utf8 Postgresql w all = all_ascii (map to_ascii_lowercase w) (lowered w all)
folded_utf8 Mysql w all = all_ascii w all

unquoted_word_utf8 : (kind : WordKind) (name : List ℕ) → IsUtf8 name → AreTexts (unquoted_word kind name ∷ [])
unquoted_word_utf8 kind name utf8 =
    elim (may_be_name kind) as (λ t. AreTexts ((if t then with_text kind name else bare kind) ∷ [])) [
      | true ↦ (utf8, tt)
      | false ↦ (IsUtf8-nil, tt)
    ]

-- what stands in quotes, without the opening one
quoted_utf8 : (escaping : Bool) (b : ℕ) (w rest : List ℕ) → b < 128 → IsUtf8 (w ++ rest) → after 1 (quoted_end escaping b (w ++ rest)) ≡ Some (length (b ∷ w)) → IsUtf8 (inside escaping b w)
quoted_utf8 escaping b w rest low utf8 closed =
    let one : length (b ∷ w) ≡ 1 + length w = omega arith in
    let ends = closing_quote escaping b w rest low (after_is 1 (length w) (quoted_end escaping b (w ++ rest)) (closed ∙ ap (λ n. Some n) one)) in
    inside_utf8 escaping b [] w low ends (whole_utf8 w rest ends utf8)

by_sort : (d : Dialect) (b : ℕ) (w rest : List ℕ) (s : LexemeSort) → sort_at d (b ∷ (w ++ rest)) ≡ s → length_of d s (b ∷ (w ++ rest)) ≡ Some (length (b ∷ w)) → (b < 128 → IsUtf8 (w ++ rest)) → AreTexts (words_of d s (b ∷ w))
unfolding unquoted Fact
by_sort d b w rest sort.Blank is closed utf8 = tt
by_sort d b w rest sort.LineComment is closed utf8 = tt
by_sort d b w rest sort.BlockComment is closed utf8 = tt
by_sort d b w rest sort.Mark is closed utf8 = (IsUtf8-nil, tt)
by_sort d b w rest sort.Number is closed utf8 =
    (all_ascii (b ∷ w) (run_low is_number_byte number_low b w rest (begins_low b (slice_index (w ++ rest) 0) (sort_fact d b (w ++ rest) sort.Number is)) closed), tt)
by_sort d b w rest sort.Word is closed utf8 =
    unquoted_word_utf8 (kind_of_word word.Plain (b ∷ w)) (folded d (b ∷ w)) (folded_utf8 d (b ∷ w) (run_low is_word_byte word_low b w rest (word_low b (sort_fact d b (w ++ rest) sort.Word is)) closed))
by_sort d b w rest sort.Name is closed utf8 =
    let low = name_low d b (sort_fact d b (w ++ rest) sort.Name is) in
    (quoted_utf8 false b w rest low (utf8 low) closed, tt)
by_sort d b w rest sort.Text is closed utf8 =
    let low = text_low d b (sort_fact d b (w ++ rest) sort.Text is) in
    (quoted_utf8 (escapes d) b w rest low (utf8 low) closed, tt)

-- the word that a lexeme of a text is
pub lexeme_utf8 : (d : Dialect) (front bytes rest : List ℕ) → IsUtf8 (front ++ (bytes ++ rest)) → 0 < length bytes → length_at d (bytes ++ rest) ≡ Some (length bytes) → AreTexts (words_of d (sort_at d (bytes ++ rest)) bytes)
unfolding length_at
lexeme_utf8 d front [] rest utf8 some closed = absurd (omega arith)
lexeme_utf8 d front (b ∷ w) rest utf8 some closed = by_sort d b w rest (sort_at d (b ∷ (w ++ rest))) refl closed (λ low. (split_ascii front b (w ++ rest) low utf8).1)

-- the same of a text of which a part was passed
pub passed_utf8 : (d : Dialect) (s : LexemeSort) (text left bytes rest : List ℕ) → IsUtf8 text → (front : List ℕ) × (text ≡ front ++ left) → left ≡ bytes ++ rest → s ≡ sort_at d left → length_at d left ≡ Some (length bytes) → 0 < length bytes
    → AreTexts (words_of d s bytes)
passed_utf8 d s text left bytes rest utf8 passed whole is closed some =
    subst (λ (x : LexemeSort). AreTexts (words_of d x bytes)) (sym (is ∙ ap (sort_at d) whole))
    (lexeme_utf8 d passed.0 bytes rest (subst IsUtf8 (passed.1 ∙ ap (λ z. passed.0 ++ z) whole) utf8) some (sym (ap (length_at d) whole) ∙ closed))

pub passed_more : (text left bytes rest : List ℕ) → (front : List ℕ) × (text ≡ front ++ left) → left ≡ bytes ++ rest → (front : List ℕ) × (text ≡ front ++ rest)
passed_more text left bytes rest passed whole = (passed.0 ++ bytes, passed.1 ∙ ap (λ z. passed.0 ++ z) whole ∙ sym (append_assoc passed.0 bytes rest))
