-- What a backslash stands for in a string of mysql.
use Rattle.std.proofs.Common.{◌≡◌, ◌<◌, ℕ, zero, suc, ◌+◌, ◌==◌, ◌||◌, ◌&&◌, Bool, true, false, inl, inr, eq-eqb, if◌then◌else◌, List, [], ◌∷◌, ◌++◌, length, Option, Some, None, option_map, ap, ◌∙◌, subst, sym, refl, arith, append_assoc, length-append}
use Rattle.std.specs.List.{All, list_any}
use Rattle.std.specs.Prelude.{codes, slice_index}
use Rattle.std.proofs.lemmas.Bool.{eqb-true, or_cases}
use Rattle.lq_base.specs.Sql.{is_text_quote, length_at, length_of, sort_at, after, is_pair, quoted_end}
use Rattle.lq_base.specs.declared.dialect.Dialect.TheVariants.{Mysql}
use Rattle.lq_base.specs.declared.lexeme.LexemeSort.TheVariants as sort
use Rattle.lq_model.specs.SqlWord.{inside, pair_text, unquoted, with_text, words}
use Rattle.lq_model.specs.declared.word.WordKind.TheVariants as word
use Rattle.lq_parse.specs.Laws.{EscapesAreRead, OtherBackslashesFallAway, StandsFor, escape_meanings}
use Rattle.lq_parse.proofs.Fronts.{lexeme_says}
use Rattle.lq_parse.proofs.Quotes.{inside_doubled, inside_front, neither, together}
use Rattle.lq_sqllex.specs.Laws.{LexemesGoOn, doubled}

or_true : (x : Bool) → (x || true) ≡ true
or_true true = refl
or_true false = refl

escape_first : (quote byte : ℕ) (rest : List ℕ) → inside true quote (92 ∷ byte ∷ rest) ≡ pair_text 92 byte ++ inside true quote rest
escape_first quote byte rest = rw (or_true (92 == quote && byte == quote)) refl

escape_inside : (quote byte : ℕ) (front back : List ℕ)
    → inside true quote (doubled true quote front ++ (92 ∷ byte ∷ (doubled true quote back ++ quote ∷ []))) ≡ front ++ (pair_text 92 byte ++ back)
escape_inside quote byte front back =
    inside_front true quote front (92 ∷ byte ∷ (doubled true quote back ++ quote ∷ [])) (omega arith)
    ∙ ap (λ z. front ++ z) (escape_first quote byte (doubled true quote back ++ quote ∷ []) ∙ ap (λ z. pair_text 92 byte ++ z) (inside_doubled true quote back))

-- how far such a string goes

after_none : (count : Option ℕ) → after 0 count ≡ count
after_none None = refl
after_none (Some n) = ap (λ z. Some z) (omega arith)

after_sum : (first second both : ℕ) → both ≡ first + second → (count : Option ℕ) → after first (after second count) ≡ after both count
after_sum first second both is None = refl
after_sum first second both is (Some n) = ap (λ z. Some z) (omega (arith, is))

single : (quote b : ℕ) (rest : List ℕ) → 0 < length rest → (b == quote || (true && b == 92)) ≡ false → quoted_end true quote (b ∷ rest) ≡ after 1 (quoted_end true quote rest)
single quote b [] some other = absurd (omega arith)
single quote b (c ∷ rest) some other =
    let apart : ((b == quote) ≡ false) × ((b == 92) ≡ false) = neither (b == quote) (b == 92) other in
    rw (apart.0, apart.1) refl

double : (quote b : ℕ) (rest : List ℕ) → (b == quote || (true && b == 92)) ≡ true → quoted_end true quote (b ∷ b ∷ rest) ≡ after 2 (quoted_end true quote rest)
double quote b rest one =
    let pair : is_pair true quote b b ≡ true = together (b == quote) (true && b == 92) one in
    rw pair refl

end_front : (quote : ℕ) (text rest : List ℕ) → 0 < length rest → quoted_end true quote (doubled true quote text ++ rest) ≡ after (length (doubled true quote text)) (quoted_end true quote rest)
end_front quote [] rest some = sym (after_none (quoted_end true quote rest))
end_front quote (b ∷ text) rest some =
    elim (b == quote || (true && b == 92)) as (λ twice. (b == quote || (true && b == 92)) ≡ twice
    → quoted_end true quote ((if twice then b ∷ b ∷ doubled true quote text else b ∷ doubled true quote text) ++ rest)
    ≡ after (length (if twice then b ∷ b ∷ doubled true quote text else b ∷ doubled true quote text)) (quoted_end true quote rest)) [
      | true ↦ λ one. double quote b (doubled true quote text ++ rest) one ∙ ap (after 2) (end_front quote text rest some)
          ∙ after_sum 2 (length (doubled true quote text)) (length (b ∷ b ∷ doubled true quote text)) (omega arith) (quoted_end true quote rest)
      | false ↦ λ other. single quote b (doubled true quote text ++ rest) (omega (arith, length-append (doubled true quote text) rest)) other ∙ ap (after 1) (end_front quote text rest some)
          ∙ after_sum 1 (length (doubled true quote text)) (length (b ∷ doubled true quote text)) (omega arith) (quoted_end true quote rest)
    ] refl

end_escape : (quote byte : ℕ) (rest : List ℕ) → quoted_end true quote (92 ∷ byte ∷ rest) ≡ after 2 (quoted_end true quote rest)
end_escape quote byte rest = rw (or_true (92 == quote && byte == quote)) refl

end_quote : (quote : ℕ) (rest : List ℕ) → (quote == 92) ≡ false → (slice_index rest 0 == quote) ≡ false → quoted_end true quote (quote ∷ rest) ≡ Some 1
end_quote quote [] plain other = rw (eq-eqb quote quote refl) refl
end_quote quote (c ∷ rest) plain other = rw (other, plain, eq-eqb quote quote refl) refl

quote_begins : (quote : ℕ) (more : List ℕ) → is_text_quote Mysql quote ≡ true → (sort_at Mysql (quote ∷ more) ≡ sort.Text) × ((quote == 92) ≡ false)
quote_begins quote more is =
    elim (or_cases (quote == 39) (quote == 34) is) [
      | inl one ↦ subst (λ (q : ℕ). (sort_at Mysql (q ∷ more) ≡ sort.Text) × ((q == 92) ≡ false)) (sym (eqb-true quote 39 one)) (refl, refl)
      | inr two ↦ subst (λ (q : ℕ). (sort_at Mysql (q ∷ more) ≡ sort.Text) × ((q == 92) ≡ false)) (sym (eqb-true quote 34 two)) (refl, refl)
    ]

-- a string with an escape between two texts
abbrev string : ℕ → ℕ → List ℕ → List ℕ → List ℕ
string quote byte front back = quote ∷ (doubled true quote front ++ (92 ∷ byte ∷ (doubled true quote back ++ quote ∷ [])))

string_length : (quote byte : ℕ) (front back rest : List ℕ) → is_text_quote Mysql quote ≡ true → (slice_index rest 0 == quote) ≡ false
    → length_at Mysql (string quote byte front back ++ rest) ≡ Some (length (string quote byte front back))
unfolding length_at
string_length quote byte front back rest is other =
    let begins = quote_begins quote ((doubled true quote front ++ (92 ∷ byte ∷ (doubled true quote back ++ quote ∷ []))) ++ rest) is in
    let before = doubled true quote front in
    let behind = doubled true quote back in
    ap (λ s. length_of Mysql s (string quote byte front back ++ rest)) begins.0
    ∙ ap (λ z. after 1 (quoted_end true quote z)) (append_assoc before (92 ∷ byte ∷ (behind ++ quote ∷ [])) rest ∙ ap (λ z. before ++ (92 ∷ byte ∷ z)) (append_assoc behind (quote ∷ []) rest))
    ∙ ap (after 1) (end_front quote front (92 ∷ byte ∷ (behind ++ (quote ∷ rest))) (omega arith)
    ∙ ap (after (length before)) (end_escape quote byte (behind ++ (quote ∷ rest))
    ∙ ap (after 2) (end_front quote back (quote ∷ rest) (omega arith)
    ∙ ap (after (length behind)) (end_quote quote rest begins.1 other))))
    ∙ ap (λ n. Some n) (omega (arith, length-append before (92 ∷ byte ∷ (behind ++ quote ∷ [])), length-append behind (quote ∷ [])))

stands_for : LexemesGoOn → (byte : ℕ) (meant : List ℕ) → pair_text 92 byte ≡ meant → StandsFor (92 ∷ byte ∷ []) meant
unfolding unquoted
stands_for go_on byte meant means quote front back rest is other =
    lexeme_says go_on Mysql sort.Text (string quote byte front back) rest (omega arith) (quote_begins quote ((doubled true quote front ++ (92 ∷ byte ∷ (doubled true quote back ++ quote ∷ []))) ++ rest) is).0 (string_length quote byte front back rest is other)
    ∙ ap (λ x. option_map (λ more. with_text word.Text x ∷ more) (words Mysql rest)) (escape_inside quote byte front back ∙ ap (λ z. front ++ (z ++ back)) means)

abbrev Each : List (List ℕ × List ℕ) → Type 0
Each [] = Unit {0}
Each (escape ∷ escapes) = StandsFor escape.0 escape.1 × Each escapes

all_stand : (escapes : List (List ℕ × List ℕ)) → Each escapes → All (λ escape. StandsFor escape.0 escape.1) escapes
all_stand [] each k other below = absurd (omega arith)
all_stand (escape ∷ escapes) each zero other below = each.0
all_stand (escape ∷ escapes) each (suc k) other below = all_stand escapes each.1 k other (omega arith)

pub escapes_are_read : LexemesGoOn → EscapesAreRead
escapes_are_read go_on =
    all_stand escape_meanings (
      stands_for go_on 48 (0 ∷ []) refl,
      (
        stands_for go_on 110 (10 ∷ []) refl,
        (
          stands_for go_on 116 (9 ∷ []) refl,
          (
            stands_for go_on 114 (13 ∷ []) refl,
            (
              stands_for go_on 98 (8 ∷ []) refl,
              (
                stands_for go_on 90 (26 ∷ []) refl,
                (stands_for go_on 37 (92 ∷ 37 ∷ []) refl, (stands_for go_on 95 (92 ∷ 95 ∷ []) refl, tt)),
              ),
            ),
          ),
        ),
      ),
    )

no_escape : (byte : ℕ) → list_any (λ c. byte == c) (codes "0ntrbZ%_") ≡ false → pair_text 92 byte ≡ byte ∷ []
no_escape byte other =
    let a = neither (byte == 48) (list_any (λ c. byte == c) (codes "ntrbZ%_")) other in
    let b = neither (byte == 110) (list_any (λ c. byte == c) (codes "trbZ%_")) a.1 in
    let c = neither (byte == 116) (list_any (λ c. byte == c) (codes "rbZ%_")) b.1 in
    let d = neither (byte == 114) (list_any (λ c. byte == c) (codes "bZ%_")) c.1 in
    let e = neither (byte == 98) (list_any (λ c. byte == c) (codes "Z%_")) d.1 in
    let f = neither (byte == 90) (list_any (λ c. byte == c) (codes "%_")) e.1 in
    let g = neither (byte == 37) (list_any (λ c. byte == c) (codes "_")) f.1 in
    let h = neither (byte == 95) false g.1 in
    rw (a.0, b.0, c.0, d.0, e.0, f.0, g.0, h.0) refl

pub other_backslashes_fall_away : LexemesGoOn → OtherBackslashesFallAway
other_backslashes_fall_away go_on byte other = stands_for go_on byte (byte ∷ []) (no_escape byte other)
