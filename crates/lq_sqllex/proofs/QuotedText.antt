-- What is written in quotes is read whole.
use Rattle.std.proofs.Common.{◌≡◌, ◌<◌, inl, inr, eq-eqb, ℕ, ◌+◌, ◌==◌, ◌&&◌, ◌||◌, Bool, true, false, if◌then◌else◌, List, [], ◌∷◌, ◌++◌, length, slice_index, Some, ◌∙◌, ap, sym, subst, refl, arith, append_assoc, length-append}
use Rattle.std.proofs.lemmas.Bool.{eqb-true, or_cases}
use Rattle.lq_base.specs.declared.dialect.Dialect.{Dialect}
use Rattle.lq_base.specs.declared.dialect.Dialect.TheVariants.{Postgresql, Mysql}
use Rattle.lq_base.specs.declared.lexeme.LexemeSort.{LexemeSort}
use Rattle.lq_base.specs.declared.lexeme.LexemeSort.TheVariants.{Name, Text}
use Rattle.lq_sqllex.specs.Laws.{doubled, in_quotes, IsRead, TextsAreRead, NamesAreRead}
use Rattle.lq_base.specs.Sql.{sort_at, length_of, length_at, after, is_pair, quoted_end, quoted_length}

-- the closing quote
closed : (escaping : Bool) (quote : ℕ) (rest : List ℕ) → (escaping && quote == 92) ≡ false → (slice_index rest 0 == quote) ≡ false → quoted_end escaping quote (quote ∷ rest) ≡ Some 1
closed escaping quote [] plain apart = rw (eq-eqb quote quote refl) refl
closed escaping quote (c ∷ rest) plain apart = rw (apart, plain, eq-eqb quote quote refl) refl

neither : (x y : Bool) → (x || y) ≡ false → (x ≡ false) × (y ≡ false)
neither true y e = absurd (cc)
neither false y e = (refl, e)

both : (x y : Bool) → (x || y) ≡ true → ((x && x) || y) ≡ true
both true y e = refl
both false y e = e

-- a byte that stands alone before some others, and one that stands twice
single : (escaping : Bool) (quote b : ℕ) (rest : List ℕ) → 0 < length rest → (b == quote || (escaping && b == 92)) ≡ false
    → quoted_end escaping quote (b ∷ rest) ≡ after 1 (quoted_end escaping quote rest)
single escaping quote b [] some other = absurd (omega arith)
single escaping quote b (c ∷ rest) some other =
    let apart : ((b == quote) ≡ false) × ((escaping && b == 92) ≡ false) = neither (b == quote) (escaping && b == 92) other in
    rw (apart.0, apart.1) refl

pair : (escaping : Bool) (quote b : ℕ) (rest : List ℕ) → (b == quote || (escaping && b == 92)) ≡ true
    → quoted_end escaping quote (b ∷ b ∷ rest) ≡ after 2 (quoted_end escaping quote rest)
pair escaping quote b rest one =
    let together : is_pair escaping quote b b ≡ true = both (b == quote) (escaping && b == 92) one in
    rw together refl

doubled_read : (escaping : Bool) (quote : ℕ) (text rest : List ℕ) → (escaping && quote == 92) ≡ false → (slice_index rest 0 == quote) ≡ false
    → quoted_end escaping quote (doubled escaping quote text ++ (quote ∷ rest)) ≡ Some (length (doubled escaping quote text) + 1)
doubled_read escaping quote [] rest plain apart = closed escaping quote rest plain apart
doubled_read escaping quote (b ∷ text) rest plain apart =
    elim (b == quote || (escaping && b == 92)) as (λ twice. (b == quote || (escaping && b == 92)) ≡ twice
    → quoted_end escaping quote ((if twice then b ∷ b ∷ doubled escaping quote text else b ∷ doubled escaping quote text) ++ (quote ∷ rest))
    ≡ Some (length (if twice then b ∷ b ∷ doubled escaping quote text else b ∷ doubled escaping quote text) + 1)) [
      | true ↦ λ one. pair escaping quote b (doubled escaping quote text ++ (quote ∷ rest)) one ∙ ap (after 2) (doubled_read escaping quote text rest plain apart) ∙ ap (λ n. Some n) (omega arith)
      | false ↦ λ other. single escaping quote b (doubled escaping quote text ++ (quote ∷ rest)) (omega (arith, length-append (doubled escaping quote text) (quote ∷ rest))) other
          ∙ ap (after 1) (doubled_read escaping quote text rest plain apart) ∙ ap (λ n. Some n) (omega arith)
    ] refl

-- a text in quotes before another, without the opening quote
inside : (escaping : Bool) (quote : ℕ) (text rest : List ℕ) → (doubled escaping quote text ++ quote ∷ []) ++ rest ≡ doubled escaping quote text ++ (quote ∷ rest)
inside escaping quote text rest = append_assoc (doubled escaping quote text) (quote ∷ []) rest

quotes_read : (escaping : Bool) (quote : ℕ) (text rest : List ℕ) → (escaping && quote == 92) ≡ false → (slice_index rest 0 == quote) ≡ false
    → quoted_length escaping (in_quotes escaping quote text ++ rest) ≡ Some (length (in_quotes escaping quote text))
quotes_read escaping quote text rest plain apart =
    ap (λ z. after 1 (quoted_end escaping quote z)) (inside escaping quote text rest) ∙ ap (after 1) (doubled_read escaping quote text rest plain apart)
    ∙ ap (λ n. Some n) (let more = length-append (doubled escaping quote text) (quote ∷ []) in omega arith)

read_as : (d : Dialect) (sort : LexemeSort) (escaping : Bool) (quote : ℕ) → ((more : List ℕ) → sort_at d (quote ∷ more) ≡ sort)
    → ((whole : List ℕ) → length_of d sort whole ≡ quoted_length escaping whole) → (escaping && quote == 92) ≡ false
    → (text : List ℕ) → IsRead d sort quote (in_quotes escaping quote text)
unfolding length_at
read_as d sort escaping quote front far plain text rest apart =
    (front _, ap (λ s. length_of d s (in_quotes escaping quote text ++ rest)) (front _) ∙ far _ ∙ quotes_read escaping quote text rest plain apart)

pub texts_read : TextsAreRead
texts_read Postgresql quote text is =
    subst (λ (q : ℕ). IsRead Postgresql Text q (in_quotes false q text)) (sym (eqb-true quote 39 is)) (read_as Postgresql Text false 39 (λ more. refl) (λ whole. refl) refl text)
texts_read Mysql quote text is =
    elim (or_cases (quote == 39) (quote == 34) is) [
      | inl one ↦ subst (λ (q : ℕ). IsRead Mysql Text q (in_quotes true q text)) (sym (eqb-true quote 39 one)) (read_as Mysql Text true 39 (λ more. refl) (λ whole. refl) refl text)
      | inr two ↦ subst (λ (q : ℕ). IsRead Mysql Text q (in_quotes true q text)) (sym (eqb-true quote 34 two)) (read_as Mysql Text true 34 (λ more. refl) (λ whole. refl) refl text)
    ]

pub names_read : NamesAreRead
names_read Postgresql quote text is =
    subst (λ (q : ℕ). IsRead Postgresql Name q (in_quotes false q text)) (sym (eqb-true quote 34 is)) (read_as Postgresql Name false 34 (λ more. refl) (λ whole. refl) refl text)
names_read Mysql quote text is =
    subst (λ (q : ℕ). IsRead Mysql Name q (in_quotes false q text)) (sym (eqb-true quote 96 is)) (read_as Mysql Name false 96 (λ more. refl) (λ whole. refl) refl text)
