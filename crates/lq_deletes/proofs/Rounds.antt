-- Rounds of a cascade.
use Rattle.std.proofs.Common.{ap, arith, sym, unwrap_or, ◌∙◌}
use Rattle.std.proofs.lemmas.List.Sums.{sum-map, sum_by-cons}
use Rattle.std.specs.List.{filter, list_any}
use Rattle.std.specs.Map.{lookup, set_value}
use Rattle.std.specs.Option.{option_map}
use Rattle.std.specs.Prelude.{Bool, List, None, Option, Some, [], cond, false, length, map, not, refl, suc, sum, true, zero, ℕ, ◌+◌, ◌<◌, ◌||◌, ◌∷◌, ◌≡◌, ◌≤◌}
use Rattle.lq_base.specs.Name.{is_named}
use Rattle.lq_base.specs.declared.name.Name.{Name}
use Rattle.lq_model.specs.Catalogue.{Catalogue, Table, no_table, table_of, the_table}
use Rattle.lq_model.specs.Rows.{cascaded, is_lost, row_count, without_lost, without_lost_in}
use Rattle.lq_model.proofs.Lists.{any_less, filter_kept, or_left, or_right, same_name, whether}
use Rattle.lq_deletes.specs.Places.{Choice, has_lost, kept_at, kept_by, loses_row}

abbrev pub rest_of : Catalogue → Name × Table → Name × Table
rest_of c e = (e.0, without_lost_in c e.1)

abbrev count_of : Name × Table → ℕ
count_of e = length e.1.rows

pub lengths : {X : Type 0} (p : X → Bool) (xs : List X) → length (filter p xs) ≤ length xs
lengths p [] = omega arith
lengths p (x ∷ xs) = let more = lengths p xs in elim (p x) as (λ b. length (cond b (x ∷ filter p xs) (filter p xs)) ≤ length (x ∷ xs)) [ true ↦ omega (arith, more) | false ↦ omega (arith, more) ]

shorter : {X : Type 0} (lost : X → Bool) (xs : List X) → list_any lost xs ≡ true → length (filter (λ x. not (lost x)) xs) < length xs
shorter lost [] some = absurd (Prim.cc some)
shorter lost (x ∷ xs) some = at (lost x) some (shorter lost xs) where
  at : (b : Bool) → (b || list_any lost xs) ≡ true → (list_any lost xs ≡ true → length (filter (λ y. not (lost y)) xs) < length xs) → length (cond (not b) (x ∷ filter (λ y. not (lost y)) xs) (filter (λ y. not (lost y)) xs)) < length (x ∷ xs)
  at true h more = let le = lengths (λ y. not (lost y)) xs in omega (arith, le)
  at false h more = let less = more h in omega (arith, less)

pub sum_count : (e : Name × Table) (es : List (Name × Table)) → sum (map count_of (e ∷ es)) ≡ count_of e + sum (map count_of es)
sum_count e es = let a = sum-map count_of (e ∷ es) in let b = sum-map count_of es in let d = sum_by-cons count_of e es in omega (arith, a, b, d)

module _ (c : Catalogue) where
  no_more : (es : List (Name × Table)) → sum (map count_of (map (rest_of c) es)) ≤ sum (map count_of es)
  no_more [] = omega arith
  no_more (e ∷ es) =
      let a = lengths (λ r. not (is_lost c e.1 r)) e.1.rows in
      let b = no_more es in
      let x = sum_count (rest_of c e) (map (rest_of c) es) in
      let y = sum_count e es in
      omega (arith, a, b, x, y)

  less : (es : List (Name × Table)) → list_any (loses_row c) es ≡ true → sum (map count_of (map (rest_of c) es)) < sum (map count_of es)
  less [] some = absurd (Prim.cc some)
  less (e ∷ es) some = whether (list_any (is_lost c e.1) e.1.rows)
      (λ is.
      let a = shorter (is_lost c e.1) e.1.rows is in
      let b = no_more es in
      let x = sum_count (rest_of c e) (map (rest_of c) es) in
      let y = sum_count e es in
      omega (arith, a, b, x, y))
      (λ none.
      let a = lengths (λ r. not (is_lost c e.1 r)) e.1.rows in
      let b = less es (sym (ap (λ x. x || list_any (loses_row c) es) none) ∙ some) in
      let x = sum_count (rest_of c e) (map (rest_of c) es) in
      let y = sum_count e es in
      omega (arith, a, b, x, y))

  rest_same : (e : Name × Table) → loses_row c e ≡ false → rest_of c e ≡ e
  rest_same e none =
      let rows = filter_kept (λ r. not (is_lost c e.1 r)) e.1.rows (any_less _ (is_lost c e.1) e.1.rows (λ r. ap (λ b. not (not b))) none) in
      λ i. (e.0, record e.1 { rows = rows i })

  same_entries : (es : List (Name × Table)) → list_any (loses_row c) es ≡ false → map (rest_of c) es ≡ es
  same_entries [] none = refl
  same_entries (e ∷ es) none =
      let first = rest_same e (or_left _ _ none) in
      let more = same_entries es (or_right (loses_row c e) _ none) in
      λ i. first i ∷ more i

  pub round_same : has_lost c ≡ false → without_lost c ≡ c
  round_same none = λ i. record c { tables = same_entries c.tables none i }

  -- a round in which a row is lost leaves fewer
  pub fewer : has_lost c ≡ true → row_count (without_lost c) < row_count c
  fewer some = less c.tables some

pub rounds_same : (n : ℕ) (c : Catalogue) → has_lost c ≡ false → cascaded n c ≡ c
rounds_same zero c none = refl
rounds_same (suc n) c none = ap (cascaded n) (round_same c none) ∙ rounds_same n c none

-- as many rounds as there are rows end a cascade
pub cascades_end : (c : Catalogue) (n : ℕ) → row_count c ≤ n → has_lost (cascaded n c) ≡ false
cascades_end c zero le = whether (has_lost c) (λ some. let l = fewer c some in absurd (omega (arith, l, le))) (λ none. none)
cascades_end c (suc n) le = whether (has_lost c)
    (λ some. let l = fewer c some in cascades_end (without_lost c) n (omega (arith, l, le)))
    (λ none. ap (λ e. has_lost (cascaded n e)) (round_same c none) ∙ ap has_lost (rounds_same n c none) ∙ none)

-- fewer rows of one table are not more of all
pub fewer_set : (test : Name → Bool) (es : List (Name × Table)) (x y : Table) → lookup test es ≡ Some x → length y.rows ≤ length x.rows → sum (map (λ e. length e.1.rows) (set_value test es y)) ≤ sum (map (λ e. length e.1.rows) es)
fewer_set test [] x y there le = omega arith
fewer_set test (e ∷ es) x y there le = at (test e.0) there (λ is. fewer_set test es x y is le) where
  at : (b : Bool) → cond b (Some e.1) (lookup test es) ≡ Some x → (lookup test es ≡ Some x → sum (map (λ e. length e.1.rows) (set_value test es y)) ≤ sum (map (λ e. length e.1.rows) es)) → sum (map (λ e. length e.1.rows) (cond b ((e.0, y) ∷ es) (e ∷ set_value test es y))) ≤ sum (map (λ e. length e.1.rows) (e ∷ es))
  at true is later =
      let same : length e.1.rows ≡ length x.rows = ap (λ o. length (unwrap_or o x).rows) is in
      let a = sum_count (e.0, y) es in
      let b = sum_count e es in
      omega (arith, same, le, a, b)
  at false is later =
      let more = later is in
      let a = sum_count e (set_value test es y) in
      let b = sum_count e es in
      omega (arith, more, a, b)

-- what is kept, table by table

abbrev pub kept_of : Choice → Name × Table → Name × Table
kept_of p e = (e.0, kept_at p e.0 e.1)

pub kept_lookup : (p : Choice) (q : Name) (es : List (Name × Table)) → lookup (is_named q) (map (kept_of p) es) ≡ option_map (kept_at p q) (lookup (is_named q) es)
kept_lookup p q [] = refl
kept_lookup p q (e ∷ es) = whether (is_named q e.0)
    (λ is. rw (is) (ap (λ n. Some (kept_at p n e.1)) (sym (same_name q e.0 is))))
    (λ other. rw (other) (kept_lookup p q es))

pub kept_table : (p : Choice) (c : Catalogue) (q : Name) → the_table (kept_by p c) q ≡ kept_at p q (the_table c q)
kept_table p c q = ap (λ o. unwrap_or o no_table) (kept_lookup p q c.tables) ∙ at (table_of c q) where
  at : (o : Option Table) → unwrap_or (option_map (kept_at p q) o) no_table ≡ kept_at p q (unwrap_or o no_table)
  at None = refl
  at (Some it) = refl
