-- What is given row by row is what the definition of an answer gives of the rows that are shown.
use Rattle.std.proofs.Common.{◌≡◌, ◌∙◌, ◌+◌, ◌∷◌, Bool, List, None, Option, Some, [], ap, arith, false, length, map, refl, sym, ℕ, option_and_then, cond, if◌then◌else◌}
use Rattle.std.specs.List.{cons_option, count_by, filter, filter_map}
use Rattle.std.specs.Option.{option_map_or}
use Rattle.lq_base.specs.declared.name.Name.{Name}
use Rattle.lq_base.specs.declared.value.Value.{Value}
use Rattle.lq_base.specs.declared.value.Value.TheVariants as value
use Rattle.std.proofs.lemmas.List.Sums.{length-filter, sum_by-cons}
use Rattle.lq_model.specs.Views.{Source, answer_from}
use Rattle.lq_model.specs.Catalogue.{picked}
use Rattle.lq_model.specs.Truth.{takes}
use Rattle.lq_model.specs.declared.column.Column.{Column}
use Rattle.lq_model.specs.declared.query.Answered.{Answered}
use Rattle.lq_model.specs.declared.query.Query.{Query}
use Rattle.lq_model.specs.declared.query.Wanted.{Wanted}
use Rattle.lq_model.specs.declared.query.Wanted.TheVariants as wanted
use Rattle.lq_model.proofs.Lists.{whether}
use Rattle.lq_query.specs.Given.{chosen, given, is_counted, seen, taken}
use Rattle.lq_query.specs.Source.{shown_rows}
use Rattle.lq_query.specs.declared.source.Shown.{Shown}
use lib.IntN.{pos}

-- ---- lists

mapped_where : {A B : Type 0} (p : A → Bool) (f : A → B) (xs : List A) → map f (filter p xs) ≡ filter_map (λ x. if p x then Some (f x) else None) xs
mapped_where p f [] = refl
mapped_where p f (x ∷ xs) =
    whether (p x)
    (λ is. rw (is) (ap (λ ys. f x ∷ ys) (mapped_where p f xs)))
    (λ is. rw (is) (mapped_where p f xs))

some_and_then : {B C : Type 0} (h : B → Option C) (o : Option B) (ys : List B) (zs : List C) → filter_map h ys ≡ zs → filter_map h (cons_option o ys) ≡ cons_option (option_and_then h o) zs
some_and_then h None ys zs is = is
some_and_then h (Some y) ys zs is = ap (cons_option (h y)) is

in_turn : {A B C : Type 0} (g : A → Option B) (h : B → Option C) (xs : List A) → filter_map h (filter_map g xs) ≡ filter_map (λ x. option_and_then h (g x)) xs
in_turn g h [] = refl
in_turn g h (x ∷ xs) = some_and_then h (g x) (filter_map g xs) (filter_map (λ z. option_and_then h (g z)) xs) (in_turn g h xs)

one_counted : {B : Type 0} (p : B → Bool) (o : Option B) (ys : List B) (n : ℕ) → length (filter p ys) ≡ n → length (filter p (cons_option o ys)) ≡ cond (option_map_or p o false) 1 0 + n
one_counted p None ys n is = omega (arith, is)
one_counted p (Some y) ys n is = whether (p y) (λ at. rw (at) (omega (arith, is))) (λ at. rw (at) (omega (arith, is)))

counted_seen : {A B : Type 0} (p : B → Bool) (g : A → Option B) (xs : List A) → length (filter p (filter_map g xs)) ≡ count_by (λ x. option_map_or p (g x) false) xs
counted_seen p g [] = refl
counted_seen p g (x ∷ xs) =
    one_counted p (g x) (filter_map g xs) (count_by (λ z. option_map_or p (g z) false) xs) (counted_seen p g xs) ∙ sym (sum_by-cons (λ z. cond (option_map_or p (g z) false) 1 0) x xs)

same_map : {A : Type 0} (xs : List A) → map (λ x. x) xs ≡ xs
same_map [] = refl
same_map (x ∷ xs) = ap (λ ys. x ∷ ys) (same_map xs)

-- ---- rows

-- the answer, by what is wanted of the rows that are taken
abbrev pub answer_as : Wanted → List Column → List (List Value) → Answered
answer_as w cs rows = elim w [
  | wanted.All ↦ record { columns = length cs; rows = rows }
  | wanted.Count ↦ record { columns = 1; rows = (value.Int (pos (length rows)) ∷ []) ∷ [] }
  | wanted.Columns ns ↦ record { columns = length ns; rows = map (picked cs ns) rows }
]

module _ (table cs : List Column) (q : Query) where
  abbrev takes_here : List Value → Bool
  takes_here = takes q.test cs

  pub given_rows : (view : Option Shown) (rows : List (List Value)) → map (chosen q.wanted cs) (filter takes_here (shown_rows view table rows)) ≡ filter_map (given view table q cs) rows
  given_rows None rows = mapped_where takes_here (chosen q.wanted cs) rows
  given_rows (Some v) rows =
      mapped_where takes_here (chosen q.wanted cs) (shown_rows (Some v) table rows)
      ∙ ap (filter_map (taken q cs)) (mapped_where (takes v.test.now table) (picked table v.names.now) rows)
      ∙ in_turn (seen (Some v) table) (taken q cs) rows

  pub given_count : (view : Option Shown) (rows : List (List Value)) → length (filter takes_here (shown_rows view table rows)) ≡ count_by (is_counted view table q cs) rows
  given_count None rows = length-filter takes_here rows
  given_count (Some v) rows =
      ap (λ z. length (filter takes_here z)) (mapped_where (takes v.test.now table) (picked table v.names.now) rows) ∙ counted_seen takes_here (seen (Some v) table) rows

  module _ (view : Option Shown) (rows : List (List Value)) where
    abbrev shown : Source
    shown = record { columns = cs; rows = shown_rows view table rows }

    abbrev kept : List (List Value)
    kept = filter takes_here (shown_rows view table rows)

    by_wanted : (w : Wanted) → q.wanted ≡ w → answer_as w cs kept ≡ answer_from shown q
    by_wanted w is = ap (λ v. answer_as v cs kept) (sym is)

    chosen_rows : (w : Wanted) → q.wanted ≡ w → map (chosen w cs) kept ≡ filter_map (given view table q cs) rows
    chosen_rows w is = ap (λ v. map (chosen v cs) kept) (sym is) ∙ given_rows view rows

    pub answered_all : (found : List (List Value)) → q.wanted ≡ wanted.All → found ≡ filter_map (given view table q cs) rows → (let a : Answered = record { columns = length cs; rows = found } in a) ≡ answer_from shown q
    answered_all found is fits =
        ap (λ z. let a : Answered = record { columns = length cs; rows = z } in a) (fits ∙ sym (chosen_rows wanted.All is) ∙ same_map kept) ∙ by_wanted wanted.All is

    pub answered_columns : (found : List (List Value)) (ns : List Name) → q.wanted ≡ wanted.Columns ns → found ≡ filter_map (given view table q cs) rows → (let a : Answered = record { columns = length ns; rows = found } in a) ≡ answer_from shown q
    answered_columns found ns is fits =
        ap (λ z. let a : Answered = record { columns = length ns; rows = z } in a) (fits ∙ sym (chosen_rows (wanted.Columns ns) is)) ∙ by_wanted (wanted.Columns ns) is

    pub answered_count : (n : ℕ) → q.wanted ≡ wanted.Count → n ≡ count_by (is_counted view table q cs) rows → (let a : Answered = record { columns = 1; rows = (value.Int (pos n) ∷ []) ∷ [] } in a) ≡ answer_from shown q
    answered_count n is fits =
        ap (λ k. let a : Answered = record { columns = 1; rows = (value.Int (pos k) ∷ []) ∷ [] } in a) (fits ∙ sym (given_count view rows)) ∙ by_wanted wanted.Count is
