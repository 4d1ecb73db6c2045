-- Columns of other tables, foreign keys and views keep their kinds where a table changes.
use Rattle.std.proofs.Common.{ap, sym, ◌∙◌}
use Rattle.std.specs.List.{list_all, list_any}
use Rattle.std.specs.Prelude.{Bool, List, None, Option, Some, [], cond, false, is_some, map, not, refl, true, ◌&&◌, ◌||◌, ◌∷◌, ◌≡◌}
use Rattle.lq_base.specs.Name.{is_named}
use Rattle.lq_base.specs.declared.name.Name.{Name}
use Rattle.lq_model.specs.Catalogue.{Table, View, is_empty, is_in, repeats, same_names, column_names}
use Rattle.lq_model.specs.Comparison.{compares_wrongly, go_together, kinds_agree, sort_of, sort_of_column, is_spelled}
use Rattle.lq_model.specs.Kinds.{kind_of}
use Rattle.lq_model.specs.Sound.{are_columns, wanted_names}
use Rattle.lq_model.specs.Truth.{Both, Either, Turned, names_in, operand_names, test_names}
use Rattle.lq_model.specs.declared.column.Column.{Column}
use Rattle.lq_model.specs.declared.test.Operand.{Operand}
use Rattle.lq_model.specs.declared.test.Operand.TheVariants as operand
use Rattle.lq_model.specs.declared.test.Test.{Compare, IsNull, NotNull, Test}
use Rattle.lq_model.proofs.Lists.{all_kept, and_left, and_right, and_true, any-append, or_left, or_right}
use Rattle.lq_model.proofs.ViewAt.{view_at}

pub has_kind : (n : Name) (cs : List Column) → is_in n (map (λ c. c.name) cs) ≡ is_some (kind_of n cs)
has_kind n [] = refl
has_kind n (c ∷ cs) =
    elim (is_named n c.name) as (λ b. (b || is_in n (map (λ c. c.name) cs)) ≡ is_some (cond b (Some c.kind) (kind_of n cs))) [
      | true ↦ refl
      | false ↦ has_kind n cs
    ]

-- columns a and b, which differ in the columns q alone
module _ (q : Name → Bool) (was now : List Column) (same : (m : Name) → q m ≡ false → kind_of m now ≡ kind_of m was) where
  pub kinds_same : (ns : List Name) → list_any q ns ≡ false → map (λ n. kind_of n now) ns ≡ map (λ n. kind_of n was) ns
  kinds_same [] none = refl
  kinds_same (n ∷ ns) none = ap (λ k. k ∷ map (λ n. kind_of n now) ns) (same n (or_left (q n) _ none)) ∙ ap (λ ks. kind_of n was ∷ ks) (kinds_same ns (or_right (q n) _ none))

  sort_same : (x : Operand) → list_any q (operand_names x) ≡ false → sort_of now x ≡ sort_of was x
  sort_same (operand.Column n) none = ap sort_of_column (same n (or_left (q n) _ none))
  sort_same (operand.Literal l) none = refl

  agree_same : (t : Test) → list_any q (test_names t) ≡ false → kinds_agree now t ≡ kinds_agree was t
  agree_same (Compare op x y) none =
      let both = sym (any-append q (operand_names x) (operand_names y)) ∙ none in
      ap (λ s. go_together s (sort_of now y)) (sort_same x (or_left _ _ both)) ∙ ap (go_together (sort_of was x)) (sort_same y (or_right _ _ both))
  agree_same (IsNull x) none = refl
  agree_same (NotNull x) none = refl
  agree_same (Both a b) none =
      let both = sym (any-append q (test_names a) (test_names b)) ∙ none in
      ap (λ s. s && kinds_agree now b) (agree_same a (or_left _ _ both)) ∙ ap (λ s. kinds_agree was a && s) (agree_same b (or_right _ _ both))
  agree_same (Either a b) none =
      let both = sym (any-append q (test_names a) (test_names b)) ∙ none in
      ap (λ s. s && kinds_agree now b) (agree_same a (or_left _ _ both)) ∙ ap (λ s. kinds_agree was a && s) (agree_same b (or_right _ _ both))
  agree_same (Turned a) none = agree_same a none

  pub wrongly_same : (o : Option Test) → list_any q (names_in o) ≡ false → compares_wrongly now o ≡ compares_wrongly was o
  wrongly_same None none = refl
  wrongly_same (Some t) none = ap not (agree_same t none)

  pub column_still : (m : Name) → q m ≡ false → is_in m (map (λ c. c.name) was) ≡ true → is_in m (map (λ c. c.name) now) ≡ true
  column_still m out is = has_kind m now ∙ ap (λ o. is_some o) (same m out) ∙ sym (has_kind m was) ∙ is

module _ (q : Name → Bool) (a b : Table) (same : (m : Name) → q m ≡ false → kind_of m b.columns ≡ kind_of m a.columns) where
  columns_still : (ns : List Name) → list_any q ns ≡ false → list_all (λ n. is_in n (column_names a)) ns ≡ true → list_all (λ n. is_in n (column_names b)) ns ≡ true
  columns_still ns none all = all_kept q _ _ ns (λ n out is. column_still q a.columns b.columns same n out is) none all

  pub are_columns_still : (ns : List Name) → list_any q ns ≡ false → are_columns a ns ≡ true → are_columns b ns ≡ true
  are_columns_still ns none h =
      let rest = and_right (not (is_empty ns)) _ h in
      and_true _ _ (and_left (not (is_empty ns)) _ h) (and_true _ _ (and_left (not (repeats ns)) _ rest) (columns_still ns none (and_right (not (repeats ns)) _ rest)))

  -- a view that shows none of the columns that changed
  pub view_still : (v : View) → (list_any q v.columns || list_any q (names_in v.query.test)) ≡ false → view_at (Some a) v ≡ true → view_at (Some b) v ≡ true
  unfolding view_at
  view_still v none h =
      let test = v.query.test in
      let r = and_right (are_columns a v.columns) _ h in
      let s = and_right (list_all (λ n. is_in n (column_names a)) (names_in test)) _ r in
      let u = and_right (same_names (wanted_names v.query.wanted) v.columns) _ s in
      let out = or_right _ _ none in
      and_true _ _ (are_columns_still v.columns (or_left _ _ none) (and_left (are_columns a v.columns) _ h))
      (and_true _ _ (columns_still (names_in test) out (and_left (list_all (λ n. is_in n (column_names a)) (names_in test)) _ r))
      (and_true _ _ (and_left (same_names (wanted_names v.query.wanted) v.columns) _ s)
      (and_true _ _ (and_left (is_spelled test) _ u) (ap not (wrongly_same q a.columns b.columns same test out) ∙ and_right (is_spelled test) _ u))))
