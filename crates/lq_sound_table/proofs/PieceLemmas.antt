-- Lemmas on the pieces.
use Rattle.std.proofs.Common.{Bool, List, [], cond, false, map, not, refl, true, ◌&&◌, ◌∙◌, ◌||◌, ◌∷◌, ◌≡◌, ap}
use Rattle.std.specs.List.{filter, list_all, list_any}
use Rattle.lq_base.specs.Name.{is_named}
use Rattle.lq_base.specs.declared.name.Name.{Name}
use Rattle.std.proofs.Common.{◌++◌}
use Rattle.std.proofs.lemmas.List.Folds.{list_all-append}
use Rattle.lq_model.proofs.Lists.{all-map, any-append, any-map}
use Rattle.lq_model.specs.declared.constraint.Key.{Key}
use Rattle.lq_model.specs.declared.constraint.Unique.{Unique}
use Rattle.lq_model.specs.declared.index.Index.{Index}
use Rattle.lq_model.specs.Catalogue.{is_in}
use Rattle.lq_model.specs.declared.column.Column.{Column}
use Rattle.std.proofs.Common.{sym, codes}
use Rattle.std.proofs.lemmas.Slice.Eq.{bytes_eq-Decides}
use Rattle.std.specs.Str.{bytes_eq}
use Rattle.lq_model.proofs.Lists.{named_itself, same_name, true_false, whether}
use Rattle.lq_model.specs.Sound.{primary}
use Rattle.lq_sound_table.specs.Pieces.{names_of, null_names}

-- a column of the name may not be null just where the name is none of those that may
pub not_null : (n : Name) (cs : List Column) → list_all (λ c. not (is_named n c.name) || not c.nullable) cs ≡ not (is_in n (null_names cs))
not_null n [] = refl
not_null n (c ∷ cs) = by c.nullable (not_null n cs) where
  rest : List Column
  rest = filter (λ c. c.nullable) cs

  named : (same l r : Bool) → l ≡ not r → ((not same || false) && l) ≡ not (same || r)
  named true l r more = refl
  named false l r more = more

  free : (same l r : Bool) → l ≡ not r → ((not same || true) && l) ≡ not r
  free true l r more = more
  free false l r more = more

  by : (null : Bool) → list_all (λ c. not (is_named n c.name) || not c.nullable) cs ≡ not (is_in n (names_of rest))
      → ((not (is_named n c.name) || not null) && list_all (λ c. not (is_named n c.name) || not c.nullable) cs) ≡ not (is_in n (names_of (cond null (c ∷ rest) rest)))
  by true more = named (is_named n c.name) _ _ more
  by false more = free (is_named n c.name) _ _ more

-- names are equal where their bytes are
same_bytes : (a b : Name) → bytes_eq a b ≡ is_named a b
same_bytes a b =
    whether (bytes_eq a b) (λ is. is ∙ sym (ap (λ m. is_named a m) (sym ((bytes_eq-Decides a b).0 is)) ∙ named_itself a))
    (λ none. none ∙ sym (whether (is_named a b) (λ is. true_false ((bytes_eq-Decides a b).1 (same_name a b is)) none) (λ other. other)))

pub primary_is : (n : Name) → bytes_eq n (codes "PRIMARY") ≡ is_named n primary
primary_is n = same_bytes n (codes "PRIMARY")

pub lists_all : (p : List Name → Bool) (ks : List Key) (us : List Unique) (is : List Index) (a b c : Bool)
    → a ≡ list_all (λ k. p k.columns) ks → b ≡ list_all (λ u. p u.columns) us → c ≡ list_all (λ i. p i.columns) is
    → ((a && b) && c) ≡ list_all p ((map (λ k. k.columns) ks ++ map (λ u. u.columns) us) ++ map (λ i. i.columns) is)
lists_all p ks us is a b c ka ub ic =
    let k : list_all p (map (λ k. k.columns) ks) ≡ a = all-map p (λ k. k.columns) ks ∙ sym ka in
    let u : list_all p (map (λ u. u.columns) us) ≡ b = all-map p (λ u. u.columns) us ∙ sym ub in
    let i : list_all p (map (λ i. i.columns) is) ≡ c = all-map p (λ i. i.columns) is ∙ sym ic in
    sym (list_all-append p (map (λ k. k.columns) ks ++ map (λ u. u.columns) us) (map (λ i. i.columns) is)
    ∙ ap (λ x. x && list_all p (map (λ i. i.columns) is)) (list_all-append p (map (λ k. k.columns) ks) (map (λ u. u.columns) us) ∙ ap (λ x. x && list_all p (map (λ u. u.columns) us)) k ∙ ap (λ x. a && x) u)
    ∙ ap (λ x. (a && b) && x) i)

pub lists_any : (p : List Name → Bool) (ks : List Key) (us : List Unique) (is : List Index) (a b c : Bool)
    → a ≡ list_any (λ k. p k.columns) ks → b ≡ list_any (λ u. p u.columns) us → c ≡ list_any (λ i. p i.columns) is
    → ((a || b) || c) ≡ list_any p ((map (λ k. k.columns) ks ++ map (λ u. u.columns) us) ++ map (λ i. i.columns) is)
lists_any p ks us is a b c ka ub ic =
    let k : list_any p (map (λ k. k.columns) ks) ≡ a = any-map p (λ k. k.columns) ks ∙ sym ka in
    let u : list_any p (map (λ u. u.columns) us) ≡ b = any-map p (λ u. u.columns) us ∙ sym ub in
    let i : list_any p (map (λ i. i.columns) is) ≡ c = any-map p (λ i. i.columns) is ∙ sym ic in
    sym (any-append p (map (λ k. k.columns) ks ++ map (λ u. u.columns) us) (map (λ i. i.columns) is)
    ∙ ap (λ x. x || list_any p (map (λ i. i.columns) is)) (any-append p (map (λ k. k.columns) ks) (map (λ u. u.columns) us) ∙ ap (λ x. x || list_any p (map (λ u. u.columns) us)) k ∙ ap (λ x. a || x) u)
    ∙ ap (λ x. (a || b) || x) i)
