-- Lemmas on the names that are taken.
use Rattle.std.proofs.Common.{List, [], ap, codes, map, refl, sym, true, ◌++◌, ◌∙◌, ◌∷◌, ◌≡◌, ◌||◌, Bool, false}
use Rattle.std.proofs.lemmas.Slice.Eq.{bytes_eq-Decides}
use Rattle.std.specs.List.{flat_map, list_any}
use Rattle.std.specs.Str.{bytes_eq}
use Rattle.lq_base.specs.Name.{beside, is_named}
use Rattle.lq_base.specs.declared.name.Name.{Name}
use Rattle.lq_model.specs.Catalogue.{Catalogue, Table, is_in, constraint_names, foreign_names, index_names, inner_names, key_list}
use Rattle.lq_model.specs.NameSpaces.{all_foreign_names, names_inside, object_names, shared_names, lock_key}
use Rattle.lq_model.proofs.Lists.{any-append, any-map, any_same, named_itself, same_name, true_false, whether}
use Rattle.lq_rows.specs.Stored.{Stored}

-- the tables that are kept so
abbrev pub tables_in : List (Name × Stored) → List (Name × Table)
tables_in es = map (λ e. (e.0, e.1.now)) es

regrouped : (a b c : Bool) → (a || (b || c)) ≡ ((a || b) || c)
regrouped true b c = refl
regrouped false b c = refl

any_three : (p : Name → Bool) (a b c : List Name) → list_any p (a ++ (b ++ c)) ≡ (list_any p a || (list_any p b || list_any p c))
any_three p a b c = any-append p a (b ++ c) ∙ ap (λ t. list_any p a || t) (any-append p b c)

named : {A : Type 0} (n : Name) (f : A → Name) (xs : List A) → is_in n (map f xs) ≡ list_any (λ x. is_named n (f x)) xs
named n f xs = any-map (is_named n) f xs

module _ (n : Name) (it : Table) where
  abbrev keys : Bool
  keys = list_any (λ k. is_named n k.name) (key_list it.key)

  abbrev uniques : Bool
  uniques = list_any (λ u. is_named n u.name) it.uniques

  pub constraint_is : is_in n (constraint_names it) ≡ ((keys || uniques) || list_any (λ f. is_named n f.name) it.foreign)
  constraint_is =
      any_three (is_named n) (map (λ k. k.name) (key_list it.key)) (map (λ u. u.name) it.uniques) (foreign_names it)
      ∙ rw (named n (λ k. k.name) (key_list it.key), named n (λ u. u.name) it.uniques, named n (λ f. f.name) it.foreign) (regrouped keys uniques _)

  -- where the names inside a table count
  pub inside_is : (t : Name) → is_in n (names_inside (t, it)) ≡ ((list_any (λ k. is_named n (beside t k.name)) (key_list it.key) || list_any (λ u. is_named n (beside t u.name)) it.uniques) || list_any (λ i. is_named n (beside t i.name)) it.indexes)
  inside_is t =
      let at : Name → Bool = λ m. is_named n (beside t m) in
      any-map (is_named n) (beside t) (inner_names it) ∙ any_three at (map (λ k. k.name) (key_list it.key)) (map (λ u. u.name) it.uniques) (map (λ i. i.name) it.indexes)
      ∙ rw (any-map at (λ k. k.name) (key_list it.key), any-map at (λ u. u.name) it.uniques, any-map at (λ i. i.name) it.indexes) (regrouped (list_any (λ k. at k.name) (key_list it.key)) (list_any (λ u. at u.name) it.uniques) _)

  pub index_is : is_in n (index_names it) ≡ (uniques || list_any (λ i. is_named n i.name) it.indexes)
  index_is =
      any-append (is_named n) (map (λ u. u.name) it.uniques) (map (λ i. i.name) it.indexes)
      ∙ rw (named n (λ u. u.name) it.uniques, named n (λ i. i.name) it.indexes) refl

any_flat : {A B : Type 0} (p : B → Bool) (f : A → List B) (xs : List A) → list_any p (flat_map f xs) ≡ list_any (λ x. list_any p (f x)) xs
any_flat p f [] = refl
any_flat p f (x ∷ xs) = any-append p (f x) (flat_map f xs) ∙ ap (λ b. list_any p (f x) || b) (any_flat p f xs)

-- a name of the tables' parts
of_entries : (n : Name) (f : Name × Table → List Name) (es : List (Name × Stored)) → is_in n (flat_map f (tables_in es)) ≡ list_any (λ e. is_in n (f (e.0, e.1.now))) es
of_entries n f es = any_flat (is_named n) f (tables_in es) ∙ any-map (λ e. is_in n (f e)) (λ e. (e.0, e.1.now)) es

pub shared_is : (n : Name) (c : Catalogue) (es : List (Name × Stored)) → tables_in es ≡ c.tables → is_in n (shared_names c) ≡ (is_in n (object_names c) || list_any (λ e. is_in n (names_inside (e.0, e.1.now))) es)
shared_is n c es is =
    any-append (is_named n) (object_names c) (flat_map names_inside c.tables)
    ∙ ap (λ b. is_in n (object_names c) || b) (ap (λ ts. is_in n (flat_map names_inside ts)) (sym is) ∙ of_entries n names_inside es)

pub all_foreign_is : (n : Name) (c : Catalogue) (es : List (Name × Stored)) → tables_in es ≡ c.tables → is_in n (all_foreign_names c) ≡ list_any (λ e. list_any (λ f. is_named n f.name) e.1.now.foreign) es
all_foreign_is n c es is =
    ap (λ ts. is_in n (flat_map (λ e. foreign_names e.1) ts)) (sym is) ∙ of_entries n (λ e. foreign_names e.1) es
    ∙ any_same (λ e. is_in n (foreign_names e.1.now)) (λ e. list_any (λ f. is_named n f.name) e.1.now.foreign) es (λ e. named n (λ f. f.name) e.1.now.foreign)

-- names are equal where their bytes are
same_bytes : (a b : Name) → bytes_eq a b ≡ is_named b a
same_bytes a b =
    whether (bytes_eq a b) (λ is. is ∙ sym (ap (λ m. is_named m a) (sym ((bytes_eq-Decides a b).0 is)) ∙ named_itself a))
    (λ none. none ∙ sym (whether (is_named b a) (λ is. true_false ((bytes_eq-Decides a b).1 (sym (same_name b a is))) none) (λ other. other)))

or_none : (b : Bool) → b ≡ (b || false)
or_none true = refl
or_none false = refl

pub lock_key_is : (n : Name) → bytes_eq n (codes "pk_DATABASECHANGELOGLOCK") ≡ is_in lock_key (n ∷ [])
lock_key_is n = same_bytes n (codes "pk_DATABASECHANGELOGLOCK") ∙ or_none (is_named lock_key n)
