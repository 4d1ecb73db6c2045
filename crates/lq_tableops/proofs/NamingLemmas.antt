-- Lemmas on the names that a new table brings.
use Rattle.std.proofs.Common.{Bool, List, [], ap, append_assoc, false, map, refl, sym, true, ◌++◌, ◌∙◌, ◌∷◌, ◌≡◌, ◌||◌}
use Rattle.std.specs.List.{list_any}
use Rattle.std.specs.Prelude.{Option}
use denote.Ref.{Bor}
use Rattle.lq_base.specs.Name.{is_named}
use Rattle.lq_base.specs.declared.dialect.Dialect.TheVariants.{Mysql, Postgresql}
use Rattle.lq_base.specs.declared.name.Name.{Name}
use Rattle.lq_model.specs.Catalogue.{Catalogue, is_in, repeats, constraint_names, inner_names, key_list, placed}
use Rattle.lq_model.specs.NameSpaces.{all_foreign_names, are_clashing, is_taken, object_names, shared_names}
use Rattle.lq_model.specs.declared.column.Column.{Column}
use Rattle.lq_model.specs.declared.constraint.ForeignKey.{ForeignKey}
use Rattle.lq_model.specs.declared.constraint.Key.{Key}
use Rattle.lq_model.specs.declared.constraint.Unique.{Unique}
use Rattle.lq_model.proofs.Lists.{append-nil}
use Rattle.lq_shapes.specs.Created.{made}

module _ (cs : List Column) (key : Option Key) (us : List Unique) (fs : List ForeignKey) where
  -- names added in turn
  pub three_pushed : (old a b e : List Name) → a ≡ old ++ map (λ k. k.name) (key_list key) → b ≡ a ++ map (λ u. u.name) us → e ≡ b ++ map (λ f. f.name) fs → e ≡ old ++ constraint_names (made cs key us fs)
  three_pushed old a b e first next last = rw (last, next, first) (append_assoc (old ++ map (λ k. k.name) (key_list key)) (map (λ u. u.name) us) (map (λ f. f.name) fs) ∙ append_assoc old (map (λ k. k.name) (key_list key)) (map (λ u. u.name) us ++ map (λ f. f.name) fs))

  pub two_pushed : (old a b : List Name) → a ≡ old ++ map (λ k. k.name) (key_list key) → b ≡ a ++ map (λ u. u.name) us → b ≡ old ++ inner_names (made cs key us fs)
  two_pushed old a b first next = rw (next, first) (append_assoc old (map (λ k. k.name) (key_list key)) (map (λ u. u.name) us) ∙ ap (λ ns. old ++ (map (λ k. k.name) (key_list key) ++ ns)) (sym (append-nil (map (λ u. u.name) us))))

either_any : {A : Type 0} (p q : A → Bool) (xs : List A) → list_any (λ x. p x || q x) xs ≡ (list_any p xs || list_any q xs)
either_any p q [] = refl
either_any p q (x ∷ xs) = ap (λ b. (p x || q x) || b) (either_any p q xs) ∙ shuffle (p x) (q x) (list_any p xs) (list_any q xs) where
  shuffle : (a b c d : Bool) → ((a || b) || (c || d)) ≡ ((a || c) || (b || d))
  shuffle true b c d = refl
  shuffle false true true d = refl
  shuffle false true false d = refl
  shuffle false false c d = refl

turned : (s r i w : Bool) → ((s || i) || (r || w)) ≡ (s || (r || (w || i)))
turned true r i w = refl
turned false true true w = refl
turned false true false w = refl
turned false false true true = refl
turned false false true false = refl
turned false false false true = refl
turned false false false false = refl

-- under PostgreSQL: with the table's own name among the names that are looked up
pub clash_shared : (t : Name) (c : Catalogue) (cs : List Column) (key : Option Key) (us : List Unique) (fs : List ForeignKey) (constraints inner all : List Name) → constraints ≡ constraint_names (made cs key us fs) → inner ≡ placed t (inner_names (made cs key us fs)) → all ≡ t ∷ placed t (inner_names (made cs key us fs))
    → (list_any (λ n. is_in n (shared_names c)) all || (repeats constraints || is_in t inner)) ≡ (is_taken Postgresql t c || are_clashing Postgresql t (made cs key us fs) c)
clash_shared t c cs key us fs constraints inner all a b e =
    let it = made cs key us fs in
    rw (a, b, e) (turned (is_in t (shared_names c)) (repeats (constraint_names it)) (list_any (λ n. is_in n (shared_names c)) (placed t (inner_names it))) (is_in t (placed t (inner_names it)))
    ∙ ap (λ x. is_in t (shared_names c) || (repeats (constraint_names it) || x)) (sym (either_any (is_named t) (λ n. is_in n (shared_names c)) (placed t (inner_names it)))))

-- under MySQL a new table has no indexes but its unique constraints
pub clash_apart : (t : Name) (c : Catalogue) (cs : List Column) (key : Option Key) (us : List Unique) (fs : List ForeignKey) (uniques foreign : List Name) → uniques ≡ map (λ u. u.name) us → foreign ≡ map (λ f. f.name) fs
    → (is_in t (object_names c) || (repeats uniques || (repeats foreign || list_any (λ n. is_in n (all_foreign_names c)) foreign))) ≡ (is_taken Mysql t c || are_clashing Mysql t (made cs key us fs) c)
clash_apart t c cs key us fs uniques foreign a b = rw (a, b) (ap (λ ns. is_in t (object_names c) || (repeats ns || (repeats (map (λ f. f.name) fs) || list_any (λ n. is_in n (all_foreign_names c)) (map (λ f. f.name) fs)))) (sym (append-nil (map (λ (u : Unique). u.name) us))))

-- names added in turn to the table's own
pub one_more : (t : Name) (a first all : List Name) → first ≡ t ∷ [] → all ≡ first ++ a → all ≡ t ∷ a
one_more t a first all is more = more ∙ ap (λ ns. ns ++ a) is

pub two_more : (t : Name) (a b first next all : List Name) → first ≡ t ∷ [] → next ≡ first ++ a → all ≡ next ++ b → all ≡ (t ∷ a) ++ b
two_more t a b first next all is more most = most ∙ ap (λ ns. ns ++ b) (one_more t a first next is more)

abbrev pub named : List (Bor Name) → List Name
named ns = map (λ n. n.now) ns

-- the first name, put to none
pub begun : (none first : List (Bor Name)) (name : Bor Name) → none ≡ [] → first ≡ none ++ name ∷ [] → named first ≡ name.now ∷ []
begun none first name is more = ap named (more ∙ ap (λ ns. ns ++ name ∷ []) is)

-- names put to none
pub filled : (none all : List (Bor Name)) (names : List Name) → none ≡ [] → named all ≡ named none ++ names → named all ≡ names
filled none all names is more = more ∙ ap (λ ns. named ns ++ names) is
