-- The key that a createTable of a table makes is that of its numbered column.
use Rattle.std.proofs.Common.{ap, subst, sym, ◌∙◌}
use Rattle.std.specs.List.{filter, flat_map, list_all, list_any}
use Rattle.std.specs.Option.{option_and_then, option_map, unwrap_or}
use Rattle.std.specs.Prelude.{Bool, List, None, Option, Some, [], cond, false, if◌then◌else◌, is_none, map, not, refl, true, ◌&&◌, ◌++◌, ◌||◌, ◌∷◌, ◌≡◌}
use Rattle.lq_base.specs.Name.{is_named}
use Rattle.lq_base.specs.declared.dialect.Dialect.{Dialect}
use Rattle.lq_base.specs.declared.dialect.Dialect.TheVariants.{Mysql, Postgresql}
use Rattle.lq_base.specs.declared.name.Name.{Name}
use Rattle.lq_model.proofs.Lists.{and_left, and_right, named_itself, or_left, or_right, same_name, true_false}
use Rattle.lq_model.specs.Catalogue.{Table, is_in, repeats, same_names, key_list}
use Rattle.lq_model.specs.Sound.{key_name, is_key_name, is_key_of, is_numbered_well, primary}
use Rattle.lq_model.specs.Kinds.{is_number}
use Rattle.lq_model.specs.declared.column.Column.{Column}
use Rattle.lq_model.specs.declared.constraint.Key.{Key}
use Rattle.lq_tables.specs.CreateTable.{first_name, is_in_key, key_column_of, key_columns, key_named, key_of, key_with, stated_name}
use Rattle.laws_made.specs.CreatedAs.{column_of}
use Rattle.laws_stages.proofs.OneNumber.{none_more, well}
use Rattle.laws_stages.specs.Making.{own_key}

in_key_is : (d : Dialect) (key : Option Key) (c : Column) → is_in_key (column_of d key c) ≡ c.numbered
in_key_is d key c = by c.numbered c.nullable refl refl where
  by : (numbered nullable : Bool) → c.numbered ≡ numbered → c.nullable ≡ nullable → is_in_key (column_of d key c) ≡ c.numbered
  by false true a b = rw (a, b) refl
  by false false a b = rw (a, b) refl
  by true true a b = rw (a, b) refl
  by true false a b = rw (a, b) refl

abbrev numbered_names : List Column → List Name
numbered_names cs = flat_map (λ (c : Column). if c.numbered then c.name ∷ [] else []) cs

columns_named : (d : Dialect) (key : Option Key) (cs : List Column) → key_columns (map (column_of d key) cs) ≡ numbered_names cs
columns_named d key [] = refl
columns_named d key (c ∷ cs) = ap (λ b. (if b then c.name ∷ [] else []) ++ key_columns (map (column_of d key) cs)) (in_key_is d key c) ∙ ap (λ ns. (if c.numbered then c.name ∷ [] else []) ++ ns) (columns_named d key cs)

filter_none : (cs : List Column) → filter (λ (c : Column). c.numbered) cs ≡ [] → numbered_names cs ≡ []
filter_none [] h = refl
filter_none (c ∷ cs) h = by c.numbered h (filter_none cs) where
  by : (b : Bool) → cond b (c ∷ filter (λ (x : Column). x.numbered) cs) (filter (λ (x : Column). x.numbered) cs) ≡ [] → (filter (λ (x : Column). x.numbered) cs ≡ [] → numbered_names cs ≡ []) → (if b then c.name ∷ [] else []) ++ numbered_names cs ≡ []
  by false h rest = rest h
  by true h rest = absurd Prim.cc

names_none : (cs : List Column) → list_any (λ (c : Column). c.numbered) cs ≡ false → numbered_names cs ≡ []
names_none [] h = refl
names_none (c ∷ cs) h = ap (λ b. (if b then c.name ∷ [] else []) ++ numbered_names cs) (or_left c.numbered _ h) ∙ names_none cs (or_right c.numbered _ h)

names_one : (it : Table) (cs : List Column) → repeats (map (λ (c : Column). c.name) cs) ≡ false → list_all (is_numbered_well it) cs ≡ true → list_any (λ (c : Column). c.numbered) cs ≡ true
    → (n : Name) × (numbered_names cs ≡ n ∷ []) × (is_key_of it.key n ≡ true)
names_one it [] apart h some = absurd Prim.cc
names_one it (c ∷ cs) apart h some = by c.numbered refl some (names_one it cs (or_right (is_in c.name (map (λ (x : Column). x.name) cs)) _ apart) (and_right (is_numbered_well it c) _ h)) where
  by : (b : Bool) → c.numbered ≡ b → (b || list_any (λ (x : Column). x.numbered) cs) ≡ true → (list_any (λ (x : Column). x.numbered) cs ≡ true → (n : Name) × (numbered_names cs ≡ n ∷ []) × (is_key_of it.key n ≡ true))
      → (n : Name) × ((if b then c.name ∷ [] else []) ++ numbered_names cs ≡ n ∷ []) × (is_key_of it.key n ≡ true)
  by false is q rest = rest q
  by true is q rest =
      let its = well it c (and_left (is_numbered_well it c) _ h) is in
      (c.name, ap (λ ns. c.name ∷ ns) (filter_none cs (none_more it c.name cs its (or_left (is_in c.name (map (λ (x : Column). x.name) cs)) _ apart) (and_right (is_numbered_well it c) _ h))), its)

stated_is : (key : Option Key) (c : Column) → stated_name (column_of Postgresql key c) ≡ (if c.numbered then option_map (λ (k : Key). k.name) key else None)
stated_is key c = by c.numbered c.nullable refl refl where
  by : (numbered nullable : Bool) → c.numbered ≡ numbered → c.nullable ≡ nullable → stated_name (column_of Postgresql key c) ≡ (if c.numbered then option_map (λ (k : Key). k.name) key else None)
  by false true a b = rw (a, b) refl
  by false false a b = rw (a, b) refl
  by true true a b = rw (a, b) refl
  by true false a b = rw (a, b) refl

first_is : (k : Key) (cs : List Column) → list_any (λ (c : Column). c.numbered) cs ≡ true → first_name (map (column_of Postgresql (Some k)) cs) ≡ Some k.name
first_is k [] h = absurd Prim.cc
first_is k (c ∷ cs) h = ap (λ o. elim o [ Some name ↦ Some name | None ↦ first_name (map (column_of Postgresql (Some k)) cs) ]) (stated_is (Some k) c) ∙ by c.numbered h (first_is k cs) where
  by : (b : Bool) → (b || list_any (λ (x : Column). x.numbered) cs) ≡ true → (list_any (λ (x : Column). x.numbered) cs ≡ true → first_name (map (column_of Postgresql (Some k)) cs) ≡ Some k.name)
      → elim (if b then Some k.name else None) [ Some name ↦ Some name | None ↦ first_name (map (column_of Postgresql (Some k)) cs) ] ≡ Some k.name
  by true h rest = refl
  by false h rest = rest h

its_name : (d : Dialect) (t : Name) (k : Key) (cs : List Column) → is_key_name d k.name ≡ true → list_any (λ (c : Column). c.numbered) cs ≡ true → key_named d t (map (column_of d (Some k)) cs) ≡ k.name
unfolding key_name
its_name Postgresql t k cs named some = ap (λ o. unwrap_or o (key_name Postgresql t)) (first_is k cs some)
its_name Mysql t k cs named some = sym (same_name k.name primary named)

never : (b : Bool) → (b && false) ≡ true → ⊥
never true q = Prim.cc
never false q = Prim.cc

pub only_name : (ns : List Name) (n : Name) → same_names ns (n ∷ []) ≡ true → ns ≡ n ∷ []
only_name [] n h = absurd Prim.cc
only_name (m ∷ []) n h = ap (λ x. x ∷ []) (same_name m n (and_left (is_named m n) _ h))
only_name (m ∷ l ∷ ns) n h = absurd (never (is_named m n) h)

clash : false ≡ true → ⊥
clash e = Prim.cc

alone : (x : Bool) → (x || false) ≡ true → x ≡ true
alone true h = refl
alone false h = h

pub key_made : (d : Dialect) (t : Name) (it : Table) → repeats (map (λ (c : Column). c.name) it.columns) ≡ false → list_all (is_numbered_well it) it.columns ≡ true → list_all (λ (k : Key). is_key_name d k.name) (key_list it.key) ≡ true
    → key_of d t (map (column_of d it.key) it.columns) ≡ own_key it
key_made d t it apart h named = by (list_any (λ (c : Column). c.numbered) it.columns) refl it.key refl named where
  by : (b : Bool) → list_any (λ (c : Column). c.numbered) it.columns ≡ b → (key : Option Key) → it.key ≡ key → list_all (λ (k : Key). is_key_name d k.name) (key_list key) ≡ true
      → key_of d t (map (column_of d it.key) it.columns) ≡ cond b it.key None
  by false none key is fine = ap (key_with (key_named d t (map (column_of d it.key) it.columns))) (columns_named d it.key it.columns ∙ names_none it.columns none)
  by true some None is fine =
      let one = names_one it it.columns apart h some in
      absurd (clash (subst (λ o. is_key_of o one.0 ≡ true) is one.2))
  by true some (Some k) is fine =
      let one = names_one it it.columns apart h some in
      let columns = only_name k.columns one.0 (alone _ (subst (λ o. is_key_of o one.0 ≡ true) is one.2)) in
      ap (key_with (key_named d t (map (column_of d it.key) it.columns))) (columns_named d it.key it.columns ∙ one.1 ∙ sym columns)
      ∙ ap (λ n. key_with n k.columns) (ap (λ o. key_named d t (map (column_of d o) it.columns)) is ∙ its_name d t k it.columns (and_left (is_key_name d k.name) _ fine) some)
      ∙ ap (key_with k.name) columns ∙ ap (λ ns. Some (record { name = k.name; columns = ns })) (sym columns) ∙ sym is
