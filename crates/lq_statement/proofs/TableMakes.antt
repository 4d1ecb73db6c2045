-- What CREATE TABLE gives is a statement of the dialect.
use Rattle.std.proofs.Common.{◌≡◌, ℕ, Bool, true, false, ◌&&◌, not, if◌then◌else◌, List, [], ◌∷◌, Option, Some, None, option_map, IfSome, refl}
use Rattle.std.specs.List.{flat_map, list_all}
use Rattle.std.specs.Option.{option_to_list}
use Rattle.std.proofs.lemmas.Bool.{and_from, and_parts}
use Rattle.lq_base.specs.Laws.{NumberOfSpells}
use Rattle.lq_base.specs.Name.{is_object}
use Rattle.lq_base.specs.declared.dialect.Dialect.{Dialect}
use Rattle.lq_model.specs.Catalogue.{is_empty, key_list}
use Rattle.lq_model.specs.SqlTable.{column_foreign, column_key, column_of, column_unique, stated_column, are_ordered, column_item, columns_in, create_table, foreign_in, keys_in, only, table_item, table_of, table_with, uniques_in}
use Rattle.lq_model.specs.SqlConstraint.{begins_constraint, table_constraint}
use Rattle.lq_model.specs.SqlParser.{enclosed, peek}
use Rattle.lq_model.specs.SqlPart.{object}
use Rattle.lq_model.specs.Step.{is_column_def, is_foreign, is_key, is_unique}
use Rattle.lq_model.specs.declared.constraint.Key.{Key}
use Rattle.lq_model.specs.declared.table_item.TableConstraint.TheVariants as constraint
use Rattle.lq_model.specs.declared.table_item.TableItem.{TableItem}
use Rattle.lq_model.specs.declared.table_item.TableItem.TheVariants as item
use Rattle.lq_parse.proofs.Makes.{AllSo, IsObjectText, Makes, SomeSo, all_join, makes_after, makes_given, makes_if, makes_pure, makes_then, object_makes, one}
use Rattle.lq_statement.proofs.ColumnMakes.{IsDef, IsStated, MayBeForeign, MayBeKey, MayBeUnique, column_foreign_makes, column_is, column_key_makes, column_unique_makes, stated_makes}
use Rattle.lq_statement.proofs.ConstraintMakes.{IsConstraint, constraint_makes}
use Rattle.lq_statement.proofs.Parts.{Is, each_so, enclosed_makes}

abbrev IsItem : Dialect → TableItem → Type 0
IsItem d (item.Column column key unique foreign) = IsDef column × (MayBeKey d key × (MayBeUnique unique × MayBeForeign d foreign))
IsItem d (item.Constraint it) = IsConstraint d it

column_item_makes : NumberOfSpells → (d : Dialect) (table : List ℕ) → Makes (IsItem d) (column_item d table)
unfolding column_item
column_item_makes spells d table =
    makes_then (IsStated d) (IsItem d) (stated_column d) _ (stated_makes spells d) (λ c is. makes_then (MayBeKey d) (IsItem d) (column_key d table c) _ (column_key_makes d table c is) (λ key h.
    makes_then MayBeUnique (IsItem d) (column_unique table c) _ (column_unique_makes d table c is) (λ unique g. makes_then (MayBeForeign d) (IsItem d) (column_foreign table c.name c.target) _ (column_foreign_makes d table c.name c.target is.name is.target) (λ foreign k.
    makes_pure (IsItem d) (item.Column (column_of c) key unique foreign) (column_is d c is, (h, (g, k)))))))

item_makes : NumberOfSpells → (d : Dialect) (table : List ℕ) → Makes (IsItem d) (table_item d table)
unfolding table_item
item_makes spells d table =
    makes_after (IsItem d) peek _ (λ found. makes_if (IsItem d) (begins_constraint found) _ _
    (makes_then (IsConstraint d) (IsItem d) (table_constraint d table) _ (constraint_makes d table) (λ it h. makes_pure (IsItem d) (item.Constraint it) h))
    (column_item_makes spells d table))

may : {A : Type 0} (p : A → Bool) (o : Option A) → IfSome o (λ x. p x ≡ true) → list_all p (option_to_list o) ≡ true
may p None h = refl
may p (Some x) h = one p x h

all_of : {A : Type 0} (p : A → Bool) (f : TableItem → List A) (P : TableItem → Type 0) → ((i : TableItem) → P i → list_all p (f i) ≡ true) → (items : List TableItem) → AllSo P items → list_all p (flat_map f items) ≡ true
all_of p f P each [] h = refl
all_of p f P each (i ∷ items) h = all_join p (f i) (flat_map f items) (each i h.0) (all_of p f P each items h.1)

defs_are : (d : Dialect) (i : TableItem) → IsItem d i → list_all is_column_def (columns_in i) ≡ true
defs_are d (item.Column column key unique foreign) h = one is_column_def column h.0
defs_are d (item.Constraint it) h = refl

keys_are : (d : Dialect) (i : TableItem) → IsItem d i → list_all (is_key d) (keys_in i) ≡ true
keys_are d (item.Column column key unique foreign) h = may (is_key d) key h.1.0
keys_are d (item.Constraint (constraint.Key it)) h = one (is_key d) it h
keys_are d (item.Constraint (constraint.Unique it)) h = refl
keys_are d (item.Constraint (constraint.Foreign it)) h = refl

uniques_are : (d : Dialect) (i : TableItem) → IsItem d i → list_all is_unique (uniques_in i) ≡ true
uniques_are d (item.Column column key unique foreign) h = may is_unique unique h.1.1.0
uniques_are d (item.Constraint (constraint.Key it)) h = refl
uniques_are d (item.Constraint (constraint.Unique it)) h = one is_unique it h
uniques_are d (item.Constraint (constraint.Foreign it)) h = refl

foreign_are : (d : Dialect) (i : TableItem) → IsItem d i → list_all (is_foreign d) (foreign_in i) ≡ true
foreign_are d (item.Column column key unique foreign) h = may (is_foreign d) foreign h.1.1.1
foreign_are d (item.Constraint (constraint.Key it)) h = refl
foreign_are d (item.Constraint (constraint.Unique it)) h = refl
foreign_are d (item.Constraint (constraint.Foreign it)) h = one (is_foreign d) it h

-- at most one key
only_is : (p : Key → Bool) (keys : List Key) → list_all p keys ≡ true → IfSome (only keys) (λ key. list_all p (key_list key) ≡ true)
only_is p [] h = refl
only_is p (k ∷ []) h = h
only_is p (k ∷ l ∷ more) h = tt

mapped : {A B : Type 0} (P : B → Type 0) (f : A → B) (o : Option A) → IfSome o (λ x. P (f x)) → IfSome (option_map f o) P
mapped P f None h = tt
mapped P f (Some x) h = h

more_of : {A : Type 0} (P Q : A → Type 0) → ((x : A) → P x → Q x) → (o : Option A) → IfSome o P → IfSome o Q
more_of P Q f None h = tt
more_of P Q f (Some x) h = f x h

tested : {A : Type 0} (P : A → Type 0) (b : Bool) (o : Option A) → (b ≡ true → IfSome o P) → IfSome (if b then o else None) P
tested P true o h = h refl
tested P false o h = tt

table_is : (d : Dialect) (table : List ℕ) (items : List TableItem) → IsObjectText d table → AllSo (IsItem d) items → IfSome (table_of table items) (Is d)
unfolding table_of
table_is d table items h so =
    let defs = all_of is_column_def columns_in (IsItem d) (defs_are d) items so in
    let keys = only_is (is_key d) (flat_map keys_in items) (all_of (is_key d) keys_in (IsItem d) (keys_are d) items so) in
    let uniques = all_of is_unique uniques_in (IsItem d) (uniques_are d) items so in
    let foreign = all_of (is_foreign d) foreign_in (IsItem d) (foreign_are d) items so in
    tested (Is d) (are_ordered items && not (is_empty (flat_map columns_in items))) _ (λ can.
    let some = (and_parts (are_ordered items) (not (is_empty (flat_map columns_in items))) can).1 in
    mapped (Is d) (table_with table items) (only (flat_map keys_in items))
    (more_of (λ key. list_all (is_key d) (key_list key) ≡ true) (λ key. Is d (table_with table items key)) (λ key k.
    and_from (is_object d table) _ h (and_from (not (is_empty (flat_map columns_in items))) _ some (and_from (list_all is_column_def (flat_map columns_in items)) _ defs (and_from (list_all (is_key d) (key_list key)) _ k
    (and_from (list_all is_unique (flat_map uniques_in items)) (list_all (is_foreign d) (flat_map foreign_in items)) uniques foreign)))))
    (only (flat_map keys_in items)) keys))

pub table_makes : NumberOfSpells → (d : Dialect) → Makes (Is d) (create_table d)
unfolding create_table
table_makes spells d =
    makes_then (IsObjectText d) (Is d) (object d) _ (object_makes d) (λ table h. makes_then (SomeSo (IsItem d)) (Is d) (enclosed (table_item d table)) _ (enclosed_makes (IsItem d) (table_item d table) (item_makes spells d table)) (λ items so.
    makes_given (Is d) (table_of table items) (table_is d table items h (each_so (IsItem d) items so))))
