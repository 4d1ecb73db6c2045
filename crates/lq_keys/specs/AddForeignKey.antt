-- addForeignKeyConstraint: a table gets a foreign key.
use Rattle.std.proofs.Common.{ap, subst, sym, ◌∙◌}
use Rattle.std.specs.List.{list_all}
use Rattle.std.specs.Option.{option_map, unwrap_or}
use Rattle.std.specs.Prelude.{Bool, List, None, Option, Result, Some, [], codes, false, if◌then◌else◌, not, refl, true, ℕ, ◌&&◌, ◌++◌, ◌||◌, ◌∷◌, ◌≡◌}
use Rattle.std.specs.Str.{bytes_eq}
use Rattle.lq_base.specs.Name.{is_name, is_object, text_of, within}
use Rattle.lq_base.specs.Number.{if_there}
use Rattle.lq_base.specs.declared.dialect.Dialect.{Dialect}
use Rattle.lq_base.specs.declared.name.Name.{Name}
use Rattle.lq_base.specs.declared.reason.Reason.{Reason}
use Rattle.lq_drops.specs.Drops.{drops_foreign}
use Rattle.lq_keys.specs.DropsLaws.{foreign_back, foreign_spelled}
use Rattle.lq_keys.specs.NamedLaws.{listed}
use Rattle.lq_keys.specs.OnDelete.{an_on_delete, cascades, words}
use Rattle.lq_keys.specs.OnDeleteLaws.{on_delete_told}
use Rattle.lq_keys.specs.declared.add_foreign_key.AddForeignKeyConstraint.{AddForeignKeyConstraint}
use Rattle.lq_model.proofs.Effects.{does_so, one_becomes, restores_so, some_same}
use Rattle.lq_model.proofs.Lists.{and_left, and_right, and_true}
use Rattle.lq_model.proofs.Told.{keys_told, names_told, object_told, text_told}
use Rattle.lq_model.specs.Catalogue.{Catalogue, the_table, with_table}
use Rattle.lq_model.specs.Changes.{AreReturns, AreStatements, AreTold, CanonicalChange, HaveEffect, TakeBack, list, text}
use Rattle.lq_model.specs.Constraints.{with_foreign}
use Rattle.lq_model.specs.Effect.{Becomes, GoesBack, effect_of}
use Rattle.lq_model.specs.Step.{is_statement, run}
use Rattle.lq_model.specs.TakesBack.{Row, change_of, nth_value, schema_row, texts}
use Rattle.lq_model.specs.declared.caller.By.TheVariants.{User}
use Rattle.lq_model.specs.declared.constraint.ForeignKey.{ForeignKey}
use Rattle.lq_model.specs.declared.statement.Statement.{Statement}
use Rattle.lq_model.specs.declared.statement.Statement.TheVariants as statement
use Rattle.lq_tree.specs.Given.{a_name, some_names}
use Rattle.lq_tree.specs.Items.{are_some}
use Rattle.lq_tree.specs.Keys.{Keys, catalogue, fields, map_with, optional, required, schema_key, ◌⊛◌}
use Rattle.lq_tree.specs.Look as look
use Rattle.lq_tree.specs.Look.{Taken, truth_of, value_at}
use Rattle.lq_tree.specs.declared.node.Node.{Node}

-- its keys

abbrev pub keys : Keys (Name → Name → AddForeignKeyConstraint)
keys =
    fields (λ name table columns target targets deletion schema other. record { constraint_name = name; base_table_name = within schema table; base_column_names = columns; referenced_table_name = within other target; referenced_column_names = targets; on_delete = deletion })
    ⊛ required (codes "constraintName") a_name
    ⊛ required (codes "baseTableName") a_name
    ⊛ required (codes "baseColumnNames") some_names
    ⊛ required (codes "referencedTableName") a_name
    ⊛ required (codes "referencedColumnNames") some_names
    ⊛ optional (codes "onDelete") an_on_delete

-- and those that are known only at a value that changes nothing: deferring, validation and the action on an update

abbrev pub is_false : Node → Bool
is_false n = not (unwrap_or (truth_of n) true)

abbrev pub is_true : Node → Bool
is_true n = unwrap_or (truth_of n) false

abbrev pub is_idle : Node → Bool
is_idle n = elim (look.text_of n) [ None ↦ false | Some t ↦ bytes_eq t (codes "NO ACTION") || bytes_eq t (codes "RESTRICT") ]

-- the key where its value is accepted, else `remarks`, which is known anyway
abbrev pub or_remarks : Bool → List ℕ → List ℕ
or_remarks accepted key = if accepted then key else codes "remarks"

abbrev pub ignored : Node → List (List ℕ)
ignored n =
    codes "remarks"
    ∷ or_remarks (if_there is_false (value_at (codes "deferrable") n)) (codes "deferrable")
    ∷ or_remarks (if_there is_false (value_at (codes "initiallyDeferred") n)) (codes "initiallyDeferred")
    ∷ or_remarks (if_there is_true (value_at (codes "validate") n)) (codes "validate")
    ∷ or_remarks (if_there is_idle (value_at (codes "onUpdate") n)) (codes "onUpdate")
    ∷ []

-- with the schemas of both tables
abbrev pub all_keys : Dialect → Keys AddForeignKeyConstraint
all_keys d =
    fields (λ change schema other catalogue. change schema other)
    ⊛ keys
    ⊛ schema_key d (codes "baseTableSchemaName")
    ⊛ schema_key d (codes "referencedTableSchemaName")
    ⊛ catalogue

-- its keys that are always known
abbrev pub key_names : List (List ℕ)
key_names = keys.names ++ (codes "baseTableSchemaName" ∷ codes "referencedTableSchemaName" ∷ codes "catalogName" ∷ [])

unfoldable pub add_foreign_key : Dialect → Taken AddForeignKeyConstraint
add_foreign_key d n = map_with (ignored n) (all_keys d) n

-- its names are names, and it has a column and a target
abbrev pub is_for : Dialect → AddForeignKeyConstraint → Bool
is_for d x =
    is_name x.constraint_name
    && (is_object d x.base_table_name
    && (are_some is_name x.base_column_names
    && (is_object d x.referenced_table_name && are_some is_name x.referenced_column_names)))

-- what it does

abbrev pub foreign_of : AddForeignKeyConstraint → ForeignKey
foreign_of x = record {
  name = x.constraint_name;
  columns = x.base_column_names;
  table = x.referenced_table_name;
  targets = x.referenced_column_names;
  cascade = cascades x.on_delete;
}

abbrev pub gives : Dialect → AddForeignKeyConstraint → List Statement
gives d x = statement.AddForeignKey x.base_table_name (foreign_of x) ∷ []

-- it goes to the end of the table's foreign keys
abbrev pub becomes : Dialect → AddForeignKeyConstraint → Catalogue → Catalogue
becomes d x c = with_table c x.base_table_name (with_foreign (foreign_of x) (the_table c x.base_table_name))

abbrev pub effect : Dialect → AddForeignKeyConstraint → Catalogue → Result Catalogue Reason
effect = effect_of gives becomes

abbrev pub is_fresh : Dialect → AddForeignKeyConstraint → Catalogue → Bool
is_fresh d x c = true

abbrev pub inverse : Dialect → AddForeignKeyConstraint → Option (List Statement)
inverse d x = Some (drops_foreign d x.base_table_name x.constraint_name ∷ [])

-- its canonical text

abbrev pub rows : AddForeignKeyConstraint → List Row
rows x =
    (codes "constraintName", Some (text x.constraint_name))
    ∷ (codes "baseTableName", Some (text (text_of x.base_table_name)))
    ∷ (codes "baseColumnNames", Some (list (texts x.base_column_names)))
    ∷ (codes "referencedTableName", Some (text (text_of x.referenced_table_name)))
    ∷ (codes "referencedColumnNames", Some (list (texts x.referenced_column_names)))
    ∷ (codes "onDelete", option_map (λ o. text (words o)) x.on_delete)
    ∷ (codes "baseTableSchemaName", schema_row x.base_table_name)
    ∷ (codes "referencedTableSchemaName", schema_row x.referenced_table_name)
    ∷ []

abbrev pub canonical_of : AddForeignKeyConstraint → CanonicalChange
canonical_of x = change_of (codes "addForeignKeyConstraint") (rows x)

-- That addForeignKeyConstraint keeps its promises.

pub spelled : AreStatements is_for gives
spelled d x h =
    let a = and_right (is_name x.constraint_name) _ h in
    let b = and_right (is_object d x.base_table_name) _ a in
    let e = and_right (are_some is_name x.base_column_names) _ b in
    rw (
      and_left (is_object d x.base_table_name) _ a,
      and_left (is_name x.constraint_name) _ h,
      listed x.base_column_names (and_left (are_some is_name x.base_column_names) _ b),
      and_left (is_object d x.referenced_table_name) _ e,
      listed x.referenced_column_names (and_right (is_object d x.referenced_table_name) _ e),
    ) refl

pub returned : AreReturns is_for inverse
returned d x undoing right taken =
    let a = and_right (is_name x.constraint_name) _ right in
    let one = foreign_spelled d x.base_table_name x.constraint_name (and_left (is_object d x.base_table_name) _ a) (and_left (is_name x.constraint_name) _ right) in
    subst (λ ss. list_all (is_statement d) ss ≡ true) (some_same taken) (and_true (is_statement d (drops_foreign d x.base_table_name x.constraint_name)) true one refl)

becomes_so : Becomes gives becomes is_for
becomes_so d x c e right sound ran = one_becomes d (statement.AddForeignKey x.base_table_name (foreign_of x)) c e ran

pub does : HaveEffect is_for gives effect
does = does_so is_for gives becomes becomes_so

goes_back : GoesBack is_for gives is_fresh inverse
goes_back d x c e undoing right sound new ran taken = ap (λ ss. run User d ss e) (sym (some_same taken)) ∙ foreign_back d x.base_table_name (foreign_of x) c e sound ran

pub restores : TakeBack is_for effect is_fresh inverse
restores = restores_so is_for gives becomes is_fresh inverse becomes_so goes_back

same : (x y : AddForeignKeyConstraint) → x.constraint_name ≡ y.constraint_name → x.base_table_name ≡ y.base_table_name → x.base_column_names ≡ y.base_column_names → x.referenced_table_name ≡ y.referenced_table_name → x.referenced_column_names ≡ y.referenced_column_names → x.on_delete ≡ y.on_delete → x ≡ y
same x y name table columns target targets deletion = rw (name, table, columns, target, targets, deletion) refl

target_right : (d : Dialect) (x : AddForeignKeyConstraint) → is_for d x ≡ true → is_object d x.referenced_table_name ≡ true
target_right d x h =
    let b = and_right (is_object d x.base_table_name) _ (and_right (is_name x.constraint_name) _ h) in
    and_left (is_object d x.referenced_table_name) _ (and_right (are_some is_name x.base_column_names) _ b)

pub told : AreTold is_for canonical_of
told d x y right also e =
    let is : rows x ≡ rows y = keys_told (codes "addForeignKeyConstraint") (codes "addForeignKeyConstraint") (rows x) (rows y) refl refl e in
    same x y (text_told (ap (nth_value 0) is)) (object_told d x.base_table_name y.base_table_name (and_left (is_object d x.base_table_name) _ (and_right (is_name x.constraint_name) _ right)) (and_left (is_object d y.base_table_name) _ (and_right (is_name y.constraint_name) _ also)) (ap (nth_value 1) is) (ap (nth_value 6) is)) (names_told x.base_column_names y.base_column_names (ap (nth_value 2) is))
    (object_told d x.referenced_table_name y.referenced_table_name (target_right d x right) (target_right d y also) (ap (nth_value 3) is) (ap (nth_value 7) is)) (names_told x.referenced_column_names y.referenced_column_names (ap (nth_value 4) is)) (on_delete_told x.on_delete y.on_delete (ap (nth_value 5) is))
