-- What is written of a table is read as its createTable.
use Rattle.std.proofs.Common.{ap, subst, sym, ◌∙◌, arith, rules, ◌<◌, ◌≤◌, ◌^◌, ◌++◌, append-nil, append_assoc, inl, inr, tests}
use Rattle.std.proofs.lemmas.Int.{ints}
use Rattle.std.specs.List.{AllByRecursion, list_all}
use Rattle.std.specs.Str.{bytes_eq}
use Rattle.std.specs.Option.{option_map}
use Rattle.std.specs.Prelude.{Bool, Err, List, None, Ok, Option, Some, [], codes, false, if◌then◌else◌, is_some, map, nat_le, not, option_and_then, refl, true, unsigned_abs, zero, suc, ℕ, ℤ, ◌&&◌, ◌+◌, ◌∷◌, ◌≡◌}
use Rattle.lq_base.specs.Kind.{is_kind, kind_of as kind_named}
use Rattle.lq_base.specs.Moment.{IsMoment, is_moment, moment_of, moment_text}
use Rattle.lq_base.specs.Name.{is_key_in, is_name, is_object, parts_of, public, schema_in, schema_of, text_of, within as in_schema}
use Rattle.lq_base.specs.Number.{fixed_text, number_of}
use Rattle.lq_base.specs.declared.dialect.Dialect.{Dialect}
use Rattle.lq_base.specs.declared.dialect.Dialect.TheVariants.{Mysql, Postgresql}
use Rattle.lq_base.specs.declared.kind.Kind.{Kind}
use Rattle.lq_base.specs.declared.literal.Literal.TheVariants as literal
use Rattle.lq_base.specs.declared.name.Name.{Name}
use Rattle.lq_base.specs.declared.value.Value.{Value}
use Rattle.lq_base.specs.declared.value.Value.TheVariants as value
use Rattle.lq_model.specs.Catalogue.{Table}
use Rattle.lq_model.specs.declared.column.Column.{Column}
use Rattle.lq_model.specs.declared.constraint.Key.{Key}
use Rattle.lq_tree.specs.Look.{Found, Taken, and_then, map_found, or_bad, within, printed_of, value_at}
use Rattle.lq_tree.specs.Given.{a_kind, a_name, a_truth, if_so}
use Rattle.lq_tree.specs.Items.{a_column, column_in, is_empty, items_from, only, some_items_in}
use Rattle.lq_tree.specs.Keys.{at_optional, at_required, catalogue, is_public, place, public_at, schema_at, schema_named}
use Rattle.lq_tree.specs.Look as look
use Rattle.lq_tree.specs.Values.{at_member, member, number_given}
use Rattle.lq_tree.specs.declared.node.Node.{Node, Text as TextNode, Truth as TruthNode, Whole as WholeNode}
use Rattle.lq_tree.specs.declared.values.GivenValue.{GivenValue}
use Rattle.lq_tree.specs.declared.values.GivenValue.TheVariants as given
use Rattle.lq_tables.specs.CreateTable.{column_keys, create_table, created_column, created_constraints}
use Rattle.lq_base.proofs.BesideLemmas.{is_whole}
use Rattle.lq_base.proofs.KindSpelled.{names-kind_of}
use Rattle.lq_base.proofs.MomentLemmas.{moment_of-moment_text}
use Rattle.lq_base.proofs.NameLemmas.{names_tell_keys, parts_of_name}
use Rattle.lq_base.proofs.NumberPrinted.{number_of-fixed_text, number_of-whole_text}
use Rattle.lq_base.specs.declared.fault.KindFault.TheVariants.{Bad}
use Rattle.lq_base.specs.Spells.{NamesKind}
use Rattle.lq_base.specs.declared.kind.Kind.TheVariants as kind
use Rattle.lq_tree.specs.declared.values.ValueKey.TheVariants as by
use Rattle.std.specs.Fmt.{decimal}
use Rattle.lq_generate.specs.Created.{constraints_at, column_rows, column_tree, constraints_rows, created_rows, created_tree, date_at, date_text, key_name_of, number_at, text_at, truth_at}
use Rattle.laws_made.specs.CreatedAs.{constraints_in, column_of, constraints_of, created, given_of, IsWritten}
use Rattle.laws_generate.specs.Again.{row_at}
use Rattle.lq_generate.specs.Types.{Row, map_node, schema_at as schema_row, under, type_text}
use Rattle.lq_value_keys.specs.ValueKeys.{default_keys}
use Rattle.lq_tables.specs.declared.create_table.CreateTable.{CreateTable}
use Rattle.lq_tables.specs.declared.create_table.CreatedColumn.{CreatedColumn}
use Rattle.lq_tables.specs.declared.create_table.CreatedConstraints.{CreatedConstraints}
use Rattle.laws_generate.proofs.NodesRead.{list_is, map_is, printed_text, printed_whole, text_is, truth_is}
use Rattle.laws_generate.proofs.RowsRead.{all_known, and_left, differ, row_found}

-- a name is read as that name
pub name_read : (n : Name) → is_name n ≡ true → a_name (TextNode n) ≡ Ok n
name_read n h = rw (printed_text n, h) refl

-- the constraints of a column

abbrev pub Fits : {A : Type 0} → (A → Bool) → Option A → Type 0
Fits test None = Unit {0}
Fits test (Some a) = test a ≡ true

truth_read : (b : Bool) → a_truth (TruthNode b) ≡ Ok b
truth_read b = rw (truth_is b) refl

pub so_read : (key : List ℕ) (b : Bool) → at_optional key a_truth (if b then Some (TruthNode true) else None) ≡ Ok (if b then Some true else None)
so_read key true = rw (truth_read true) refl
so_read key false = refl

not_so_read : (key : List ℕ) (b : Bool) → at_optional key a_truth (if b then None else Some (TruthNode false)) ≡ Ok (if b then None else Some false)
not_so_read key true = refl
not_so_read key false = rw (truth_read false) refl

pub name_there : (key : List ℕ) (o : Option Name) → Fits is_name o → at_optional key a_name (option_map (λ (n : Name). TextNode n) o) ≡ Ok o
name_there key None h = refl
name_there key (Some n) h = rw (name_read n h) refl

constraints_read : (d : Dialect) (key : Option Key) (c : Column) → Fits is_name (key_name_of d key c) → created_constraints (map_node (constraints_rows d key c)) ≡ Ok (constraints_of d key c)
unfolding created_constraints
constraints_read d key c h =
    let rs = constraints_rows d key c in
    rw (
      all_known (codes "primaryKey" ∷ codes "primaryKeyName" ∷ codes "nullable" ∷ codes "unique" ∷ codes "uniqueConstraintName" ∷ codes "references" ∷ codes "foreignKeyName" ∷ []) rs refl,
      row_found (codes "primaryKey") rs refl,
      row_found (codes "primaryKeyName") rs refl,
      row_found (codes "nullable") rs refl,
      row_found (codes "unique") rs refl,
      row_found (codes "uniqueConstraintName") rs refl,
      row_found (codes "references") rs refl,
      row_found (codes "foreignKeyName") rs refl,
      so_read (codes "primaryKey") c.numbered,
      name_there (codes "primaryKeyName") (key_name_of d key c) h,
      not_so_read (codes "nullable") c.nullable,
    ) refl

constraints_there : (d : Dialect) (key : Option Key) (c : Column) → Fits is_name (key_name_of d key c) → at_optional (codes "constraints") created_constraints (constraints_at d key c) ≡ Ok (constraints_in d key c)
constraints_there d key c h = by (c.nullable && not c.numbered) where
  by : (b : Bool) → at_optional (codes "constraints") created_constraints (if b then None else Some (map_node (constraints_rows d key c))) ≡ Ok (if b then None else Some (constraints_of d key c))
  by true = refl
  by false = rw (constraints_read d key c h) refl

-- its default

moment_tested : (ms : ℤ) → IsMoment ms → is_moment ms ≡ true
moment_tested ms h = grind (arith, ints, tests, h.0, h.1)

date_is : (ms : ℤ) → IsMoment ms → date_text ms ≡ moment_text ms
unfolding date_text
date_is ms h = ap (λ b. if b then moment_text ms else []) (moment_tested ms h)

abbrev stated : Option Node → Option Node → Option Node → Option Node → Found (Option GivenValue)
stated t n b m =
    and_then (at_member (codes "defaultValue") by.Text None t) (λ one.
    and_then (at_member (codes "defaultValueNumeric") by.Number one n) (λ two.
    and_then (at_member (codes "defaultValueBoolean") by.Truth two b) (λ three.
    at_member (codes "defaultValueDate") by.Date three m)))

default_read : (o : Option Value) → IsWritten o → stated (text_at o) (number_at o) (truth_at o) (date_at o) ≡ Ok (given_of o)
default_read None h = refl
default_read (Some (value.Text t)) h = rw (printed_text t) refl
default_read (Some (value.Int n)) h = rw (printed_whole n, number_of-whole_text n h) refl
default_read (Some (value.Fixed units zero)) h = rw (printed_text (fixed_text units zero), number_of-whole_text units h.0) refl
default_read (Some (value.Fixed units (suc more))) h = rw (printed_text (fixed_text units (suc more)), number_of-fixed_text units (suc more) h.0 (omega arith) h.1) refl
default_read (Some (value.Bool b)) h = rw (truth_is b) refl
default_read (Some (value.Moment ms)) h = rw (date_is ms h, text_is (moment_text ms), moment_of-moment_text ms h) refl
default_read (Some value.Null) h = absurd h

-- its kind

type_names : (k : Kind) → is_kind k ≡ true → NamesKind (type_text k) k
unfolding type_text
type_names kind.Int h = refl
type_names kind.BigInt h = refl
type_names kind.Boolean h = refl
type_names (kind.Varchar most) h = (h, record { word = codes "varchar"; inside = decimal most; is = refl; is_word = refl; number = record { before = []; after = []; is = sym (append-nil (decimal most)); blanks = (refl, refl) } })
type_names kind.Text h = refl
type_names kind.Moment h = inl refl
type_names (kind.Decimal n m) h = (
  h,
  record {
    word = codes "decimal";
    first = decimal n;
    second = 32 ∷ decimal m;
    is = ap (λ t. t ++ 41 ∷ []) (append_assoc (codes "decimal(" ++ decimal n) (codes ", ") (decimal m));
    is_word = refl;
    numbers = (record { before = []; after = []; is = sym (append-nil (decimal n)); blanks = (refl, refl) }, record { before = 32 ∷ []; after = []; is = ap (λ t. 32 ∷ t) (sym (append-nil (decimal m))); blanks = (refl, refl) });
  },
)

kind_read : (k : Kind) → is_kind k ≡ true → a_kind (TextNode (type_text k)) ≡ Ok k
kind_read k h = rw (printed_text (type_text k), names-kind_of (type_text k) k (type_names k h)) refl

-- a column

pub record IsWritable (d : Dialect) (key : Option Key) (c : Column) : Type 0 where
  pub name : is_name c.name ≡ true
  pub kind : is_kind c.kind ≡ true
  pub default : IsWritten c.default
  pub key_named : Fits is_name (key_name_of d key c)

column_read : (d : Dialect) (key : Option Key) (c : Column) → IsWritable d key c → created_column (map_node (column_rows d key c)) ≡ Ok (column_of d key c)
unfolding created_column
column_read d key c h =
    let rs = column_rows d key c in
    rw (
      all_known (codes "name" ∷ codes "type" ∷ codes "autoIncrement" ∷ codes "defaultValue" ∷ codes "defaultValueNumeric" ∷ codes "defaultValueBoolean" ∷ codes "defaultValueDate" ∷ codes "constraints" ∷ codes "remarks" ∷ []) rs refl,
      row_found (codes "name") rs refl,
      row_found (codes "type") rs refl,
      row_found (codes "autoIncrement") rs refl,
      row_found (codes "defaultValue") rs refl,
      row_found (codes "defaultValueNumeric") rs refl,
      row_found (codes "defaultValueBoolean") rs refl,
      row_found (codes "defaultValueDate") rs refl,
      row_found (codes "constraints") rs refl,
      name_read c.name h.name,
      kind_read c.kind h.kind,
      so_read (codes "autoIncrement") c.numbered,
      default_read c.default h.default,
      constraints_there d key c h.key_named,
    ) refl

-- an item of the list of columns: a map whose one key is `column`
item_read : (d : Dialect) (key : Option Key) (c : Column) → IsWritable d key c → a_column created_column (column_tree d key c) ≡ Ok (column_of d key c)
item_read d key c h = ap (column_in created_column (column_tree d key c)) (one (codes "column") (map_node (column_rows d key c)) refl) ∙ rw (column_read d key c h) refl where
  one : (k : List ℕ) (n : Node) → bytes_eq k k ≡ true → only k (under k n) ≡ Some n
  one k n same = rw (map_is ((k, n) ∷ []), same) refl

-- each of a list
pub items_are : {A B : Type 0} (takes : Taken B) (tree : A → Node) (value : A → B) (P : A → Type 0) → ((a : A) → P a → takes (tree a) ≡ Ok (value a)) → (key : List ℕ) (at : ℕ) (xs : List A) → AllByRecursion P xs → items_from key at takes (map tree xs) ≡ Ok (map value xs)
items_are takes tree value P each key at [] h = refl
items_are takes tree value P each key at (x ∷ xs) h = rw (each x h.0, items_are takes tree value P each key (at + 1) xs h.1) refl

columns_read : (d : Dialect) (key : Option Key) (cs : List Column) → is_empty cs ≡ false → AllByRecursion (IsWritable d key) cs → some_items_in (codes "columns") (a_column created_column) (Some (map (column_tree d key) cs)) ≡ Ok (map (column_of d key) cs)
columns_read d key [] some h = absurd Prim.cc
columns_read d key (c ∷ cs) some h = items_are (a_column created_column) (column_tree d key) (column_of d key) (IsWritable d key) (item_read d key) (codes "columns") 0 (c ∷ cs) h

-- neither a schema nor a catalogue

not_there : (key : List ℕ) (rs : List Row) → differ rs ≡ true → row_at key rs ≡ None → public_at key (map_node rs) ≡ Ok tt
not_there key rs h none = ap at_key (row_found key rs h ∙ none) where
  at_key : Option Node → Found (Unit {0})
  at_key o = elim o [ None ↦ Ok tt | Some value ↦ if is_public value then Ok tt else Err (Bad key) ]

pub nowhere : (rs : List Row) → differ rs ≡ true → row_at (codes "schemaName") rs ≡ None → row_at (codes "catalogName") rs ≡ None → place.says (map_node rs) ≡ Ok tt
nowhere rs h a b = ap (λ r. and_then r (λ _. public_at (codes "catalogName") (map_node rs))) (not_there (codes "schemaName") rs h a) ∙ not_there (codes "catalogName") rs h b

-- no catalogue
pub no_catalogue : (rs : List Row) → differ rs ≡ true → row_at (codes "catalogName") rs ≡ None → catalogue.says (map_node rs) ≡ Ok tt
no_catalogue rs h none = not_there (codes "catalogName") rs h none

-- the schema of a name

abbrev schema_told : Dialect → List ℕ → Option (List ℕ) → Found Name
schema_told d key o = elim o [ None ↦ Err (Bad key) | Some t ↦ schema_named d key t ]

abbrev at_schema : Dialect → List ℕ → Option Node → Found Name
at_schema d key o = elim o [ None ↦ Ok public | Some value ↦ schema_told d key (look.text_of value) ]

abbrev schema_node : Option (List ℕ × List ℕ) → Option Node
schema_node o = if is_some o then Some (TextNode (schema_in o)) else None

a_schema : (key schema : List ℕ) → is_name schema ≡ true → schema_named Postgresql key schema ≡ Ok schema
a_schema key schema named = ap (λ b. if b then Ok schema else Err (Bad key)) named

schema_is : (d : Dialect) (key t : List ℕ) (o : Option (List ℕ × List ℕ)) → parts_of t ≡ o → is_object d t ≡ true → at_schema d key (schema_node o) ≡ Ok (schema_in o)
schema_is d key t None is h = refl
schema_is Postgresql key t (Some p) is h = ap (schema_told Postgresql key) (text_is p.0) ∙ a_schema key p.0 (and_left (is_name p.0) _ (ap (is_key_in t) (sym is) ∙ h))
schema_is Mysql key t (Some p) is h = absurd (nothing (sym is ∙ parts_of_name t h)) where
  nothing : Some p ≡ None → ⊥
  nothing e = Prim.cc

pub schema_read : (d : Dialect) (key : List ℕ) (t : Name) (rs : List Row) → is_object d t ≡ true → differ rs ≡ true → row_at key rs ≡ schema_row t → schema_at d key (map_node rs) ≡ Ok (schema_of t)
schema_read d key t rs h apart there = ap (at_schema d key) (row_found key rs apart ∙ there) ∙ schema_is d key t (parts_of t) refl h

-- a name is its text in its schema
pub whole : (d : Dialect) (t : Name) → is_object d t ≡ true → in_schema (schema_of t) (text_of t) ≡ t
whole d t h = (names_tell_keys t (is_whole d t h)).2

pub text_named : (d : Dialect) (t : Name) → is_object d t ≡ true → is_name (text_of t) ≡ true
text_named d t h = (names_tell_keys t (is_whole d t h)).1

abbrev table_at : List CreatedColumn → Name → CreateTable
table_at columns t = record { table_name = t; columns = columns }

pub created_read : (d : Dialect) (t : Name) (it : Table) → is_object d t ≡ true → is_empty it.columns ≡ false → AllByRecursion (IsWritable d it.key) it.columns → create_table d (created_tree d t it) ≡ Ok (created d t it)
unfolding create_table
created_read d t it name some h =
    let rs = created_rows d t it in
    rw (
      all_known (codes "tableName" ∷ codes "columns" ∷ codes "schemaName" ∷ codes "catalogName" ∷ codes "remarks" ∷ []) rs refl,
      row_found (codes "tableName") rs refl,
      row_found (codes "columns") rs refl,
      schema_read d (codes "schemaName") t rs name refl refl,
      no_catalogue rs refl refl,
      name_read (text_of t) (text_named d t name),
      list_is (map (column_tree d it.key) it.columns),
      columns_read d it.key it.columns some h,
    ) (ap (λ n. Ok (table_at (map (column_of d it.key) it.columns) n)) (whole d t name))
