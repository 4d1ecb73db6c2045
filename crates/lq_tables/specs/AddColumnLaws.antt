-- That addColumn keeps its promises.
use Rattle.std.proofs.Common.{ap, subst, sym, ◌∙◌}
use Rattle.std.specs.List.{flat_map, list_all}
use Rattle.std.specs.Option.{option_map, option_to_list, unwrap_or}
use Rattle.std.specs.Prelude.{Bool, List, None, Ok, Option, Some, [], codes, cond, false, if◌then◌else◌, map, not, option_and_then, refl, true, ℕ, ◌&&◌, ◌++◌, ◌∷◌, ◌≡◌}
use Rattle.lq_base.proofs.BesideLemmas.{is_whole}
use Rattle.lq_base.specs.Kind.{is_kind}
use Rattle.lq_base.specs.Name.{is_name, is_name_key, is_named, is_object}
use Rattle.lq_base.specs.Number.{if_there}
use Rattle.lq_base.specs.Value.{into_kind, is_value_of}
use Rattle.lq_base.specs.declared.dialect.Dialect.{Dialect}
use Rattle.lq_base.specs.declared.dialect.Dialect.TheVariants.{Mysql, Postgresql}
use Rattle.lq_base.specs.declared.literal.Literal.TheVariants as literal
use Rattle.lq_base.specs.declared.name.Name.{Name}
use Rattle.lq_base.specs.declared.value.Value.{Value}
use Rattle.lq_base.specs.declared.value.Value.TheVariants as value
use Rattle.lq_model.proofs.AddDropColumn.{drop_widened, widened_by_add}
use Rattle.lq_model.proofs.Between.{widened_by_modify, widened_by_not_null, widened_by_update}
use Rattle.lq_model.proofs.Columns.{set_again}
use Rattle.lq_model.proofs.Decide.{accepted, here}
use Rattle.lq_model.proofs.Effects.{Both, Ran, does_so, goes_on, ok_same, one_becomes, one_run, one_step, ran_both, ran_first, restores_so, run_both, run_keeps, some_same}
use Rattle.lq_model.proofs.Lists.{all-append, and_left, and_right, and_true, append-nil, named_itself, or_left, or_right}
use Rattle.lq_model.proofs.Told.{if_told, keys_told, kind_told, map_if_told, map_told, maps_told, object_told, text_told, texts_told, truths_told}
use Rattle.lq_model.proofs.UndoConstraints.{drop_after_foreign_key, drop_after_unique}
use Rattle.lq_model.proofs.UndoMysql.{drop_foreign_key_after, drop_unique_after}
use Rattle.lq_model.specs.Catalogue.{Catalogue, IsWidened, Table, has_column, is_empty, is_in, row_fits, table_of, the_table, with_table}
use Rattle.lq_model.specs.Changes.{AreReturns, AreStatements, AreTold, HaveEffect, TakeBack, map_of, text}
use Rattle.lq_model.specs.Comparison.{is_literal}
use Rattle.lq_model.specs.Constraints.{with_foreign, with_unique}
use Rattle.lq_model.specs.Effect.{Becomes, GoesBack}
use Rattle.lq_model.specs.Kinds.{column_of, default_value, kind_in, value_in}
use Rattle.lq_model.specs.Rows.{edited, set_in}
use Rattle.lq_model.specs.Sound.{IsSound}
use Rattle.lq_model.specs.Step.{is_column_def, is_foreign, is_statement, is_unique, plan, run, step}
use Rattle.lq_model.specs.Tables.{changed_at, made_nullable, modified, with_changed, with_column}
use Rattle.lq_model.specs.TakesBack.{nth_value, pairs_of}
use Rattle.lq_model.specs.declared.caller.By.TheVariants.{User}
use Rattle.lq_model.specs.declared.column.Column.{Column}
use Rattle.lq_model.specs.declared.constraint.ForeignKey.{ForeignKey}
use Rattle.lq_model.specs.declared.constraint.Unique.{Unique}
use Rattle.lq_model.specs.declared.statement.Statement.{Statement}
use Rattle.lq_model.specs.declared.statement.Statement.TheVariants as statement
use Rattle.lq_tables.specs.AddColumn.{becomes, becomes_all, canonical_of, column_becomes, column_gives, column_inverse, column_made, column_rows, constraints_rows, def_of, default_of, effect, firms, foreign_of, gives, inverse, inverse_all, is_added, is_constraints, is_firm, is_for, is_fresh, joins, leaves, parts, refers, rows, sets, unique_of, value_made}
use Rattle.lq_tables.specs.Constraints.{foreign_stated, is_reference, unique_stated}
use Rattle.lq_tables.specs.ConstraintsLaws.{foreign_spelled, reference_told, unique_spelled}
use Rattle.lq_tables.specs.declared.add_column.AddColumn.{AddColumn}
use Rattle.lq_tables.specs.declared.add_column.AddedColumn.{AddedColumn}
use Rattle.lq_tables.specs.declared.add_column.AddedConstraints.{AddedConstraints}
use Rattle.lq_tables.specs.declared.constraints.Reference.{Reference}
use Rattle.lq_tree.specs.Items.{are_some}
use Rattle.lq_tree.specs.Values.{is_given, literal_of}
use Rattle.lq_tree.specs.declared.values.GivenValue.{GivenValue}
use Rattle.lq_value_keys.proofs.ValueLaws.{given_is_literal, value_told}

-- a column at the end, and the columns and rows before it

abbrev turned : List Column → List (List Value) → List Unique → Table → Table
turned cs rows us it = record it { columns = cs; rows = rows; uniques = us }

turned_same : (it : Table) (cs ds : List Column) (rows others : List (List Value)) (us vs : List Unique) → cs ≡ ds → rows ≡ others → us ≡ vs → turned cs rows us it ≡ turned ds others vs it
turned_same it cs ds rows others us vs a b c = rw (a, b, c) refl

kind_last : (n : Name) (cs : List Column) (c : Column) → c.name ≡ n → is_in n (map (λ k. k.name) cs) ≡ false → kind_in n (cs ++ c ∷ []) ≡ c.kind
kind_last n [] c named out = rw (ap (is_named n) named ∙ named_itself n) refl
kind_last n (k ∷ cs) c named out = rw (or_left (is_named n k.name) _ out) (kind_last n cs c named (or_right (is_named n k.name) _ out))

changed_last : (n : Name) (f : Column → Column) (cs : List Column) (c : Column) → c.name ≡ n → is_in n (map (λ k. k.name) cs) ≡ false → map (changed_at n f) (cs ++ c ∷ []) ≡ cs ++ f c ∷ []
changed_last n f [] c named out = rw (ap (is_named n) named ∙ named_itself n) refl
changed_last n f (k ∷ cs) c named out =
    ap (λ b. cond b (f k) k ∷ map (changed_at n f) (cs ++ c ∷ [])) (or_left (is_named n k.name) _ out)
    ∙ ap (λ ks. k ∷ ks) (changed_last n f cs c named (or_right (is_named n k.name) _ out))

set_last : (n : Name) (v w : Value) (cs : List Column) (c : Column) (row : List Value) → c.name ≡ n → is_in n (map (λ k. k.name) cs) ≡ false → row_fits cs row ≡ true → set_in n v (cs ++ c ∷ []) (row ++ w ∷ []) ≡ row ++ v ∷ []
set_last n v w [] c [] named out fit = rw (ap (is_named n) named ∙ named_itself n) refl
set_last n v w [] c (y ∷ row) named out fit = absurd Prim.cc
set_last n v w (k ∷ cs) c [] named out fit = absurd Prim.cc
set_last n v w (k ∷ cs) c (y ∷ row) named out fit =
    ap (λ b. cond b (v ∷ (row ++ w ∷ [])) (y ∷ set_in n v (cs ++ c ∷ []) (row ++ w ∷ []))) (or_left (is_named n k.name) _ out)
    ∙ ap (λ ys. y ∷ ys) (set_last n v w cs c row named (or_right (is_named n k.name) _ out) (and_right (is_value_of k.kind y) _ fit))

rows_set : (n : Name) (v w : Value) (cs : List Column) (c : Column) (rows : List (List Value)) → c.name ≡ n → is_in n (map (λ k. k.name) cs) ≡ false → list_all (row_fits cs) rows ≡ true → map (set_in n v (cs ++ c ∷ [])) (map (λ row. row ++ w ∷ []) rows) ≡ map (λ row. row ++ v ∷ []) rows
rows_set n v w cs c [] named out fit = refl
rows_set n v w cs c (row ∷ rows) named out fit =
    ap (λ r. r ∷ map (set_in n v (cs ++ c ∷ [])) (map (λ row. row ++ w ∷ []) rows)) (set_last n v w cs c row named out (and_left (row_fits cs row) _ fit))
    ∙ ap (λ rs. (row ++ v ∷ []) ∷ rs) (rows_set n v w cs c rows named out (and_right (row_fits cs row) _ fit))

-- the column that the statements make

default_same : (x : AddedColumn) → option_map (λ l. value_in (into_kind l x.kind)) (option_map literal_of x.default_value) ≡ default_of x
default_same x = by x.default_value where
  by : (o : Option GivenValue) → option_map (λ l. value_in (into_kind l x.kind)) (option_map literal_of o) ≡ option_map (λ v. value_in (into_kind (literal_of v) x.kind)) o
  by None = refl
  by (Some v) = refl

made_plain : (d : Dialect) (x : AddedColumn) → x.value ≡ None → column_of (def_of x) ≡ column_made d x
made_plain d x none = by d (is_firm x) refl where
  by : (d : Dialect) (b : Bool) → is_firm x ≡ b → column_of (def_of x) ≡ column_made d x
  by Postgresql true firm = rw (none, firm, default_same x) refl
  by Postgresql false firm = rw (none, firm, default_same x) refl
  by Mysql true firm = rw (none, firm, default_same x) refl
  by Mysql false firm = rw (none, firm, default_same x) refl

made_loose : (d : Dialect) (x : AddedColumn) → is_firm x ≡ false → column_of (def_of x) ≡ column_made d x
made_loose Postgresql x loose = rw (loose, default_same x) refl
made_loose Mysql x loose = rw (loose, default_same x) refl

-- what makes a column NOT NULL
abbrev firmed : Dialect → AddedColumn → Column → Column
firmed Postgresql x c = made_nullable false c
firmed Mysql x c = modified x.kind false c

made_firm : (d : Dialect) (x : AddedColumn) (v : GivenValue) → x.value ≡ Some v → is_firm x ≡ true → firmed d x (column_of (def_of x)) ≡ column_made d x
made_firm Postgresql x v some firm = rw (firm, default_same x) refl
made_firm Mysql x v some firm = rw (some, firm) refl

-- the catalogue with the column, before its unique constraint
abbrev with_one : Dialect → Name → AddedColumn → Option GivenValue → Catalogue → Catalogue
with_one d t x v c = with_table c t (turned ((the_table c t).columns ++ column_made d x ∷ []) (map (λ row. row ++ value_made x v ∷ []) (the_table c t).rows) (the_table c t).uniques (the_table c t))

step_becomes : (d : Dialect) (s : Statement) (c e : Catalogue) (n : ℕ) → step User d s c ≡ Ok (e, n) → (plan User d s c).result ≡ e
step_becomes d s c e n h = (accepted (plan User d s c) e n h).result

-- the UPDATE sets the value in each row
updated_is : (d : Dialect) (t : Name) (x : AddedColumn) (v : GivenValue) (c m e : Catalogue) (n : ℕ) → IsSound d c → table_of c t ≡ Some (the_table c t) → has_column (the_table c t) x.name ≡ false → with_table c t (with_column (column_of (def_of x)) (the_table c t)) ≡ m → step User d (statement.Update t ((x.name, literal_of v) ∷ []) None) m ≡ Ok (e, n)
    → with_table c t (turned ((the_table c t).columns ++ column_of (def_of x) ∷ []) (map (λ row. row ++ value_made x (Some v) ∷ []) (the_table c t).rows) (the_table c t).uniques (the_table c t)) ≡ e
updated_is d t x v c m e n sound there new is made =
    let it = the_table c t in
    let col = column_of (def_of x) in
    let fits : list_all (row_fits it.columns) it.rows ≡ true = (sound.tables t it there).rows in
    let value : value_in (into_kind (literal_of v) (kind_in x.name (it.columns ++ col ∷ []))) ≡ value_made x (Some v)
    = ap (λ k. value_in (into_kind (literal_of v) k)) (kind_last x.name it.columns col refl new) in
    ap (λ rows. with_table c t (turned (it.columns ++ col ∷ []) rows it.uniques it)) (sym (
    ap (λ w. map (set_in x.name w (it.columns ++ col ∷ [])) (map (λ row. row ++ default_value col ∷ []) it.rows)) value
    ∙ rows_set x.name (value_made x (Some v)) (default_value col) it.columns col it.rows refl new fits))
    ∙ set_again c m e t (with_column col it) (edited ((x.name, literal_of v) ∷ []) None) there is (step_becomes d (statement.Update t ((x.name, literal_of v) ∷ []) None) m e n made)

-- and NOT NULL the column alone
firms_becomes : (d : Dialect) (t : Name) (x : AddedColumn) (m e : Catalogue) → run User d (firms d t x) m ≡ Ok e → with_table m t (with_changed x.name (firmed d x) (the_table m t)) ≡ e
firms_becomes Postgresql t x m e ran = one_becomes Postgresql (statement.SetNotNull t x.name) m e ran
firms_becomes Mysql t x m e ran = one_becomes Mysql (statement.Modify t x.name x.kind false) m e ran

one_made : (d : Dialect) (t : Name) (x : AddedColumn) (c m e : Catalogue) → IsSound d c → table_of c t ≡ Some (the_table c t) → has_column (the_table c t) x.name ≡ false → with_table c t (with_column (column_of (def_of x)) (the_table c t)) ≡ m → run User d (sets d t x x.value (is_firm x)) m ≡ Ok e → with_one d t x x.value c ≡ e
one_made d t x c m e sound there new is ran = by x.value (is_firm x) refl refl ran where
  by : (v : Option GivenValue) (b : Bool) → x.value ≡ v → is_firm x ≡ b → run User d (sets d t x v b) m ≡ Ok e → with_one d t x v c ≡ e
  by None b none firm h =
      ap (λ col. with_table c t (turned ((the_table c t).columns ++ col ∷ []) (map (λ row. row ++ value_made x None ∷ []) (the_table c t).rows) (the_table c t).uniques (the_table c t))) (sym (made_plain d x none))
      ∙ ap (λ w. with_table c t (turned ((the_table c t).columns ++ column_of (def_of x) ∷ []) (map (λ row. row ++ unwrap_or w value.Null ∷ []) (the_table c t).rows) (the_table c t).uniques (the_table c t))) (sym (default_same x))
      ∙ is ∙ ok_same h
  by (Some v) false some loose h =
      let r : Ran d (statement.Update t ((x.name, literal_of v) ∷ []) None) [] m e = ran_first d (statement.Update t ((x.name, literal_of v) ∷ []) None) [] m e h in
      ap (λ col. with_table c t (turned ((the_table c t).columns ++ col ∷ []) (map (λ row. row ++ value_made x (Some v) ∷ []) (the_table c t).rows) (the_table c t).uniques (the_table c t))) (sym (made_loose d x loose))
      ∙ updated_is d t x v c m r.mid r.count sound there new is r.first
      ∙ ok_same r.others
  by (Some v) true some firm h =
      let it = the_table c t in
      let col = column_of (def_of x) in
      let r : Ran d (statement.Update t ((x.name, literal_of v) ∷ []) None) (firms d t x) m e = ran_first d (statement.Update t ((x.name, literal_of v) ∷ []) None) (firms d t x) m e h in
      ap (λ cs. with_table c t (turned cs (map (λ row. row ++ value_made x (Some v) ∷ []) it.rows) it.uniques it)) (sym (changed_last x.name (firmed d x) it.columns col refl new ∙ ap (λ k. it.columns ++ k ∷ []) (made_firm d x v some firm)))
      ∙ set_again c r.mid e t (turned (it.columns ++ col ∷ []) (map (λ row. row ++ value_made x (Some v) ∷ []) it.rows) it.uniques it) (with_changed x.name (firmed d x)) there (updated_is d t x v c m r.mid r.count sound there new is r.first) (firms_becomes d t x r.mid e r.others)

-- and then its unique constraint

abbrev before : Dialect → Name → AddedColumn → List Unique → Catalogue → Table
before d t x us c = turned ((the_table c t).columns ++ column_made d x ∷ []) (map (λ row. row ++ value_made x x.value ∷ []) (the_table c t).rows) us (the_table c t)

abbrev with_joined : Dialect → Name → AddedColumn → Catalogue → Catalogue
with_joined d t x c = with_table c t (before d t x ((the_table c t).uniques ++ option_to_list (unique_of t x)) c)

joined : (d : Dialect) (t : Name) (x : AddedColumn) (c m e : Catalogue) → table_of c t ≡ Some (the_table c t) → with_one d t x x.value c ≡ m → run User d (joins t (unique_of t x)) m ≡ Ok e → with_joined d t x c ≡ e
joined d t x c m e there is ran = by (unique_of t x) refl ran where
  by : (u : Option Unique) → unique_of t x ≡ u → run User d (joins t u) m ≡ Ok e → with_joined d t x c ≡ e
  by None none h =
      ap (λ us. with_table c t (before d t x us c)) (ap (λ o. (the_table c t).uniques ++ option_to_list o) none ∙ append-nil (the_table c t).uniques)
      ∙ is ∙ ok_same h
  by (Some u) some h =
      ap (λ us. with_table c t (before d t x us c)) (ap (λ o. (the_table c t).uniques ++ option_to_list o) some)
      ∙ set_again c m e t (before d t x (the_table c t).uniques c) (with_unique u) there is (one_becomes d (statement.AddUnique t u) m e h)

-- and its foreign key

abbrev with_parts : Dialect → Name → AddedColumn → List ForeignKey → Catalogue → Table
with_parts d t x fs c = record (before d t x ((the_table c t).uniques ++ option_to_list (unique_of t x)) c) { foreign = fs }

referred : (d : Dialect) (t : Name) (x : AddedColumn) (c m e : Catalogue) → table_of c t ≡ Some (the_table c t) → with_joined d t x c ≡ m → run User d (refers t (foreign_of t x)) m ≡ Ok e → column_becomes d t x c ≡ e
referred d t x c m e there is ran = by (foreign_of t x) refl ran where
  by : (f : Option ForeignKey) → foreign_of t x ≡ f → run User d (refers t f) m ≡ Ok e → column_becomes d t x c ≡ e
  by None none h =
      ap (λ fs. with_table c t (with_parts d t x fs c)) (ap (λ o. (the_table c t).foreign ++ option_to_list o) none ∙ append-nil (the_table c t).foreign)
      ∙ is ∙ ok_same h
  by (Some f) some h =
      ap (λ fs. with_table c t (with_parts d t x fs c)) (ap (λ o. (the_table c t).foreign ++ option_to_list o) some)
      ∙ set_again c m e t (before d t x ((the_table c t).uniques ++ option_to_list (unique_of t x)) c) (with_foreign f) there is (one_becomes d (statement.AddForeignKey t f) m e h)

-- what comes after the column itself
abbrev rest_of : Name → AddedColumn → List Statement
rest_of t x = joins t (unique_of t x) ++ refers t (foreign_of t x)

column_becomes_so : (d : Dialect) (t : Name) (x : AddedColumn) (c e : Catalogue) → IsSound d c → run User d (column_gives d t x) c ≡ Ok e → column_becomes d t x c ≡ e
column_becomes_so d t x c e sound ran =
    let add = statement.AddColumn t (def_of x) in
    let more = sets d t x x.value (is_firm x) in
    let r : Ran d add (more ++ rest_of t x) c e = ran_first d add (more ++ rest_of t x) c e ran in
    let ok = accepted (plan User d add c) r.mid r.count r.first in
    let there : table_of c t ≡ Some (the_table c t) = here c t ok.missing in
    let b : Both d more (rest_of t x) r.mid e = ran_both d more (rest_of t x) r.mid e r.others in
    let f : Both d (joins t (unique_of t x)) (refers t (foreign_of t x)) b.between e = ran_both d (joins t (unique_of t x)) (refers t (foreign_of t x)) b.between e b.back in
    referred d t x c f.between e there (joined d t x c b.between f.between there (one_made d t x c r.mid b.between sound there ok.exists ok.result b.front) f.front) f.back

-- its statements are statements

firms_spelled : (d : Dialect) (t : Name) (x : AddedColumn) → is_object d t ≡ true → is_name x.name ≡ true → is_kind x.kind ≡ true → list_all (is_statement d) (firms d t x) ≡ true
firms_spelled Postgresql t x a b k = and_true _ true (and_true (is_object Postgresql t) (is_name x.name) a b) refl
firms_spelled Mysql t x a b k = and_true _ true (and_true (is_object Mysql t) (is_name x.name && is_kind x.kind) a (and_true (is_name x.name) (is_kind x.kind) b k)) refl

sets_spelled : (d : Dialect) (t : Name) (x : AddedColumn) (v : Option GivenValue) (b : Bool) → is_object d t ≡ true → is_name x.name ≡ true → is_kind x.kind ≡ true → if_there is_given v ≡ true → list_all (is_statement d) (sets d t x v b) ≡ true
sets_spelled d t x None b h n k g = refl
sets_spelled d t x (Some v) false h n k g = rw (h, n, given_is_literal v g) refl
sets_spelled d t x (Some v) true h n k g = rw (h, n, given_is_literal v g) (firms_spelled d t x h n k)

joins_spelled : (d : Dialect) (t : Name) (u : Option Unique) → is_object d t ≡ true → if_there is_unique u ≡ true → list_all (is_statement d) (joins t u) ≡ true
joins_spelled d t None h k = refl
joins_spelled d t (Some u) h k = rw (h, k) refl

refers_spelled : (d : Dialect) (t : Name) (f : Option ForeignKey) → is_object d t ≡ true → if_there (is_foreign d) f ≡ true → list_all (is_statement d) (refers t f) ≡ true
refers_spelled d t None h k = refl
refers_spelled d t (Some f) h k = rw (h, k) refl

-- what is right of constraints
record AreRight (cs : AddedConstraints) : Type 0 where
  unique : if_there is_name cs.unique_constraint_name ≡ true
  references : if_there is_reference cs.references ≡ true
  foreign : if_there is_name cs.foreign_key_name ≡ true

are_right : (cs : AddedConstraints) → is_constraints cs ≡ true → AreRight cs
are_right cs h =
    let a = and_right (if_there is_name cs.primary_key_name) _ h in
    let b = and_right (if_there is_name cs.unique_constraint_name) _ a in
    record {
      unique = and_left (if_there is_name cs.unique_constraint_name) _ a;
      references = and_left (if_there is_reference cs.references) _ b;
      foreign = and_right (if_there is_reference cs.references) _ b;
    }

-- what is right of a column
record IsRight (x : AddedColumn) : Type 0 where
  name : is_name x.name ≡ true
  kind : is_kind x.kind ≡ true
  default : if_there is_given x.default_value ≡ true
  constraints : if_there is_constraints x.constraints ≡ true
  value : if_there is_given x.value ≡ true

right_of : (x : AddedColumn) → is_added x ≡ true → IsRight x
right_of x h =
    let a = and_right (is_name x.name) _ h in
    let b = and_right (is_kind x.kind) _ a in
    let c = and_right (if_there is_given x.default_value) _ b in
    record {
      name = and_left (is_name x.name) _ h;
      kind = and_left (is_kind x.kind) _ a;
      default = and_left (if_there is_given x.default_value) _ b;
      constraints = and_left (if_there is_constraints x.constraints) _ c;
      value = and_right (if_there is_constraints x.constraints) _ c;
    }

unique_right : (t : Name) (x : AddedColumn) → is_name_key t ≡ true → IsRight x → if_there is_unique (unique_of t x) ≡ true
unique_right t x h r = by x.constraints r.constraints where
  by : (o : Option AddedConstraints) → if_there is_constraints o ≡ true → if_there is_unique (option_and_then (λ cs. unique_stated t x.name cs.unique cs.unique_constraint_name) o) ≡ true
  by None k = refl
  by (Some cs) k = unique_spelled t x.name cs.unique cs.unique_constraint_name h r.name (are_right cs k).unique

foreign_right : (d : Dialect) (t : Name) (x : AddedColumn) → is_object d t ≡ true → IsRight x → if_there (is_foreign d) (foreign_of t x) ≡ true
foreign_right d t x h r = by x.constraints r.constraints where
  by : (o : Option AddedConstraints) → if_there is_constraints o ≡ true → if_there (is_foreign d) (option_and_then (λ cs. foreign_stated t x.name cs.references cs.foreign_key_name) o) ≡ true
  by None k = refl
  by (Some cs) k = foreign_spelled d t x.name cs.references cs.foreign_key_name h r.name (are_right cs k).references (are_right cs k).foreign

def_spelled : (x : AddedColumn) → is_name x.name ≡ true → is_kind x.kind ≡ true → if_there is_given x.default_value ≡ true → is_column_def (def_of x) ≡ true
def_spelled x n k g = rw (n, k) (by x.default_value g) where
  by : (o : Option GivenValue) → if_there is_given o ≡ true → is_literal (unwrap_or (option_map literal_of o) literal.Null) ≡ true
  by None h = refl
  by (Some v) h = given_is_literal v h

after_spelled : (d : Dialect) (t : Name) (x : AddedColumn) → is_object d t ≡ true → IsRight x → list_all (is_statement d) (statement.AddColumn t (def_of x) ∷ sets d t x x.value (is_firm x)) ≡ true
after_spelled d t x h r = and_true (is_statement d (statement.AddColumn t (def_of x))) _ (and_true (is_object d t) _ h (def_spelled x r.name r.kind r.default)) (sets_spelled d t x x.value (is_firm x) h r.name r.kind r.value)

column_spelled : (d : Dialect) (t : Name) (x : AddedColumn) → is_object d t ≡ true → is_added x ≡ true → list_all (is_statement d) (column_gives d t x) ≡ true
column_spelled d t x h g =
    let r = right_of x g in
    all-append (is_statement d) (statement.AddColumn t (def_of x) ∷ sets d t x x.value (is_firm x)) (rest_of t x) (after_spelled d t x h r)
    (all-append (is_statement d) (joins t (unique_of t x)) (refers t (foreign_of t x)) (joins_spelled d t (unique_of t x) h (unique_right t x (is_whole d t h) r)) (refers_spelled d t (foreign_of t x) h (foreign_right d t x h r)))

all_spelled : (d : Dialect) (t : Name) (xs : List AddedColumn) → is_object d t ≡ true → list_all is_added xs ≡ true → list_all (is_statement d) (flat_map (column_gives d t) xs) ≡ true
all_spelled d t [] h g = refl
all_spelled d t (x ∷ xs) h g = all-append (is_statement d) (column_gives d t x) (flat_map (column_gives d t) xs) (column_spelled d t x h (and_left (is_added x) _ g)) (all_spelled d t xs h (and_right (is_added x) _ g))

all_added : (xs : List AddedColumn) → are_some is_added xs ≡ true → list_all is_added xs ≡ true
all_added xs h = and_right (not (is_empty xs)) _ h

pub spelled : AreStatements is_for gives
spelled d x h = all_spelled d x.table_name x.columns (and_left (is_object d x.table_name) _ h) (all_added x.columns (and_right (is_object d x.table_name) _ h))

-- and so are those that take it back

leaves_spelled : (d : Dialect) (t : Name) (u : Option Unique) → is_object d t ≡ true → if_there is_unique u ≡ true → list_all (is_statement d) (leaves d t u) ≡ true
leaves_spelled d t None h k = refl
leaves_spelled Postgresql t (Some u) h k = and_true _ true (and_true (is_object Postgresql t) (is_name u.name) h (and_left (is_name u.name) _ k)) refl
leaves_spelled Mysql t (Some u) h k = and_true _ true (and_true (is_object Mysql t) (is_name u.name) h (and_left (is_name u.name) _ k)) refl

parts_spelled : (d : Dialect) (t : Name) (f : Option ForeignKey) → is_object d t ≡ true → if_there (is_foreign d) f ≡ true → list_all (is_statement d) (parts d t f) ≡ true
parts_spelled d t None h k = refl
parts_spelled Postgresql t (Some f) h k = and_true _ true (and_true (is_object Postgresql t) (is_name f.name) h (and_left (is_name f.name) _ k)) refl
parts_spelled Mysql t (Some f) h k = and_true _ true (and_true (is_object Mysql t) (is_name f.name) h (and_left (is_name f.name) _ k)) refl

column_returned : (d : Dialect) (t : Name) (x : AddedColumn) → is_object d t ≡ true → is_added x ≡ true → list_all (is_statement d) (column_inverse d t x) ≡ true
column_returned d t x h g =
    let r = right_of x g in
    let last : list_all (is_statement d) (statement.DropColumn t x.name ∷ []) ≡ true = rw (h, r.name) refl in
    all-append (is_statement d) (parts d t (foreign_of t x)) (leaves d t (unique_of t x) ++ statement.DropColumn t x.name ∷ []) (parts_spelled d t (foreign_of t x) h (foreign_right d t x h r))
    (all-append (is_statement d) (leaves d t (unique_of t x)) (statement.DropColumn t x.name ∷ []) (leaves_spelled d t (unique_of t x) h (unique_right t x (is_whole d t h) r)) last)

all_returned : (d : Dialect) (t : Name) (xs : List AddedColumn) → is_object d t ≡ true → list_all is_added xs ≡ true → list_all (is_statement d) (inverse_all d t xs) ≡ true
all_returned d t [] h g = refl
all_returned d t (x ∷ xs) h g = all-append (is_statement d) (inverse_all d t xs) (column_inverse d t x) (all_returned d t xs h (and_right (is_added x) _ g)) (column_returned d t x h (and_left (is_added x) _ g))

pub returned : AreReturns is_for inverse
returned d x undoing right taken = subst (λ ss. list_all (is_statement d) ss ≡ true) (some_same taken) (all_returned d x.table_name x.columns (and_left (is_object d x.table_name) _ right) (all_added x.columns (and_right (is_object d x.table_name) _ right)))

-- all columns, one after the other

all_become : (d : Dialect) (t : Name) (xs : List AddedColumn) (c e : Catalogue) → is_object d t ≡ true → list_all is_added xs ≡ true → IsSound d c → run User d (flat_map (column_gives d t) xs) c ≡ Ok e → becomes_all d t xs c ≡ e
all_become d t [] c e h g sound ran = ok_same ran
all_become d t (x ∷ xs) c e h g sound ran =
    let b : Both d (column_gives d t x) (flat_map (column_gives d t) xs) c e = ran_both d (column_gives d t x) (flat_map (column_gives d t) xs) c e ran in
    let fine = column_spelled d t x h (and_left (is_added x) _ g) in
    ap (becomes_all d t xs) (column_becomes_so d t x c b.between sound b.front)
    ∙ all_become d t xs b.between e h (and_right (is_added x) _ g) (run_keeps d (column_gives d t x) c b.between fine sound b.front) b.back

becomes_so : Becomes gives becomes is_for
becomes_so d x c e right sound ran = all_become d x.table_name x.columns c e (and_left (is_object d x.table_name) _ right) (all_added x.columns (and_right (is_object d x.table_name) _ right)) sound ran

pub does : HaveEffect is_for gives effect
does = does_so is_for gives becomes becomes_so

-- taking it back

wide_firms : (d : Dialect) (t : Name) (x : AddedColumn) (c m e : Catalogue) → IsWidened t x.name c m → run User d (firms d t x) m ≡ Ok e → IsWidened t x.name c e
wide_firms Postgresql t x c m e wide ran =
    let made = one_step Postgresql (statement.SetNotNull t x.name) m e ran in
    widened_by_not_null User Postgresql t x.name c m e made.0 wide made.1
wide_firms Mysql t x c m e wide ran =
    let made = one_step Mysql (statement.Modify t x.name x.kind false) m e ran in
    widened_by_modify User Mysql t x.name x.kind false c m e made.0 wide made.1

wide_sets : (d : Dialect) (t : Name) (x : AddedColumn) (v : Option GivenValue) (b : Bool) (c m e : Catalogue) → IsSound d c → IsWidened t x.name c m → run User d (sets d t x v b) m ≡ Ok e → IsWidened t x.name c e
wide_sets d t x None b c m e sound wide ran = subst (IsWidened t x.name c) (ok_same ran) wide
wide_sets d t x (Some v) b c m e sound wide ran =
    let r : Ran d (statement.Update t ((x.name, literal_of v) ∷ []) None) (if b then firms d t x else []) m e = ran_first d (statement.Update t ((x.name, literal_of v) ∷ []) None) (if b then firms d t x else []) m e ran in
    last b r.mid (widened_by_update User d t x.name (literal_of v) None c m r.mid r.count sound wide r.first) r.others
  where
    last : (b : Bool) (n : Catalogue) → IsWidened t x.name c n → run User d (if b then firms d t x else []) n ≡ Ok e → IsWidened t x.name c e
    last true n w h = wide_firms d t x c n e w h
    last false n w h = subst (IsWidened t x.name c) (ok_same h) w

-- the unique constraint first, and then the column
left : (d : Dialect) (t : Name) (n : Name) (u : Option Unique) (c m e : Catalogue) → IsSound d m → step User d (statement.DropColumn t n) m ≡ Ok (c, 0) → run User d (joins t u) m ≡ Ok e → run User d (leaves d t u ++ statement.DropColumn t n ∷ []) e ≡ Ok c
left d t n None c m e sound gone ran = one_run d (statement.DropColumn t n) e c 0 (ap (step User d (statement.DropColumn t n)) (sym (ok_same ran)) ∙ gone)
left Postgresql t n (Some u) c m e sound gone ran =
    let made = one_step Postgresql (statement.AddUnique t u) m e ran in
    ap (goes_on Postgresql (statement.DropColumn t n ∷ [])) (drop_after_unique t u User m e made.0 sound made.1)
    ∙ one_run Postgresql (statement.DropColumn t n) m c 0 gone
left Mysql t n (Some u) c m e sound gone ran =
    let made = one_step Mysql (statement.AddUnique t u) m e ran in
    ap (goes_on Mysql (statement.DropColumn t n ∷ [])) (drop_unique_after t u User m e made.0 sound made.1)
    ∙ one_run Mysql (statement.DropColumn t n) m c 0 gone

-- and before both the foreign key
unreferred : (d : Dialect) (t : Name) (f : Option ForeignKey) (ss : List Statement) (c m e : Catalogue) → IsSound d m → run User d ss m ≡ Ok c → run User d (refers t f) m ≡ Ok e → run User d (parts d t f ++ ss) e ≡ Ok c
unreferred d t None ss c m e sound gone ran = ap (run User d ss) (sym (ok_same ran)) ∙ gone
unreferred Postgresql t (Some f) ss c m e sound gone ran =
    let made = one_step Postgresql (statement.AddForeignKey t f) m e ran in
    ap (goes_on Postgresql ss) (drop_after_foreign_key t f User m e made.0 sound made.1) ∙ gone
unreferred Mysql t (Some f) ss c m e sound gone ran =
    let made = one_step Mysql (statement.AddForeignKey t f) m e ran in
    ap (goes_on Mysql ss) (drop_foreign_key_after t f User m e made.0 sound made.1) ∙ gone

column_back : (d : Dialect) (t : Name) (x : AddedColumn) (c e : Catalogue) → is_object d t ≡ true → is_added x ≡ true → IsSound d c → run User d (column_gives d t x) c ≡ Ok e → run User d (column_inverse d t x) e ≡ Ok c
column_back d t x c e h g sound ran =
    let add = statement.AddColumn t (def_of x) in
    let more = sets d t x x.value (is_firm x) in
    let right = right_of x g in
    let r : Ran d add (more ++ rest_of t x) c e = ran_first d add (more ++ rest_of t x) c e ran in
    let ok = accepted (plan User d add c) r.mid r.count r.first in
    let b : Both d more (rest_of t x) r.mid e = ran_both d more (rest_of t x) r.mid e r.others in
    let f : Both d (joins t (unique_of t x)) (refers t (foreign_of t x)) b.between e = ran_both d (joins t (unique_of t x)) (refers t (foreign_of t x)) b.between e b.back in
    let wide : IsWidened t x.name c b.between = wide_sets d t x x.value (is_firm x) c r.mid b.between sound (widened_by_add User d t (def_of x) c r.mid r.count r.first) b.front in
    let front : run User d (add ∷ more) c ≡ Ok b.between = ap (goes_on d more) r.first ∙ b.front in
    let fine : IsSound d b.between = run_keeps d (add ∷ more) c b.between (after_spelled d t x h right) sound front in
    let still : IsSound d f.between = run_keeps d (joins t (unique_of t x)) b.between f.between (joins_spelled d t (unique_of t x) h (unique_right t x (is_whole d t h) right)) fine f.front in
    unreferred d t (foreign_of t x) (leaves d t (unique_of t x) ++ statement.DropColumn t x.name ∷ []) c f.between e still
    (left d t x.name (unique_of t x) c b.between f.between fine (drop_widened User d t x.name c b.between sound wide ok.reserved) f.front) f.back

all_back : (d : Dialect) (t : Name) (xs : List AddedColumn) (c e : Catalogue) → is_object d t ≡ true → list_all is_added xs ≡ true → IsSound d c → run User d (flat_map (column_gives d t) xs) c ≡ Ok e → run User d (inverse_all d t xs) e ≡ Ok c
all_back d t [] c e h g sound ran = ap (λ x. Ok x) (sym (ok_same ran))
all_back d t (x ∷ xs) c e h g sound ran =
    let b : Both d (column_gives d t x) (flat_map (column_gives d t) xs) c e = ran_both d (column_gives d t x) (flat_map (column_gives d t) xs) c e ran in
    let fine : IsSound d b.between = run_keeps d (column_gives d t x) c b.between (column_spelled d t x h (and_left (is_added x) _ g)) sound b.front in
    run_both d (inverse_all d t xs) (column_inverse d t x) e b.between (all_back d t xs b.between e h (and_right (is_added x) _ g) fine b.back)
    ∙ column_back d t x c b.between h (and_left (is_added x) _ g) sound b.front

goes_back : GoesBack is_for gives is_fresh inverse
goes_back d x c e undoing right sound new ran taken =
    ap (λ ss. run User d ss e) (sym (some_same taken))
    ∙ all_back d x.table_name x.columns c e (and_left (is_object d x.table_name) _ right) (all_added x.columns (and_right (is_object d x.table_name) _ right)) sound ran

pub restores : TakeBack is_for effect is_fresh inverse
restores = restores_so is_for gives becomes is_fresh inverse becomes_so goes_back

-- its text tells it

same_constraints : (x y : AddedConstraints) → x.primary_key_name ≡ y.primary_key_name → x.nullable ≡ y.nullable → x.unique ≡ y.unique → x.unique_constraint_name ≡ y.unique_constraint_name → x.references ≡ y.references → x.foreign_key_name ≡ y.foreign_key_name → x ≡ y
same_constraints x y a b c e f g = rw (a, b, c, e, f, g) refl

constraints_told : (x y : AddedConstraints) → is_constraints x ≡ true → is_constraints y ≡ true → map_of (pairs_of (constraints_rows x)) ≡ map_of (pairs_of (constraints_rows y)) → x ≡ y
constraints_told x y g h e =
    let is : constraints_rows x ≡ constraints_rows y = map_told (constraints_rows x) (constraints_rows y) refl refl e in
    same_constraints x y (texts_told x.primary_key_name y.primary_key_name (ap (nth_value 0) is)) (truths_told x.nullable y.nullable (ap (nth_value 1) is)) (truths_told x.unique y.unique (ap (nth_value 2) is)) (texts_told x.unique_constraint_name y.unique_constraint_name (ap (nth_value 3) is))
    (if_told (λ (r : Reference). text r.text) is_reference reference_told x.references y.references (are_right x g).references (are_right y h).references (ap (nth_value 4) is))
    (texts_told x.foreign_key_name y.foreign_key_name (ap (nth_value 5) is))

same_column : (x y : AddedColumn) → x.name ≡ y.name → x.kind ≡ y.kind → x.default_value ≡ y.default_value → x.constraints ≡ y.constraints → x.value ≡ y.value → x ≡ y
same_column x y a b c e f = rw (a, b, c, e, f) refl

column_told : (x y : AddedColumn) → is_added x ≡ true → is_added y ≡ true → map_of (pairs_of (column_rows x)) ≡ map_of (pairs_of (column_rows y)) → x ≡ y
column_told x y g h e =
    let is : column_rows x ≡ column_rows y = map_told (column_rows x) (column_rows y) refl refl e in
    let r = right_of x g in
    let s = right_of y h in
    same_column x y (text_told (ap (nth_value 0) is)) (kind_told x.kind y.kind r.kind s.kind (some_same (ap (nth_value 1) is)))
    (value_told x.default_value y.default_value r.default s.default (ap (nth_value 2) is) (ap (nth_value 3) is) (ap (nth_value 4) is) (ap (nth_value 5) is))
    (map_if_told constraints_rows is_constraints constraints_told x.constraints y.constraints r.constraints s.constraints (ap (nth_value 6) is))
    (value_told x.value y.value r.value s.value (ap (nth_value 7) is) (ap (nth_value 8) is) (ap (nth_value 9) is) (ap (nth_value 10) is))

same_change : (x y : AddColumn) → x.table_name ≡ y.table_name → x.columns ≡ y.columns → x ≡ y
same_change x y a b = rw (a, b) refl

pub told : AreTold is_for canonical_of
told d x y right also e =
    let is : rows x ≡ rows y = keys_told (codes "addColumn") (codes "addColumn") (rows x) (rows y) refl refl e in
    same_change x y (object_told d x.table_name y.table_name (and_left (is_object d x.table_name) _ right) (and_left (is_object d y.table_name) _ also) (ap (nth_value 0) is) (ap (nth_value 2) is))
    (maps_told column_rows is_added column_told x.columns y.columns (all_added x.columns (and_right (is_object d x.table_name) _ right)) (all_added y.columns (and_right (is_object d y.table_name) _ also)) (ap (nth_value 1) is))
