-- Each statement of a dialect is read from its text.
use Rattle.std.proofs.Common.{◌≡◌, ◌≢◌, ℕ, true, false, ◌&&◌, not, List, [], ◌∷◌, ◌++◌, map, Option, Some, None, refl}
use Rattle.std.specs.List.{list_all}
use Rattle.std.specs.Option.{unwrap_or}
use Rattle.std.specs.Ordering.{int_eq}
use Rattle.std.specs.Prelude.{pos}
use Rattle.std.proofs.lemmas.Bool.{and_parts}
use Rattle.lq_base.specs.Kind.{is_kind}
use Rattle.lq_base.proofs.NameLemmas.{is_name_key_name, names_tell_keys}
use Rattle.lq_base.specs.Name as name
use Rattle.lq_base.specs.Name.{is_beside, is_name, is_name_key, is_object}
use Rattle.lq_base.specs.declared.dialect.Dialect.{Dialect}
use Rattle.lq_base.specs.declared.dialect.Dialect.TheVariants.{Postgresql, Mysql}
use Rattle.lq_base.specs.declared.literal.Literal.{Literal}
use Rattle.lq_base.specs.declared.literal.Literal.TheVariants as constant
use Rattle.lq_model.proofs.Lists.{same_name}
use Rattle.lq_model.specs.Kinds.{literal_of}
use Rattle.lq_model.specs.Catalogue.{is_empty, key_list}
use Rattle.lq_model.specs.Sound.{is_key_name, primary}
use Rattle.lq_model.specs.Comparison.{is_literal}
use Rattle.lq_model.specs.Step.{is_column_def, is_foreign, is_index, is_key, is_name_list, is_query, is_unique, is_wanted, is_where}
use Rattle.lq_model.specs.SqlText.{statement_in}
use Rattle.lq_model.specs.StatementText.{text_of}
use Rattle.lq_model.specs.declared.column.ColumnDef.{ColumnDef}
use Rattle.lq_model.specs.declared.constraint.ForeignKey.{ForeignKey}
use Rattle.lq_model.specs.declared.constraint.Key.{Key}
use Rattle.lq_model.specs.declared.constraint.Unique.{Unique}
use Rattle.lq_model.specs.declared.query.Wanted.{Wanted}
use Rattle.lq_model.specs.declared.query.Wanted.TheVariants as wanted
use Rattle.lq_model.specs.declared.statement.Statement.TheVariants.{AddColumn, AddForeignKey, AddPrimaryKey, AddUnique, CreateIndex, CreateSequence, CreateTable, CreateView, Delete, DropColumn, DropConstraint, DropDefault, DropForeignKey, DropIndex, DropNotNull, DropPrimaryKey, DropSequence, DropTable, DropUnique, DropView, Insert, Modify, RenameColumn, RenameSequence, RenameTable, RenameView, SetDefault, SetNotNull, Update}
use Rattle.lq_parse.proofs.Lists.{EachItem}
use Rattle.lq_parse.proofs.Objects.{IsReadName, IsReadObject, name_fact}
use Rattle.lq_parse.proofs.QueryAgain.{each_name, wanted_names}
use Rattle.lq_parse.proofs.Spoken.{Below}
use Rattle.lq_parse.proofs.Written.{literal_fact}
use Rattle.lq_statement.specs.Laws.{StatementsReadBack}
use Rattle.lq_statement.proofs.ColumnAgain.{CanDefault, IsDefault}
use Rattle.lq_statement.proofs.ConstraintAgain.{IsReadForeign, IsReadKey, IsReadUnique, SomeNames}
use Rattle.lq_statement.proofs.ListsAgain.{each_literal}
use Rattle.lq_statement.proofs.Named.{IsReadNew, drop_column_back, drop_constraint_back, drop_default_back, drop_foreign_key_back, drop_index_back, drop_index_on_back, drop_not_null_back, drop_primary_key_back, drop_sequence_back, drop_table_back, drop_unique_back, drop_view_back, rename_column_back, rename_sequence_back, rename_table_back, rename_view_back, set_not_null_back}
use Rattle.lq_base.proofs.BesideLemmas.{new_again}
use Rattle.lq_statement.proofs.RowsBack.{delete_back, each_set, insert_back, update_back}
use Rattle.lq_statement.proofs.SchemaBack.{index_back, modify_back, sequence_back, set_default_back, view_back}
use Rattle.lq_statement.proofs.TableBack.{IsItem, IsReadColumn, add_column_back, add_foreign_back, add_key_back, add_unique_back, column_alone, create_table_back, foreign_item, key_item, unique_item}

-- the facts of the parts

some_names : (ns : List (List ℕ)) → is_name_list ns ≡ true → SomeNames ns
some_names [] is = absurd cc
some_names (n ∷ ns) is = let both = and_parts (is_name n) (list_all is_name ns) is in (name_fact n both.0, each_name ns both.1)

column_by : Below → (c : ColumnDef) (default : Option Literal) → is_name c.name ≡ true → is_kind c.kind ≡ true → is_literal (unwrap_or default constant.Null) ≡ true
    → IsReadName c.name × ((is_kind c.kind ≡ true) × (CanDefault default × IsDefault default))
column_by below c None a b is = (name_fact c.name a, (b, (tt, tt)))
column_by below c (Some l) a b is = (name_fact c.name a, (b, (is, literal_fact below l is)))

column_fact : Below → (c : ColumnDef) → is_column_def c ≡ true → IsReadColumn c
column_fact below c is =
    let a = and_parts (is_name c.name) (is_kind c.kind && is_literal (literal_of c)) is in
    let b = and_parts (is_kind c.kind) (is_literal (literal_of c)) a.1 in
    column_by below c c.default a.0 b.0 b.1

each_column : Below → (cs : List ColumnDef) → list_all is_column_def cs ≡ true → EachItem IsReadColumn cs
each_column below [] all = tt
each_column below (c ∷ cs) all = let both = and_parts (is_column_def c) (list_all is_column_def cs) all in (column_fact below c both.0, each_column below cs both.1)

key_fact : (d : Dialect) (k : Key) → is_key d k ≡ true → IsReadKey d k
key_fact Postgresql k is =
    let a = and_parts (is_name k.name) (is_key_name Postgresql k.name && is_name_list k.columns) is in
    let b = and_parts (is_key_name Postgresql k.name) (is_name_list k.columns) a.1 in
    (name_fact k.name a.0, some_names k.columns b.1)
key_fact Mysql k is =
    let a = and_parts (is_name k.name) (is_key_name Mysql k.name && is_name_list k.columns) is in
    let b = and_parts (is_key_name Mysql k.name) (is_name_list k.columns) a.1 in
    (same_name k.name primary b.0, some_names k.columns b.1)

unique_fact : (u : Unique) → is_unique u ≡ true → IsReadUnique u
unique_fact u is = let a = and_parts (is_name u.name) (is_name_list u.columns) is in (name_fact u.name a.0, some_names u.columns a.1)

foreign_fact : (d : Dialect) (f : ForeignKey) → is_foreign d f ≡ true → IsReadForeign d f
foreign_fact d f is =
    let a = and_parts (is_name f.name) (is_name_list f.columns && (is_object d f.table && is_name_list f.targets)) is in
    let b = and_parts (is_name_list f.columns) (is_object d f.table && is_name_list f.targets) a.1 in
    let c = and_parts (is_object d f.table) (is_name_list f.targets) b.1 in
    (name_fact f.name a.0, (some_names f.columns b.0, (c.0, some_names f.targets c.1)))

impossible : false ≡ true → ⊥
impossible h = cc

-- two names

two : (t n : List ℕ) → (is_name t && is_name n) ≡ true → IsReadName t × IsReadName n
two t n is = let both = and_parts (is_name t) (is_name n) is in (name_fact t both.0, name_fact n both.1)

-- an object's and one inside it

inside : (d : Dialect) (t n : List ℕ) → (is_object d t && is_name n) ≡ true → IsReadObject d t × IsReadName n
inside d t n is = let both = and_parts (is_object d t) (is_name n) is in (both.0, name_fact n both.1)

-- an object's and its new one

is_whole : (d : Dialect) (n : List ℕ) → is_object d n ≡ true → is_name_key n ≡ true
is_whole Postgresql n is = is
is_whole Mysql n is = is_name_key_name n is

renamed : (d : Dialect) (t to : List ℕ) → (is_object d t && (is_object d to && is_beside t to)) ≡ true → IsReadObject d t × IsReadNew t to
renamed d t to is =
    let both = and_parts (is_object d t) (is_object d to && is_beside t to) is in
    let new = and_parts (is_object d to) (is_beside t to) both.1 in
    let key = is_whole d to new.0 in
    (both.0, (name_fact (name.text_of to) (names_tell_keys to key).1, new_again t to key new.1))

-- the items of a table

each_foreign : (d : Dialect) (fs : List ForeignKey) → list_all (is_foreign d) fs ≡ true → EachItem (IsItem d) (map foreign_item fs)
each_foreign d [] all = tt
each_foreign d (f ∷ fs) all = let both = and_parts (is_foreign d f) (list_all (is_foreign d) fs) all in (foreign_fact d f both.0, each_foreign d fs both.1)

each_unique : (d : Dialect) (us : List Unique) (fs : List ForeignKey) → list_all is_unique us ≡ true → list_all (is_foreign d) fs ≡ true → EachItem (IsItem d) (map unique_item us ++ map foreign_item fs)
each_unique d [] fs all more = each_foreign d fs more
each_unique d (u ∷ us) fs all more = let both = and_parts (is_unique u) (list_all is_unique us) all in (unique_fact u both.0, each_unique d us fs both.1 more)

each_key : (d : Dialect) (ks : List Key) (us : List Unique) (fs : List ForeignKey) → list_all (is_key d) ks ≡ true → list_all is_unique us ≡ true → list_all (is_foreign d) fs ≡ true → EachItem (IsItem d) (map key_item ks ++ (map unique_item us ++ map foreign_item fs))
each_key d [] us fs keys all more = each_unique d us fs all more
each_key d (k ∷ ks) us fs keys all more = let both = and_parts (is_key d k) (list_all (is_key d) ks) keys in (key_fact d k both.0, each_key d ks us fs both.1 all more)

each_item : Below → (d : Dialect) (cs : List ColumnDef) (ks : List Key) (us : List Unique) (fs : List ForeignKey) → list_all is_column_def cs ≡ true → list_all (is_key d) ks ≡ true → list_all is_unique us ≡ true → list_all (is_foreign d) fs ≡ true
    → EachItem (IsItem d) (map column_alone cs ++ (map key_item ks ++ (map unique_item us ++ map foreign_item fs)))
each_item below d [] ks us fs columns keys all more = each_key d ks us fs keys all more
each_item below d (c ∷ cs) ks us fs columns keys all more =
    let both = and_parts (is_column_def c) (list_all is_column_def cs) columns in
    ((column_fact below c both.0, (refl, (refl, refl))), each_item below d cs ks us fs both.1 keys all more)

each_wanted : (w : Wanted) → is_wanted w ≡ true → EachItem IsReadName (wanted_names w)
each_wanted wanted.All is = tt
each_wanted wanted.Count is = tt
each_wanted (wanted.Columns ns) is = each_name ns (and_parts (not (is_empty ns)) (list_all is_name ns) is).1

some_values : (ls : List Literal) → not (is_empty ls) ≡ true → ls ≢ []
some_values [] is = absurd cc
some_values (l ∷ ls) is = λ e. absurd cc

pub statements_read : Below → StatementsReadBack
statements_read below d (CreateTable t [] key us fs) can = absurd (no_columns can)
  where
    no_columns : (is_object d t && false) ≡ true → ⊥
    no_columns h = let both = and_parts (is_object d t) false h in let no : false ≡ true = both.1 in absurd cc
statements_read below d (CreateTable t (c ∷ cs) key us fs) can =
    let a = and_parts (is_object d t) _ can in
    let b = and_parts (list_all is_column_def (c ∷ cs)) (list_all (is_key d) (key_list key) && (list_all is_unique us && list_all (is_foreign d) fs)) a.1 in
    let e = and_parts (list_all (is_key d) (key_list key)) (list_all is_unique us && list_all (is_foreign d) fs) b.1 in
    let f = and_parts (list_all is_unique us) (list_all (is_foreign d) fs) e.1 in
    let g = and_parts (is_column_def c) (list_all is_column_def cs) b.0 in
    create_table_back below d t c cs key us fs a.0 (column_fact below c g.0) (each_item below d cs (key_list key) us fs g.1 e.0 f.0 f.1) (each_column below cs g.1)
statements_read below d (DropTable t) can = drop_table_back below d t can
statements_read below d (RenameTable t to) can = let h = renamed d t to can in rename_table_back below d t to h.0 h.1
statements_read below d (AddColumn t c) can = let a = and_parts (is_object d t) (is_column_def c) can in add_column_back below d t c a.0 (column_fact below c a.1)
statements_read below d (DropColumn t n) can = let h = inside d t n can in drop_column_back below d t n h.0 h.1
statements_read below d (RenameColumn t n to) can = let a = and_parts (is_object d t) (is_name n && is_name to) can in let h = two n to a.1 in rename_column_back below d t n to a.0 h.0 h.1
statements_read below Postgresql (SetNotNull t n) can = let h = inside Postgresql t n can in set_not_null_back below t n h.0 h.1
statements_read below Mysql (SetNotNull t n) can = absurd (impossible can)
statements_read below Postgresql (DropNotNull t n) can = let h = inside Postgresql t n can in drop_not_null_back below t n h.0 h.1
statements_read below Mysql (DropNotNull t n) can = absurd (impossible can)
statements_read below Postgresql (Modify t n k nullable) can = absurd (impossible can)
statements_read below Mysql (Modify t n k nullable) can = let a = and_parts (is_name t) (is_name n && is_kind k) can in let b = and_parts (is_name n) (is_kind k) a.1 in modify_back below t n k nullable a.0 (name_fact n b.0) b.1
statements_read below d (SetDefault t n l) can = let a = and_parts (is_object d t) (is_name n && is_literal l) can in let b = and_parts (is_name n) (is_literal l) a.1 in set_default_back below d t n l a.0 (name_fact n b.0) b.1 (literal_fact below l b.1)
statements_read below d (DropDefault t n) can = let h = inside d t n can in drop_default_back below d t n h.0 h.1
statements_read below d (AddPrimaryKey t k) can = let a = and_parts (is_object d t) (is_key d k) can in add_key_back below d t k a.0 (key_fact d k a.1)
statements_read below d (AddUnique t u) can = let a = and_parts (is_object d t) (is_unique u) can in add_unique_back below d t u a.0 (unique_fact u a.1)
statements_read below d (AddForeignKey t f) can = let a = and_parts (is_object d t) (is_foreign d f) can in add_foreign_back below d t f a.0 (foreign_fact d f a.1)
statements_read below Postgresql (DropConstraint t n) can = let h = inside Postgresql t n can in drop_constraint_back below t n h.0 h.1
statements_read below Mysql (DropConstraint t n) can = absurd (impossible can)
statements_read below Postgresql (DropPrimaryKey t) can = absurd (impossible can)
statements_read below Mysql (DropPrimaryKey t) can = drop_primary_key_back below t can
statements_read below Postgresql (DropUnique t n) can = absurd (impossible can)
statements_read below Mysql (DropUnique t n) can = let h = inside Mysql t n can in drop_unique_back below t n h.0 h.1
statements_read below Postgresql (DropForeignKey t n) can = absurd (impossible can)
statements_read below Mysql (DropForeignKey t n) can = let h = inside Mysql t n can in drop_foreign_key_back below t n h.0 h.1
statements_read below d (CreateIndex t i) can = let a = and_parts (is_object d t) (is_index i) can in let b = and_parts (is_name i.name) (is_name_list i.columns) a.1 in by i.columns a.0 (name_fact i.name b.0) b.1
  where
    by : (columns : List (List ℕ)) → IsReadObject d t → IsReadName i.name → is_name_list columns ≡ true → statement_in d (text_of d (CreateIndex t (record { name = i.name; columns = columns; unique = i.unique }))) ≡ Some (CreateIndex t (record { name = i.name; columns = columns; unique = i.unique }))
    by [] h g is = absurd cc
    by (c ∷ cs) h g is = let both = and_parts (is_name c) (list_all is_name cs) is in index_back below d t i.name c cs i.unique h g (name_fact c both.0) (each_name cs both.1)
statements_read below Postgresql (DropIndex n None) can = let a = and_parts (is_name_key n) true can in drop_index_back below n a.0
statements_read below Postgresql (DropIndex n (Some t)) can = let a = and_parts (is_name_key n) false can in let no : false ≡ true = a.1 in absurd cc
statements_read below Mysql (DropIndex n None) can = let a = and_parts (is_name n) false can in let no : false ≡ true = a.1 in absurd cc
statements_read below Mysql (DropIndex n (Some t)) can = let h = two n t can in drop_index_on_back below n t h.0 h.1
statements_read below d (CreateView v q replace) can =
    let a = and_parts (is_object d v) (is_query d q) can in
    let b = and_parts (is_wanted q.wanted) (is_object d q.table && is_where q.test) a.1 in
    let e = and_parts (is_object d q.table) (is_where q.test) b.1 in
    view_back below d v q.wanted q.table q.test replace a.0 b.0 (each_wanted q.wanted b.0) e.0 e.1
statements_read below d (DropView v) can = drop_view_back below d v can
statements_read below Postgresql (RenameView v to) can = let h = renamed Postgresql v to can in rename_view_back below v to h.0 h.1
statements_read below Mysql (RenameView v to) can = absurd (impossible can)
statements_read below Postgresql (CreateSequence s start size) can =
    let a = and_parts (is_object Postgresql s) _ can in
    let b = and_parts (is_literal (constant.Int start)) (is_literal (constant.Int size) && not (int_eq size (pos 0))) a.1 in
    let e = and_parts (is_literal (constant.Int size)) (not (int_eq size (pos 0))) b.1 in
    sequence_back below s start size a.0 b.0 e.0 e.1
statements_read below Mysql (CreateSequence s start size) can = absurd (impossible can)
statements_read below Postgresql (DropSequence s) can = drop_sequence_back below s can
statements_read below Mysql (DropSequence s) can = absurd (impossible can)
statements_read below Postgresql (RenameSequence s to) can = let h = renamed Postgresql s to can in rename_sequence_back below s to h.0 h.1
statements_read below Mysql (RenameSequence s to) can = absurd (impossible can)
statements_read below d (Insert t ns ls) can =
    let a = and_parts (is_object d t) _ can in
    let b = and_parts (list_all is_name ns) (not (is_empty ls) && list_all is_literal ls) a.1 in
    let e = and_parts (not (is_empty ls)) (list_all is_literal ls) b.1 in
    insert_back below d t ns ls a.0 (each_name ns b.0) e.1 (each_literal below ls e.1) (some_values ls e.0)
statements_read below d (Update t [] test) can = let a = and_parts (is_object d t) false can in let no : false ≡ true = a.1 in absurd cc
statements_read below d (Update t (s ∷ sets) test) can =
    let a = and_parts (is_object d t) _ can in
    let b = and_parts (list_all (λ s. is_name s.0) (s ∷ sets)) (list_all (λ s. is_literal s.1) (s ∷ sets) && is_where test) a.1 in
    let e = and_parts (list_all (λ s. is_literal s.1) (s ∷ sets)) (is_where test) b.1 in
    let f = and_parts (is_literal s.1) (list_all (λ s. is_literal s.1) sets) e.0 in
    let each = each_set below (s ∷ sets) b.0 e.0 in
    update_back below d t s sets test a.0 each.0 each.1 f.0 f.1 e.1
statements_read below d (Delete t test) can = let a = and_parts (is_object d t) (is_where test) can in delete_back below d t test a.0 a.1
