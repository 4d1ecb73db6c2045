-- What a statement means, and which are statements of a dialect.
use Rattle.std.specs.List.{list_all}
use Rattle.std.specs.Option.{unwrap_or}
use Rattle.std.specs.Ordering.{int_eq}
use Rattle.std.specs.Prelude.{Bool, Err, List, Ok, Option, Result, [], false, is_none, is_some, not, pos, true, ℕ, ◌&&◌, ◌∷◌, ◌≡◌}
use Rattle.lq_base.specs.Kind.{is_kind}
use Rattle.lq_base.specs.Name.{is_beside, is_name, is_name_key, is_object}
use Rattle.lq_base.specs.declared.dialect.Dialect.{Dialect}
use Rattle.lq_base.specs.declared.dialect.Dialect.TheVariants.{Mysql, Postgresql}
use Rattle.lq_base.specs.declared.literal.Literal.{Literal}
use Rattle.lq_base.specs.declared.literal.Literal.TheVariants as literal
use Rattle.lq_base.specs.declared.name.Name.{Name}
use Rattle.lq_base.specs.declared.reason.Reason.{Reason}
use Rattle.lq_model.specs.Catalogue.{Catalogue, is_empty, key_list}
use Rattle.lq_model.specs.Comparison.{is_literal, is_spelled}
use Rattle.lq_model.specs.Constraints.{add_foreign_key, add_primary_key, add_unique, create_index, drop_constraint, drop_foreign_key, drop_index, drop_primary_key, drop_unique}
use Rattle.lq_model.specs.Kinds.{literal_of}
use Rattle.lq_model.specs.Plan.{Plan, decide}
use Rattle.lq_model.specs.Rows.{delete, insert, update}
use Rattle.lq_model.specs.Sound.{IsSound, is_key_name}
use Rattle.lq_model.specs.Tables.{add_column, create_table, drop_column, drop_default, drop_not_null, drop_table, modify, rename_column, rename_table, rename_view, set_default, set_not_null}
use Rattle.lq_model.specs.Truth.{names_in}
use Rattle.lq_model.specs.Views.{create_sequence, create_view, drop_sequence, drop_view, rename_sequence}
use Rattle.lq_model.specs.declared.caller.By.{By}
use Rattle.lq_model.specs.declared.caller.By.TheVariants.{Program}
use Rattle.lq_model.specs.declared.column.ColumnDef.{ColumnDef}
use Rattle.lq_model.specs.declared.constraint.ForeignKey.{ForeignKey}
use Rattle.lq_model.specs.declared.constraint.Key.{Key}
use Rattle.lq_model.specs.declared.constraint.Unique.{Unique}
use Rattle.lq_model.specs.declared.index.Index.{Index}
use Rattle.lq_model.specs.declared.query.Query.{Query}
use Rattle.lq_model.specs.declared.query.Wanted.{Wanted}
use Rattle.lq_model.specs.declared.query.Wanted.TheVariants as wanted
use Rattle.lq_model.specs.declared.statement.Statement.{Statement}
use Rattle.lq_model.specs.declared.statement.Statement.TheVariants.{AddColumn, AddForeignKey, AddPrimaryKey, AddUnique, CreateIndex, CreateSequence, CreateTable, CreateView, Delete, DropColumn, DropConstraint, DropDefault, DropForeignKey, DropIndex, DropNotNull, DropPrimaryKey, DropSequence, DropTable, DropUnique, DropView, Insert, Modify, RenameColumn, RenameSequence, RenameTable, RenameView, SetDefault, SetNotNull, Update}
use Rattle.lq_model.specs.declared.test.Test.{Test}

-- What a statement means.

-- what each statement would do, and what is against it
abbrev pub plan : By → Dialect → Statement → Catalogue → Plan
plan by d (CreateTable t defs key uniques foreign) c = create_table by d t defs key uniques foreign c
plan by d (DropTable t) c = drop_table by d t c
plan by d (RenameTable t to) c = rename_table by d t to c
plan by d (AddColumn t def) c = add_column by d t def c
plan by d (DropColumn t n) c = drop_column by d t n c
plan by d (RenameColumn t n to) c = rename_column by d t n to c
plan by d (SetNotNull t n) c = set_not_null by d t n c
plan by d (DropNotNull t n) c = drop_not_null by d t n c
plan by d (Modify t n k nullable) c = modify by d t n k nullable c
plan by d (SetDefault t n l) c = set_default by d t n l c
plan by d (DropDefault t n) c = drop_default by d t n c
plan by d (AddPrimaryKey t k) c = add_primary_key by d t k c
plan by d (AddUnique t u) c = add_unique by d t u c
plan by d (AddForeignKey t f) c = add_foreign_key by d t f c
plan by d (DropConstraint t n) c = drop_constraint by d t n c
plan by d (DropPrimaryKey t) c = drop_primary_key by d t c
plan by d (DropUnique t n) c = drop_unique by d t n c
plan by d (DropForeignKey t n) c = drop_foreign_key by d t n c
plan by d (CreateIndex t i) c = create_index by d t i c
plan by d (DropIndex n t) c = drop_index by d n t c
plan by d (CreateView v q replace) c = create_view by d v q replace c
plan by d (DropView v) c = drop_view by d v c
plan by d (RenameView v to) c = rename_view by d v to c
plan by d (CreateSequence s start size) c = create_sequence by d s start size c
plan by d (DropSequence s) c = drop_sequence by d s c
plan by d (RenameSequence s to) c = rename_sequence by d s to c
plan by d (Insert t ns ls) c = insert by d t ns ls c
plan by d (Update t sets test) c = update by d t sets test c
plan by d (Delete t test) c = delete by d t test c

-- the catalogue after a statement and the number of changed rows, or the first reason against it
abbrev pub step : By → Dialect → Statement → Catalogue → Result (Catalogue × ℕ) Reason
step by d s c = decide (plan by d s c)

-- statements in order, each on the catalogue after the one before, or the first reason
abbrev pub run : By → Dialect → List Statement → Catalogue → Result Catalogue Reason
run by d [] c = Ok c
run by d (s ∷ ss) c = elim (step by d s c) [ Ok r ↦ run by d ss r.0 | Err r ↦ Err r ]

-- That what a user may do, the program may do.

-- a statement that is accepted from anyone is accepted from the program, with the same catalogue and count
abbrev pub ProgramMayDoWhatUsersMay : Type 0
ProgramMayDoWhatUsersMay = (by : By) (d : Dialect) (s : Statement) (c : Catalogue) (x : Catalogue × ℕ) → step by d s c ≡ Ok x → step Program d s c ≡ Ok x

-- What is a statement of a dialect, as far as its values decide it: what no text spells is none.

abbrev pub is_name_list : List Name → Bool
is_name_list ns = not (is_empty ns) && list_all is_name ns

abbrev pub is_column_def : ColumnDef → Bool
is_column_def d = is_name d.name && (is_kind d.kind && is_literal (literal_of d))

abbrev pub is_key : Dialect → Key → Bool
is_key d k = is_name k.name && (is_key_name d k.name && is_name_list k.columns)

abbrev pub is_unique : Unique → Bool
is_unique u = is_name u.name && is_name_list u.columns

abbrev pub is_foreign : Dialect → ForeignKey → Bool
is_foreign d f = is_name f.name && (is_name_list f.columns && (is_object d f.table && is_name_list f.targets))

abbrev pub is_index : Index → Bool
is_index i = is_name i.name && is_name_list i.columns

abbrev pub is_where : Option Test → Bool
is_where test = list_all is_name (names_in test) && is_spelled test

abbrev pub is_wanted : Wanted → Bool
is_wanted (wanted.Columns ns) = is_name_list ns
is_wanted _ = true

-- a query that can be written
abbrev pub is_query : Dialect → Query → Bool
is_query d q = is_wanted q.wanted && (is_object d q.table && is_where q.test)

abbrev pub is_pg : Dialect → Bool
is_pg Postgresql = true
is_pg Mysql = false

-- lists are not empty, names are names, kinds are kinds, numbers can be written, a step is not 0, and the dialect has it
abbrev pub is_statement : Dialect → Statement → Bool
is_statement d (CreateTable t defs key uniques foreign) = is_object d t && (not (is_empty defs) && (list_all is_column_def defs && (list_all (is_key d) (key_list key) && (list_all is_unique uniques && list_all (is_foreign d) foreign))))
is_statement d (DropTable t) = is_object d t
is_statement d (RenameTable t to) = is_object d t && (is_object d to && is_beside t to)
is_statement d (AddColumn t def) = is_object d t && is_column_def def
is_statement d (DropColumn t n) = is_object d t && is_name n
is_statement d (RenameColumn t n to) = is_object d t && (is_name n && is_name to)
is_statement d (SetNotNull t n) = is_pg d && (is_object d t && is_name n)
is_statement d (DropNotNull t n) = is_pg d && (is_object d t && is_name n)
is_statement d (Modify t n k nullable) = not (is_pg d) && (is_object d t && (is_name n && is_kind k))
is_statement d (SetDefault t n l) = is_object d t && (is_name n && is_literal l)
is_statement d (DropDefault t n) = is_object d t && is_name n
is_statement d (AddPrimaryKey t k) = is_object d t && is_key d k
is_statement d (AddUnique t u) = is_object d t && is_unique u
is_statement d (AddForeignKey t f) = is_object d t && is_foreign d f
is_statement d (DropConstraint t n) = is_pg d && (is_object d t && is_name n)
is_statement d (DropPrimaryKey t) = not (is_pg d) && is_object d t
is_statement d (DropUnique t n) = not (is_pg d) && (is_object d t && is_name n)
is_statement d (DropForeignKey t n) = not (is_pg d) && (is_object d t && is_name n)
is_statement d (CreateIndex t i) = is_object d t && is_index i
is_statement Postgresql (DropIndex n t) = is_name_key n && is_none t
is_statement Mysql (DropIndex n t) = is_name n && (is_some t && is_name (unwrap_or t []))
is_statement d (CreateView v q replace) = is_object d v && is_query d q
is_statement d (DropView v) = is_object d v
is_statement d (RenameView v to) = is_pg d && (is_object d v && (is_object d to && is_beside v to))
is_statement d (CreateSequence s start size) = is_pg d && (is_object d s && (is_literal (literal.Int start) && (is_literal (literal.Int size) && not (int_eq size (pos 0)))))
is_statement d (DropSequence s) = is_pg d && is_object d s
is_statement d (RenameSequence s to) = is_pg d && (is_object d s && (is_object d to && is_beside s to))
is_statement d (Insert t ns ls) = is_object d t && (list_all is_name ns && (not (is_empty ls) && list_all is_literal ls))
is_statement d (Update t sets test) = is_object d t && (not (is_empty sets) && (list_all (λ s. is_name s.0) sets && (list_all (λ s. is_literal s.1) sets && is_where test)))
is_statement d (Delete t test) = is_object d t && is_where test

-- Which statements commit by themselves.

-- every statement but those of rows
abbrev pub is_ddl : Statement → Bool
is_ddl (Insert t ns ls) = false
is_ddl (Update t sets test) = false
is_ddl (Delete t test) = false
is_ddl s = true

-- whether a statement is committed by itself, and before it what was begun: in MySQL, where it is DDL
abbrev pub commits_itself : Dialect → Statement → Bool
commits_itself Postgresql s = false
commits_itself Mysql s = is_ddl s

-- That what a statement does keeps a catalogue sound.

-- where s is a statement of the dialect and is accepted on a sound catalogue, the catalogue after it is sound
abbrev pub KeepsSound : Dialect → Statement → Type 0
KeepsSound d s = (by : By) (c e : Catalogue) (n : ℕ) → is_statement d s ≡ true → IsSound d c → step by d s c ≡ Ok (e, n) → IsSound d e

abbrev pub StatementKeepsSound : Type 0
StatementKeepsSound = (d : Dialect) (s : Statement) → KeepsSound d s

-- That an UPDATE which takes no row changes nothing.

-- where an UPDATE is accepted and counts no row, the catalogue after it is the one before
abbrev pub UpdateOfNoRow : Type 0
UpdateOfNoRow = (by : By) (d : Dialect) (t : Name) (sets : List (Name × Literal)) (test : Option Test) (c e : Catalogue) → step by d (Update t sets test) c ≡ Ok (e, 0) → e ≡ c
