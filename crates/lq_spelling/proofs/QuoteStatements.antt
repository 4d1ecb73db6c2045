-- Statements are read alike where names have left out their quotes.
use Rattle.std.proofs.Common.{◌≡◌, true, false, List, [], Some, None, refl}
use Rattle.std.specs.Ordering.{int_eq}
use Rattle.std.specs.Prelude.{Bool, pos}
use Rattle.lq_base.specs.declared.dialect.Dialect.{Dialect}
use Rattle.lq_base.specs.declared.dialect.Dialect.TheVariants.{Postgresql, Mysql}
use Rattle.lq_base.specs.declared.literal.Literal.{Literal}
use Rattle.lq_base.specs.declared.literal.Literal.TheVariants as constant
use Rattle.lq_model.specs.SqlAlter.{rename_table_to, drop_index, drop_object, drop_object_by, rename_table}
use Rattle.lq_model.specs.SqlStatement.{create, create_by, create_index, create_sequence, create_view, step, whole, whole_of, statement, statement_by}
use Rattle.lq_model.specs.SqlParser.{eat, enclosed, ended, expect, pure, same_kind, separated, skip, to_end}
use Rattle.lq_model.specs.SqlPart.{literal, name, object}
use Rattle.lq_model.specs.SqlQuery.{query}
use Rattle.lq_model.specs.SqlRows.{assignment, delete, insert, stated_columns, update}
use Rattle.lq_model.specs.SqlTest.{where_test}
use Rattle.lq_model.specs.SqlWord.{may_be_name}
use Rattle.lq_model.specs.declared.statement.Statement.TheVariants.{CreateIndex, CreateSequence, CreateView, Delete, DropIndex, DropSequence, DropTable, DropView, Insert, Update}
use Rattle.lq_model.specs.declared.word.Word.{Word}
use Rattle.lq_model.specs.declared.word.WordKind.{WordKind}
use Rattle.lq_model.specs.declared.word.WordKind.TheVariants as word
use Rattle.lq_spelling.proofs.QuoteAlter.{blind_alter, blind_rename_to}
use Rattle.lq_spelling.proofs.QuoteLists.{blind_enclosed, blind_separated}
use Rattle.lq_spelling.proofs.QuoteParts.{Blind, blind_by, blind_eat, blind_expect, blind_if, blind_pure, blind_refuse, blind_skip, blind_so, blind_test, blind_then, blind_until, refuses_after, refuses_expect, refuses_first, stays_eat, told_apart}
use Rattle.lq_spelling.proofs.QuoteTables.{blind_create_table, blind_names}
use Rattle.lq_spelling.proofs.QuoteTests.{blind_literal, blind_name, blind_object, blind_query, blind_where}

-- CREATE

blind_create_index : (d : Dialect) (unique : Bool) → Blind false (create_index d unique)
unfolding create_index
blind_create_index d unique =
    blind_then false (expect word.Index) _ (blind_expect word.Index refl) (λ a. blind_then false name _ blind_name (λ index. blind_then false (expect word.On) _ (blind_expect word.On refl) (λ b. blind_then false (object d) _ (blind_object d) (λ table.
    blind_then false (enclosed name) _ blind_names (λ columns. blind_pure false (CreateIndex table (record { name = index; columns = columns; unique = unique })))))))

blind_create_view : (d : Dialect) (replace : Bool) → Blind false (create_view d replace)
unfolding create_view
blind_create_view d replace =
    blind_then false (expect word.View) _ (blind_expect word.View refl) (λ a. blind_then false (object d) _ (blind_object d) (λ view. blind_then false (expect word.As) _ (blind_expect word.As refl) (λ b.
    blind_then false (query d) _ (blind_query d) (λ it. blind_pure false (CreateView view it replace)))))

blind_whole_of : (l : Literal) → Blind false (whole_of l)
blind_whole_of (constant.Int n) = blind_pure false n
blind_whole_of _ = blind_refuse false

blind_whole : Blind false whole
unfolding whole
blind_whole = blind_then false literal whole_of blind_literal blind_whole_of

blind_step : Blind false step
unfolding step
blind_step = blind_then false whole _ blind_whole (λ n. blind_if false (int_eq n (pos 0)) _ _ (blind_refuse false) (blind_pure false n))

blind_create_sequence : (d : Dialect) → Blind false (create_sequence d)
unfolding create_sequence
blind_create_sequence d =
    blind_then false (object d) _ (blind_object d) (λ s. blind_then false (expect word.Start) _ (blind_expect word.Start refl) (λ a. blind_then false (expect word.With) _ (blind_expect word.With refl) (λ b. blind_then false whole _ blind_whole (λ start.
    blind_then false (expect word.Increment) _ (blind_expect word.Increment refl) (λ c. blind_then false (expect word.By) _ (blind_expect word.By refl) (λ e. blind_then false step _ blind_step (λ size. blind_pure false (CreateSequence s start size))))))))

blind_create : (d : Dialect) → Blind false (create d)
unfolding create
blind_create d = blind_by false (create_by d) (by d) (none d)
  where
    by : (d : Dialect) (k : WordKind) → Blind false (create_by d k)
    by d word.Table = blind_then false skip _ blind_skip (λ a. blind_create_table d)
    by d word.Index = blind_create_index d false
    by d word.Unique = blind_then false skip _ blind_skip (λ a. blind_create_index d true)
    by d word.View = blind_create_view d false
    by d word.Or = blind_then false skip _ blind_skip (λ a. blind_then false (expect word.Replace) _ (blind_expect word.Replace refl) (λ b. blind_create_view d true))
    by Postgresql word.Sequence = blind_then false skip _ blind_skip (λ a. blind_create_sequence Postgresql)
    by d _ = blind_refuse false

    none : (d : Dialect) (i : List Word) → create_by d word.Quoted i ≡ None
    none Postgresql i = refl
    none Mysql i = refl

-- DROP and RENAME TABLE

blind_drop_index : (d : Dialect) → Blind false (drop_index d)
unfolding drop_index
blind_drop_index Postgresql = blind_then false (object Postgresql) _ (blind_object Postgresql) (λ index. blind_pure false (DropIndex index None))
blind_drop_index Mysql =
    blind_then false name _ blind_name (λ index. blind_then false (expect word.On) _ (blind_expect word.On refl) (λ a. blind_then false name _ blind_name (λ table. blind_pure false (DropIndex index (Some table)))))

blind_drop : (d : Dialect) → Blind false (drop_object d)
unfolding drop_object
blind_drop d = blind_by false (drop_object_by d) (by d) (none d)
  where
    by : (d : Dialect) (k : WordKind) → Blind false (drop_object_by d k)
    by d word.Table = blind_then false skip _ blind_skip (λ a. blind_then false (object d) _ (blind_object d) (λ n. blind_pure false (DropTable n)))
    by d word.Index = blind_then false skip _ blind_skip (λ a. blind_drop_index d)
    by d word.View = blind_then false skip _ blind_skip (λ a. blind_then false (object d) _ (blind_object d) (λ n. blind_pure false (DropView n)))
    by Postgresql word.Sequence = blind_then false skip _ blind_skip (λ a. blind_then false (object Postgresql) _ (blind_object Postgresql) (λ n. blind_pure false (DropSequence n)))
    by d _ = blind_refuse false

    none : (d : Dialect) (i : List Word) → drop_object_by d word.Quoted i ≡ None
    none Postgresql i = refl
    none Mysql i = refl

blind_rename_table : Blind false rename_table
unfolding rename_table
blind_rename_table = blind_then false (expect word.Table) _ (blind_expect word.Table refl) (λ a. blind_then false name rename_table_to blind_name blind_rename_to)

-- INSERT, UPDATE and DELETE

no_open : (n : WordKind) → may_be_name n ≡ true → same_kind n word.Open ≡ false
no_open n may = told_apart may_be_name n word.Open may refl

blind_stated_columns : Blind false stated_columns
unfolding stated_columns
blind_stated_columns = blind_test false (λ k. same_kind k word.Open) _ _ no_open blind_names (blind_pure false [])

blind_insert : (d : Dialect) → Blind false (insert d)
unfolding insert
blind_insert d =
    blind_then false (expect word.Into) _ (blind_expect word.Into refl) (λ a. blind_then false (object d) _ (blind_object d) (λ table. blind_then false stated_columns _ blind_stated_columns (λ columns.
    blind_then false (expect word.Values) _ (blind_expect word.Values refl) (λ b. blind_then false (enclosed literal) _ (blind_enclosed literal (blind_so true literal blind_literal)) (λ values. blind_pure false (Insert table columns values))))))

blind_assignment : Blind false assignment
unfolding assignment
blind_assignment = blind_then false name _ blind_name (λ column. blind_then false (expect word.Equal) _ (blind_expect word.Equal refl) (λ a. blind_then false literal _ blind_literal (λ value. blind_pure false (column, value))))

blind_update : (d : Dialect) → Blind false (update d)
unfolding update
blind_update d =
    blind_then false (object d) _ (blind_object d) (λ table. blind_then false (expect word.Set) _ (blind_expect word.Set refl) (λ a. blind_then false (separated assignment) _ (blind_separated false assignment blind_assignment) (λ sets.
    blind_then false where_test _ blind_where (λ t. blind_pure false (Update table sets t)))))

blind_delete : (d : Dialect) → Blind false (delete d)
unfolding delete
blind_delete d = blind_then false (expect word.From) _ (blind_expect word.From refl) (λ a. blind_then false (object d) _ (blind_object d) (λ table. blind_then false where_test _ blind_where (λ t. blind_pure false (Delete table t))))

-- all statements

blind_statement : (d : Dialect) → Blind true (statement d)
unfolding statement
blind_statement d = blind_by true (statement_by d) (by d) (none d)
  where
    by : (d : Dialect) (k : WordKind) → Blind true (statement_by d k)
    by d word.Create = blind_then true skip _ blind_skip (λ a. blind_so true (create d) (blind_create d))
    by d word.Drop = blind_then true skip _ blind_skip (λ a. blind_so true (drop_object d) (blind_drop d))
    by d word.Alter = blind_then true skip _ blind_skip (λ a. blind_alter d)
    by Mysql word.Rename = blind_then true skip _ blind_skip (λ a. blind_so true rename_table blind_rename_table)
    by d word.Insert = blind_then true skip _ blind_skip (λ a. blind_so true (insert d) (blind_insert d))
    by d word.Update = blind_then true skip _ blind_skip (λ a. blind_so true (update d) (blind_update d))
    by d word.Delete = blind_then true skip _ blind_skip (λ a. blind_so true (delete d) (blind_delete d))
    by d _ = blind_refuse true

    none : (d : Dialect) (i : List Word) → statement_by d word.Quoted i ≡ None
    none Postgresql i = refl
    none Mysql i = refl

pub blind_end : (d : Dialect) → Blind false (to_end (statement d))
unfolding ended
blind_end d =
    blind_until (statement d) ended (blind_statement d)
    (λ s. blind_then false (eat word.Semicolon) _ (blind_eat word.Semicolon refl) (λ a. blind_then false (expect word.End) _ (blind_expect word.End refl) (λ b. blind_pure false s)))
    (λ s. refuses_after (eat word.Semicolon) _ (stays_eat word.Semicolon refl) (λ a. refuses_first (expect word.End) (λ b. pure s) (refuses_expect word.End refl)))

pub blind_query_end : (d : Dialect) → Blind false (to_end (query d))
unfolding ended
blind_query_end d =
    blind_then false (query d) ended (blind_query d)
    (λ q. blind_then false (eat word.Semicolon) _ (blind_eat word.Semicolon refl) (λ a. blind_then false (expect word.End) _ (blind_expect word.End refl) (λ b. blind_pure false q)))
