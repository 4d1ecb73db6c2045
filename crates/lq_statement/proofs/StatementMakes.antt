-- A statement that a text spells is one of the dialect.
use Rattle.std.proofs.Common.{◌≡◌, ℕ, ℤ, pos, Bool, true, false, not, if◌then◌else◌, List, Some, None, refl}
use Rattle.std.specs.Ordering.{int_eq}
use Rattle.std.proofs.lemmas.Bool.{and_from}
use Rattle.lq_base.specs.Laws.{NumberOfSpells}
use Rattle.lq_base.specs.Name.{is_name, is_object}
use Rattle.lq_base.specs.declared.dialect.Dialect.{Dialect}
use Rattle.lq_base.specs.declared.dialect.Dialect.TheVariants.{Postgresql, Mysql}
use Rattle.lq_base.specs.declared.literal.Literal.{Literal}
use Rattle.lq_base.specs.declared.literal.Literal.TheVariants as constant
use Rattle.lq_model.specs.Comparison.{is_literal}
use Rattle.lq_model.specs.SqlStatement.{create, create_by, create_index, create_sequence, create_view, step, whole, whole_of, statement, statement_by}
use Rattle.lq_model.specs.SqlParser.{enclosed, expect, peek, skip}
use Rattle.lq_model.specs.SqlPart.{literal, name, object}
use Rattle.lq_model.specs.SqlQuery.{query}
use Rattle.lq_model.specs.SqlText.{statement_in}
use Rattle.lq_model.specs.declared.statement.Statement.TheVariants.{CreateIndex, CreateSequence, CreateView}
use Rattle.lq_model.specs.declared.word.WordKind.{WordKind}
use Rattle.lq_model.specs.declared.word.WordKind.TheVariants as word
use Rattle.lq_parse.proofs.CanWrite.{IsQueryText, literals, query_makes, whole_makes}
use Rattle.lq_parse.proofs.Makes.{IsLiteralText, IsNameText, IsObjectText, Makes, SomeSo, makes_after, makes_pure, makes_refuse, makes_then, name_makes, object_makes}
use Rattle.lq_statement.specs.Laws.{StatementsCanBeWritten}
use Rattle.lq_statement.proofs.AlterMakes.{alter_makes, rename_table_statement}
use Rattle.lq_statement.proofs.DropMakes.{drop_makes}
use Rattle.lq_statement.proofs.Parts.{Is, enclosed_makes, join, names_list}
use Rattle.lq_statement.proofs.RowMakes.{delete_makes, insert_makes, update_makes}
use Rattle.lq_statement.proofs.TableMakes.{table_makes}

-- CREATE INDEX and CREATE VIEW

index_is : (d : Dialect) (n t : List ℕ) (columns : List (List ℕ)) (unique : Bool) → IsNameText n → IsObjectText d t → SomeSo IsNameText columns → Is d (CreateIndex t (record { name = n; columns = columns; unique = unique }))
index_is d n t columns unique h g so = and_from (is_object d t) _ g (and_from (is_name n) _ h (names_list columns so))

index_makes : (d : Dialect) (unique : Bool) → Makes (Is d) (create_index d unique)
unfolding create_index
index_makes d unique =
    makes_after (Is d) (expect word.Index) _ (λ a. makes_then IsNameText (Is d) name _ name_makes (λ n h. makes_after (Is d) (expect word.On) _ (λ b. makes_then (IsObjectText d) (Is d) (object d) _ (object_makes d) (λ t g.
    makes_then (SomeSo IsNameText) (Is d) (enclosed name) _ (enclosed_makes IsNameText name name_makes) (λ columns so. makes_pure (Is d) (CreateIndex t (record { name = n; columns = columns; unique = unique })) (index_is d n t columns unique h g so))))))

view_makes : NumberOfSpells → (d : Dialect) (replace : Bool) → Makes (Is d) (create_view d replace)
unfolding create_view
view_makes spells d replace =
    makes_after (Is d) (expect word.View) _ (λ a. makes_then (IsObjectText d) (Is d) (object d) _ (object_makes d) (λ v h. makes_after (Is d) (expect word.As) _ (λ b. makes_then (IsQueryText d) (Is d) (query d) _ (query_makes spells d) (λ q g.
    makes_pure (Is d) (CreateView v q replace) (join h g)))))

-- CREATE SEQUENCE

abbrev IsWhole : ℤ → Type 0
IsWhole n = is_literal (constant.Int n) ≡ true

whole_of_makes : (l : Literal) → IsLiteralText l → Makes IsWhole (whole_of l)
whole_of_makes (constant.Int n) h = makes_pure IsWhole n h
whole_of_makes constant.Null h = makes_refuse IsWhole
whole_of_makes (constant.Bool b) h = makes_refuse IsWhole
whole_of_makes (constant.Text t) h = makes_refuse IsWhole
whole_of_makes (constant.Fixed units scale) h = makes_refuse IsWhole

whole_makes_number : NumberOfSpells → Makes IsWhole whole
unfolding whole
whole_makes_number spells = makes_then IsLiteralText IsWhole literal whole_of (literals spells) whole_of_makes

abbrev IsStep : ℤ → Type 0
IsStep n = IsWhole n × (not (int_eq n (pos 0)) ≡ true)

step_by : (n : ℤ) (zero : Bool) → int_eq n (pos 0) ≡ zero → IsWhole n → Makes IsStep (if zero then (λ i. None) else (λ i. Some (n, i)))
step_by n true e h = makes_refuse IsStep
step_by n false e h = makes_pure IsStep n (h, rw e refl)

step_makes : NumberOfSpells → Makes IsStep step
unfolding step
step_makes spells = makes_then IsWhole IsStep whole _ (whole_makes_number spells) (λ n h. step_by n (int_eq n (pos 0)) refl h)

sequence_makes : NumberOfSpells → Makes (Is Postgresql) (create_sequence Postgresql)
unfolding create_sequence
sequence_makes spells =
    makes_then (IsObjectText Postgresql) (Is Postgresql) (object Postgresql) _ (object_makes Postgresql) (λ s h. makes_after (Is Postgresql) (expect word.Start) _ (λ a. makes_after (Is Postgresql) (expect word.With) _ (λ b.
    makes_then IsWhole (Is Postgresql) whole _ (whole_makes_number spells) (λ start g. makes_after (Is Postgresql) (expect word.Increment) _ (λ c. makes_after (Is Postgresql) (expect word.By) _ (λ e.
    makes_then IsStep (Is Postgresql) step _ (step_makes spells) (λ size k. makes_pure (Is Postgresql) (CreateSequence s start size)
    (and_from (is_object Postgresql s) _ h (and_from (is_literal (constant.Int start)) _ g (and_from (is_literal (constant.Int size)) _ k.0 k.1))))))))))

create_makes : NumberOfSpells → (d : Dialect) → Makes (Is d) (create d)
unfolding create
create_makes spells d = makes_after (Is d) peek (create_by d) (by d)
  where
    by : (d : Dialect) (k : WordKind) → Makes (Is d) (create_by d k)
    by d word.Table = makes_after (Is d) skip _ (λ a. table_makes spells d)
    by d word.Index = index_makes d false
    by d word.Unique = makes_after (Is d) skip _ (λ a. index_makes d true)
    by d word.View = view_makes spells d false
    by d word.Or = makes_after (Is d) skip _ (λ a. makes_after (Is d) (expect word.Replace) _ (λ b. view_makes spells d true))
    by Postgresql word.Sequence = makes_after (Is Postgresql) skip _ (λ a. sequence_makes spells)
    by d _ = makes_refuse (Is d)

statement_makes : NumberOfSpells → (d : Dialect) → Makes (Is d) (statement d)
unfolding statement
statement_makes spells d = makes_after (Is d) peek (statement_by d) (by d)
  where
    by : (d : Dialect) (k : WordKind) → Makes (Is d) (statement_by d k)
    by d word.Create = makes_after (Is d) skip _ (λ a. create_makes spells d)
    by d word.Drop = makes_after (Is d) skip _ (λ a. drop_makes d)
    by d word.Alter = makes_after (Is d) skip _ (λ a. alter_makes spells d)
    by Mysql word.Rename = makes_after (Is Mysql) skip _ (λ a. rename_table_statement)
    by d word.Insert = makes_after (Is d) skip _ (λ a. insert_makes spells d)
    by d word.Update = makes_after (Is d) skip _ (λ a. update_makes spells d)
    by d word.Delete = makes_after (Is d) skip _ (λ a. delete_makes spells d)
    by d _ = makes_refuse (Is d)

pub statements_can : NumberOfSpells → StatementsCanBeWritten
unfolding statement_in
statements_can spells d text s e = whole_makes (Is d) (statement d) d text s (statement_makes spells d) e
