-- Each statement keeps a catalogue sound.
use Rattle.std.specs.Prelude.{Ok, not, true, ℕ, ◌≡◌}
use Rattle.lq_base.specs.Kind.{is_kind}
use Rattle.lq_base.specs.Name.{is_name, is_object}
use Rattle.lq_base.specs.declared.dialect.Dialect.{Dialect}
use Rattle.lq_model.specs.Catalogue.{Catalogue}
use Rattle.lq_model.specs.Sound.{IsSound}
use Rattle.lq_model.specs.Step.{is_pg, is_statement, step}
use Rattle.lq_model.specs.declared.caller.By.{By}
use Rattle.lq_model.specs.declared.statement.Statement.{Statement}
use Rattle.lq_model.specs.declared.statement.Statement.TheVariants.{AddColumn, AddForeignKey, AddPrimaryKey, AddUnique, CreateIndex, CreateSequence, CreateTable, CreateView, Delete, DropColumn, DropConstraint, DropDefault, DropForeignKey, DropIndex, DropNotNull, DropPrimaryKey, DropSequence, DropTable, DropUnique, DropView, Insert, Modify, RenameColumn, RenameSequence, RenameTable, RenameView, SetDefault, SetNotNull, Update}
use Rattle.lq_model.proofs.AddColumnKeeps.{add_column_keeps}
use Rattle.lq_model.proofs.AddKeeps.{add_foreign_key_keeps, add_primary_key_keeps, add_unique_keeps, create_index_keeps}
use Rattle.lq_model.proofs.ChangeKeeps.{drop_default_keeps, drop_not_null_keeps, set_default_keeps, set_not_null_keeps}
use Rattle.lq_model.proofs.CreateKeeps.{create_table_keeps}
use Rattle.lq_model.proofs.DropColumnKeeps.{drop_column_keeps}
use Rattle.lq_model.proofs.DropKeeps.{drop_constraint_keeps, drop_foreign_key_keeps, drop_index_keeps, drop_primary_key_keeps, drop_unique_keeps}
use Rattle.lq_model.proofs.Dropped.{drop_table_keeps}
use Rattle.lq_model.proofs.Lists.{and_left, and_right}
use Rattle.lq_model.proofs.ModifyKeeps.{modify_keeps}
use Rattle.lq_model.proofs.RenameColumnKeeps.{rename_column_keeps}
use Rattle.lq_model.proofs.RenameEither.{rename_table_keeps}
use Rattle.lq_model.proofs.Rows.{delete_keeps, insert_keeps, update_keeps}
use Rattle.lq_model.proofs.Sequences.{create_sequence_keeps, drop_sequence_keeps, rename_sequence_keeps}
use Rattle.lq_model.proofs.Views.{create_view_keeps, drop_view_keeps, rename_view_keeps}

pub statement_keeps : (d : Dialect) (s : Statement) → (by : By) (c e : Catalogue) (k : ℕ) → is_statement d s ≡ true → IsSound d c → step by d s c ≡ Ok (e, k) → IsSound d e
statement_keeps d (CreateTable t defs key uniques foreign) by c e k valid sound made = create_table_keeps by d t defs key uniques foreign c e k valid made sound
statement_keeps d (DropTable t) by c e k valid sound made = drop_table_keeps by d t c e k sound made
statement_keeps d (RenameTable t to) by c e k valid sound made = rename_table_keeps by d t to c e k (and_left (is_object d to) _ (and_right (is_object d t) _ valid)) (and_right (is_object d to) _ (and_right (is_object d t) _ valid)) sound made
statement_keeps d (AddColumn t def) by c e k valid sound made = add_column_keeps by d t def c e k (and_left (is_name def.name) _ (and_right (is_object d t) _ valid)) (and_left (is_kind def.kind) _ (and_right (is_name def.name) _ (and_right (is_object d t) _ valid))) sound made
statement_keeps d (DropColumn t n) by c e k valid sound made = drop_column_keeps by d t n c e k sound made
statement_keeps d (RenameColumn t n to) by c e k valid sound made = rename_column_keeps by d t n to c e k (and_right (is_name n) _ (and_right (is_object d t) _ valid)) sound made
statement_keeps d (SetNotNull t n) by c e k valid sound made = set_not_null_keeps by d t n c e k sound made
statement_keeps d (DropNotNull t n) by c e k valid sound made = drop_not_null_keeps by d t n c e k sound made
statement_keeps d (Modify t n kind nullable) by c e k valid sound made = modify_keeps by d t n kind nullable c e k (and_right (is_name n) _ (and_right (is_object d t) _ (and_right (not (is_pg d)) _ valid))) sound made
statement_keeps d (SetDefault t n l) by c e k valid sound made = set_default_keeps by d t n l c e k sound made
statement_keeps d (DropDefault t n) by c e k valid sound made = drop_default_keeps by d t n c e k sound made
statement_keeps d (AddPrimaryKey t key) by c e k valid sound made = add_primary_key_keeps by d t key c e k (and_right (is_object d t) _ valid) sound made
statement_keeps d (AddUnique t u) by c e k valid sound made = add_unique_keeps by d t u c e k (and_right (is_object d t) _ valid) sound made
statement_keeps d (AddForeignKey t f) by c e k valid sound made = add_foreign_key_keeps by d t f c e k (and_right (is_object d t) _ valid) sound made
statement_keeps d (DropConstraint t n) by c e k valid sound made = drop_constraint_keeps by d t n c e k sound made
statement_keeps d (DropPrimaryKey t) by c e k valid sound made = drop_primary_key_keeps by d t c e k sound made
statement_keeps d (DropUnique t n) by c e k valid sound made = drop_unique_keeps by d t n c e k sound made
statement_keeps d (DropForeignKey t n) by c e k valid sound made = drop_foreign_key_keeps by d t n c e k sound made
statement_keeps d (CreateIndex t i) by c e k valid sound made = create_index_keeps by d t i c e k (and_right (is_object d t) _ valid) sound made
statement_keeps d (DropIndex n t) by c e k valid sound made = drop_index_keeps by d n t c e k sound made
statement_keeps d (CreateView v q replace) by c e k valid sound made = create_view_keeps by d v q replace c e k (and_left (is_object d v) _ valid) (and_right (is_object d v) _ valid) sound made
statement_keeps d (DropView v) by c e k valid sound made = drop_view_keeps by d v c e k sound made
statement_keeps d (RenameView v to) by c e k valid sound made = rename_view_keeps by d v to c e k (and_left (is_object d to) _ (and_right (is_object d v) _ (and_right (is_pg d) _ valid))) sound made
statement_keeps d (CreateSequence s start size) by c e k valid sound made = create_sequence_keeps by d s start size c e k valid sound made
statement_keeps d (DropSequence s) by c e k valid sound made = drop_sequence_keeps by d s c e k valid sound made
statement_keeps d (RenameSequence s to) by c e k valid sound made = rename_sequence_keeps by d s to c e k valid sound made
statement_keeps d (Insert t ns ls) by c e k valid sound made = insert_keeps by d t ns ls c e k sound made
statement_keeps d (Update t sets test) by c e k valid sound made = update_keeps by d t sets test c e k sound made
statement_keeps d (Delete t test) by c e k valid sound made = delete_keeps by d t test c e k sound made
