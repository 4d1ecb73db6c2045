-- A column that was added, and then made NOT NULL, is made nullable again, and what there is has one column more still.
use Rattle.std.specs.Prelude.{Ok, false, true, ℕ, ◌≡◌}
use Rattle.lq_base.specs.declared.dialect.Dialect.{Dialect}
use Rattle.lq_base.specs.declared.kind.Kind.{Kind}
use Rattle.lq_base.specs.declared.name.Name.{Name}
use Rattle.lq_columns.specs.AddDefaultValue as add_default_value
use Rattle.lq_keys.specs.AddForeignKey as add_foreign_key
use Rattle.lq_keys.specs.CreateIndex as create_index
use Rattle.lq_model.specs.Catalogue.{Catalogue, IsWidened}
use Rattle.lq_model.specs.Sound.{IsSound}
use Rattle.lq_model.specs.Step.{step}
use Rattle.lq_model.specs.declared.caller.By.{By}
use Rattle.lq_model.specs.declared.statement.Statement.TheVariants.{DropNotNull, Modify, SetNotNull}
use Rattle.lq_nullable.specs.AddNotNull as not_null
use Rattle.lq_nullable.specs.DropNotNull as drop_not_null
use Rattle.lq_primary_keys.specs.AddPrimaryKey as add_primary_key
use Rattle.lq_rename_column.specs.RenameColumn as rename_column
use Rattle.lq_reverse.specs.Back.{PartsBack}
use Rattle.lq_tables.specs.AddColumn as column
use Rattle.lq_tables.specs.CreateTable as create_table
use Rattle.lq_tables.specs.RenameTable as rename_table
use Rattle.lq_uniques.specs.AddUnique as add_unique
use Rattle.lq_views.specs.CreateSequence as create_sequence
use Rattle.lq_views.specs.CreateView as create_view
use Rattle.lq_views.specs.RenameSequence as rename_sequence
use Rattle.lq_views.specs.RenameView as rename_view

abbrev pub ColumnsAreLoosened : Type 0
ColumnsAreLoosened =
    ((by : By) (d : Dialect) (t n : Name) (c m p : Catalogue) (k : ℕ) → IsSound d c → IsSound d p → IsWidened t n c m → step by d (SetNotNull t n) m ≡ Ok (p, k)
    → (q : Catalogue) × (step by d (DropNotNull t n) p ≡ Ok (q, 0)) × IsWidened t n c q)
    × ((by : By) (d : Dialect) (t n : Name) (kind : Kind) (c m p : Catalogue) (k : ℕ) → IsSound d c → IsSound d p → IsWidened t n c m → step by d (Modify t n kind false) m ≡ Ok (p, k)
    → (q : Catalogue) × (step by d (Modify t n kind true) p ≡ Ok (q, 0)) × IsWidened t n c q)

-- That a part of a change is taken back.

abbrev pub AddColumnParts : Type 0
AddColumnParts = PartsBack column.is_for column.gives column.is_fresh column.inverse

abbrev pub AddNotNullParts : Type 0
AddNotNullParts = PartsBack not_null.is_for not_null.gives not_null.is_fresh not_null.inverse

-- the types that give one statement
abbrev pub SingleParts : Type 0
SingleParts =
    PartsBack create_table.is_for create_table.gives create_table.is_fresh create_table.inverse
    × PartsBack rename_table.is_for rename_table.gives rename_table.is_fresh rename_table.inverse
    × PartsBack rename_column.is_for rename_column.gives rename_column.is_fresh rename_column.inverse
    × PartsBack drop_not_null.is_for drop_not_null.gives drop_not_null.is_fresh drop_not_null.inverse
    × PartsBack add_default_value.is_for add_default_value.gives add_default_value.is_fresh add_default_value.inverse
    × PartsBack add_primary_key.is_for add_primary_key.gives add_primary_key.is_fresh add_primary_key.inverse
    × PartsBack add_unique.is_for add_unique.gives add_unique.is_fresh add_unique.inverse
    × PartsBack add_foreign_key.is_for add_foreign_key.gives add_foreign_key.is_fresh add_foreign_key.inverse
    × PartsBack create_index.is_for create_index.gives create_index.is_fresh create_index.inverse
    × PartsBack create_view.is_for create_view.gives create_view.is_fresh create_view.inverse
    × PartsBack rename_view.is_for rename_view.gives rename_view.is_fresh rename_view.inverse
    × PartsBack create_sequence.is_for create_sequence.gives create_sequence.is_fresh create_sequence.inverse
    × PartsBack rename_sequence.is_for rename_sequence.gives rename_sequence.is_fresh rename_sequence.inverse
