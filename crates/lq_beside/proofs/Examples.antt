-- Why a catalogue stands for a database as it does, and what deeds fit: worked examples.
use Rattle.std.specs.Prelude.{List, None, Ok, Option, Some, [], codes, false, map, pos, refl, true, ℕ, ◌++◌, ◌∷◌, ◌≡◌}
use Rattle.lq_base.specs.Value.{into_kind}
use Rattle.lq_base.specs.declared.dialect.Dialect.TheVariants.{Mysql}
use Rattle.lq_base.specs.declared.kind.Kind.TheVariants as kind
use Rattle.lq_base.specs.declared.name.Name.{Name}
use Rattle.lq_base.specs.declared.tracking.Exec.TheVariants.{Executed}
use Rattle.lq_base.specs.declared.tracking.Tracked.{Tracked}
use Rattle.lq_model.specs.Catalogue.{Catalogue, no_objects, with_new}
use Rattle.lq_model.specs.Tables.{new_table}
use Rattle.lq_model.specs.NameSpaces.{is_taken}
use Rattle.lq_model.specs.Plan.{decide}
use Rattle.lq_model.specs.Step.{step}
use Rattle.lq_model.specs.declared.caller.By.TheVariants.{User}
use Rattle.lq_model.specs.declared.column.ColumnDef.{ColumnDef}
use Rattle.lq_model.specs.declared.statement.Statement.TheVariants.{CreateTable}
use Rattle.lq_track.specs.Database.{in_run_order}
use Rattle.lq_track.specs.Log.{identity_of}
use Rattle.lq_turns.specs.Deed.{others, renewed, theirs}
use Rattle.lq_beside.proofs.RowTold.{again}

-- under MySQL a user may name a table PRIMARY, as the keys are named, so that name is no tracking table's own

abbrev primary : Name
primary = codes "PRIMARY"

abbrev one_column : List ColumnDef
one_column = record { name = codes "id"; kind = kind.Int; nullable = true; default = None; numbered = false } ∷ []

abbrev with_primary : Catalogue
with_primary = with_new no_objects primary (new_table one_column None [] [])

accepted_in_mysql : step User Mysql (CreateTable primary one_column None [] []) no_objects ≡ Ok (with_primary, 0)
unfolding decide into_kind
accepted_in_mysql = refl

taken_in_mysql : is_taken Mysql primary with_primary ≡ true
taken_in_mysql = refl

-- two rows of one identity that ran one after the other are read the other way round once both have the same place

abbrev row : ℕ → Option (List ℕ) → Tracked
row order tag = record {
  id = [];
  author = [];
  filename = [];
  date = pos 0;
  order = order;
  exec = Executed;
  md5sum = None;
  description = [];
  comments = [];
  tag = tag;
  tool = [];
  contexts = [];
  labels = [];
  deployment = [];
}

abbrev two : List Tracked
two = row 1 None ∷ row 2 (Some []) ∷ []

read_so : in_run_order (map (again (row 3 None)) two) ≡ row 3 (Some []) ∷ row 3 None ∷ []
read_so = refl

listed_so : others (identity_of (row 3 None)) two ++ map (renewed (row 3 None)) (theirs (identity_of (row 3 None)) two) ≡ row 3 None ∷ row 3 (Some []) ∷ []
listed_so = refl
