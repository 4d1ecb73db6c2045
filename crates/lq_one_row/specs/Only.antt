-- The only row of a table that a test takes.
use Rattle.std.specs.Option.{option_map_or}
use Rattle.std.specs.Prelude.{Bool, List, None, Option, Some, false, length, nat_eq, slice_get, true, ℕ, ℤ, ◌<◌, ◌≡◌}
use Rattle.lq_base.specs.Value.{into_kind}
use Rattle.lq_base.specs.declared.kind.Kind.TheVariants as kind
use Rattle.lq_base.specs.declared.literal.Literal.TheVariants as literal
use Rattle.lq_base.specs.declared.name.Name.{Name}
use Rattle.lq_base.specs.declared.value.Value.{Value}
use Rattle.lq_base.specs.declared.value.Value.TheVariants as value
use Rattle.lq_model.specs.Catalogue.{Table, by_name}
use Rattle.lq_model.specs.Truth.{moment_cmp, takes}
use Rattle.lq_model.specs.declared.column.Column.{Column}
use Rattle.lq_model.specs.declared.test.Test.{Test}

-- the text is no moment
abbrev pub IsPlain : List ℕ → Type 0
IsPlain text = (m : ℤ) → moment_cmp m (into_kind (literal.Text text) kind.Moment) ≡ None

-- each row that the test takes has the text in the column of the name
abbrev pub Gives : Test → Name → List ℕ → Type 0
Gives test name text = (cs : List Column) (row : List Value) → takes (Some test) cs row ≡ true → by_name cs row name ≡ value.Text text

-- each row of these columns that the test takes begins with the text
abbrev pub Begin : Option Test → List Column → List ℕ → Type 0
Begin test cs text = (row : List Value) → takes test cs row ≡ true → slice_get row 0 ≡ Some (value.Text text)

-- there is a row at the place, and the test takes it
abbrev pub is_taken_at : Option Test → Table → ℕ → Bool
is_taken_at test it at = option_map_or (takes test it.columns) (slice_get it.rows at) false

-- there is a row at the place, and the test takes it and no other
pub record IsOnly (test : Option Test) (it : Table) (at : ℕ) : Type 0 where
  pub there : at < length it.rows
  pub only : (i : ℕ) (row : List Value) → slice_get it.rows i ≡ Some row → takes test it.columns row ≡ nat_eq i at
