-- The catalogue without objects is sound, and stands for the database in which nothing was made.
use Rattle.std.specs.Prelude.{[], refl}
use Rattle.std.proofs.Common.{arith, sym}
use Rattle.lq_base.specs.declared.dialect.Dialect.{Dialect}
use Rattle.lq_base.specs.declared.dialect.Dialect.TheVariants.{Mysql, Postgresql}
use Rattle.lq_model.proofs.Maps.{not_some, sorted_keys}
use Rattle.lq_model.specs.Catalogue.{Sequence, Table, View, no_objects}
use Rattle.lq_model.specs.NameSpaces.{AreApart}
use Rattle.lq_model.specs.Sound.{IsSound}
use Rattle.lq_beside.specs.Beside.{NothingStands}

apart : (d : Dialect) → AreApart d no_objects
apart Postgresql = λ n. omega arith
apart Mysql = (λ n. omega arith, λ n. omega arith)

none_kept : (d : Dialect) → IsSound d no_objects
none_kept Postgresql = record {
  ordered = sorted_keys {X = Table} [] tt;
  ordered_views = sorted_keys {X = View} [] tt;
  ordered_sequences = sorted_keys {X = Sequence} [] tt;
  tables = λ t it is. not_some (sym is);
  views = refl;
  apart = apart Postgresql;
  schemas = refl;
  steps = refl;
  sequences = refl;
  no_null = refl;
  no_twins = refl;
  aimed = refl;
  alike = refl;
  parents = refl;
  small = refl;
}
none_kept Mysql = record {
  ordered = sorted_keys {X = Table} [] tt;
  ordered_views = sorted_keys {X = View} [] tt;
  ordered_sequences = sorted_keys {X = Sequence} [] tt;
  tables = λ t it is. not_some (sym is);
  views = refl;
  apart = apart Mysql;
  schemas = refl;
  steps = refl;
  sequences = refl;
  no_null = refl;
  no_twins = refl;
  aimed = refl;
  alike = refl;
  parents = refl;
  small = refl;
}

pub nothing_stands : NothingStands
nothing_stands Postgresql = record { ordered = sorted_keys {X = Table} [] tt; is = refl; sound = none_kept Postgresql; names = refl; few = refl }
nothing_stands Mysql = record { ordered = sorted_keys {X = Table} [] tt; is = refl; sound = none_kept Mysql; names = refl; few = refl }
