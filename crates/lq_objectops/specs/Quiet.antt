-- The view that a query makes.
use Rattle.std.specs.Prelude.{List, false}
use Rattle.lq_arm.specs.declared.tests.Tests.{Tests}
use Rattle.lq_model.specs.Catalogue.{View}
use Rattle.lq_model.specs.Views.{listed}
use Rattle.lq_model.specs.declared.column.Column.{Column}
use Rattle.lq_model.specs.declared.query.Query.{Query}
use Rattle.lq_model.specs.declared.query.Wanted.TheVariants as wanted

-- over a table of these columns, `*` being replaced by all of them
abbrev pub view_over : Query → List Column → View
view_over q cs = record {
  query = record q { wanted = wanted.Columns (listed q.wanted cs) };
  columns = listed q.wanted cs;
}

-- Tests of which none holds.

abbrev pub no_tests : Tests
no_tests = record {
  reserved = false;
  missing = false;
  exists = false;
  depends = false;
  wrong = false;
  wide = false;
  nulls = false;
  twins = false;
  orphans = false;
  children = false;
  full = false;
}
