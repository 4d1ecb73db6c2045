-- What a change of a column makes of it.
use Rattle.std.specs.Prelude.{Err, Ok, Result, [], false, is_none, not, ℕ, ◌||◌, ◌∷◌, ◌≡◌}
use Rattle.lq_arm.specs.Verdict.{verdict_of}
use Rattle.lq_arm.specs.declared.tests.Tests.{Tests}
use Rattle.lq_base.specs.declared.name.Name.{Name}
use Rattle.lq_chain.specs.History.{History}
use Rattle.lq_columnops.specs.declared.change.Change.{Change}
use Rattle.lq_columnops.specs.declared.change.Change.TheVariants.{Default, Modified, Nullable}
use Rattle.lq_model.specs.Catalogue.{Catalogue, has_column, table_of, the_table}
use Rattle.lq_model.specs.NameSpaces.{is_reserved}
use Rattle.lq_model.specs.Tables.{made_nullable, modified, with_default}
use Rattle.lq_model.specs.declared.caller.By.{By}
use Rattle.lq_model.specs.declared.column.Column.{Column}
use Rattle.lq_rows.specs.Stored.{Continues}
use Rattle.lq_rows.specs.declared.fault.RunFault.{RunFault}
use Rattle.lq_rows.specs.declared.fault.RunFault.TheVariants.{OutOfMemory, Refused}

abbrev pub applied : Change → Column → Column
applied (Nullable b) c = made_nullable b c
applied (Modified k b) c = modified k b c
applied (Default v) c = with_default v c

-- What is done by a statement that is tested first.

-- nothing is against it, no row is counted and the catalogue is now `after`; or the first reason, and nothing is changed
abbrev pub Done : Tests → Catalogue → History Catalogue → History Catalogue → Result ℕ RunFault → Type 0
Done tests after old new (Ok n) = (verdict_of tests ≡ Ok tt) × (n ≡ 0) × (new.now ≡ after) × Continues old new
Done tests after old new (Err (Refused r)) = (verdict_of tests ≡ Err r) × (new ≡ old)
Done tests after old new (Err OutOfMemory) = Continues old new

-- What is asked of every statement on a table, and on a column of it.

-- a user may name the table, and it is there
abbrev pub on_table : By → Name → Catalogue → Tests
on_table by t c = record {
  reserved = is_reserved by (t ∷ []);
  missing = is_none (table_of c t);
  exists = false;
  depends = false;
  wrong = false;
  wide = false;
  nulls = false;
  twins = false;
  orphans = false;
  children = false;
  full = false;
}

-- and so is the column
abbrev pub on_column : By → Name → Name → Catalogue → Tests
on_column by t n c = record (on_table by t c) { missing = is_none (table_of c t) || not (has_column (the_table c t) n) }
