-- The program's own statements can be written.
use Rattle.std.proofs.Common.{arith, subst, sym}
use Rattle.std.proofs.lemmas.Bool.{le-leb}
use Rattle.std.specs.Prelude.{Err, IfOk, List, None, Ok, Option, Result, Some, pos, refl, true, ℕ, ℤ, ◌-◌, ◌<◌, ◌^◌, ◌≡◌}
use Rattle.lq_base.specs.declared.dialect.Dialect.{Dialect}
use Rattle.lq_base.specs.declared.dialect.Dialect.TheVariants.{Mysql, Postgresql}
use Rattle.lq_base.specs.declared.literal.Literal.TheVariants as literal
use Rattle.lq_base.specs.declared.identity.Identity.{Identity}
use Rattle.lq_base.specs.declared.tracking.Tracked.{Tracked}
use Rattle.lq_model.proofs.Lists.{and_true}
use Rattle.lq_model.specs.Comparison.{is_literal}
use Rattle.lq_model.specs.Step.{is_statement}
use Rattle.lq_model.specs.declared.statement.Statement.{Statement}
use Rattle.lq_track.specs.Lock.{text_or_null, lock_column, lock_key_name, lock_order, lock_table, lock_value}
use Rattle.lq_track.specs.Log.{again_order, log_column, log_order, log_table, log_value}
use Rattle.lq_track.specs.Statements.{lock_freed, lock_made, lock_marked, lock_row_made, lock_taken, log_made, row_again, row_deleted, row_inserted, sum_filled, sums_cleared, tag_set}

-- what is made of memory that there is
pub if_made : {F : Type 0} (d : Dialect) (result : Result Statement F) (made : Statement) → IfOk result (λ s. s ≡ made) → is_statement d made ≡ true → IfOk result (λ s. is_statement d s ≡ true)
if_made d (Ok s) made is stated = subst (λ z. is_statement d z ≡ true) (sym is) stated
if_made d (Err e) made is stated = tt

maybe_text : (o : Option (List ℕ)) → is_literal (text_or_null o) ≡ true
maybe_text None = refl
maybe_text (Some text) = refl

place : (n : ℕ) → n < 2 ^ 32 → is_literal (literal.Int (pos n)) ≡ true
place n h = le-leb n (2 ^ 127 - 1) (omega arith)

pub stated_log : (d : Dialect) → is_statement d log_made ≡ true
unfolding log_table log_column log_order
stated_log Postgresql = refl
stated_log Mysql = refl

pub stated_lock : (d : Dialect) → is_statement d (lock_made d) ≡ true
unfolding lock_table lock_column lock_order lock_key_name
stated_lock Postgresql = refl
stated_lock Mysql = refl

pub stated_lock_row : (d : Dialect) → is_statement d lock_row_made ≡ true
unfolding lock_table lock_column lock_order lock_value
stated_lock_row Postgresql = refl
stated_lock_row Mysql = refl

pub stated_taken : (d : Dialect) (at : ℤ) (by : List ℕ) → is_statement d (lock_taken at by) ≡ true
unfolding lock_table lock_column lock_value
stated_taken Postgresql at by = refl
stated_taken Mysql at by = refl

pub taken_made : {F : Type 0} (d : Dialect) (result : Result Statement F) (at : ℤ) (by : List ℕ) → IfOk result (λ s. s ≡ lock_taken at by) → IfOk result (λ s. is_statement d s ≡ true)
taken_made d result at by is = if_made d result (lock_taken at by) is (stated_taken d at by)

pub stated_freed : (d : Dialect) → is_statement d lock_freed ≡ true
unfolding lock_table lock_column lock_value
stated_freed Postgresql = refl
stated_freed Mysql = refl

pub stated_marked : (d : Dialect) (by : List ℕ) → is_statement d (lock_marked by) ≡ true
unfolding lock_table lock_column
stated_marked Postgresql by = refl
stated_marked Mysql by = refl

pub stated_inserted : (d : Dialect) (row : Tracked) → row.order < 2 ^ 32 → is_statement d (row_inserted row) ≡ true
unfolding log_table log_column log_order log_value
stated_inserted Postgresql row h = and_true _ _ (place row.order h) (and_true _ _ (maybe_text row.md5sum) (and_true _ _ (maybe_text row.tag) refl))
stated_inserted Mysql row h = and_true _ _ (place row.order h) (and_true _ _ (maybe_text row.md5sum) (and_true _ _ (maybe_text row.tag) refl))

pub stated_again : (d : Dialect) (row : Tracked) → row.order < 2 ^ 32 → is_statement d (row_again row) ≡ true
unfolding log_table log_column again_order log_value Rattle.lq_model.specs.declared.test.Test.TheBlock.hidden-the_row-Test-0 denote.Hole.Carrier.hidden
stated_again Postgresql row h = and_true _ _ (and_true _ _ (place row.order h) (and_true _ _ (maybe_text row.md5sum) refl)) refl
stated_again Mysql row h = and_true _ _ (and_true _ _ (place row.order h) (and_true _ _ (maybe_text row.md5sum) refl)) refl

pub stated_deleted : (d : Dialect) (of : Identity) → is_statement d (row_deleted of) ≡ true
unfolding log_table log_column Rattle.lq_model.specs.declared.test.Test.TheBlock.hidden-the_row-Test-0 denote.Hole.Carrier.hidden
stated_deleted Postgresql of = refl
stated_deleted Mysql of = refl

pub stated_filled : (d : Dialect) (of : Identity) (sum : List ℕ) → is_statement d (sum_filled of sum) ≡ true
unfolding log_table log_column Rattle.lq_model.specs.declared.test.Test.TheBlock.hidden-the_row-Test-0 denote.Hole.Carrier.hidden
stated_filled Postgresql of sum = refl
stated_filled Mysql of sum = refl

pub stated_tagged : (d : Dialect) (of : Identity) (tag : List ℕ) → is_statement d (tag_set of tag) ≡ true
unfolding log_table log_column Rattle.lq_model.specs.declared.test.Test.TheBlock.hidden-the_row-Test-0 denote.Hole.Carrier.hidden
stated_tagged Postgresql of tag = refl
stated_tagged Mysql of tag = refl

pub stated_cleared : (d : Dialect) → is_statement d sums_cleared ≡ true
unfolding log_table log_column
stated_cleared Postgresql = refl
stated_cleared Mysql = refl
