-- How many changes were not fresh.
use Rattle.std.specs.Prelude.{List, None, Ok, [], codes, false, refl, true, ℕ, ◌∷◌, ◌≡◌}
use Rattle.lq_base.specs.Value.{into_kind}
use Rattle.lq_base.specs.declared.dialect.Dialect.TheVariants.{Mysql, Postgresql}
use Rattle.lq_base.specs.declared.tracking.Exec.TheVariants.{Executed}
use Rattle.lq_model.specs.Plan.{decide}
use Rattle.lq_turns.specs.Set.{Set}
use Rattle.lq_turns.specs.Settle.{all_settled}
use Rattle.lq_base.specs.declared.run.OnFail.TheVariants as on_fail
use Rattle.lq_turns.proofs.Examples.Given.{Given, changeset, makes, meaning, nothing, row, stale, stamp, told_so, with_rows}

-- makes three tables, of which two changes are not fresh
abbrev three : List ℕ → List ℕ → List ℕ → List Given
three t u w = stale (makes t) ∷ makes u ∷ stale (makes w) ∷ []

abbrev one : Set Given
one = changeset (codes "1") (three (codes "a") (codes "b") (codes "c"))

abbrev two : Set Given
two = changeset (codes "2") (three (codes "e") (codes "f") (codes "g"))

pub both_ran : (all_settled Postgresql meaning stamp.reading (one ∷ two ∷ []) nothing).not_fresh ≡ 4
unfolding decide into_kind
both_ran = refl

pub one_ran_again : (all_settled Postgresql meaning stamp.reading (record one { run_always = true } ∷ []) (with_rows (row (codes "1") 1 Executed None ∷ []))).not_fresh ≡ 2
unfolding decide into_kind
one_ran_again = refl

-- those of a changeset that is marked, or skipped, are not counted

pub one_marked : (all_settled Postgresql meaning stamp.reading (record one { condition = told_so (Ok false) on_fail.MarkRan on_fail.Halt } ∷ two ∷ []) nothing).not_fresh ≡ 2
unfolding decide into_kind
one_marked = refl

pub one_skipped : (all_settled Postgresql meaning stamp.reading (record one { condition = told_so (Ok false) on_fail.Continue on_fail.Halt } ∷ two ∷ []) nothing).not_fresh ≡ 2
unfolding decide into_kind
one_skipped = refl

-- nor those of one that is refused: it makes a table twice

abbrev refused : Set Given
refused = record (changeset (codes "1") (three (codes "a") (codes "b") (codes "b"))) { fail_on_error = false }

pub one_refused : (all_settled Postgresql meaning stamp.reading (refused ∷ two ∷ []) nothing).not_fresh ≡ 2
unfolding decide into_kind
one_refused = refl

pub one_refused_mysql : (all_settled Mysql meaning stamp.reading (refused ∷ two ∷ []) nothing).not_fresh ≡ 2
unfolding decide into_kind
one_refused_mysql = refl
