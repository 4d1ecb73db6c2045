-- What conditions tell, worked out.
use Rattle.std.proofs.Common.{◌∙◌}
use Rattle.std.specs.Prelude.{Bool, Err, List, Ok, Result, [], codes, false, pos, refl, true, ℕ, ◌∷◌, ◌≡◌}
use Rattle.lq_base.specs.declared.dialect.Dialect.TheVariants.{Mysql, Postgresql}
use Rattle.lq_base.specs.declared.reason.Reason.{Reason}
use Rattle.lq_base.specs.declared.reason.Reason.TheVariants.{Missing}
use Rattle.lq_model.specs.Catalogue.{Catalogue, no_objects, no_table}
use Rattle.lq_cond.specs.Kinds.{is_meant}
use Rattle.lq_cond.specs.Told.{tells as tells_one, told}
use Rattle.lq_cond.proofs.ToldLemmas.{and_told, is_told, not_told, or_told}
use Rattle.lq_cond.specs.declared.cond.Cond.{And, Cond, Is, Not, Or}
use Rattle.lq_cond.specs.declared.condition.Condition.{Condition}
use Rattle.lq_cond.specs.declared.condition.Condition.TheVariants.{RowCount, TableExists, TableIsEmpty}

-- a database with the tables t and DATABASECHANGELOG, without rows
abbrev tables : Catalogue
tables = record no_objects { tables = (codes "DATABASECHANGELOG", no_table) ∷ (codes "t", no_table) ∷ [] }

abbrev tells : Cond → Result Bool Reason
tells cond = told Postgresql cond tables []

-- a condition of one kind
one : (x : Condition) → tells (Is x) ≡ tells_one Postgresql tables [] x
one x = is_told Postgresql tables [] x

-- without conditions, `and` and `not` hold and `or` does not

pub empty_and : tells (And []) ≡ Ok true
empty_and = and_told Postgresql tables [] []

pub empty_or : tells (Or []) ≡ Ok false
empty_or = or_told Postgresql tables [] []

pub empty_not : tells (Not []) ≡ Ok true
empty_not = not_told Postgresql tables [] []

-- the rows of a missing table cannot be counted
abbrev counts : List ℕ → Cond
counts t = Is (RowCount t (pos 0))

abbrev there : List ℕ → Cond
there t = Is (TableExists t)

pub missing_table : tells (counts (codes "u")) ≡ Err Missing
missing_table = one (RowCount (codes "u") (pos 0))

pub empty_table : tells (counts (codes "t")) ≡ Ok true
empty_table = one (RowCount (codes "t") (pos 0))

-- an error is told behind what does not hold, and behind what does
pub error_behind_false : tells (And (there (codes "u") ∷ counts (codes "u") ∷ [])) ≡ Err Missing
error_behind_false = and_told Postgresql tables [] (there (codes "u") ∷ counts (codes "u") ∷ []) ∙ rw (one (TableExists (codes "u")), one (RowCount (codes "u") (pos 0))) refl

pub error_behind_true : tells (Or (there (codes "t") ∷ counts (codes "u") ∷ [])) ≡ Err Missing
error_behind_true = or_told Postgresql tables [] (there (codes "t") ∷ counts (codes "u") ∷ []) ∙ rw (one (TableExists (codes "t")), one (RowCount (codes "u") (pos 0))) refl

pub not_of_two : tells (Not (there (codes "u") ∷ there (codes "t") ∷ [])) ≡ Ok false
not_of_two = not_told Postgresql tables [] (there (codes "u") ∷ there (codes "t") ∷ []) ∙ rw (one (TableExists (codes "u")), one (TableExists (codes "t"))) refl

-- a tracking table is no table, in any case
pub tracking_is_not_there : tells (there (codes "DATABASECHANGELOG")) ≡ Ok false
tracking_is_not_there = one (TableExists (codes "DATABASECHANGELOG"))

pub tracking_has_no_rows : tells (Is (TableIsEmpty (codes "DataBaseChangeLog"))) ≡ Err Missing
tracking_has_no_rows = one (TableIsEmpty (codes "DataBaseChangeLog"))

-- lists of dialects

pub named_dialect : is_meant Postgresql (codes "mysql" ∷ codes "postgresql" ∷ []) ≡ true
named_dialect = refl

pub other_dialect : is_meant Postgresql (codes "mysql" ∷ []) ≡ false
other_dialect = refl

pub all_but_one : is_meant Mysql (codes "!postgresql" ∷ []) ≡ true
all_but_one = refl

pub excluded_after_all : is_meant Mysql (codes "all" ∷ codes "!mysql" ∷ []) ≡ false
excluded_after_all = refl

pub none_is_no_dialect : is_meant Mysql (codes "none" ∷ []) ≡ false
none_is_no_dialect = refl
