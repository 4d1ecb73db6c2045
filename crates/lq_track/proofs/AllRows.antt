-- All rows of a table, asked as the program's.
use Rattle.std.proofs.Common.{ap, sym, ◌∙◌, subst}
use Rattle.std.specs.List.{filter}
use Rattle.std.proofs.lemmas.List.{append_assoc}
use Rattle.std.specs.Prelude.{Bool, Err, Ok, List, None, Option, Result, Some, false, true, is_none, length, map, not, refl, unwrap_or, ◌||◌, ◌∷◌, ◌++◌, [], ◌≡◌, IfSome}
use Rattle.lq_base.specs.Name.{is_named}
use Rattle.lq_base.specs.declared.name.Name.{Name}
use Rattle.lq_base.specs.declared.reason.Reason.{Reason}
use Rattle.lq_base.specs.declared.reason.Reason.TheVariants.{Missing, Reserved, WrongKind}
use Rattle.lq_base.specs.declared.value.Value.{Value}
use Rattle.lq_model.specs.Catalogue.{Catalogue, Table, table_of, is_in}
use Rattle.lq_model.specs.Views.{Source, answer, answer_from, lacks_column, no_source, source_of}
use Rattle.lq_model.specs.Plan.{unless}
use Rattle.lq_model.specs.Truth.{takes}
use Rattle.lq_model.specs.declared.caller.By.TheVariants.{Program}
use Rattle.lq_model.specs.declared.column.Column.{Column}
use Rattle.lq_model.specs.declared.query.Answered.{Answered}
use Rattle.lq_model.specs.declared.query.Query.{Query}
use Rattle.lq_model.specs.declared.query.Wanted.TheVariants as wanted
use Rattle.lq_model.proofs.Lists.{named_itself, or_false}

or_right_true : (a b : Bool) → b ≡ true → (a || b) ≡ true
or_right_true true b h = refl
or_right_true false b h = h

stands : (front cs : List Column) (c : Column) → is_in c.name (map (λ (c : Column). c.name) (front ++ c ∷ cs)) ≡ true
stands [] cs c = ap (λ b. b || is_in c.name (map (λ (c : Column). c.name) cs)) (named_itself c.name)
stands (f ∷ front) cs c = or_right_true (is_named c.name f.name) _ (stands front cs c)

pub lacks_none : (front cs : List Column) → lacks_column (front ++ cs) (map (λ (c : Column). c.name) cs) ≡ false
lacks_none front [] = refl
lacks_none front (c ∷ cs) =
    or_false (not (is_in c.name (map (λ (c : Column). c.name) (front ++ c ∷ cs)))) _ (ap not (stands front cs c))
    (subst (λ all. lacks_column all (map (λ (c : Column). c.name) cs) ≡ false) (append_assoc front (c ∷ []) cs) (lacks_none (front ++ c ∷ []) cs))

takes_all : (cs : List Column) (rows : List (List Value)) → filter (takes None cs) rows ≡ rows
takes_all cs [] = refl
takes_all cs (row ∷ rows) = ap (λ more. row ∷ more) (takes_all cs rows)

abbrev pub all_of : Name → Query
all_of t = record { wanted = wanted.All; table = t; test = None }

answered : (o : Option Source) (t : Name) (s : Source) → o ≡ Some s
    → unless ((false, Reserved)
    ∷ (is_none o || (lacks_column (unwrap_or o no_source).columns (map (λ (c : Column). c.name) (unwrap_or o no_source).columns) || false), Missing)
    ∷ (false, WrongKind) ∷ []) (answer_from (unwrap_or o no_source) (all_of t)) ≡ Ok (answer_from s (all_of t))
answered o t s is = rw (is, lacks_none [] s.columns) refl

shown : (c : Catalogue) (t : Name) (it : Table) → table_of c t ≡ Some it → answer Program (all_of t) c ≡ Ok (answer_from (record { columns = it.columns; rows = it.rows }) (all_of t))
shown c t it there = answered (source_of c t) t (record { columns = it.columns; rows = it.rows }) (rw (there, source_of) refl)

-- what is answered where the table is there
pub all_answered : (c : Catalogue) (t : Name) (it : Table) → table_of c t ≡ Some it → answer Program (all_of t) c ≡ Ok (record { columns = length it.columns; rows = it.rows })
all_answered c t it there = shown c t it there ∙ ap answered_with (takes_all it.columns it.rows) where
  answered_with : List (List Value) → Result Answered Reason
  answered_with rows = Ok (record { columns = length it.columns; rows = rows })

abbrev rows_in : Result Answered Reason → List (List Value)
rows_in (Ok answered) = answered.rows
rows_in (Err reason) = []

rows_by : (c : Catalogue) (t : Name) (r : Result Answered Reason) (o : Option Table) → table_of c t ≡ o → answer Program (all_of t) c ≡ r → IfSome o (λ it. rows_in r ≡ it.rows)
rows_by c t r None there got = tt
rows_by c t r (Some it) there got = ap rows_in (sym got ∙ shown c t it there) ∙ takes_all it.columns it.rows

-- the rows of an answer
pub all_rows_are : (c : Catalogue) (t : Name) (r : Answered) → answer Program (all_of t) c ≡ Ok r → IfSome (table_of c t) (λ it. r.rows ≡ it.rows)
all_rows_are c t r got = rows_by c t (Ok r) (table_of c t) refl got

never_refused : (c : Catalogue) (t : Name) (reason : Reason) (o : Option Table) → table_of c t ≡ o → answer Program (all_of t) c ≡ Err reason → IfSome o (λ it. [] ≡ it.rows)
never_refused c t reason None there got = tt
never_refused c t reason (Some it) there got = let is_shown = shown c t it there in cc

pub none_refused : (c : Catalogue) (t : Name) (reason : Reason) → answer Program (all_of t) c ≡ Err reason → IfSome (table_of c t) (λ it. [] ≡ it.rows)
none_refused c t reason got = never_refused c t reason (table_of c t) refl got
