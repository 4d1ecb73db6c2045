-- What a query is answered where its source is handed in.
use Rattle.std.proofs.Common.{◌≡◌, ◌∙◌, ◌∷◌, Bool, Err, IfOk, List, Ok, Option, Result, Some, [], ap, cond, false, refl, subst, sym, true}
use Rattle.lq_base.specs.declared.memory.NoMemory.{NoMemory}
use Rattle.lq_base.specs.declared.reason.Reason.{Reason}
use Rattle.lq_base.specs.declared.value.Value.{Value}
use Rattle.lq_model.specs.Catalogue.{Catalogue, IsAnswer}
use Rattle.lq_model.specs.Views.{Source, answer, answer_from, source_of}
use Rattle.lq_model.specs.Plan.{unless}
use Rattle.lq_model.specs.declared.caller.By.{By}
use Rattle.lq_model.specs.declared.column.Column.{Column}
use Rattle.lq_model.specs.declared.fault.AskFault.{AskFault}
use Rattle.lq_model.specs.declared.query.Answered.{Answered}
use Rattle.lq_model.specs.declared.query.Query.{Query}
use Rattle.lq_query.specs.Given.{against, answered, reasons_against}
use Rattle.lq_query.specs.Source.{TakesAlike}
use Rattle.lq_query.proofs.GivenLemmas.{answer_as}

-- ---- reasons

one_reason : {A B : Type 0} (b : Bool) (why r : Reason) (x : Result A Reason) (y : Result B Reason) → (x ≡ Err r → y ≡ Err r) → cond b (Err why) x ≡ Err r → cond b (Err why) y ≡ Err r
one_reason true why r x y more is = let same : why ≡ r = cc in ap Err same
one_reason false why r x y more is = more is

still_refused : {A B : Type 0} (tests : List (Bool × Reason)) (x : A) (y : B) (r : Reason) → unless tests x ≡ Err r → unless tests y ≡ Err r
still_refused [] x y r is = absurd cc
still_refused (t ∷ tests) x y r is = one_reason t.0 t.1 r (unless tests x) (unless tests y) (still_refused tests x y r) is

one_passed : {A B : Type 0} (b : Bool) (why : Reason) (x : Result A Reason) (y : Result B Reason) (a : A) (d : B) → (x ≡ Ok a → y ≡ Ok d) → cond b (Err why) x ≡ Ok a → cond b (Err why) y ≡ Ok d
one_passed true why x y a d more is = absurd cc
one_passed false why x y a d more is = more is

still_passed : {A B : Type 0} (tests : List (Bool × Reason)) (x a : A) (y : B) → unless tests x ≡ Ok a → unless tests y ≡ Ok y
still_passed [] x a y is = refl
still_passed (t ∷ tests) x a y is = one_passed t.0 t.1 (unless tests x) (unless tests y) a y (still_passed tests x a y) is

pub refused : (by : By) (q : Query) (s : Source) (r : Reason) → against by q s.columns ≡ Err r → answered by q (Some s) ≡ Err r
unfolding against answered
refused by q s r is = still_refused (reasons_against by q s.columns) tt (answer_from s q) r is

pub passed : (by : By) (q : Query) (s : Source) (a : Answered) → against by q s.columns ≡ Ok tt → a ≡ answer_from s q → answered by q (Some s) ≡ Ok a
unfolding against answered
passed by q s a is fits = still_passed (reasons_against by q s.columns) tt tt (answer_from s q) is ∙ ap Ok (sym fits)

-- ---- sources

pub asked : (by : By) (q : Query) (c : Catalogue) (o : Option Source) (r : Result Answered AskFault) → source_of c q.table ≡ o → IsAnswer (answered by q o) r → IsAnswer (answer by q c) r
unfolding answered
asked by q c o r same is = subst (λ (z : Option Source). IsAnswer (answered by q z) r) (sym same) is

same_taken : (by : By) (q : Query) (cs : List Column) (some all : List (List Value)) → TakesAlike q.test cs some all → answered by q (Some (record { columns = cs; rows = some })) ≡ answered by q (Some (record { columns = cs; rows = all }))
unfolding answered
same_taken by q cs some all same = ap (λ (rows : List (List Value)). unless (reasons_against by q cs) (answer_as q.wanted cs rows)) same

pub asked_by : (by : By) (q : Query) (c : Catalogue) (cs : List Column) (some all : List (List Value)) (r : Result Answered AskFault) → source_of c q.table ≡ Some (record { columns = cs; rows = all }) → TakesAlike q.test cs some all
    → IsAnswer (answered by q (Some (record { columns = cs; rows = some }))) r → IsAnswer (answer by q c) r
asked_by by q c cs some all r there same is = asked by q c (Some (record { columns = cs; rows = all })) r there (subst (λ (z : Result Answered Reason). IsAnswer z r) (same_taken by q cs some all same) is)

pub with_columns : (by : By) (q : Query) (cs shown : List Column) (rows : List (List Value)) (r : Result Answered AskFault) → cs ≡ shown
    → IsAnswer (answered by q (Some (record { columns = cs; rows = rows }))) r → IsAnswer (answered by q (Some (record { columns = shown; rows = rows }))) r
with_columns by q cs shown rows r same is = subst (λ (z : List Column). IsAnswer (answered by q (Some (record { columns = z; rows = rows }))) r) same is

pub other_answer : (r : Result Answered NoMemory) (a b : Answered) → a ≡ b → IfOk r (λ x. x ≡ a) → IfOk r (λ x. x ≡ b)
other_answer (Ok x) a b same is = is ∙ same
other_answer (Err e) a b same is = tt
