-- What a view of a sound catalogue asks is answered.
use Rattle.std.proofs.Common.{ap, sym, ◌∙◌}
use Rattle.std.specs.List.{list_all}
use Rattle.std.specs.Prelude.{Bool, IsOk, List, None, Option, Some, false, is_none, not, refl, true, unwrap_or, ◌||◌, ◌∷◌, [], ◌≡◌}
use Rattle.lq_base.specs.declared.name.Name.{Name}
use Rattle.lq_base.specs.declared.reason.Reason.{Reason}
use Rattle.lq_base.specs.declared.reason.Reason.TheVariants.{Missing, Reserved, WrongKind}
use Rattle.lq_model.specs.Catalogue.{Catalogue, Table, View, table_of, is_empty, is_in, column_names}
use Rattle.lq_model.specs.Comparison.{compares_wrongly}
use Rattle.lq_model.specs.Views.{Source, answer, answer_from, lacks_column, listed, no_source, source_of, ViewsAnswer}
use Rattle.lq_model.specs.Plan.{unless}
use Rattle.lq_model.specs.Sound.{is_view, wanted_names}
use Rattle.lq_model.specs.Truth.{names_in}
use Rattle.lq_model.specs.declared.caller.By.TheVariants.{Program}
use Rattle.lq_model.specs.declared.query.Query.{Query}
use Rattle.lq_model.specs.declared.query.Wanted.{Wanted}
use Rattle.lq_model.specs.declared.query.Wanted.TheVariants as wanted
use Rattle.lq_model.proofs.Lists.{and_left, and_right, any_none, not_false, not_true, or_false, true_false}
use Rattle.lq_model.proofs.Maps.{at_lookup}
use Rattle.lq_model.proofs.Untouched.{same_list}
use Rattle.lq_model.proofs.ViewAt.{view_at, view_is}

unopposed : {A : Type 0} (p q r : Reason) (a b c : Bool) (x : A) → a ≡ false → b ≡ false → c ≡ false → IsOk (unless ((a, p) ∷ (b, q) ∷ (c, r) ∷ []) x)
unopposed p q r a b c x ha hb hc = rw (ha, hb, hc) refl

not_true_false : (b : Bool) → not b ≡ true → b ≡ false
not_true_false true h = true_false refl (sym h)
not_true_false false h = refl

nothing_lacks : (it : Table) (ns : List Name) → list_all (λ n. is_in n (column_names it)) ns ≡ true → lacks_column it.columns ns ≡ false
nothing_lacks it ns h = any_none _ (λ n. is_in n (column_names it)) ns (λ n q. not_true _ q) h

-- a view lists its columns, of which there is one at least
listed_are : (it : Table) (w : Wanted) (ns : List Name) → ns ≡ wanted_names w → not (is_empty ns) ≡ true → list_all (λ n. is_in n (column_names it)) ns ≡ true
    → lacks_column it.columns (listed w it.columns) ≡ false
listed_are it wanted.All ns is some all = true_false some (ap (λ l. not (is_empty l)) is)
listed_are it wanted.Count ns is some all = true_false some (ap (λ l. not (is_empty l)) is)
listed_are it (wanted.Columns ms) ns is some all = nothing_lacks it ms (sym (ap (λ l. list_all (λ n. is_in n (column_names it)) l) is) ∙ all)

asked : (q : Query) (o : Option Source) (s : Source) → o ≡ Some s → lacks_column s.columns (listed q.wanted s.columns) ≡ false → lacks_column s.columns (names_in q.test) ≡ false
    → compares_wrongly s.columns q.test ≡ false
    → IsOk (unless ((false, Reserved)
    ∷ (is_none o || (lacks_column (unwrap_or o no_source).columns (listed q.wanted (unwrap_or o no_source).columns) || lacks_column (unwrap_or o no_source).columns (names_in q.test)), Missing)
    ∷ (compares_wrongly (unwrap_or o no_source).columns q.test, WrongKind) ∷ []) (answer_from (unwrap_or o no_source) q))
asked q o s is none_listed none_tested agree = rw is (unopposed Reserved Missing WrongKind false _ _ _ refl (or_false _ _ none_listed none_tested) agree)

at_table : (c : Catalogue) (v : View) (o : Option Table) → table_of c v.query.table ≡ o → view_at o v ≡ true → IsOk (answer Program v.query c)
unfolding view_at
at_table c v None is h = true_false h refl
at_table c v (Some it) is h =
    let columns = and_left _ _ h in
    let tested = and_right _ _ h in
    let shown = and_right _ _ tested in
    asked v.query (source_of c v.query.table) (record { columns = it.columns; rows = it.rows }) (rw (is, source_of) refl)
    (listed_are it v.query.wanted v.columns (sym (same_list _ _ (and_left _ _ shown))) (and_left _ _ columns) (and_right _ _ (and_right _ _ columns)))
    (nothing_lacks it (names_in v.query.test) (and_left _ _ tested))
    (not_true_false _ (and_right _ _ (and_right _ _ shown)))

pub views_answer : ViewsAnswer
views_answer d c n v sound there =
    at_table c v _ refl (sym (view_is c v) ∙ not_false _ (at_lookup _ (λ w. not (is_view c w)) c.views v (any_none _ (λ e. is_view c e.1) c.views (λ e q. not_true _ q) sound.views) there))
