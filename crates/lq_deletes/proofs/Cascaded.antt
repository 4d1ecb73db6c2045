-- What the marks that are spread say of a DELETE.
use Rattle.std.proofs.Common.{ap, arith, subst, sym, ◌∙◌}
use Rattle.std.specs.FinMap.Entries.{is_sorted}
use Rattle.std.specs.List.{flat_map, list_all}
use Rattle.std.specs.Prelude.{Bool, List, Option, Some, T, [], length, true, ℕ, ◌≡◌, ◌≤◌}
use Rattle.lq_base.specs.Name.{name_cmp}
use Rattle.lq_base.specs.declared.name.Name.{Name}
use Rattle.lq_model.specs.Catalogue.{Catalogue, table_of, the_table}
use Rattle.lq_model.specs.Rows.{deleted}
use Rattle.lq_model.specs.declared.test.Test.{Test}
use Rattle.lq_model.proofs.Maps.{sorted_entries}
use Rattle.lq_deletes.specs.Places.{AreGone, taken_in, AreMarked, losses, with_thinned, Gains, tables_linked, row_total, Spread, are_below, Choice, IsLinked, stays}
use Rattle.lq_deletes.proofs.Cut.{cut_is}
use Rattle.lq_deletes.proofs.Descent.{marks_gone}
use Rattle.lq_deletes.proofs.Linked.{are_cascades, cascades_below, taken_marks, taken_total}
use Rattle.lq_deletes.proofs.Staying.{leaves_staying}
use Rattle.lq_deletes.proofs.Thinned.{are_marked, chosen, thinned_is}

module _ (t : Name) (test : Option Test) (c : Catalogue) (sound : IsLinked c) where
  module _ (marks : List Bool) (taken : marks ≡ flat_map (taken_in t test (the_table c t).columns) c.tables) where
    pub marks_total : length marks ≡ row_total c.tables
    marks_total = ap length taken ∙ taken_total t test (the_table c t).columns c.tables

    module _ (edges : List (List ℕ)) (gains : Gains (tables_linked c.tables 0 c.tables) [] edges) where
      pub below_marks : list_all (are_below (length marks)) edges ≡ true
      below_marks = subst (λ n. list_all (are_below n) edges ≡ true) (sym marks_total) (cascades_below c sound edges gains)

      pub are_gone : (there : table_of c t ≡ Some (the_table c t)) (new : List Bool) → Spread edges marks new → AreGone t test c new
      are_gone there new spread = record { rows = marks_gone t test c sound there edges marks new (are_cascades c sound edges gains) (taken_marks t test c marks taken) spread }

  module _ (marks : List Bool) (many : length marks ≡ row_total c.tables) (gone : AreGone t test c marks) (xs : List (Name × List Bool)) (are : xs ≡ losses marks c.tables) where
    abbrev stay : Choice
    stay = stays t test c

    rise : T (is_sorted name_cmp c.tables)
    rise = sorted_entries c.tables sound.ordered

    cut : xs ≡ chosen stay c.tables
    cut = are ∙ cut_is stay c.tables marks (let le : row_total c.tables ≤ length marks = omega (arith, many) in le) gone.rows

    pub losses_marked : AreMarked xs c.tables
    losses_marked = subst (λ ys. AreMarked ys c.tables) (sym cut) (are_marked stay c.tables rise)

    pub losses_thin : table_of c t ≡ Some (the_table c t) → with_thinned xs c ≡ deleted t test c
    losses_thin there = ap (λ ys. with_thinned ys c) cut ∙ ap (λ es. record c { tables = es }) (thinned_is stay c.tables rise) ∙ sym (leaves_staying t test c sound there)
