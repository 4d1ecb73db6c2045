use Rattle.std.proofs.Common.{None, Some, ap, is_some, not, refl, rules, sym, ◌||◌, ◌∙◌, ◌≡◌}
use Rattle.std.specs.List.{list_any}
use Rattle.std.specs.Option.{option_copied}
use Rattle.lq_arm.specs.Verdict.{verdict_of}
use Rattle.lq_arm.proofs.Arms.{agree}
use Rattle.lq_decide.specs.Faults.{add_foreign_key_faults}
use Rattle.lq_decide.proofs.Keys.{add_foreign_key_judged}
use Rattle.lq_model.specs.Constraints as spec
use Rattle.lq_model.specs.Catalogue.{table_of, the_table, repeats, same_names, column_missing, key_list, target_lists}
use Rattle.lq_model.specs.Tables.{target_missing}
use Rattle.lq_model.specs.Kinds.{kinds_at, same_kinds}
use Rattle.lq_model.specs.NameSpaces.{foreign_taken}
use Rattle.lq_keyops.specs.Targets.{lacks_parent_in}
use Rattle.lq_keyops.proofs.Ended as lemma
use Rattle.lq_keyops.proofs.TargetLemmas.{lists_are}
use Rattle.lq_keyops.proofs.foreign.add_foreign_key_tested.Goals as goal

pub returns-in_default : goal.returns-in_default
returns-in_default c =
    let db = c.args.parts.now.now in
    let t = c.args.table.now in
    let f = c.args.foreign.now in
    let none : table_of db t ≡ None = search rules in
    rw (c.nothing_there-absent.ensures) (lemma.gone (spec.add_foreign_key c.args.by c.args.dialect t f db) c.args.parts.now (c.are_reserved.result || c.is_reserved.result) (lemma.absent db t _ none)
    (sym (lemma.two c.are_reserved.ensures c.is_reserved.ensures ∙ lemma.reserved_three c.args.by t f.name f.table)))

pub returns-in_default-table : goal.returns-in_default-table
returns-in_default-table c =
    let db = c.args.parts.now.now in
    let t = c.args.table.now in
    let f = c.args.foreign.now in
    let none : table_of db f.table ≡ None = search rules in
    rw (c.nothing_there-absent.ensures) (lemma.gone (spec.add_foreign_key c.args.by c.args.dialect t f db) c.args.parts.now (c.are_reserved.result || c.is_reserved.result) (lemma.target_absent db f.table _ _ (λ y. column_missing y f.targets) none)
    (sym (lemma.two c.are_reserved.ensures c.is_reserved.ensures ∙ lemma.reserved_three c.args.by t f.name f.table)))

pub reshape-requires : goal.reshape-requires
reshape-requires c = let here : table_of c.args.parts.now.now c.args.table.now ≡ Some c.in-Some.held.now.now = search rules in ap is_some here

pub returns : goal.returns
returns c =
    let db = c.args.parts.now.now in
    let t = c.args.table.now in
    let f = c.args.foreign.now in
    let it = c.in-Some.held.now.now in
    let target = c.in-Some-table.target.now.now in
    let here : table_of db t ≡ Some it = search rules in
    let there : table_of db f.table ≡ Some target = search rules in
    let is = sym (lemma.the_is db t it here) in
    let at = sym (lemma.the_is db f.table target there) in
    let lacks : c.in_ok-missing.missing ≡ column_missing it f.columns = search rules in
    let lacks_there : c.in_ok-missing_there.missing_there ≡ column_missing target f.targets = search rules in
    let taken : c.foreign_taken.result ≡ foreign_taken c.args.dialect it f.name db = search rules in
    let twice : c.in_ok-twice.twice ≡ repeats f.columns = search rules in
    let twice_there : c.in_ok-twice_there.twice_there ≡ repeats f.targets = search rules in
    let aims : c.is_target.result ≡ (list_any (λ k. same_names f.targets k.columns) (key_list target.key) || list_any (λ u. same_names f.targets u.columns) target.uniques) =
    c.is_target.ensures
    ∙ ap (λ ts. list_any (λ k. same_names ts k.columns) (key_list (option_copied c.key.result)) || list_any (λ u. same_names ts u.columns) c.uniques.result.now) c.as_slice-targets.ensures
    ∙ ap (λ o. list_any (λ k. same_names f.targets k.columns) (key_list o) || list_any (λ u. same_names f.targets u.columns) c.uniques.result.now) c.key.ensures
    ∙ ap (λ us. list_any (λ k. same_names f.targets k.columns) (key_list target.key) || list_any (λ u. same_names f.targets u.columns) us) c.uniques.ensures in
    let kinds : c.same_kinds.result ≡ same_kinds (kinds_at it f.columns) (kinds_at target f.targets) = search rules in
    let orphans : c.in_ok-orphans.orphans ≡ list_any (lacks_parent_in target it.columns f) it.rows = search rules in
    c.reshape.ensures (spec.add_foreign_key c.args.by c.args.dialect t f db) (add_foreign_key_faults t f db) (record {
      judged = add_foreign_key_judged c.args.by c.args.dialect t db c.requires f;
      tested = rw (c.no_tests.ensures) (ap verdict_of (agree
          (lemma.two c.are_reserved.ensures c.is_reserved.ensures ∙ lemma.reserved_three c.args.by t f.name f.table)
          (lemma.two lacks (lacks_there ∙ sym (lemma.asked db f.table target (λ y. column_missing y f.targets) there)) ∙ sym (lemma.asked db t it (λ y. column_missing y f.columns || target_missing db f) here))
          (lemma.three (taken ∙ ap (λ y. foreign_taken c.args.dialect y f.name db) is) twice twice_there)
          (ap not (aims ∙ sym (lists_are target f.targets)) ∙ ap (λ y. not (list_any (same_names f.targets) (target_lists y))) at)
          (ap not kinds ∙ ap (λ y. not (same_kinds (kinds_at y f.columns) (kinds_at target f.targets))) is ∙ ap (λ y. not (same_kinds (kinds_at (the_table db t) f.columns) (kinds_at y f.targets))) at)
          refl refl refl
          (orphans ∙ ap (λ y. list_any (lacks_parent_in y it.columns f) it.rows) at ∙ ap (λ y. list_any (lacks_parent_in (the_table db f.table) y.columns f) y.rows) is)
          refl refl));
      result = lemma.shaped_there db t it (spec.with_foreign f) c.in_ok-shape.shape here c.in_ok-shape.ensures;
      count = refl;
    })
