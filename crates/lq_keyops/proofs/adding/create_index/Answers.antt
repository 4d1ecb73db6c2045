use Rattle.std.proofs.Common.{None, Some, [], ap, is_some, refl, rules, sym, ◌&&◌, ◌∙◌, ◌∷◌, ◌≡◌}
use Rattle.lq_arm.specs.Verdict.{verdict_of}
use Rattle.lq_arm.proofs.Arms.{agree}
use Rattle.lq_decide.specs.Faults.{create_index_faults, are_twins}
use Rattle.lq_decide.proofs.Keys.{create_index_judged}
use Rattle.lq_model.specs.Constraints as spec
use Rattle.lq_model.specs.Catalogue.{table_of, repeats, column_missing, placed}
use Rattle.lq_model.specs.NameSpaces.{index_taken, takes_lock_key}
use Rattle.lq_keyops.proofs.Ended as lemma
use Rattle.lq_keyops.proofs.adding.create_index.Goals as goal
use Rattle.lq_base.specs.Name.{beside}

pub returns-in_default : goal.returns-in_default
returns-in_default c =
    let db = c.args.parts.now.now in
    let none : table_of db c.args.table.now ≡ None = search rules in
    rw (c.nothing_there.ensures) (lemma.gone (spec.create_index c.args.by c.args.dialect c.args.table.now c.args.index.now db) c.args.parts.now c.are_reserved-reserved.result (lemma.absent db c.args.table.now _ none) (sym c.are_reserved-reserved.ensures))

pub reshape-requires : goal.reshape-requires
reshape-requires c = let here : table_of c.args.parts.now.now c.args.table.now ≡ Some c.in-Some.held.now.now = search rules in ap is_some here

pub returns : goal.returns
returns c =
    let db = c.args.parts.now.now in
    let t = c.args.table.now in
    let x = c.args.index.now in
    let it = c.in-Some.held.now.now in
    let here : table_of db t ≡ Some it = search rules in
    let is = sym (lemma.the_is db t it here) in
    let lacks : c.in_ok-missing.missing ≡ column_missing it x.columns = search rules in
    let shared : c.in_ok-shared.shared ≡ beside t x.name = c.in_ok-shared.ensures in
    let taken : c.index_taken.result ≡ index_taken c.args.dialect t it x.name db = c.index_taken.ensures t shared in
    let lock : c.takes_lock_key.result ≡ takes_lock_key c.args.by c.args.dialect (placed t (x.name ∷ [])) = c.takes_lock_key.ensures ∙ ap (λ n. takes_lock_key c.args.by c.args.dialect (n ∷ [])) shared in
    let twice : c.in_ok-twice.twice ≡ repeats x.columns = search rules in
    let twins : c.in_ok-twins.twins ≡ (x.unique && are_twins it x.columns) = search rules in
    c.reshape.ensures (spec.create_index c.args.by c.args.dialect t x db) (create_index_faults t x db) (record {
      judged = create_index_judged c.args.by c.args.dialect t db c.requires x;
      tested = rw (c.no_tests.ensures) (ap verdict_of (agree c.are_reserved-reserved.ensures (lacks ∙ sym (lemma.asked db t it (λ y. column_missing y x.columns) here)) (lemma.three (taken ∙ ap (λ y. index_taken c.args.dialect t y x.name db) is) lock twice) refl refl refl refl (twins ∙ ap (λ y. x.unique && are_twins y x.columns) is) refl refl refl));
      result = lemma.shaped_there db t it (spec.with_index x) c.in_ok-shape.shape here c.in_ok-shape.ensures;
      count = refl;
    })
