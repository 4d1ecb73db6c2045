use Rattle.std.proofs.Common.{None, Some, ap, is_some, refl, rules, sym, ◌≡◌}
use Rattle.lq_arm.specs.Verdict.{verdict_of}
use Rattle.lq_arm.proofs.Arms.{agree}
use Rattle.lq_decide.specs.Faults.{less_faults}
use Rattle.lq_decide.proofs.Keys.{drop_constraint_judged}
use Rattle.lq_model.specs.Catalogue.{table_of, the_table}
use Rattle.lq_model.specs.Constraints as spec
use Rattle.lq_model.specs.Tables.{has_numbered}
use Rattle.lq_keyops.proofs.Ended as lemma
use Rattle.lq_keyops.proofs.dropping.drop_constraint_tested.Goals as goal

pub returns-in_default : goal.returns-in_default
returns-in_default c =
    let db = c.args.parts.now.now in
    let none : table_of db c.args.table.now ≡ None = search rules in
    rw (c.nothing_there.ensures) (lemma.gone (spec.drop_constraint c.args.by c.args.dialect c.args.table.now c.args.name.now db) c.args.parts.now c.are_reserved-reserved.result (lemma.absent db c.args.table.now _ none) (sym c.are_reserved-reserved.ensures))

pub reshape-requires : goal.reshape-requires
reshape-requires c = let here : table_of c.args.parts.now.now c.args.table.now ≡ Some c.in-Some.held.now.now = search rules in ap is_some here

pub returns : goal.returns
returns c =
    let db = c.args.parts.now.now in
    let t = c.args.table.now in
    let n = c.args.name.now in
    let it = c.in-Some.held.now.now in
    let here : table_of db t ≡ Some it = search rules in
    let numbered : c.has_numbered.result ≡ has_numbered it = search rules in
    c.reshape.ensures (spec.drop_constraint c.args.by c.args.dialect t n db) (less_faults t (spec.without_constraint n (the_table db t)) db) (record {
      judged = drop_constraint_judged c.args.by c.args.dialect t db c.requires n;
      tested = rw (c.no_tests.ensures) (ap verdict_of (agree c.are_reserved-reserved.ensures (lemma.constraint_there db t n it c.is_constraint.result here c.is_constraint.ensures) refl (lemma.key_numbered_or db t n it c.is_key.result c.has_numbered.result c.loses_target.result here c.is_key.ensures numbered (lemma.loses db t it (spec.without_constraint n) c.in_ok-shape.shape c.loses_target.result here c.in_ok-shape.ensures c.loses_target.ensures)) refl refl refl refl refl refl refl));
      result = lemma.shaped_there db t it (spec.without_constraint n) c.in_ok-shape.shape here c.in_ok-shape.ensures;
      count = refl;
    })
