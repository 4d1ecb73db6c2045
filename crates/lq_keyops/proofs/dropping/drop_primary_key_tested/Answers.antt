use Rattle.std.proofs.Common.{None, Some, ap, is_some, refl, rules, sym, is_none, ◌∙◌, ◌≡◌}
use Rattle.lq_arm.specs.Verdict.{verdict_of}
use Rattle.lq_arm.proofs.Arms.{agree}
use Rattle.lq_decide.specs.Faults.{less_faults}
use Rattle.lq_decide.proofs.Keys.{drop_primary_key_judged}
use Rattle.lq_model.specs.Catalogue.{table_of, the_table}
use Rattle.lq_model.specs.Constraints as spec
use Rattle.lq_model.specs.Tables.{has_numbered}
use Rattle.lq_keyops.proofs.Ended as lemma
use Rattle.lq_keyops.proofs.dropping.drop_primary_key_tested.Goals as goal

pub returns-in_default : goal.returns-in_default
returns-in_default c =
    let db = c.args.parts.now.now in
    let none : table_of db c.args.table.now ≡ None = search rules in
    rw (c.nothing_there.ensures) (lemma.gone (spec.drop_primary_key c.args.by c.args.dialect c.args.table.now db) c.args.parts.now c.is_reserved-reserved.result (lemma.absent db c.args.table.now _ none) (sym c.is_reserved-reserved.ensures))

pub reshape-requires : goal.reshape-requires
reshape-requires c = let here : table_of c.args.parts.now.now c.args.table.now ≡ Some c.in-Some.held.now.now = search rules in ap is_some here

pub returns : goal.returns
returns c =
    let db = c.args.parts.now.now in
    let t = c.args.table.now in
    let it = c.in-Some.held.now.now in
    let here : table_of db t ≡ Some it = search rules in
    let none : c.is_none.result ≡ is_none it.key = search rules in
    let numbered : c.has_numbered.result ≡ has_numbered it = search rules in
    c.reshape.ensures (spec.drop_primary_key c.args.by c.args.dialect t db) (less_faults t (spec.without_its_key (the_table db t)) db) (record {
      judged = drop_primary_key_judged c.args.by c.args.dialect t db c.requires;
      tested = rw (c.no_tests.ensures) (ap verdict_of (agree c.is_reserved-reserved.ensures (sym (lemma.asked db t it (λ x. is_none x.key) here ∙ sym none)) refl (lemma.numbered_or db t it c.has_numbered.result c.loses_target.result here numbered (lemma.loses db t it spec.without_its_key c.in_ok-shape.shape c.loses_target.result here c.in_ok-shape.ensures c.loses_target.ensures)) refl refl refl refl refl refl refl));
      result = lemma.shaped_there db t it spec.without_its_key c.in_ok-shape.shape here c.in_ok-shape.ensures;
      count = refl;
    })
