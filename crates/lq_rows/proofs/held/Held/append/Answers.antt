use Rattle.std.proofs.Common.{List, rules, subst, ◌≡◌, ◌++◌, ◌∷◌, []}
use Rattle.lq_base.specs.declared.value.Value.{Value}
use Rattle.lq_chain.specs.History.{changed}
use Rattle.lq_rows.specs.Stored.{ArePrints, AllShow}
use Rattle.lq_rows.proofs.SeenLemmas.{kept_up}
use Rattle.lq_rows.proofs.held.Held.append.Goals as goal

pub invariant_of-self-2 : goal.invariant_of-self-2
invariant_of-self-2 c =
    let b = c.deref_mut-body.result.now in
    let shows : AllShow b.shape.columns b.numbered.rows.now b.seen.items = rw (c.deref_mut-body.ensures.value) c.self.invariant.0 in
    let printed : ArePrints b.numbered.rows.now b.prints = rw (c.deref_mut-body.ensures.value) c.self.invariant.1 in
    let rows : c.push_back.new.self ≡ changed b.numbered.rows (b.numbered.rows.now ++ c.args.row ∷ []) = search rules in
    rw (rows) (
      kept_up b.shape.columns b.numbered.rows.now c.args.row b.seen.items c.keep_up.new.seen.items _ _ c.as_slice.ensures c.as_slice-2.ensures c.keep_up.ensures shows,
      subst (λ (row : List Value). ArePrints (b.numbered.rows.now ++ row ∷ []) c.add.new.prints) c.as_slice-3.ensures (c.add.ensures b.numbered.rows.now printed),
    )
