use Rattle.std.proofs.Common.{[], map, rules, subst, ◌∷◌, ◌≡◌}
use Rattle.std.specs.BTreeMap.{get}
use Rattle.lq_model.specs.Catalogue.{picked}
use Rattle.lq_rows.specs.Stored.{values_cmp}
use Rattle.lq_deletes.proofs.PlaceLemmas.{Linked, linked_all, linked_one}
use Rattle.lq_deletes.proofs.edges.link.Goals as goal

pub loop-row-preserved : goal.loop-row-preserved
loop-row-preserved c =
    let key = picked c.args.columns.now c.args.names.now in
    let place = get values_cmp c.args.places.now in
    let rest : c.loop-row.row-iterator ≡ c.as_slice.result.now ∷ c.next.new.self = search rules in
    let before = subst (λ rows. Linked place c.args.first (map key c.args.rows.now.now) c.args.edges.now.items c.loop-row.edges.items c.loop-row.at (map key rows)) rest c.loop-row.invariant.0 in (
      linked_one place c.args.first (map key c.args.rows.now.now) c.args.edges.now.items c.loop-row.edges.items c.add_edge.new.edges.items c.loop-row.at (key c.as_slice.result.now) (map key c.next.new.self) c.in_ok-place.place c.in_ok-place.ensures.place c.in_ok-add_edge.ensures.ok before,
      search rules,
      search rules,
    )

pub returns-clause-ok : goal.returns-clause-ok
returns-clause-ok c =
    let key = picked c.args.columns.now c.args.names.now in
    let place = get values_cmp c.args.places.now in
    let rest : c.loop-row.row-iterator ≡ [] = search rules in
    linked_all place c.args.first (map key c.args.rows.now.now) c.args.edges.now.items c.loop-row.edges.items c.loop-row.at
    (subst (λ rows. Linked place c.args.first (map key c.args.rows.now.now) c.args.edges.now.items c.loop-row.edges.items c.loop-row.at (map key rows)) rest c.loop-row.invariant.0)
