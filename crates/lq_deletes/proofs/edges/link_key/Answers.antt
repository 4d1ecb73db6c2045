use Rattle.std.proofs.Common.{ap, false, rules, true, ◌≡◌}
use Rattle.lq_parts.specs.Steps.{tables_of}
use Rattle.lq_deletes.proofs.PlaceLemmas.{key_none, key_some, parents_below}
use Rattle.lq_deletes.proofs.edges.link_key.Goals as goal

pub link-requires-clause-places : goal.link-requires-clause-places
link-requires-clause-places c = parents_below c.args.key.now (tables_of c.args.entries.now) c.in_ok-places.places _ c.requires.total c.in_ok-places.ensures

pub returns-then-not-key-clause-ok : goal.returns-then-not-key-clause-ok
returns-then-not-key-clause-ok c =
    let none : c.args.key.now.cascade ≡ false = search rules in
    key_none (tables_of c.args.entries.now) c.args.first c.args.held.now.now c.args.key.now c.args.edges.now.items none

pub returns-clause-ok : goal.returns-clause-ok
returns-clause-ok c =
    let it = c.args.held.now.now in
    let is : c.args.key.now.cascade ≡ true = search rules in
    let columns : c.columns.result.now ≡ it.columns = c.columns.ensures in
    let names : c.as_slice-names.result.now ≡ c.args.key.now.columns = c.as_slice-names.ensures in
    let rows : c.rows.result.now.now ≡ it.rows = ap (λ h. h.now) c.rows.ensures in
    let one = rw columns at c.in_ok-link.ensures.ok in
    let two = rw names at one in
    key_some (tables_of c.args.entries.now) c.args.first it c.args.key.now c.in_ok-places.places c.args.edges.now.items c.link.new.edges.items is c.in_ok-places.ensures (rw rows at two)
