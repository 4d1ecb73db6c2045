use Rattle.std.proofs.Common.{ap, ◌∙◌, ◌-◌}
use Rattle.std.specs.BTreeMap.{insert_entry}
use Rattle.lq_track.proofs.ByPlace.{behind_one, place_cmp}
use Rattle.lq_track.proofs.run_order.by_place.Goals as goal

pub loop-row-preserved-in_ok-insert : goal.loop-row-preserved-in_ok-insert
loop-row-preserved-in_ok-insert c = behind_one c.len-count.result c.args.rows c.loop-row.rows c.pop.new.self c.in-Some.row c.loop-row.placed.entries c.insert.new.self.entries c.in-Some.ensures (c.in_ok-insert.ensures.entries ∙ ap (λ n. insert_entry place_cmp c.loop-row.placed.entries (c.in-Some.row.order, c.len-count.result - n) c.in-Some.row) c.len.ensures) c.loop-row.invariant

pub loop-row-preserved : goal.loop-row-preserved
loop-row-preserved c = behind_one c.len-count.result c.args.rows c.loop-row.rows c.pop.new.self c.in-Some.row c.loop-row.placed.entries c.insert.new.self.entries c.in-Some.ensures (c.in_ok-insert.ensures.entries ∙ ap (λ n. insert_entry place_cmp c.loop-row.placed.entries (c.in-Some.row.order, c.len-count.result - n) c.in-Some.row) c.len.ensures) c.loop-row.invariant
