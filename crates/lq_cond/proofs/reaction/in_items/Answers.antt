use Rattle.std.proofs.Common.{Ok, [], rules, ◌∙◌, ◌≡◌}
use Rattle.lq_tree.specs.Look.{map_found, within}
use Rattle.lq_tree.specs.Items.{item_path}
use Rattle.lq_cond.specs.Reading.{an_item, setting_at}
use Rattle.lq_cond.specs.Stated.{and_more}
use Rattle.lq_cond.proofs.StatedLemmas.{item_next}
use Rattle.lq_cond.proofs.reaction.in_items.Goals as goal

pub loop-place-preserved : goal.loop-place-preserved
loop-place-preserved g c =
    let made : within (item_path [] c.loop-place.place) (map_found (and_more c.loop-place.stated) (an_item (setting_at g.P.SqlText.dialect) c.index-nodes-place.result)) ≡ Ok c.in_ok-stated.stated = search rules in
    c.loop-place.invariant ∙ item_next (setting_at g.P.SqlText.dialect) c.loop-place.stated c.in_ok-stated.stated c.loop-place.place c.args.nodes.now c.index-nodes-place.result c.loop-place-test.true c.index-nodes-place.is made
