use Rattle.std.proofs.Common.{◌≡◌, drop}
use Rattle.lq_tree.specs.Look.{map_found}
use Rattle.lq_cond.specs.Reading.{each_item, setting_at}
use Rattle.lq_cond.specs.Stated.{and_more}
use Rattle.lq_cond.proofs.reaction.in_items.Given as goal

abbrev pub invariant-loop-place : goal.invariant-loop-place
invariant-loop-place g l = map_found (and_more l.fn.before) (each_item 0 (setting_at g.P.SqlText.dialect) l.nodes) ≡ map_found (and_more l.stated) (each_item l.place (setting_at g.P.SqlText.dialect) (drop l.place l.nodes))
