use Rattle.std.proofs.Common.{◌≡◌, drop}
use Rattle.lq_tree.specs.Look.{map_found}
use Rattle.lq_cond.specs.Reading.{each_key, setting_at}
use Rattle.lq_cond.specs.Stated.{and_more}
use Rattle.lq_cond.proofs.reaction.at_keys.Given as goal

abbrev pub invariant-loop-entry : goal.invariant-loop-entry
invariant-loop-entry g l = map_found (and_more l.fn.before) (each_key (setting_at g.P.SqlText.dialect) l.entries) ≡ map_found (and_more l.stated) (each_key (setting_at g.P.SqlText.dialect) (drop l.entry-index l.entries))
