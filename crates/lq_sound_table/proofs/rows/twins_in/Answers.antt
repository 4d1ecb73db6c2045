use Rattle.std.proofs.Common.{map}
use Rattle.std.specs.List.{filter}
use Rattle.std.specs.Option.{option_copied}
use Rattle.lq_model.specs.Catalogue.{has_equals, picked, key_list}
use Rattle.lq_sound_table.proofs.PieceLemmas.{lists_any}
use Rattle.lq_sound_table.proofs.rows.twins_in.Goals as goal

pub returns : goal.returns
returns c = lists_any (λ ns. has_equals (map (picked c.args.columns.now ns) c.args.rows.now.now)) (key_list (option_copied c.args.key)) c.args.uniques.now (filter (λ i. i.unique) c.args.indexes.now) c.in_ok-key.key c.in_ok-unique.unique c.in_ok-index.index c.in_ok-key.ensures c.in_ok-unique.ensures c.in_ok-index.ensures
