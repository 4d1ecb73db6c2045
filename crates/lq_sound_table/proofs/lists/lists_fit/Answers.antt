use Rattle.std.specs.Option.{option_copied}
use Rattle.lq_model.specs.Catalogue.{key_list}
use Rattle.lq_sound_table.specs.Pieces.{are_some_of}
use Rattle.lq_sound_table.proofs.PieceLemmas.{lists_all}
use Rattle.lq_sound_table.proofs.lists.lists_fit.Goals as goal

pub returns : goal.returns
returns c = lists_all (are_some_of c.args.own.now) (key_list (option_copied c.args.key)) c.args.uniques.now c.args.indexes.now c.in_ok-key.key c.in_ok-uniques.uniques c.in_ok-indexes.indexes c.in_ok-key.ensures c.in_ok-uniques.ensures c.in_ok-indexes.ensures
