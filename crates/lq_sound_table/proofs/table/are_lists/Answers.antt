use Rattle.lq_sound_table.proofs.table.are_lists.Goals as goal

pub returns : goal.returns
returns c = rw (c.columns.ensures, c.key.ensures, c.uniques.ensures, c.indexes.ensures, c.foreign_keys.ensures) at c.lists_in.ensures
