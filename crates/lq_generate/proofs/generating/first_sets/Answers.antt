use Rattle.std.proofs.Common.{[], ap, ◌∷◌}
use Rattle.std.specs.List.{flat_map}
use Rattle.std.specs.Prelude.{codes, map}
use Rattle.lq_generate.specs.Generated.{added_items, sequence_item, table_item}
use Rattle.lq_generate.specs.Faults.{tables_in}
use Rattle.lq_generate.proofs.Laid.{sets_three}
use Rattle.lq_generate.proofs.generating.first_sets.Goals as goal

pub returns : goal.returns
returns c =
    let ts = tables_in c.args.tables.now in
    rw (c.in_ok-third.ensures, c.in_ok-second.ensures, c.in_ok-first.ensures, c.in_ok-sequences.ensures, c.in_ok-made.ensures, c.in_ok-added.ensures, c.new.ensures, c.sequences.ensures)
    (sets_three c.args.author.now ((codes "1", map sequence_item c.args.parts.now.now.sequences) ∷ []) ((codes "2", map (table_item c.args.dialect) ts) ∷ []) ((codes "3", flat_map (added_items c.args.dialect) ts) ∷ []))
