use Rattle.std.proofs.Common.{rules, ◌≡◌}
use Rattle.lq_parts.specs.Taken.{position_of}
use Rattle.lq_parts.proofs.EntryLemmas.{ordered_less, remove_at}
use Rattle.lq_parts.proofs.shelf.take_out.Goals as goal

pub returns-clause-entries : goal.returns-clause-entries
returns-clause-entries g c =
    let at : c.standing-at.result ≡ position_of c.args.name.now c.args.entries.now.items = search rules in
    rw (c.remove-name.ensures.items, at) (remove_at c.args.name.now c.args.entries.now.items)

pub returns-clause-ordered : goal.returns-clause-ordered
returns-clause-ordered g c =
    let at : c.standing-at.result ≡ position_of c.args.name.now c.args.entries.now.items = search rules in
    rw (c.remove-name.ensures.items, at) (ordered_less c.args.name.now c.args.entries.now.items c.requires.ordered)
