use Rattle.std.proofs.Common.{rules, ◌≡◌, []}
use Rattle.lq_outside.proofs.Listing.{lies}
use Rattle.lq_outside.proofs.folder.is_under.Goals as goal

pub returns : goal.returns
returns c =
    let named : (c.args.folder.now ≡ [] → ⊥) = search rules in
    lies _ _ _ _ _ named c.as_bytes-2.ensures.value c.as_bytes-3.ensures.value c.is_inside.ensures
