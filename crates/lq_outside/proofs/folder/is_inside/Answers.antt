use Rattle.std.proofs.Common.{rules, ◌≡◌, ◌∙◌, sym, length, take, drop}
use Rattle.lq_outside.proofs.Listing.{inside, apart}
use Rattle.lq_outside.proofs.folder.is_inside.Goals as goal

pub returns-then-eq : goal.returns-then-eq
returns-then-eq c =
    let front : c.split_at.result.0.now ≡ take (length c.args.folder.now) c.args.path.now = search rules in
    let back : c.split_at.result.1.now ≡ drop (length c.args.folder.now) c.args.path.now = search rules in
    inside _ _ _ _ front back (sym c.eq.ensures ∙ c.if-eq.true) _ c.is_rooted.ensures

pub returns-else-eq : goal.returns-else-eq
returns-else-eq c =
    let front : c.split_at.result.0.now ≡ take (length c.args.folder.now) c.args.path.now = search rules in
    apart _ _ _ front _ c.eq.ensures c.if-eq.false
