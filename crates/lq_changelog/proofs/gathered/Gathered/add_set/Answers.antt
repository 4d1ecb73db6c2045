use Rattle.std.proofs.Common.{[], rules, ◌++◌, ◌∷◌, ◌≡◌}
use Rattle.lq_kinds.specs.ReadFor.{is_read_for}
use Rattle.lq_changelog.proofs.Short.{one_more}
use Rattle.lq_changelog.proofs.gathered.Gathered.add_set.Goals as goal

pub invariant_of-self-2 : goal.invariant_of-self-2
invariant_of-self-2 g c =
    let pushed : c.push.new.self ≡ c.self.inside.sets ++ c.in-Some.set ∷ [] = search rules in
    one_more (is_read_for g.P.SqlText.dialect) c.self.inside.sets c.push.new.self c.args.set c.in-Some.set c.in-Some.is pushed c.self.invariant c.requires.right c.requires.short
