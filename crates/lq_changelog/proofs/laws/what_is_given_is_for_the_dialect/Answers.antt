use Rattle.lq_changelog.proofs.Right.{what_is_given_is_for}
use Rattle.lq_changelog.proofs.laws.what_is_given_is_for_the_dialect.Goals as goal

pub returns : goal.returns
returns c = what_is_given_is_for
