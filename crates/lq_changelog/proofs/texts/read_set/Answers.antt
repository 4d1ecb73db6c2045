use Rattle.lq_changelog.proofs.Short.{found_short}
use Rattle.lq_changelog.proofs.texts.read_set.Goals as goal

pub returns-clause-short : goal.returns-clause-short
returns-clause-short g c =
    found_short c.args.dialect c.args.path.now c.args.given.now c.args.node.now c.in_ok-found.found c.in-Some.set c.in-Some.is c.requires.label c.in_ok-found.ensures.read c.in_ok-found.ensures.right
    c.texts_are_utf8.ensures.comment c.texts_are_utf8.ensures.contexts c.texts_are_utf8.ensures.labels
