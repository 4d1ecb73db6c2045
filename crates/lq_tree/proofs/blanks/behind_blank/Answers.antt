use Rattle.std.proofs.Common.{None, lit<}
use Rattle.std.proofs.lemmas.Str.Pattern.{strip_prefix_char}
use Rattle.lq_tree.proofs.BothEnds.{front_kept}
use Rattle.lq_tree.proofs.blanks.behind_blank.Goals as goal

pub returns-clause-none : goal.returns-clause-none
returns-clause-none c = front_kept c.args.text.now (strip_prefix_char 32 c.args.text.now None c.in_default.ensures.cases (lit< tt)) (strip_prefix_char 9 c.args.text.now None c.in_default-strip_prefix.ensures.cases (lit< tt))
