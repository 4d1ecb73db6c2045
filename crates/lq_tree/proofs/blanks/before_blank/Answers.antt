use Rattle.std.proofs.Common.{None, Some, ap, lit<, refl, sym, ◌∙◌}
use Rattle.std.proofs.lemmas.Str.Pattern.{strip_suffix_char}
use Rattle.lq_tree.specs.Given.{without_end_blanks}
use Rattle.lq_tree.proofs.BothEnds.{end_dropped, end_kept}
use Rattle.lq_tree.proofs.blanks.before_blank.Goals as goal

pub returns-in-Some-clause-same : goal.returns-in-Some-clause-same
returns-in-Some-clause-same c = sym (ap without_end_blanks (strip_suffix_char 32 c.args.text.now (Some c.in-Some.front) c.in-Some.ensures.cases (lit< tt)) ∙ end_dropped c.in-Some.front.now 32 refl)

pub returns-in-Some-strip_suffix-clause-same : goal.returns-in-Some-strip_suffix-clause-same
returns-in-Some-strip_suffix-clause-same c = sym (ap without_end_blanks (strip_suffix_char 9 c.args.text.now (Some c.in-Some-strip_suffix.front) c.in-Some-strip_suffix.ensures.cases (lit< tt)) ∙ end_dropped c.in-Some-strip_suffix.front.now 9 refl)

pub returns-clause-none : goal.returns-clause-none
returns-clause-none c = end_kept c.args.text.now (strip_suffix_char 32 c.args.text.now None c.in_default.ensures.cases (lit< tt)) (strip_suffix_char 9 c.args.text.now None c.in_default-strip_suffix.ensures.cases (lit< tt))
