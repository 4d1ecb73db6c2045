use Rattle.std.proofs.Common.{ap, subst, sym, ◌∙◌}
use Rattle.std.proofs.lemmas.List.Elements.{All-take}
use Rattle.std.specs.List.{All, list_all}
use Rattle.lq_changelog.specs.Gathers.{HasShortTexts}
use Rattle.lq_kinds.specs.ReadFor.{is_read_for}
use Rattle.lq_kinds.specs.declared.change_set.Changelog.{Changelog}
use Rattle.lq_portion.proofs.Parts.{all_first}
use Rattle.lq_portion.proofs.sets.first_sets.Goals as goal

pub returns-clause-read : goal.returns-clause-read
returns-clause-read c = λ d read. ap (λ (g : Changelog). list_all (is_read_for d) g.sets) c.keep_first.ensures ∙ all_first (is_read_for d) c.args.count c.args.changelog.sets read

pub returns-clause-short : goal.returns-clause-short
returns-clause-short c = λ short. subst (λ (g : Changelog). All HasShortTexts g.sets) (sym c.keep_first.ensures) (All-take HasShortTexts c.args.count c.args.changelog.sets short)
