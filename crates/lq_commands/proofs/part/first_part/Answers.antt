use Rattle.std.proofs.Common.{ap, subst, sym, ◌∙◌}
use Rattle.std.specs.List.{All}
use Rattle.lq_changelog.specs.Gathers.{HasShortTexts}
use Rattle.lq_kinds.specs.ReadFor.{AreFor}
use Rattle.lq_kinds.specs.declared.change_set.Changelog.{Changelog}
use Rattle.lq_portion.specs.Portion.{counted}
use Rattle.lq_commands.proofs.part.first_part.Goals as goal

pub returns-clause-part : goal.returns-clause-part
returns-clause-part c =
    let options = c.args.options.now in
    let rows = c.args.rows.now in
    c.in_ok-shared.ensures
    ∙ (c.counted-part.ensures.part options rows (c.as_slice.ensures ∙ c.in_ok-turns.ensures)
    ∙ ap (λ (g : Changelog). counted c.args.count options g rows) c.in_ok-whole.ensures)

pub returns-clause-read : goal.returns-clause-read
returns-clause-read c = λ d read.
    subst (AreFor d) (sym c.in_ok-shared.ensures) (c.counted-part.ensures.read d (subst (AreFor d) (sym c.in_ok-whole.ensures) read))

pub returns-clause-short : goal.returns-clause-short
returns-clause-short c = λ short.
    subst (λ (g : Changelog). All HasShortTexts g.sets) (sym c.in_ok-shared.ensures) (c.counted-part.ensures.short (subst (λ (g : Changelog). All HasShortTexts g.sets) (sym c.in_ok-whole.ensures) short))
