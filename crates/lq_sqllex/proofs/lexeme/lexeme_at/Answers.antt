use Rattle.std.proofs.Common.{◌≡◌, ◌∙◌, ◌<◌, ◌∷◌, ◌++◌, length, Some, ap, sym, rules}
use Rattle.std.specs.Prelude.{option_map}
use Rattle.lq_base.specs.declared.lexeme.LexemeSort.{LexemeSort}
use Rattle.lq_base.specs.Sql.{length_at, lexemes}
use Rattle.lq_sqllex.proofs.LexemeSteps.{lexemes_on}
use Rattle.lq_sqllex.proofs.lexeme.lexeme_at.Goals as goal

pub returns-in-Some-clause-more : goal.returns-in-Some-clause-more
returns-in-Some-clause-more c =
    let d = c.args.dialect in
    let text = c.args.text.now in
    let front = c.split_at.result.0.now in
    let back = c.split_at.result.1.now in
    let whole : text ≡ front ++ back = search rules in
    let closed : length_at d text ≡ Some (length front) = search rules in
    let some : 0 < length front = search rules in
    lexemes_on d text front back whole closed some ∙ ap (λ (sort : LexemeSort). option_map (λ more. (sort, front) ∷ more) (lexemes d back)) (sym c.sort_at.ensures)
