use Rattle.std.proofs.Common.{◌∙◌, ap, sym, Bool}
use Rattle.lq_base.specs.declared.lexeme.LexemeSort.{LexemeSort}
use Rattle.lq_base.specs.Sql.{length_of, quoted_length}
use Rattle.lq_sqllex.proofs.length.length_of.Goals as goal

pub returns-in-Text-clause-value : goal.returns-in-Text-clause-value
returns-in-Text-clause-value c =
    c.quoted_length-in-Text.ensures.value ∙ ap (λ (escaping : Bool). quoted_length escaping c.args.text.now) c.escapes.ensures
    ∙ sym (ap (λ (sort : LexemeSort). length_of c.args.dialect sort c.args.text.now) c.in-Text.is)
