use Rattle.std.proofs.Common.{◌∙◌, ap, ℕ, List, slice_index}
use Rattle.lq_base.specs.Sql.{after, quoted_end}
use Rattle.lq_sqllex.proofs.quoted.quoted_length.Goals as goal

pub returns-clause-value : goal.returns-clause-value
returns-clause-value c =
    c.after.ensures ∙ ap (after 1) c.quoted_end.ensures.value
    ∙ ap (λ (b : ℕ). after 1 (quoted_end c.args.escaping b c.from.result.now)) c.byte_at.ensures
    ∙ ap (λ (rest : List ℕ). after 1 (quoted_end c.args.escaping (slice_index c.args.text.now 0) rest)) c.from.ensures
