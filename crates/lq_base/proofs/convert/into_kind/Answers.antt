use Rattle.std.proofs.Common.{subst}
use Rattle.lq_base.specs.declared.literal.Literal.TheVariants as literal
use Rattle.lq_base.specs.Spells.{Goes}
use Rattle.lq_base.specs.Value.{into_kind}
use Rattle.lq_base.proofs.IntoLemmas.{goes_as_moment, goes_as_number, of_kind-from_Goes}
use Rattle.lq_base.proofs.convert.into_kind.Goals as goal

pub returns-clause-of_kind : goal.returns-clause-of_kind
returns-clause-of_kind c = of_kind-from_Goes c.args.literal.now c.args.kind c.converted.result c.converted.ensures

pub returns-clause-text_as_number : goal.returns-clause-text_as_number
returns-clause-text_as_number c = λ text is number.
    goes_as_number text c.args.kind c.converted.result number (subst (λ l. Goes (into_kind l c.args.kind) c.converted.result) is c.converted.ensures)

pub returns-clause-text_as_moment : goal.returns-clause-text_as_moment
returns-clause-text_as_moment c = λ text is moment.
    let goes = subst (λ l. Goes (into_kind l c.args.kind) c.converted.result) is c.converted.ensures in
    goes_as_moment text c.converted.result (subst (λ k. Goes (into_kind (literal.Text text) k) c.converted.result) moment goes)
