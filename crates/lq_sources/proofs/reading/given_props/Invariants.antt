use Rattle.std.proofs.Common.{◌≡◌, drop, None}
use Rattle.lq_props.specs.Props.{own}
use Rattle.lq_sources.specs.Items.{given_values}
use Rattle.lq_sources.proofs.reading.given_props.Given as goal

abbrev pub invariant-loop-entry : goal.invariant-loop-entry
invariant-loop-entry l = given_values (drop l.entry-index l.given) (own l.props) ≡ given_values l.given (λ scope name. None)
