use Rattle.std.proofs.Common.{◌≡◌, ◌++◌, length}
use denote.Text.{Utf8}
use denote.Shadow.{shadow}
use Rattle.lq_props.specs.Props.{value_of}
use Rattle.lq_props.specs.Replaced.{closed}
use Rattle.lq_props.proofs.replacing.append_closed.Given as goal

abbrev pub invariant-loop-before : goal.invariant-loop-before
invariant-loop-before l = shadow (Utf8 l.rest) × (l.made ++ closed (value_of l.props l.file) l.rest ≡ l.fn.made ++ closed (value_of l.props l.file) l.piece)

abbrev pub decreases-loop-before : goal.decreases-loop-before
decreases-loop-before l = length l.rest
