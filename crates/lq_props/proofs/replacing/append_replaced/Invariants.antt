use Rattle.std.proofs.Common.{◌≡◌, ◌++◌, length}
use denote.Text.{Utf8}
use denote.Shadow.{shadow}
use Rattle.lq_props.specs.Props.{value_of}
use Rattle.lq_props.specs.Replaced.{replaced}
use Rattle.lq_props.proofs.replacing.append_replaced.Given as goal

abbrev pub invariant-loop-piece : goal.invariant-loop-piece
invariant-loop-piece l = shadow (Utf8 l.rest) × (l.made ++ replaced (value_of l.props l.file) l.rest ≡ l.fn.made ++ replaced (value_of l.props l.file) l.text)

abbrev pub decreases-loop-piece : goal.decreases-loop-piece
decreases-loop-piece l = length l.rest
