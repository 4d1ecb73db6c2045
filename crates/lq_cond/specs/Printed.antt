-- How a value prints.
use Rattle.std.specs.Prelude.{Bool, List, None, Option, Some, [], codes, cond, false, if◌then◌else◌, ℕ}
use Rattle.std.specs.Str.{bytes_eq}
use Rattle.lq_base.specs.Moment.{is_moment, moment_text}
use Rattle.lq_base.specs.Number.{fixed_text, whole_text}
use Rattle.lq_base.specs.declared.value.Value.{Value}
use Rattle.lq_base.specs.declared.value.Value.TheVariants.{Bool as BoolValue, Fixed, Int, Moment, Null, Text}

abbrev pub truth_text : Bool → List ℕ
truth_text b = cond b (codes "true") (codes "false")

-- decimal digits, the text, `true` or `false`, a moment's 23 bytes, a decimal with its scale; null as nothing. What is no moment of the calendar does not print
abbrev pub printed : Value → Option (List ℕ)
printed Null = Some []
printed (Int n) = Some (whole_text n)
printed (Text t) = Some t
printed (BoolValue b) = Some (truth_text b)
printed (Moment ms) = if is_moment ms then Some (moment_text ms) else None
printed (Fixed units scale) = Some (fixed_text units scale)

abbrev pub is_printed : Value → List ℕ → Bool
is_printed v text = elim (printed v) [ None ↦ false | Some t ↦ bytes_eq t text ]
