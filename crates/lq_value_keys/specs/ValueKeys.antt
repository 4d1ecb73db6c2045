-- The four keys by which a change states a value.
use Rattle.std.specs.Option.{option_and_then, option_copied}
use Rattle.std.specs.Prelude.{List, None, Option, Some, [], codes, ℕ, ◌∷◌}
use Rattle.lq_model.specs.Changes.{CanonicalValue, decimal_value, number, text, truth}
use Rattle.lq_model.specs.TakesBack.{Row}
use Rattle.lq_tree.specs.Keys.{Keys}
use Rattle.lq_tree.specs.Values.{family}
use Rattle.lq_tree.specs.declared.values.GivenValue.{GivenValue}
use Rattle.lq_tree.specs.declared.values.GivenValue.TheVariants.{Date, Decimal, Text, Truth, Whole}
use Rattle.lq_value_keys.specs.declared.value_keys.ValueAt.{ValueAt}

-- `defaultValue` and the like
abbrev pub default_keys : Keys (Option GivenValue)
default_keys = family (codes "defaultValue") (codes "defaultValueNumeric") (codes "defaultValueBoolean") (codes "defaultValueDate")

-- `value` and the like
abbrev pub value_keys : Keys (Option GivenValue)
value_keys = family (codes "value") (codes "valueNumeric") (codes "valueBoolean") (codes "valueDate")

-- in canonical text

abbrev pub text_in : GivenValue → Option CanonicalValue
text_in (Text t) = Some (text t)
text_in _ = None

-- a decimal number is a text
abbrev pub number_in : GivenValue → Option CanonicalValue
number_in (Whole n) = Some (number n)
number_in (Decimal units scale) = Some (decimal_value units scale)
number_in _ = None

abbrev pub truth_in : GivenValue → Option CanonicalValue
truth_in (Truth b) = Some (truth b)
truth_in _ = None

abbrev pub date_in : GivenValue → Option CanonicalValue
date_in (Date t) = Some (text t)
date_in _ = None

-- one of the four keys has the value, where there is one
abbrev pub rows_with : List ℕ → List ℕ → List ℕ → List ℕ → Option GivenValue → List Row
rows_with a b c e v =
    (a, option_and_then text_in v)
    ∷ (b, option_and_then number_in v)
    ∷ (c, option_and_then truth_in v)
    ∷ (e, option_and_then date_in v)
    ∷ []

abbrev pub default_rows : Option GivenValue → List Row
default_rows v = rows_with (codes "defaultValue") (codes "defaultValueNumeric") (codes "defaultValueBoolean") (codes "defaultValueDate") v

abbrev pub value_rows : Option GivenValue → List Row
value_rows v = rows_with (codes "value") (codes "valueNumeric") (codes "valueBoolean") (codes "valueDate") v

-- what a value with its keys has
abbrev pub rows_at : ValueAt → List Row
rows_at at = rows_with at.text.now at.number.now at.truth.now at.date.now (option_copied at.value)
