-- That the keys of a value tell it, and that it can be written in a statement.
use Rattle.std.proofs.Common.{ap, sym}
use Rattle.std.specs.Option.{option_and_then}
use Rattle.std.specs.Prelude.{None, Option, Some, refl, true, ℕ, ℤ, ◌≡◌}
use Rattle.lq_base.specs.Number.{if_there}
use Rattle.lq_base.specs.declared.literal.Literal.TheVariants as literal
use Rattle.lq_model.proofs.Told.{decimal_told, number_told, text_told, truth_told}
use Rattle.lq_model.specs.Comparison.{is_literal}
use Rattle.lq_tree.specs.Values.{is_given, literal_of}
use Rattle.lq_tree.specs.declared.values.GivenValue.{GivenValue}
use Rattle.lq_tree.specs.declared.values.GivenValue.TheVariants.{Date, Decimal, Text, Truth, Whole}
use Rattle.lq_value_keys.specs.ValueKeys.{date_in, number_in, text_in, truth_in}

same_fixed : {u w : ℤ} {s q : ℕ} → literal.Fixed u s ≡ literal.Fixed w q → Decimal u s ≡ Decimal w q
same_fixed h = ap (λ l. elim l [ literal.Fixed u s ↦ Decimal u s | _ ↦ Truth true ]) h

no_given : (w : GivenValue) → None ≡ text_in w → None ≡ number_in w → None ≡ truth_in w → None ≡ date_in w → ⊥
no_given (Text t) a b c e = absurd Prim.cc
no_given (Whole n) a b c e = absurd Prim.cc
no_given (Decimal n s) a b c e = absurd Prim.cc
no_given (Truth x) a b c e = absurd Prim.cc
no_given (Date t) a b c e = absurd Prim.cc

pub value_told : (v w : Option GivenValue) → if_there is_given v ≡ true → if_there is_given w ≡ true → option_and_then text_in v ≡ option_and_then text_in w → option_and_then number_in v ≡ option_and_then number_in w → option_and_then truth_in v ≡ option_and_then truth_in w → option_and_then date_in v ≡ option_and_then date_in w → v ≡ w
value_told None None g h a b c e = refl
value_told (Some (Text t)) (Some (Text u)) g h a b c e = ap (λ x. Some (Text x)) (text_told a)
value_told (Some (Whole n)) (Some (Whole m)) g h a b c e = ap (λ x. Some (Whole x)) (number_told b)
value_told (Some (Decimal n s)) (Some (Decimal m q)) g h a b c e = ap (λ x. Some x) (same_fixed (decimal_told n m s q g h b))
value_told (Some (Truth x)) (Some (Truth y)) g h a b c e = ap (λ x. Some (Truth x)) (truth_told c)
value_told (Some (Date t)) (Some (Date u)) g h a b c e = ap (λ x. Some (Date x)) (text_told e)
value_told None (Some w) g h a b c e = absurd (no_given w a b c e)
value_told (Some v) None g h a b c e = absurd (no_given v (sym a) (sym b) (sym c) (sym e))
value_told v w g h a b c e = absurd Prim.cc

pub given_is_literal : (v : GivenValue) → is_given v ≡ true → is_literal (literal_of v) ≡ true
given_is_literal (Text t) h = refl
given_is_literal (Whole n) h = h
given_is_literal (Decimal units scale) h = h
given_is_literal (Truth b) h = refl
given_is_literal (Date t) h = refl
