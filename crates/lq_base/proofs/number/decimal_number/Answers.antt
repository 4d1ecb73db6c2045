use Rattle.std.proofs.Common.{rules, ◌≡◌, ◌∙◌, ◌+◌, ◌++◌, length, arith, to_z, of_z, to_z-of_z, FitsSigned, true, nat_le, tests, sym, ap}
use mir.Syntax.{w128}
use Rattle.std.specs.Str.Parse.{digits_value, digits_value_after}
use Rattle.lq_base.specs.Number.{signed, is_digits}
use Rattle.lq_base.proofs.NumberLemmas.{ten_pow_le, scaled_fits, digits_value_after-append, all_three}
use Rattle.lq_base.proofs.number.decimal_number.Goals as goal

pub value_after-requires-clause-fits : goal.value_after-requires-clause-fits
value_after-requires-clause-fits c = omega (arith, ten_pow_le (length c.args.whole.now) 38 (omega arith))

pub value_after-magnitude-requires-clause-fits : goal.value_after-magnitude-requires-clause-fits
value_after-magnitude-requires-clause-fits c =
    scaled_fits c.value_after.result (length c.args.whole.now) (length c.args.fraction.now) (omega (arith, c.value_after.ensures.bound)) (omega arith)

pub signed-requires : goal.signed-requires
signed-requires c =
    omega (arith, c.value_after-magnitude.ensures.bound, scaled_fits c.value_after.result (length c.args.whole.now) (length c.args.fraction.now) (omega (arith, c.value_after.ensures.bound)) (omega arith))

pub returns : goal.returns
returns c =
    let whole = c.args.whole.now in
    let fraction = c.args.fraction.now in
    let fits : FitsSigned w128 c.signed.result = search rules in
    let back : to_z w128 (of_z w128 c.signed.result) ≡ c.signed.result = to_z-of_z fits in
    let value : c.value_after-magnitude.result ≡ digits_value 10 (whole ++ fraction) =
    c.value_after-magnitude.ensures.value ∙ ap (λ v. digits_value_after 10 v fraction) c.value_after.ensures.value ∙ sym (digits_value_after-append 10 0 whole fraction) in
    let units : c.signed.result ≡ signed c.args.negative (digits_value 10 (whole ++ fraction)) = c.signed.ensures ∙ ap (signed c.args.negative) value in
    let first : is_digits whole ≡ true = search rules in
    let second : is_digits fraction ≡ true = search rules in
    let few : nat_le (length whole + length fraction) 38 ≡ true = search (rules, tests) in
    rw (back, units) (all_three _ _ _ _ _ first second few)
