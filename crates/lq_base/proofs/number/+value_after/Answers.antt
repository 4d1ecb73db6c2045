use Rattle.std.proofs.Common.{◌+◌, ◌-◌, ◌*◌, length, take, drop, arith}
use Rattle.lq_base.proofs.NumberLemmas.{first_digit, next_digit_within, at_most_scaled}
use Rattle.lq_base.proofs.number.+value_after.Goals as goal

pub overflow_mul-value : goal.overflow_mul-value
overflow_mul-value t c =
    let first = first_digit c.args.value c.args.digits.now c.in-len1-up.len_at_least c.requires.digits in
    let rest = length (take (length c.args.digits.now - 1) (drop 1 c.args.digits.now)) in
    let within = next_digit_within c.args.value 0 rest (length c.args.digits.now) (omega arith) first.count in
    omega (arith, within, at_most_scaled (c.args.value * 10 + 0 + 1) rest)

pub overflow_add-value : goal.overflow_add-value
overflow_add-value t c =
    let first = first_digit c.args.value c.args.digits.now c.in-len1-up.len_at_least c.requires.digits in
    let rest = length (take (length c.args.digits.now - 1) (drop 1 c.args.digits.now)) in
    let within = next_digit_within c.args.value c.from.result rest (length c.args.digits.now) (omega (arith, first.low, first.high)) first.count in
    omega (arith, within, at_most_scaled (c.args.value * 10 + c.from.result + 1) rest)

pub value_after-requires : goal.value_after-requires
value_after-requires t c =
    let first = first_digit c.args.value c.args.digits.now c.in-len1-up.len_at_least c.requires.digits in
    let rest = length (take (length c.args.digits.now - 1) (drop 1 c.args.digits.now)) in
    let within = next_digit_within c.args.value c.from.result rest (length c.args.digits.now) (omega (arith, first.low, first.high)) first.count in
    (omega (arith, first.count), (first.digits, omega (arith, within)))

pub returns-in-len1-up-clause-bound : goal.returns-in-len1-up-clause-bound
returns-in-len1-up-clause-bound t c =
    let first = first_digit c.args.value c.args.digits.now c.in-len1-up.len_at_least c.requires.digits in
    let rest = length (take (length c.args.digits.now - 1) (drop 1 c.args.digits.now)) in
    let within = next_digit_within c.args.value c.from.result rest (length c.args.digits.now) (omega (arith, first.low, first.high)) first.count in
    omega (arith, within, c.value_after.ensures.bound)
