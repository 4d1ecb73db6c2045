use Rattle.std.proofs.Common.{rules, ◌≡◌, Some, ◌+◌, ◌*◌}
use Rattle.lq_yaml.specs.Meaning.{hex_digit}
use Rattle.lq_yaml.proofs.Fronts.{character_from}
use Rattle.lq_yaml.proofs.quoted.coded.Goals as goal

pub returns : goal.returns
returns c =
    let a : hex_digit c.args.a ≡ Some c.in_ok-digit.field-0 = search rules in
    let b : hex_digit c.args.b ≡ Some c.in_ok-digit-2.field-0 = search rules in
    let d : hex_digit c.args.c ≡ Some c.in_ok-digit-3.field-0 = search rules in
    let e : hex_digit c.args.d ≡ Some c.in_ok-value.field-0 = search rules in
    rw (a, b, d, e) (character_from c.from_u32.result (c.in_ok-digit.field-0 * 4096 + c.in_ok-digit-2.field-0 * 256 + c.in_ok-digit-3.field-0 * 16 + c.in_ok-value.field-0) c.from_u32.ensures.value)
