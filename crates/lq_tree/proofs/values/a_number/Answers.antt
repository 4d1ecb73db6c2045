use Rattle.std.proofs.Common.{sym}
use Rattle.lq_tree.proofs.Numbers.{given_fits}
use Rattle.lq_tree.proofs.values.a_number.Goals as goal

pub returns-in-Some-number_given-clause-fits : goal.returns-in-Some-number_given-clause-fits
returns-in-Some-number_given-clause-fits c = given_fits c.as_bytes.result.now c.in-Some.number c.in-Some-number_given.given (sym c.in-Some.ensures) (sym c.in-Some-number_given.ensures)
