use Rattle.std.proofs.Common.{rules}
use Rattle.lq_model.proofs.Numerals.{decimal_of_signed}
use Rattle.lq_model.proofs.canon.digits_of.Goals as goal

pub returns : goal.returns
returns c = search (rules, decimal_of_signed)
