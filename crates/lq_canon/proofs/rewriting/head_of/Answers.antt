use Rattle.std.proofs.Common.{rules}
use Rattle.lq_model.proofs.Numerals.{decimal_of_word}
use Rattle.lq_canon.proofs.rewriting.head_of.Goals as goal

pub returns : goal.returns
returns c = search (rules, decimal_of_word)
