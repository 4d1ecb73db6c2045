use Rattle.std.proofs.Common.{rules}
use Rattle.lq_canon.specs.Passing.{part_of}
use Rattle.lq_canon.proofs.PartsRead.{text_read, text_there}
use Rattle.lq_canon.proofs.reading.text_in.Goals as goal

pub returns-in_default-atom_at : goal.returns-in_default-atom_at
returns-in_default-atom_at c = λ v is. text_there v c.args.value.now is (search rules) (search rules)

pub returns : goal.returns
returns c = λ v is. text_read v c.args.value.now (part_of c.in-Some.text) is (search rules) (search rules)
