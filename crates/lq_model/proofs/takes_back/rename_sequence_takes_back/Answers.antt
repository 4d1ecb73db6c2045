use Rattle.lq_model.proofs.Sequences.{rename_sequence_after}
use Rattle.lq_model.proofs.takes_back.rename_sequence_takes_back.Goals as goal

pub returns : goal.returns
returns c = λ d a b by c e k sound made. rename_sequence_after d a b by c e k sound made
