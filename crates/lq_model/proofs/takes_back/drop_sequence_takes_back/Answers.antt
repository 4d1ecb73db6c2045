use Rattle.lq_model.proofs.Sequences.{drop_sequence_after}
use Rattle.lq_model.proofs.takes_back.drop_sequence_takes_back.Goals as goal

pub returns : goal.returns
returns c = λ d s start size by c e k sound made. drop_sequence_after d s start size by c e k sound made
