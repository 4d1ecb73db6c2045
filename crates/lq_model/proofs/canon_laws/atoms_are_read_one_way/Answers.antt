use Rattle.lq_model.proofs.CanonLemmas.{atom_read}
use Rattle.lq_model.proofs.canon_laws.atoms_are_read_one_way.Goals as goal

pub returns : goal.returns
returns c = atom_read
