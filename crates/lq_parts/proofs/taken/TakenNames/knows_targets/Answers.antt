use Rattle.lq_parts.specs.Taken.{names_in, targets_inside}
use Rattle.lq_parts.proofs.taken.TakenNames.knows_targets.Goals as goal

pub returns : goal.returns
returns c = λ tables known. c.count_in.ensures (names_in targets_inside tables) known.targets
