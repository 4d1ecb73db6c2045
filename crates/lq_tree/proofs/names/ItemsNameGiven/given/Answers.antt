use Rattle.std.proofs.Common.{Bor, List, ap, map, ℕ, ◌∙◌}
use Rattle.lq_tree.proofs.NamesRead.{some_names_read}
use Rattle.lq_tree.proofs.names.ItemsNameGiven.given.Goals as goal

pub returns-clause-fits : goal.returns-clause-fits
returns-clause-fits c = some_names_read c.as_str.result.now _ c.part_names.result (ap (map {A = Bor (List ℕ)} {B = List ℕ} (λ part. part.now)) c.as_slice.ensures.value ∙ c.in_ok-parts.ensures) c.part_names.ensures.read c.part_names.ensures.fits
