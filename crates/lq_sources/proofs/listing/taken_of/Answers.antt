use Rattle.std.proofs.Common.{rules, ◌∙◌}
use Rattle.std.proofs.lemmas.List.Elements.{filter_from_retain}
use Rattle.lq_sources.specs.Walk.{is_taken}
use Rattle.lq_sources.proofs.listing.taken_of.Goals as goal

pub returns : goal.returns
returns c = c.from_vec.ensures ∙ filter_from_retain _ is_taken (λ p x b q h. search rules) _ _ _ c.retain.ensures.filtered
