use Rattle.std.proofs.Common.{◌≡◌, drop}
use Rattle.std.specs.List.{list_all}
use Rattle.lq_base.specs.Name.{is_name_key}
use Rattle.lq_base.specs.declared.name.Name.{Name}
use Rattle.lq_model.specs.Catalogue.{Sequence}
use Rattle.lq_named.proofs.named.all_sequences.Given as goal

abbrev pub invariant-loop-sequence : goal.invariant-loop-sequence
invariant-loop-sequence l = list_all (λ (s : Name × Sequence). is_name_key s.0) (drop l.sequence-index l.sequences) ≡ list_all (λ (s : Name × Sequence). is_name_key s.0) l.sequences
