use Rattle.std.proofs.Common.{Bool, drop, ◌≡◌}
use Rattle.std.specs.List.{list_all}
use Rattle.lq_base.specs.declared.name.Name.{Name}
use Rattle.lq_model.specs.Catalogue.{Table}
use Rattle.lq_parts.specs.Steps.{tables_of}
use Rattle.lq_codec.specs.State.{is_sound_table}
use Rattle.lq_soundly.proofs.catalogue.are_sound_tables.Given as goal

abbrev pub invariant-loop-entry : goal.invariant-loop-entry
invariant-loop-entry l =
    let p : Name × Table → Bool = λ e. is_sound_table l.dialect e.1 in
    list_all p (tables_of (drop l.entry-index l.entries)) ≡ list_all p (tables_of l.entries)
