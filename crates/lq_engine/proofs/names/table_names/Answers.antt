use Rattle.std.proofs.Common.{List, ap, sym, ◌∙◌}
use Rattle.std.specs.Map.{keys_of}
use Rattle.lq_base.specs.declared.name.Name.{Name}
use Rattle.lq_engine.proofs.NameLemmas.{same_keys}
use Rattle.lq_engine.proofs.names.table_names.Goals as goal
use Rattle.lq_model.specs.Catalogue.{Table}

pub returns : goal.returns
returns c =
    c.in_ok-names.ensures ∙ sym (same_keys c.tables.result.now) ∙ ap (λ (es : List (Name × Table)). keys_of es) c.tables.ensures
