use Rattle.std.proofs.Common.{ap, ◌∙◌}
use Rattle.std.specs.Prelude.{List, Ok, [], map}
use Rattle.lq_base.specs.declared.name.Name.{Name}
use Rattle.lq_model.specs.Catalogue.{Catalogue, Table}
use Rattle.laws_stages.proofs.Loops.{append_none, fourth_run}
use Rattle.laws_stages.proofs.laws.foreign_keys_are_added.Goals as goal
use Rattle.laws_stages.specs.Making.{full, on}

pub returns : goal.returns
returns c = λ d c sound free. fourth_run d c sound free ∙ ap (λ (ts : List (Name × Table)). Ok (let e : Catalogue = record { tables = ts; views = []; sequences = c.sequences } in e)) (append_none (map (on full) c.tables))
