use Rattle.std.proofs.Common.{ap, ◌∙◌}
use Rattle.std.specs.Prelude.{List, Ok, [], map}
use Rattle.lq_base.specs.declared.name.Name.{Name}
use Rattle.lq_model.specs.Catalogue.{Catalogue, Table}
use Rattle.laws_stages.proofs.Loops.{append_none, third_run}
use Rattle.laws_stages.proofs.laws.tables_are_filled.Goals as goal
use Rattle.laws_stages.specs.Making.{keyed, on}

pub returns : goal.returns
returns c = λ d c sound free. third_run d c sound free ∙ ap (λ (ts : List (Name × Table)). Ok (let e : Catalogue = record { tables = ts; views = []; sequences = c.sequences } in e)) (append_none (map (on keyed) c.tables))
