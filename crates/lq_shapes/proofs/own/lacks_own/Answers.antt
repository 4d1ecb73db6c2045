use Rattle.std.proofs.Common.{ap, sym, ◌||◌}
use Rattle.std.specs.List.{list_any}
use Rattle.lq_model.specs.Views.{lacks_column}
use Rattle.lq_shapes.proofs.CreatedLemmas.{lists_are}
use Rattle.lq_shapes.proofs.own.lacks_own.Goals as goal

pub returns : goal.returns
returns c =
    let own = c.args.own.now in
    let new = c.args.new.now in
    rw (c.key_lacks.ensures, c.unique_lacks.ensures, c.foreign_lacks.ensures) (ap (λ b. b || list_any (λ f. lacks_column own f.columns) new.foreign.now) (sym (lists_are (lacks_column own) own new.key.now new.uniques.now new.foreign.now)))
