use Rattle.std.proofs.Common.{ap, map, sym, ◌||◌}
use Rattle.std.specs.List.{list_any}
use Rattle.lq_model.specs.Catalogue.{repeats}
use Rattle.lq_shapes.proofs.CreatedLemmas.{lists_are}
use Rattle.lq_shapes.proofs.own.lists_twice.Goals as goal

pub returns : goal.returns
returns c =
    let cs = c.args.columns.now in
    let new = c.args.new.now in
    rw (c.in_ok-own.ensures, c.in_ok-key.ensures, c.in_ok-unique.ensures, c.in_ok-foreign.ensures)
    (ap (λ b. repeats (map (λ c. c.name) cs) || (b || list_any (λ f. repeats f.columns || repeats f.targets) new.foreign.now)) (sym (lists_are repeats cs new.key.now new.uniques.now new.foreign.now)))
