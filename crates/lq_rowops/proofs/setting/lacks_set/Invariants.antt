use Rattle.std.specs.List.{list_any}
use Rattle.std.specs.Prelude.{not}
use Rattle.std.proofs.Common.{drop, map, ◌≡◌}
use Rattle.lq_decide.specs.Faults.{names_set}
use Rattle.lq_model.specs.Catalogue.{is_in}
use Rattle.lq_rowops.proofs.setting.lacks_set.Given as goal

abbrev pub invariant-loop-set : goal.invariant-loop-set
invariant-loop-set l =
    list_any (λ n. not (is_in n (map (λ c. c.name) l.columns))) (names_set (drop l.set-index l.sets))
    ≡ list_any (λ n. not (is_in n (map (λ c. c.name) l.columns))) (names_set l.sets)
