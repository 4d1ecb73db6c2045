use Rattle.std.proofs.Common.{drop, not, ◌||◌, ◌≡◌}
use Rattle.std.specs.List.{list_all}
use Rattle.lq_model.specs.Catalogue.{is_in}
use Rattle.lq_primary_keys.proofs.add_primary_key.are_firm.Given as goal

abbrev pub invariant-loop-column : goal.invariant-loop-column
invariant-loop-column l =
    list_all (λ x. not (is_in x.name l.names) || not x.nullable) (drop l.column-index l.columns)
    ≡ list_all (λ x. not (is_in x.name l.names) || not x.nullable) l.columns
