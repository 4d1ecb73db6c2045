-- What changes run are statements of the dialect.
use Rattle.std.proofs.Common.{refl, ◌≡◌, true, List, [], ◌∷◌}
use Rattle.std.specs.List.{list_all}
use Rattle.lq_base.specs.declared.dialect.Dialect.{Dialect}
use Rattle.lq_any.specs.AnyChange.{gives, is_for}
use Rattle.lq_any.specs.AnyChangeLaws.{spelled}
use Rattle.lq_any.specs.declared.any_change.AnyChange.{AnyChange}
use Rattle.lq_model.proofs.Lists.{all-append, and_left, and_right}
use Rattle.lq_model.specs.Step.{is_statement}
use Rattle.lq_seen.specs.View.{any_meaning}
use Rattle.lq_turns.specs.Set.{statements_of}

pub statements_spelled : (d : Dialect) (xs : List AnyChange) → list_all (is_for d) xs ≡ true → list_all (is_statement d) (statements_of d any_meaning xs) ≡ true
statements_spelled d [] all = refl
statements_spelled d (x ∷ xs) all = all-append (is_statement d) (gives d x) (statements_of d any_meaning xs) (spelled d x (and_left (is_for d x) _ all)) (statements_spelled d xs (and_right (is_for d x) _ all))
