-- The first changeset of a name.
use Rattle.std.proofs.Common.{ap, ◌∙◌}
use Rattle.std.specs.List.{filter}
use Rattle.std.specs.Prelude.{List, false, if◌then◌else◌, true, ℕ, ◌∷◌, ◌≡◌}
use Rattle.laws_repair.specs.Repair.{is_named_so}
use Rattle.lq_base.specs.declared.tracking.Tracked.{Tracked}
use Rattle.lq_expr.specs.declared.options.Options.{Options}
use Rattle.lq_kinds.specs.declared.change_set.ChangeSet.{ChangeSet}
use Rattle.lq_seen.specs.View.{view, views}

module _ (o : Options) (name : List ℕ) (rows : List Tracked) (rest behind : List ChangeSet) (set : ChangeSet) (is : rest ≡ set ∷ behind) where
  pub is_first : is_named_so name rows (view o set) ≡ true → filter (is_named_so name rows) (views o rest) ≡ view o set ∷ filter (is_named_so name rows) (views o behind)
  is_first is_so = ap (λ xs. filter (is_named_so name rows) (views o xs)) is ∙ ap (λ b. if b then view o set ∷ filter (is_named_so name rows) (views o behind) else filter (is_named_so name rows) (views o behind)) is_so

  pub not_first : is_named_so name rows (view o set) ≡ false → filter (is_named_so name rows) (views o rest) ≡ filter (is_named_so name rows) (views o behind)
  not_first is_not = ap (λ xs. filter (is_named_so name rows) (views o xs)) is ∙ ap (λ b. if b then view o set ∷ filter (is_named_so name rows) (views o behind) else filter (is_named_so name rows) (views o behind)) is_not
