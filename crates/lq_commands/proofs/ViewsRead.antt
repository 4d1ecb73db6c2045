-- What was read for the dialect is so in each view of it.
use Rattle.std.proofs.Common.{refl}
use Rattle.std.specs.List.{list_all}
use Rattle.std.specs.Prelude.{List, [], true, ◌∷◌, ◌≡◌}
use Rattle.lq_base.specs.declared.dialect.Dialect.{Dialect}
use Rattle.lq_expr.specs.declared.options.Options.{Options}
use Rattle.lq_any.specs.AnyChange.{is_for}
use Rattle.lq_kinds.specs.ReadFor.{is_read_for}
use Rattle.lq_kinds.specs.declared.change_set.ChangeSet.{ChangeSet}
use Rattle.lq_model.proofs.Lists.{and_left, and_right, and_true}
use Rattle.lq_seen.specs.View.{ViewsAreRead, any_meaning, views}
use Rattle.lq_turns.specs.Laws.{AreRead}

sets_are_read : (d : Dialect) (o : Options) (xs : List ChangeSet) → list_all (is_read_for d) xs ≡ true → AreRead d any_meaning (views o xs)
sets_are_read d o [] all = refl
sets_are_read d o (x ∷ xs) all = and_true _ _ (and_left (list_all (is_for d) x.changes) _ (and_left (is_read_for d x) _ all)) (sets_are_read d o xs (and_right (is_read_for d x) _ all))

pub views_are_read : ViewsAreRead
views_are_read = λ d o g read. sets_are_read d o g.sets read
