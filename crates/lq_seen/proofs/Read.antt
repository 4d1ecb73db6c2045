-- What was read for the dialect.
use Rattle.std.proofs.Common.{refl, subst, ◌≡◌, Bool, true, List, [], ◌∷◌, Some, zero, suc, ℕ}
use Rattle.std.specs.List.{list_all, slice_get}
use Rattle.lq_base.specs.declared.dialect.Dialect.{Dialect}
use Rattle.lq_expr.specs.declared.options.Options.{Options}
use Rattle.lq_any.specs.AnyChange.{is_for}
use Rattle.lq_kinds.specs.ReadFor.{is_read_for}
use Rattle.lq_kinds.specs.declared.change_set.ChangeSet.{ChangeSet}
use Rattle.lq_model.proofs.Lists.{and_left, and_right, and_true}
use Rattle.lq_seen.specs.View.{ViewsAreRead, any_meaning, views}
use Rattle.lq_turns.specs.Laws.{AreRead}

pub all_at : {A : Type 0} (p : A → Bool) (xs : List A) (n : ℕ) (x : A) → list_all p xs ≡ true → slice_get xs n ≡ Some x → p x ≡ true
all_at p [] n x all is = Prim.cc
all_at p (y ∷ xs) zero x all is = let same : y ≡ x = Prim.cc in subst (λ z. p z ≡ true) same (and_left (p y) _ all)
all_at p (y ∷ xs) (suc n) x all is = all_at p xs n x (and_right (p y) _ all) is

sets_are_read : (d : Dialect) (o : Options) (xs : List ChangeSet) → list_all (is_read_for d) xs ≡ true → AreRead d any_meaning (views o xs)
sets_are_read d o [] all = refl
sets_are_read d o (x ∷ xs) all = and_true _ _ (and_left (list_all (is_for d) x.changes) _ (and_left (is_read_for d x) _ all)) (sets_are_read d o xs (and_right (is_read_for d x) _ all))

pub views_are_read : ViewsAreRead
views_are_read = λ d o g read. sets_are_read d o g.sets read
