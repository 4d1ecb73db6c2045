-- A list with one element more, and a value that is there.
use Rattle.std.proofs.Common.{ap, subst, sym, ◌∙◌}
use Rattle.std.proofs.lemmas.List.Elements.{All-push}
use Rattle.std.specs.List.{All}
use Rattle.std.specs.Prelude.{IfOk, List, Ok, Result, [], if◌then◌else◌, is_ok, ◌++◌, ◌∷◌, ◌≡◌}

pub all_added : {X U E : Type 0} (P : X → Type 0) (old new : List X) (x : X) (done : Result U E) (u : U) → done ≡ Ok u → new ≡ (if is_ok done then old ++ x ∷ [] else old) → All P old → P x → All P new
all_added P old new x done u is pushed all it = subst (λ xs. All P xs) (sym (pushed ∙ ap (λ r. if is_ok r then old ++ x ∷ [] else old) is)) (All-push P old x all it)

pub of_ok : {A E : Type 0} (r : Result A E) (P : A → Type 0) (a : A) → r ≡ Ok a → IfOk r P → P a
of_ok r P a is it = subst (λ v. IfOk v P) is it
