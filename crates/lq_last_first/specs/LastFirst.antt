-- What each of several things gives, from the last to the first.
use Rattle.std.specs.Prelude.{List, [], ◌++◌, ◌∷◌}

abbrev pub last_first : {A S : Type 0} → (A → List S) → List A → List S
last_first f [] = []
last_first f (x ∷ xs) = last_first f xs ++ f x
