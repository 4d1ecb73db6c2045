-- Clauses on a result.
use Rattle.std.specs.Prelude.{Err, IfOk, Ok, Result}

pub ok_map : {A E : Type 0} (r : Result A E) (P Q : A → Type 0) → IfOk r P → ((a : A) → P a → Q a) → IfOk r Q
ok_map (Ok a) P Q p f = f a p
ok_map (Err e) P Q p f = tt
