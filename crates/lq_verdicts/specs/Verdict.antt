-- What conditions tell: that each holds, that it does not, or the first error.
use Rattle.std.specs.List.{list_all, list_any}
use Rattle.std.specs.Prelude.{Bool, Err, List, Ok, Result, [], ◌∷◌, ◌≡◌}
use Rattle.lq_base.specs.declared.reason.Reason.{Reason}
use Rattle.lq_verdicts.specs.declared.fault.CondFault.{CondFault}
use Rattle.lq_verdicts.specs.declared.fault.CondFault.TheVariants as fault

-- what is told, unless there is an error
abbrev pub map_told : {A B : Type 0} → (A → B) → Result A Reason → Result B Reason
map_told f (Ok a) = Ok (f a)
map_told f (Err reason) = Err reason

-- what is told of each in order, or the first error
abbrev pub each_told : {A : Type 0} → List (Result A Reason) → Result (List A) Reason
each_told [] = Ok []
each_told (Ok a ∷ more) = map_told (λ found. a ∷ found) (each_told more)
each_told (Err reason ∷ more) = Err reason

abbrev pub all_hold : List Bool → Bool
all_hold bs = list_all (λ b. b) bs

abbrev pub one_holds : List Bool → Bool
one_holds bs = list_any (λ b. b) bs

-- how a check answers: as it is told, unless memory ran out
abbrev pub IsTold : {A : Type 0} → Result A Reason → Result A CondFault → Type 0
IsTold meant (Ok a) = meant ≡ Ok a
IsTold meant (Err (fault.Error reason)) = meant ≡ Err reason
IsTold meant (Err fault.OutOfMemory) = Unit {0}
