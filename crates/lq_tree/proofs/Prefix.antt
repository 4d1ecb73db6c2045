-- What has been read, in front of what is still to be read.
use Rattle.std.proofs.Common.{◌≡◌, List, [], ◌∷◌, ◌++◌, Option, Some, None, option_map, option_and_then, refl, sym, ap, ◌∙◌}
use Rattle.std.proofs.lemmas.List.{append_assoc}

-- one more is read
pub prefix_step : {X Y : Type 0} (all : Option (List Y)) (done : List Y) (y : X → Y) (x : X) (first : Option X) (rest : Option (List Y)) → first ≡ Some x
    → all ≡ option_map (λ more. done ++ more) (option_and_then (λ n. option_map (λ ns. y n ∷ ns) rest) first) → all ≡ option_map (λ more. (done ++ y x ∷ []) ++ more) rest
prefix_step all done y x first None is so = so ∙ rw is refl
prefix_step all done y x first (Some more) is so = so ∙ rw is (ap Some (sym (append_assoc done (y x ∷ []) more)))
