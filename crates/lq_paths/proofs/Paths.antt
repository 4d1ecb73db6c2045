-- The way along the parts of a path.
use Rattle.std.proofs.Common.{◌≡◌, ◌∙◌, ℕ, List, [], ◌∷◌, ◌++◌, Option, Some, None, Bor, map, option_map, refl, sym, ap, subst, Result, OnOk}
use Rattle.std.specs.Prelude.{MatchOption, is_some}
use Rattle.lq_paths.specs.Paths.{Enters, ended, folder_of, parts, with_ends, without_last}

pub last_gone : (ps : List (List ℕ)) (p : List ℕ) → without_last (ps ++ p ∷ []) ≡ Some ps
last_gone [] p = refl
last_gone (q ∷ []) p = refl
last_gone (q ∷ r ∷ ps) p = ap (option_map (λ more. q ∷ more)) (last_gone (r ∷ ps) p)

pub shown : (ps : List (Bor (List ℕ))) (p : Bor (List ℕ)) → map (λ q. q.now) (ps ++ p ∷ []) ≡ map (λ q. q.now) ps ++ p.now ∷ []
shown [] p = refl
shown (q ∷ ps) p = ap (λ qs. q.now ∷ qs) (shown ps p)

-- what `pop` says of the way
pub popped : (before after : List (Bor (List ℕ))) (r : Option (Bor (List ℕ))) → MatchOption r ((before ≡ []) × (after ≡ [])) (λ last. before ≡ after ++ last ∷ [])
    → Enters (is_some r) (without_last (map (λ q. q.now) before)) (map (λ q. q.now) after)
popped before after None is = ap (λ w. without_last (map (λ q. q.now) w)) is.0
popped before after (Some last) is = ap (λ w. without_last (map (λ q. q.now) w)) is ∙ (ap without_last (shown after last) ∙ last_gone (map (λ q. q.now) after) last.now)

-- what `split_last` says of the parts
pub parted : (all front : List (Bor (List ℕ))) (last : Bor (List ℕ)) → all ≡ front ++ last ∷ [] → ended (without_last (map (λ q. q.now) all)) ≡ with_ends (map (λ q. q.now) front)
parted all front last is = ap (λ w. ended (without_last (map (λ q. q.now) w))) is ∙ ap ended (ap without_last (shown front last) ∙ last_gone (map (λ q. q.now) front) last.now)

pub folder_end : {E : Type 0} (r : Result (Unit {0}) E) (path text new : List ℕ) (all front : List (Bor (List ℕ))) (last : Bor (List ℕ)) → map (λ q. q.now) all ≡ parts path → all ≡ front ++ last ∷ []
    → OnOk r (new ≡ text ++ with_ends (map (λ q. q.now) front)) → OnOk r (new ≡ text ++ folder_of path)
folder_end r path text new all front last are is h = subst (λ w. OnOk r (new ≡ text ++ w)) (sym (parted all front last is) ∙ ap (λ ps. ended (without_last ps)) are) h
