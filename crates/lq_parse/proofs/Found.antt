-- What comes as often as it stands there, beside a loop that fills a list.
use Rattle.std.proofs.Common.{◌≡◌, ℕ, suc, List, [], ◌∷◌, ◌++◌, append-nil, append_assoc, Option, Some, None, option_map, ap, sym, refl}
use Rattle.lq_model.specs.SqlParser.{Outcome, Parser, and_more, many_of}
use Rattle.lq_model.specs.declared.word.Word.{Word}

-- what is still to be found, behind what was found
abbrev pub behind : {A : Type 0} → List A → Outcome (List A) → Outcome (List A)
behind found = option_map (λ more. (found ++ more.0, more.1))

pub behind_none : {A : Type 0} (o : Outcome (List A)) → o ≡ behind [] o
behind_none None = refl
behind_none (Some more) = refl

pub none_behind : {A : Type 0} (found : List A) (rest : List Word) → behind found (Some ([], rest)) ≡ Some (found, rest)
none_behind found rest = ap (λ all. Some (all, rest)) (append-nil found)

one_behind : {A : Type 0} (found : List A) (x : A) (more : Parser (List A)) (o : Outcome (List A)) (rest : List Word) → more rest ≡ o → behind found (and_more (Some x) more rest) ≡ behind (found ++ x ∷ []) o
one_behind found x more None rest e = rw e refl
one_behind found x more (Some others) rest e = rw e (ap (λ all. Some (all, others.1)) (sym (append_assoc found (x ∷ []) others.0)))

-- one turn that finds something
pub found_more : {A : Type 0} (p : Parser (Option A)) (n : ℕ) (found : List A) (x : A) (at rest : List Word) → p at ≡ Some (Some x, rest) → behind found (many_of p (suc n) at) ≡ behind (found ++ x ∷ []) (many_of p n rest)
unfolding many_of
found_more p n found x at rest e = rw e (one_behind found x (many_of p n) _ rest refl)

-- and one that finds nothing
pub found_end : {A : Type 0} (p : Parser (Option A)) (n : ℕ) (found : List A) (at rest : List Word) → p at ≡ Some (None, rest) → behind found (many_of p (suc n) at) ≡ Some (found, rest)
unfolding many_of
found_end p n found at rest e = rw e (none_behind found rest)
