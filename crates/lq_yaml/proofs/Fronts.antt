-- What is found behind a front.
use Rattle.std.proofs.Common.{◌≡◌, ℕ, List, [], ◌∷◌, ◌++◌, Option, Some, None, option_map, option_and_then, refl, sym, ap, ◌∙◌, append_assoc, cond, Bool, true, false, ◌==◌}
use Rattle.std.specs.Option.{SomeIff}
use Rattle.std.proofs.lemmas.Bool.{false_from_ne_true}
use lib.Utf8.{scalar}
use Rattle.lq_yaml.specs.Line.{Found, with_front, double, behind, behind_u, by_escape, by_code}
use Rattle.lq_yaml.specs.Meaning.{character, coded, escaped}
use Rattle.lq_yaml.specs.Laws.{one}

-- a character more
pub front_more : (value : List ℕ) (c : ℕ) (o all : Option Found) (text : Option Found) → all ≡ option_map (with_front value) text → text ≡ option_map (with_front (c ∷ [])) o
    → all ≡ option_map (with_front (value ++ c ∷ [])) o
front_more value c None all text is step = is ∙ ap (option_map (with_front value)) step
front_more value c (Some f) all text is step = is ∙ ap (option_map (with_front value)) step ∙ ap (λ (l : List ℕ). Some (l, f.1)) (sym (append_assoc value (c ∷ []) f.0))

none_or : (o : Option ℕ) (cs : List ℕ) → option_map {U = ℕ × List ℕ} (λ e. (e, cs)) o ≡ None → option_and_then (λ e. option_map (with_front (e ∷ [])) (double cs)) o ≡ None
none_or None cs is = refl
none_or (Some e) cs is = absurd cc

some_or : (o : Option ℕ) (cs : List ℕ) (k : ℕ) (rest : List ℕ) → option_map {U = ℕ × List ℕ} (λ e. (e, cs)) o ≡ Some (k, rest)
    → option_and_then (λ e. option_map (with_front (e ∷ [])) (double cs)) o ≡ option_map (with_front (k ∷ [])) (double rest)
some_or None cs k rest is = absurd cc
some_or (Some e) cs k rest is =
    let x : ℕ × List ℕ = (e, cs) in
    let y : ℕ × List ℕ = (k, rest) in
    let same : x ≡ y = cc in
    ap (λ (p : ℕ × List ℕ). option_map (with_front (p.0 ∷ [])) (double p.1)) same

u_none : (cs : List ℕ) → by_code cs ≡ None → behind_u cs ≡ None
u_none [] is = refl
u_none (a ∷ []) is = refl
u_none (a ∷ b ∷ []) is = refl
u_none (a ∷ b ∷ c ∷ []) is = refl
u_none (a ∷ b ∷ c ∷ d ∷ cs) is = none_or (coded a b c d) cs is

u_some : (cs : List ℕ) (k : ℕ) (rest : List ℕ) → by_code cs ≡ Some (k, rest) → behind_u cs ≡ option_map (with_front (k ∷ [])) (double rest)
u_some [] k rest is = absurd cc
u_some (a ∷ []) k rest is = absurd cc
u_some (a ∷ b ∷ []) k rest is = absurd cc
u_some (a ∷ b ∷ c ∷ []) k rest is = absurd cc
u_some (a ∷ b ∷ c ∷ d ∷ cs) k rest is = some_or (coded a b c d) cs k rest is

none_by : (b : Bool) (c : ℕ) (cs : List ℕ) → cond b (by_code cs) (option_map {U = ℕ × List ℕ} (λ e. (e, cs)) (escaped c)) ≡ None
    → cond b (behind_u cs) (option_and_then (λ e. option_map (with_front (e ∷ [])) (double cs)) (escaped c)) ≡ None
none_by true c cs is = u_none cs is
none_by false c cs is = none_or (escaped c) cs is

pub behind_none : (cs : List ℕ) → by_escape cs ≡ None → behind cs ≡ None
behind_none [] is = refl
behind_none (c ∷ cs) is = none_by (c == 117) c cs is

some_by : (b : Bool) (c : ℕ) (cs : List ℕ) (k : ℕ) (rest : List ℕ) → cond b (by_code cs) (option_map {U = ℕ × List ℕ} (λ e. (e, cs)) (escaped c)) ≡ Some (k, rest)
    → cond b (behind_u cs) (option_and_then (λ e. option_map (with_front (e ∷ [])) (double cs)) (escaped c)) ≡ option_map (with_front (k ∷ [])) (double rest)
some_by true c cs k rest is = u_some cs k rest is
some_by false c cs k rest is = some_or (escaped c) cs k rest is

pub behind_some : (cs : List ℕ) (k : ℕ) (rest : List ℕ) → by_escape cs ≡ Some (k, rest) → behind cs ≡ option_map (with_front (k ∷ [])) (double rest)
behind_some [] k rest is = absurd cc
behind_some (c ∷ cs) k rest is = some_by (c == 117) c cs k rest is

abbrev pub after : Option (Option ℕ × List ℕ) → Option Found
after None = None
after (Some (None, r)) = Some ([], r)
after (Some (Some c, r)) = option_map (with_front (c ∷ [])) (double r)

escaped_after : (cs : List ℕ) (o : Option (ℕ × List ℕ)) → by_escape cs ≡ o → behind cs ≡ after (option_map {U = Option ℕ × List ℕ} (λ x. (Some x.0, x.1)) o)
escaped_after cs None is = behind_none cs is
escaped_after cs (Some x) is = behind_some cs x.0 x.1 is

after_by : (a b : Bool) (c : ℕ) (cs : List ℕ)
    → cond a (Some ([], cs)) (cond b (behind cs) (option_map (with_front (c ∷ [])) (double cs)))
    ≡ after (cond a (Some (None, cs)) (cond b (option_map {U = Option ℕ × List ℕ} (λ x. (Some x.0, x.1)) (by_escape cs)) (Some (Some c, cs))))
after_by true b c cs = refl
after_by false true c cs = escaped_after cs (by_escape cs) refl
after_by false false c cs = refl

-- by one character
pub double_one : (cs : List ℕ) → double cs ≡ after (one cs)
double_one [] = refl
double_one (c ∷ cs) = after_by (c == 34) (c == 92) c cs

pub character_from : (r : Option ℕ) (n : ℕ) → SomeIff r (scalar n ≡ true) n → r ≡ character n
character_from None n h = rw (false_from_ne_true (scalar n) h) refl
character_from (Some x) n h = rw h.0 (ap Some h.1)
