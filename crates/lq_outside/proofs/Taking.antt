-- A text written piece by piece.
use Rattle.std.proofs.Common.{◌≡◌, ◌∙◌, ℕ, List, [], ◌++◌, take, drop, Option, Some, None, option_map, refl, sym, ap}
use Rattle.std.proofs.lemmas.List.{append_assoc, append-nil, take-append-drop}
use Rattle.lq_outside.specs.Forms.{Took, IsPart}

pub took_none : (text : List ℕ) (told : Option (List ℕ)) → Took text text told told
took_none text None = record { front = []; is = refl; told = refl }
took_none text (Some b) = record { front = []; is = refl; told = ap Some (sym (append-nil b)) }

pub took_some : (n : ℕ) (text : List ℕ) (before after : Option (List ℕ)) → after ≡ option_map (λ b. b ++ take n text) before → Took text (drop n text) before after
took_some n text before after is = record { front = take n text; is = sym (take-append-drop n text); told = is }

join : (x y : List ℕ) (a b c : Option (List ℕ)) → b ≡ option_map (λ t. t ++ x) a → c ≡ option_map (λ t. t ++ y) b → c ≡ option_map (λ t. t ++ (x ++ y)) a
join x y None b c p q = q ∙ rw p refl
join x y (Some t) b c p q = q ∙ rw p (ap Some (append_assoc t x y))

pub took_more : (text rest more : List ℕ) (a b c : Option (List ℕ)) → Took text rest a b → Took rest more b c → Took text more a c
took_more text rest more a b c t u = record {
  front = t.front ++ u.front;
  is = t.is ∙ (ap (λ r. t.front ++ r) u.is ∙ sym (append_assoc t.front u.front more));
  told = join t.front u.front a b c t.told u.told;
}

pub took_all : (text rest : List ℕ) (a b : Option (List ℕ)) → Took text rest a b → rest ≡ [] → b ≡ option_map (λ t. t ++ text) a
took_all text rest a b t e =
    let same : text ≡ t.front = t.is ∙ (ap (λ r. t.front ++ r) e ∙ append-nil t.front) in
    t.told ∙ ap (λ f. option_map (λ s. s ++ f) a) (sym same)

pub took_part : (text rest : List ℕ) (a b c : Option (List ℕ)) → Took text rest a b → c ≡ b → IsPart text a c
took_part text rest a b c t e = (rest, record { front = t.front; is = t.is; told = e ∙ t.told })
