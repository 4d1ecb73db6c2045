-- Two texts written one after the other, and nothing written.
use Rattle.std.proofs.Common.{◌≡◌, ◌∙◌, ℕ, List, [], ◌++◌, Option, Some, None, option_map, refl, sym, ap, append_assoc}
use Rattle.std.proofs.lemmas.List.{append-nil}
use Rattle.lq_outside.specs.Forms.{IsPart}

-- a part of the first is a part of both
pub part_of_first : (first second : List ℕ) (before after : Option (List ℕ)) → IsPart first before after → IsPart (first ++ second) before after
part_of_first first second before after part = (
  part.0 ++ second,
  record {
    front = part.1.front;
    is = ap (λ t. t ++ second) part.1.is ∙ append_assoc part.1.front part.0 second;
    told = part.1.told;
  },
)

joined : (x y : List ℕ) (a b c : Option (List ℕ)) → b ≡ option_map (λ t. t ++ x) a → c ≡ option_map (λ t. t ++ y) b → c ≡ option_map (λ t. t ++ (x ++ y)) a
joined x y None b c p q = q ∙ rw p refl
joined x y (Some t) b c p q = q ∙ rw p (ap Some (append_assoc t x y))

-- all of the first and a part of the second are a part of both
pub part_of_second : (first second : List ℕ) (before between after : Option (List ℕ)) → between ≡ option_map (λ t. t ++ first) before → IsPart second between after → IsPart (first ++ second) before after
part_of_second first second before between after whole part = (
  part.0,
  record {
    front = first ++ part.1.front;
    is = ap (λ t. first ++ t) part.1.is ∙ sym (append_assoc first part.1.front part.0);
    told = joined first part.1.front before between after whole part.1.told;
  },
)

nothing_more : (before : Option (List ℕ)) → before ≡ option_map (λ t. t ++ []) before
nothing_more None = refl
nothing_more (Some t) = ap Some (sym (append-nil t))

-- nothing is a part of every text
pub part_of_nothing : (text : List ℕ) (before : Option (List ℕ)) → IsPart text before before
part_of_nothing text before = (text, record { front = []; is = refl; told = nothing_more before })
