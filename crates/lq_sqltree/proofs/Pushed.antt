-- Lists that were filled by pushing.
use Rattle.std.proofs.Common.{◌≡◌, ◌∙◌, List, [], ◌∷◌, ◌++◌, ap, refl}

pub pushed_two : {A : Type 0} (none one two : List A) (a b : A) → none ≡ [] → one ≡ none ++ a ∷ [] → two ≡ one ++ b ∷ [] → two ≡ a ∷ b ∷ []
pushed_two {A = A} none one two a b first second third = third ∙ ap (λ (xs : List A). xs ++ b ∷ []) (second ∙ ap (λ (xs : List A). xs ++ a ∷ []) first)

pub pushed_three : {A : Type 0} (none one two three : List A) (a b c : A)
    → none ≡ [] → one ≡ none ++ a ∷ [] → two ≡ one ++ b ∷ [] → three ≡ two ++ c ∷ [] → three ≡ a ∷ b ∷ c ∷ []
pushed_three {A = A} none one two three a b c first second third fourth =
    fourth ∙ ap (λ (xs : List A). xs ++ c ∷ []) (pushed_two none one two a b first second third)

-- keys with their values
abbrev pub three : {A B : Type 0} → A → A → A → B → B → B → List (A × B)
three i j k a b c = (i, a) ∷ (j, b) ∷ (k, c) ∷ []

pub same_three : {A B : Type 0} (i j k : A) (a b c x y z : B) → a ≡ x → b ≡ y → c ≡ z → three i j k a b c ≡ three i j k x y z
same_three i j k a b c x y z first second third = rw (first, second, third) refl
