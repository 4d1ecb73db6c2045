-- One more turn of the loop of a list.
use Rattle.std.proofs.Common.{◌≡◌, ℕ, suc, true, false, List, [], ◌∷◌, ◌++◌, length, Some, None, ap, sym, refl, append_assoc, append-nil}
use Rattle.lq_model.specs.SqlParser.{Outcome, Parser, after, and_then, led_by, many, many_of, pure, sees, separated}
use Rattle.lq_model.specs.declared.word.Word.{Word}
use Rattle.lq_model.specs.declared.word.WordKind.TheVariants as word

-- what a list is, of which some were found, with so many turns to come
abbrev pub list_from : {A : Type 0} → Parser A → ℕ → List A → Parser (List A)
list_from p n found i = and_then (many_of (led_by word.Comma p) n i) (λ more. pure (found ++ more))

pub list_begins : {A : Type 0} (p : Parser A) (n : ℕ) (found : List A) (x : A) (i j : List Word) → p i ≡ Some (x, j) → found ≡ [] ++ x ∷ [] → n ≡ length j → separated p i ≡ list_from p n found j
unfolding separated many
list_begins p n found x i j e is many_left = rw (e, is, many_left) refl

pub list_ends : {A : Type 0} (p : Parser A) (found : List A) (i : List Word) → list_from p 0 found i ≡ Some (found, i)
unfolding many_of
list_ends p found i = ap (λ xs. Some (xs, i)) (append-nil found)

pub list_stops : {A : Type 0} (p : Parser A) (n : ℕ) (found : List A) (i : List Word) → sees word.Comma i ≡ false → list_from p (suc n) found i ≡ Some (found, after word.Comma i)
unfolding many_of led_by
list_stops p n found i none = rw (none) (ap (λ xs. Some (xs, after word.Comma i)) (append-nil found))

joins : {A : Type 0} (o : Outcome (List A)) (found : List A) (x : A)
    → and_then (and_then o (λ xs. pure (x ∷ xs))) (λ more. pure (found ++ more)) ≡ and_then o (λ more. pure (found ++ x ∷ [] ++ more))
joins None found x = refl
joins (Some read) found x = ap (λ xs. Some (xs, read.1)) (sym (append_assoc found (x ∷ []) read.0))

pub list_goes_on : {A : Type 0} (p : Parser A) (n : ℕ) (found more : List A) (x : A) (i j : List Word) → sees word.Comma i ≡ true → p (after word.Comma i) ≡ Some (x, j) → more ≡ found ++ x ∷ []
    → list_from p (suc n) found i ≡ list_from p n more j
unfolding many_of led_by
list_goes_on p n found more x i j seen e is = rw (seen, e, is) (joins (many_of (led_by word.Comma p) n j) found x)
