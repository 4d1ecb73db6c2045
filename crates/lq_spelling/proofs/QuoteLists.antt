-- Lists are read alike where names have left out their quotes, if their items are.
use Rattle.std.proofs.Common.{◌≡◌, ℕ, zero, suc, Bool, true, false, if◌then◌else◌, List, [], ◌∷◌, length, Option, Some, None, sym, subst, refl}
use Rattle.lq_model.specs.SqlParser.{Parser, ◌>>=◌, after, and_more, and_then, eat, enclosed, expect, kind, led_by, many, many_of, next, pure, sees, separated}
use Rattle.lq_model.specs.SqlWord.{may_be_name}
use Rattle.lq_model.specs.declared.word.WordKind.{WordKind}
use Rattle.lq_model.specs.declared.word.WordKind.TheVariants as word
use Rattle.lq_spelling.proofs.QuoteParts.{Alike, Blind, Halted, Stays, blind_along, blind_eat, blind_expect, blind_if, blind_pure, blind_then, blind_until, halts, length_bare, refuses_expect, refuses_first, stays_pure, stays_then, told_apart}

stays_more : {A : Type 0} (found : Option A) (more : Parser (List A)) → Stays more → Stays (and_more found more)
stays_more None more is = stays_pure []
stays_more (Some x) more is = stays_then more _ is (λ xs. stays_pure (x ∷ xs))

blind_more : {A : Type 0} (stuck : Bool) (found : Option A) (more : Parser (List A)) → Blind stuck more → Blind stuck (and_more found more)
blind_more stuck None more is = blind_pure stuck []
blind_more stuck (Some x) more is = blind_along stuck more _ is (λ xs. blind_pure stuck (x ∷ xs)) (λ xs. stays_pure (x ∷ xs))

stays_many_of : {A : Type 0} (item : Parser (Option A)) → Stays item → (n : ℕ) → Stays (many_of item n)
unfolding many_of
stays_many_of item is zero = stays_pure []
stays_many_of item is (suc n) = stays_then item _ is (λ found. stays_more found (many_of item n) (stays_many_of item is n))

pub stays_many : {A : Type 0} (item : Parser (Option A)) → Stays item → Stays (many item)
unfolding many
stays_many item is = record { at = λ i h. (stays_many_of item is (length i)).at i h }

blind_many_of : {A : Type 0} (stuck : Bool) (item : Parser (Option A)) → Blind stuck item → Stays item → (n : ℕ) → Blind stuck (many_of item n)
unfolding many_of
blind_many_of stuck item is stays zero = blind_pure stuck []
blind_many_of stuck item is stays (suc n) =
    blind_along stuck item _ is (λ found. blind_more stuck found (many_of item n) (blind_many_of stuck item is stays n)) (λ found. stays_more found (many_of item n) (stays_many_of item stays n))

pub blind_many : {A : Type 0} (stuck : Bool) (item : Parser (Option A)) → Blind stuck item → Stays item → Blind stuck (many item)
unfolding many
blind_many stuck item is stays = record {
  at = λ i j same. subst (λ (n : ℕ). Alike stuck (many_of item (length i) i) (many_of item n j)) (length_bare i j same) ((blind_many_of stuck item is stays (length i)).at i j same);
}

pub stays_led : {A : Type 0} (k : WordKind) (item : Parser A) → halts k ≡ false → Stays (led_by k item)
unfolding led_by after sees
stays_led k item none = record {
  at = λ i h. subst (λ (seen : Bool). Halted (and_then (Some (seen, (if seen then next i else i))) (λ led. if led then item >>= (λ x. pure (Some x)) else pure None))) (sym (told_apart halts (kind i) k h none)) h;
}

pub blind_led : {A : Type 0} (stuck : Bool) (k : WordKind) (item : Parser A) → may_be_name k ≡ false → Blind stuck item → Blind stuck (led_by k item)
unfolding led_by
blind_led stuck k item none is =
    blind_then stuck (eat k) _ (blind_eat k none) (λ led. blind_if stuck led _ _ (blind_along stuck item _ is (λ x. blind_pure stuck (Some x)) (λ x. stays_pure (Some x))) (blind_pure stuck None))

pub blind_chain : {A : Type 0} (stuck : Bool) (k : WordKind) (item : Parser A) → may_be_name k ≡ false → halts k ≡ false → Blind stuck item → Blind stuck (many (led_by k item))
blind_chain stuck k item none none_stuck is = blind_many stuck (led_by k item) (blind_led stuck k item none is) (stays_led k item none_stuck)

pub blind_separated : {A : Type 0} (stuck : Bool) (item : Parser A) → Blind stuck item → Blind stuck (separated item)
unfolding separated
blind_separated stuck item is =
    blind_along stuck item _ is
    (λ first. blind_along stuck (many (led_by word.Comma item)) _ (blind_chain stuck word.Comma item refl refl is) (λ more. blind_pure stuck (first ∷ more)) (λ more. stays_pure (first ∷ more)))
    (λ first. stays_then (many (led_by word.Comma item)) _ (stays_many (led_by word.Comma item) (stays_led word.Comma item refl)) (λ more. stays_pure (first ∷ more)))

pub blind_enclosed : {A : Type 0} (item : Parser A) → Blind true item → Blind false (enclosed item)
unfolding enclosed
blind_enclosed item is =
    blind_then false (expect word.Open) _ (blind_expect word.Open refl) (λ a.
    blind_until (separated item) _ (blind_separated true item is) (λ found. blind_then false (expect word.Close) _ (blind_expect word.Close refl) (λ b. blind_pure false found))
    (λ found. refuses_first (expect word.Close) _ (refuses_expect word.Close refl)))
