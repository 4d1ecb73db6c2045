-- Lists and entries, beside what the model has.
use Rattle.std.proofs.Common.{ap, subst, sym, ◌∙◌}
use Rattle.std.specs.FinMap.Entries.{is_sorted}
use Rattle.std.specs.List.{list_any}
use Rattle.std.specs.Map.{lookup, set_value}
use Rattle.std.specs.Prelude.{Bool, List, Some, T, [], cond, false, is_some, not, refl, true, ◌&&◌, ◌++◌, ◌||◌, ◌∷◌, ◌≡◌}
use Rattle.lq_base.specs.Name.{is_named, name_cmp}
use Rattle.lq_base.specs.declared.name.Name.{Name}
use Rattle.lq_model.specs.Catalogue.{is_in}
use Rattle.lq_model.proofs.Kept.{and_never}
use Rattle.lq_model.proofs.Lists.{and_no_right, any-append, any-map, any_less, named_itself, or_left, or_right, same_name, true_false, whether}
use Rattle.lq_model.proofs.Maps.{below_gone, found, not_some}

pub or-false : (b : Bool) → (b || false) ≡ b
or-false true = refl
or-false false = refl

-- two tests are equal where either fails with the other
pub same_test : (a b : Bool) → (a ≡ false → b ≡ false) → (b ≡ false → a ≡ false) → a ≡ b
same_test true true f g = refl
same_test true false f g = true_false refl (g refl)
same_test false b f g = sym (f refl)

-- of a list in which only the last one can be found
pub any_last : {A : Type 0} (p : A → Bool) (xs : List A) (x : A) → list_any p xs ≡ false → list_any p (xs ++ x ∷ []) ≡ p x
any_last p xs x none = any-append p xs (x ∷ []) ∙ ap (λ b. b || (p x || false)) none ∙ or-false (p x)

-- two tests that agree where a third finds nothing
pub any_agree : {A : Type 0} (p r q : A → Bool) (xs : List A) → ((x : A) → q x ≡ false → p x ≡ r x) → list_any q xs ≡ false → list_any p xs ≡ list_any r xs
any_agree p r q [] h none = refl
any_agree p r q (x ∷ xs) h none = ap (λ b. b || list_any p xs) (h x (or_left (q x) _ none)) ∙ ap (λ b. r x || b) (any_agree p r q xs h (or_right (q x) _ none))

-- at the one name that a test of two keys takes
pub at_key : {X : Type 0} (t : Name) (q : X → Bool) (es : List (Name × X)) (x y : X) → lookup (is_named t) es ≡ Some x → list_any (λ e. q e.1) es ≡ false → list_any (λ e. is_in e.0 (t ∷ []) && q e.1) (set_value (is_named t) es y) ≡ q y
at_key t q [] x y there none = not_some (sym there)
at_key t q (e ∷ es) x y there none = whether (is_named t e.0)
    (λ is. rw (is, subst (λ n. is_named e.0 n ≡ true) (sym (same_name t e.0 is)) (named_itself e.0), any_less (λ f. is_in f.0 (t ∷ []) && q f.1) (λ f. q f.1) es (λ f no_q. and_no_right (is_in f.0 (t ∷ [])) _ no_q) (or_right (q e.1) _ none)) (or-false (q y)))
    (λ other. rw (other, or_left (q e.1) _ none, and_never (is_in e.0 (t ∷ []))) (at_key t q es x y (subst (λ b. cond b (Some e.1) (lookup (is_named t) es) ≡ Some x) other there) (or_right (q e.1) _ none)))

pub at_others : {X : Type 0} (t : Name) (q : X → Bool) (es : List (Name × X)) (y : X) → list_any (λ e. q e.1) es ≡ false → list_any (λ e. not (is_in e.0 (t ∷ [])) && q e.1) (set_value (is_named t) es y) ≡ false
at_others t q [] y none = refl
at_others t q (e ∷ es) y none = whether (is_named t e.0)
    (λ is. rw (is, subst (λ n. is_named e.0 n ≡ true) (sym (same_name t e.0 is)) (named_itself e.0)) (any_less (λ f. not (is_in f.0 (t ∷ [])) && q f.1) (λ f. q f.1) es (λ f no_q. and_no_right (not (is_in f.0 (t ∷ []))) _ no_q) (or_right (q e.1) _ none)))
    (λ other. rw (other, or_left (q e.1) _ none, and_never (not (is_in e.0 (t ∷ [])))) (at_others t q es y (or_right (q e.1) _ none)))

-- what is set at a name of a sorted map stands at each entry of that name
pub at_each : {X : Type 0} (t : Name) (p : X → Bool) (es : List (Name × X)) (x y : X) → T (is_sorted name_cmp es) → lookup (is_named t) es ≡ Some x → list_any (λ e. p e.1) (set_value (is_named t) es y) ≡ list_any (λ e. p (cond (is_named t e.0) y e.1)) es
at_each t p [] x y rise there = refl
at_each t p (e ∷ es) x y rise there = whether (is_named t e.0)
    (λ is. rw (is) (ap (λ b. p y || b) (any_agree (λ f. p f.1) (λ f. p (cond (is_named t f.0) y f.1)) (λ f. is_named t f.0) es (λ f no. ap (λ b. p (cond b y f.1)) (sym no))
    (sym (any-map (is_named t) (λ f. f.0) es) ∙ found t es ∙ ap (λ o. is_some o) (ap (λ n. lookup (is_named n) es) (same_name t e.0 is) ∙ below_gone e.0 es (sooner _ _ rise))))))
    (λ other. rw (other) (ap (λ b. p e.1 || b) (at_each t p es x y (later _ _ rise) (subst (λ b. cond b (Some e.1) (lookup (is_named t) es) ≡ Some x) other there))))
  where
    sooner : (x y : Bool) → T (x && y) → T x
    sooner true y p = tt
    sooner false y p = p

    later : (x y : Bool) → T (x && y) → T y
    later true y p = p
    later false y p = absurd p
