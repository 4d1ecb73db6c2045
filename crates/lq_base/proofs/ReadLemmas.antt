-- A reader answers what a text spells exactly where its steps give all that it spells, and nothing else.
use Rattle.std.proofs.Common.{◌≡◌, ◌↔◌, Option, Some, None, refl, sym, ◌∙◌}
use Rattle.std.proofs.lemmas.Option.{none-some}

module _ {A : Type 0} (Spelled : A → Type 0) (steps : Option A) (sound : (a : A) → steps ≡ Some a → Spelled a) (whole : (a : A) → Spelled a → steps ≡ Some a) where
  pub some_spelled : (answer : Option A) → answer ≡ steps → (a : A) → (answer ≡ Some a) ↔ Spelled a
  some_spelled answer is a = (λ e. sound a (sym is ∙ e), λ s. is ∙ whole a s)

  pub none_steps : ((a : A) → ¬ (Spelled a)) → steps ≡ None
  none_steps nothing = by steps refl
    where
      by : (o : Option A) → steps ≡ o → o ≡ None
      by None e = refl
      by (Some a) e = absurd (nothing a (sound a e))

  pub none_spelled : (answer : Option A) → answer ≡ steps → (answer ≡ None) ↔ ((a : A) → ¬ (Spelled a))
  none_spelled answer is = (λ e a s. none-some a (sym e ∙ is ∙ whole a s), λ nothing. is ∙ none_steps nothing)

  -- and an answer that is what the text spells is what the steps give
  pub read_is_steps : (answer : Option A) → ((a : A) → (answer ≡ Some a) ↔ Spelled a) → answer ≡ steps
  read_is_steps (Some a) read = sym (whole a ((read a).0 refl))
  read_is_steps None read = sym (none_steps (λ a s. none-some a ((read a).1 s)))
