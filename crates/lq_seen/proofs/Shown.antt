-- The texts that are kept of what runs.
use Rattle.std.proofs.Common.{ap, sym, refl, ◌≡◌, ◌∙◌, ◌++◌, ◌∷◌, Bool, true, false, List, [], MatchOption, None, Option, Some, if◌then◌else◌, map, ℕ}
use Rattle.std.proofs.lemmas.List.{append-nil, append_assoc, map-append, same_from_push}
use Rattle.lq_base.specs.declared.dialect.Dialect.{Dialect}
use Rattle.lq_base.specs.declared.identity.Identity.{Identity}
use Rattle.lq_base.specs.declared.run.Printed.{Printed}
use Rattle.lq_model.specs.StatementText.{text_of}
use Rattle.lq_model.specs.declared.statement.Statement.{Statement}
use Rattle.lq_seen.specs.Telling.{shown, with_texts}

shown_both : (prints : Bool) (d : Dialect) (xs ys : List (Identity × List Statement)) → shown prints d (xs ++ ys) ≡ shown prints d xs ++ shown prints d ys
shown_both true d xs ys = map-append (with_texts d) xs ys
shown_both false d xs ys = refl

pub none_shown : (prints : Bool) (d : Dialect) → shown prints d [] ≡ []
none_shown true d = refl
none_shown false d = refl

module _ (prints : Bool) (d : Dialect) where
  -- some of what was to be printed is, and the rest is still to come
  pub more_shown : (before now all : List Printed) (xs ys : List (Identity × List Statement)) → now ≡ before ++ shown prints d xs → before ++ shown prints d (xs ++ ys) ≡ all → now ++ shown prints d ys ≡ all
  more_shown before now all xs ys grown so =
      ap (λ (ps : List Printed). ps ++ shown prints d ys) grown
      ∙ (append_assoc before (shown prints d xs) (shown prints d ys)
      ∙ (ap (λ (ps : List Printed). before ++ ps) (sym (shown_both prints d xs ys)) ∙ so))

  -- nothing more is
  pub all_shown : (before all : List Printed) → before ++ shown prints d [] ≡ all → before ≡ all
  all_shown before all so = sym (append-nil before) ∙ (ap (λ (ps : List Printed). before ++ ps) (sym (none_shown prints d)) ∙ so)

-- the texts of statements, each made by itself
pub texted : (d : Dialect) (of own : Identity) (statements : List Statement) (texts : List (List ℕ)) → own ≡ of → texts ≡ map (text_of d) statements → (let made : Printed = record { identity = own; texts = texts } in made) ≡ with_texts d (of, statements)
texted d of own statements texts its made =
    ap (λ (i : Identity). let p : Printed = record { identity = i; texts = texts } in p) its
    ∙ ap (λ (ts : List (List ℕ)). let p : Printed = record { identity = of; texts = ts } in p) made

-- the last of a list goes

no_last : {A : Type 0} (xs : List A) (x : A) → xs ++ x ∷ [] ≡ [] → ⊥
no_last [] x none = Prim.cc
no_last (y ∷ xs) x none = Prim.cc

pub popped_last : {A : Type 0} (old new : List A) (popped : Option A) → MatchOption popped ((old ≡ []) × (new ≡ [])) (λ (x : A). old ≡ new ++ x ∷ []) → (front : List A) (last : A) → old ≡ front ++ last ∷ [] → new ≡ front
popped_last old new None both front last is = absurd (no_last front last (sym is ∙ both.0))
popped_last old new (Some x) ends front last is = (same_from_push new front x last (sym ends ∙ is)).0

module _ {A : Type 0} (wanted : Bool) (old new : List A) where
  -- where it was wanted, and so was kept
  pub forgotten : wanted ≡ true → (popped : Option A) → MatchOption popped ((old ≡ []) × (new ≡ [])) (λ (x : A). old ≡ new ++ x ∷ []) → (front : List A) (last : A) → old ≡ front ++ (if wanted then last ∷ [] else []) → new ≡ front
  forgotten kept popped ends front last is = popped_last old new popped ends front last (is ∙ ap (λ (b : Bool). front ++ (if b then last ∷ [] else [])) kept)

  pub not_kept : wanted ≡ false → new ≡ old → (front : List A) (last : A) → old ≡ front ++ (if wanted then last ∷ [] else []) → new ≡ front
  not_kept unkept same front last is = same ∙ (is ∙ (ap (λ (b : Bool). front ++ (if b then last ∷ [] else [])) unkept ∙ append-nil front))
