-- How the parts of a change are taken back, from how it is taken back whole.
use Rattle.std.proofs.Common.{ap, inl, inr, subst, sym, ◌∙◌}
use Rattle.std.proofs.lemmas.List.{append-nil, append_assoc}
use Rattle.std.specs.Option.{option_to_list}
use Rattle.std.specs.Prelude.{Bool, Err, List, None, Ok, Option, Result, Some, [], refl, true, ℕ, ◌++◌, ◌∷◌, ◌≡◌, ◌⊎◌}
use Rattle.lq_base.specs.declared.dialect.Dialect.{Dialect}
use Rattle.lq_base.specs.declared.reason.Reason.{Reason}
use Rattle.lq_model.specs.Catalogue.{Catalogue}
use Rattle.lq_model.specs.Changes.{HaveEffect, TakeBack}
use Rattle.lq_model.specs.Sound.{IsSound}
use Rattle.lq_model.specs.Step.{run}
use Rattle.lq_model.specs.declared.caller.By.TheVariants.{User}
use Rattle.lq_model.specs.declared.statement.Statement.{Statement}
use Rattle.lq_model.proofs.Effects.{ok_same, run_both}
use Rattle.lq_reverse.specs.Back.{PartsBack, back, backs}

pub backs_both : (d : Dialect) (ss ts : List Statement) → backs d (ss ++ ts) ≡ backs d ts ++ backs d ss
backs_both d [] ts = sym (append-nil (backs d ts))
backs_both d (s ∷ ss) ts = ap (λ us. us ++ option_to_list (back d s)) (backs_both d ss ts) ∙ append_assoc (backs d ts) (backs d ss) (option_to_list (back d s))

-- what was run in two parts is taken back in two
pub part_both : (d : Dialect) (ss ts : List Statement) (c m p : Catalogue) → run User d (backs d ts) p ≡ Ok m → run User d (backs d ss) m ≡ Ok c → run User d (backs d (ss ++ ts)) p ≡ Ok c
part_both d ss ts c m p later earlier = ap (λ us. run User d us p) (backs_both d ss ts) ∙ run_both d (backs d ts) (backs d ss) p m later ∙ earlier

-- a part of nothing, and of one statement
pub no_part : (d : Dialect) (first rest : List Statement) (c p : Catalogue) → (let none : List Statement = [] in none) ≡ first ++ rest → run User d first c ≡ Ok p → run User d (backs d first) p ≡ Ok c
no_part d [] rest c p is ran = sym ran
no_part d (s ∷ first) rest c p is ran = absurd Prim.cc

pub one_part : (d : Dialect) (s : Statement) (first rest : List Statement) (c p : Catalogue) → (let one : List Statement = s ∷ [] in one) ≡ first ++ rest
    → (run User d (s ∷ []) c ≡ Ok p → run User d (option_to_list (back d s)) p ≡ Ok c) → run User d first c ≡ Ok p → run User d (backs d first) p ≡ Ok c
one_part d s [] rest c p is whole ran = sym ran
one_part d s (x ∷ []) rest c p is whole ran =
    let same : s ≡ x = Prim.cc in
    subst (λ y. run User d (y ∷ []) c ≡ Ok p → run User d (backs d (y ∷ [])) p ≡ Ok c) same whole ran
one_part d s (x ∷ y ∷ first) rest c p is whole ran = absurd Prim.cc

-- a front of one thing is nothing or it
pub one_front : {A : Type 0} (x : A) (first rest : List A) → x ∷ [] ≡ first ++ rest → (first ≡ []) ⊎ (first ≡ x ∷ [])
one_front x [] rest is = inl refl
one_front x (y ∷ []) rest is = let same : y ≡ x = Prim.cc in inr (ap (λ z. z ∷ []) same)
one_front x (y ∷ z ∷ first) rest is = absurd Prim.cc

-- a change of one statement, that is taken back by what takes its statement back
pub single : {Key : Type 0} (is_for : Dialect → Key → Bool) (gives : Dialect → Key → List Statement) (effect : Dialect → Key → Catalogue → Result Catalogue Reason) (fresh : Dialect → Key → Catalogue → Bool) (inverse : Dialect → Key → Option (List Statement))
    → HaveEffect is_for gives effect → TakeBack is_for effect fresh inverse
    → (d : Dialect) (x : Key) (s : Statement) → gives d x ≡ s ∷ [] → inverse d x ≡ Some (option_to_list (back d s))
    → (c p : Catalogue) (first rest : List Statement) → is_for d x ≡ true → IsSound d c → fresh d x c ≡ true → gives d x ≡ first ++ rest → run User d first c ≡ Ok p → run User d (backs d first) p ≡ Ok c
single is_for gives effect fresh inverse does restores d x s one undo c p first rest right sound new are ran =
    one_part d s first rest c p (sym one ∙ are)
    (λ whole. restores d x c p (option_to_list (back d s)) right sound new (sym (does d x c right sound) ∙ ap (λ ss. run User d ss c) one ∙ whole) undo) ran

-- two lists that are two others, cut elsewhere: the first ends before the seam, or behind it
pub data Cut {A : Type 0} (xs ys first rest : List A) : Type 0 where
  Before : (more : List A) → xs ≡ first ++ more → Cut xs ys first rest
  Behind : (more : List A) → first ≡ xs ++ more → ys ≡ more ++ rest → Cut xs ys first rest

pub cut : {A : Type 0} (xs ys first rest : List A) → xs ++ ys ≡ first ++ rest → Cut xs ys first rest
cut [] ys first rest is = Behind first refl is
cut (x ∷ xs) ys [] rest is = Before (x ∷ xs) refl
cut (x ∷ xs) ys (y ∷ first) rest is =
    let same : x ≡ y = Prim.cc in
    let others : xs ++ ys ≡ first ++ rest = Prim.cc in
    (elim (cut xs ys first rest others) as (λ _. Cut (x ∷ xs) ys (y ∷ first) rest) [
      | Before more are ↦ Before more (ap (λ zs. x ∷ zs) are ∙ ap (λ z. z ∷ (first ++ more)) same)
      | Behind more are rest_is ↦ Behind more (ap (λ zs. y ∷ zs) are ∙ ap (λ z. z ∷ (xs ++ more)) (sym same)) rest_is
    ])
