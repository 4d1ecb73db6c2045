-- What a factor is by its first words.
use Rattle.std.proofs.Common.{◌≡◌, ◌-◌, ℕ, zero, suc, Bool, true, false, cond, ◌==◌, true≢false, length, take, get_or, List, [], ◌∷◌, Option, Some, None, option_map, Result, Ok, Err, ◌⊎◌, inl, inr, arith, refl, sym, ap, ◌∙◌}
use Rattle.lq_expr.specs.declared.expr.Expr.{Expr}
use Rattle.lq_expr.specs.declared.expr.Expr.TheVariants as expr
use Rattle.lq_expr.specs.declared.expr.ExprFault.{ExprFault}
use Rattle.lq_expr.specs.declared.expr.ExprFault.TheVariants.{NotExpr, OutOfMemory}
use Rattle.lq_operators.specs.declared.word.Word.{Word}
use Rattle.lq_operators.specs.declared.word.Word.TheVariants as word
use Rattle.lq_expr.specs.Cuts.{negated, enclosed, is_close}
use Rattle.lq_expr.specs.Spelled.{Gives}
use Rattle.lq_expr.specs.Grammar.{factor, name, expression, inside, or_fault}

deeper : {X : Type 0} (f : ℕ → X) (n : ℕ) → (n ≡ 0 → ⊥) → f n ≡ f (suc (n - 1))
deeper f zero some = absurd (some refl)
deeper f (suc n) some = let e : suc n ≡ suc (suc n - 1) = omega arith in ap f e

pub lowest : (levels : ℕ) (ws : List Word) → levels ≡ 0 → factor levels ws ≡ name ws
unfolding factor
lowest levels ws none = rw none refl

negation_at : (levels : ℕ) (ws more : List Word) → negated ws ≡ Some more → factor (suc levels) ws ≡ option_map expr.Not (factor levels more)
unfolding factor
negation_at levels [] more is = absurd Prim.cc
negation_at levels (word.Not ∷ ws) more is = let same : ws ≡ more = Prim.cc in rw same refl
negation_at levels (w ∷ ws) more is = absurd Prim.cc

pub negation_is : (levels : ℕ) (ws more : List Word) → (levels ≡ 0 → ⊥) → negated ws ≡ Some more → factor levels ws ≡ option_map expr.Not (factor (levels - 1) more)
negation_is levels ws more some is = deeper (λ n. factor n ws) levels some ∙ negation_at (levels - 1) ws more is

enclosed_at : (levels : ℕ) (ws more : List Word) → enclosed ws ≡ Some more → factor (suc levels) ws ≡ expression (factor levels) more
unfolding factor
enclosed_at levels [] more is = absurd Prim.cc
enclosed_at levels (word.Open ∷ ws) more is = rw is refl
enclosed_at levels (w ∷ ws) more is = absurd Prim.cc

pub enclosed_is : (levels : ℕ) (ws more : List Word) → (levels ≡ 0 → ⊥) → enclosed ws ≡ Some more → factor levels ws ≡ expression (factor (levels - 1)) more
enclosed_is levels ws more some is = deeper (λ n. factor n ws) levels some ∙ enclosed_at (levels - 1) ws more is

name_at : (levels : ℕ) (ws : List Word) → negated ws ≡ None → enclosed ws ≡ None → factor (suc levels) ws ≡ name ws
unfolding factor
name_at levels [] no_not no_open = refl
name_at levels (word.Not ∷ ws) no_not no_open = absurd Prim.cc
name_at levels (word.Open ∷ ws) no_not no_open = rw no_open refl
name_at levels (w ∷ ws) no_not no_open = refl

pub name_is : (levels : ℕ) (ws : List Word) → (levels ≡ 0 → ⊥) → negated ws ≡ None → enclosed ws ≡ None → factor levels ws ≡ name ws
name_is levels ws some no_not no_open = deeper (λ n. factor n ws) levels some ∙ name_at (levels - 1) ws no_not no_open

inside_one : (w : Word) → inside (w ∷ []) ≡ cond (is_close w) (let none : List Word = [] in Some none) None
inside_one word.Close = refl
inside_one w = refl

pub inside_more : (w v : Word) (vs : List Word) → inside (w ∷ v ∷ vs) ≡ option_map (λ more. w ∷ more) (inside (v ∷ vs))
inside_more word.Close v vs = refl
inside_more w v vs = refl

-- whether there is a `)` at the end, and what stands before it
pub inside_is : (ws : List Word) (last : ℕ) (w : Word) → suc last ≡ length ws → w ≡ get_or ws last w → inside ws ≡ cond (is_close w) (Some (take last ws)) None
inside_is [] last w at is = absurd (omega arith)
inside_is (v ∷ []) zero w at is = rw is (inside_one v)
inside_is (v ∷ []) (suc last) w at is = absurd (omega arith)
inside_is (v ∷ u ∷ us) zero w at is = absurd (omega arith)
inside_is (v ∷ u ∷ us) (suc last) w at is =
    inside_more v u us ∙ ap (option_map (λ more. v ∷ more)) (inside_is (u ∷ us) last w (omega arith) is)
    ∙ elim (is_close w) as (λ b. option_map (λ more. v ∷ more) (cond b (Some (take last (u ∷ us))) None) ≡ cond b (Some (take (suc last) (v ∷ u ∷ us))) None) [ true ↦ refl | false ↦ refl ]

-- the last word's place
pub last_of : (n : ℕ) (empty : Bool) → empty ≡ (n == 0) → empty ≡ false → suc (n - 1) ≡ n
last_of zero empty is some = absurd (true≢false (sym is ∙ some))
last_of (suc n) empty is some = omega arith

-- an answer that is given is the meaning's, or want of memory
pub answers : (meant : Option Expr) (r : Result Expr ExprFault) → Gives meant r
    → ((let none : Result Expr ExprFault = Err OutOfMemory in r ≡ none) ⊎ (r ≡ or_fault meant))
answers meant (Ok e) h = inr (rw h refl)
answers meant (Err NotExpr) h = inr (rw h refl)
answers meant (Err OutOfMemory) h = inl refl
