-- What is read is spelled so.
use Rattle.std.proofs.Common.{◌≡◌, ◌&&◌, ℕ, zero, suc, Bool, true, false, cond, List, [], ◌∷◌, ◌++◌, Option, Some, None, option_map, option_and_then, codes, nat_eq, refl, sym, ap, subst, ◌∙◌}
use Rattle.std.specs.List.{starts_with}
use Rattle.lq_expr.specs.declared.expr.Expr.{Expr}
use Rattle.lq_expr.specs.declared.expr.Expr.TheVariants as expr
use Rattle.lq_operators.specs.declared.operator.Operator.{Operator}
use Rattle.lq_operators.specs.declared.operator.Operator.TheVariants.{Comma, Or, And}
use Rattle.lq_operators.specs.declared.word.Word.{Word}
use Rattle.lq_operators.specs.declared.word.Word.TheVariants as word
use Rattle.lq_expr.specs.Words.{longer}
use Rattle.lq_operators.specs.Operators.{is_operator}
use Rattle.lq_expr.specs.Grammar.{is_cut, depth_after, cut, each, join, joined, expression, inside, name, factor}
use Rattle.lq_expr.specs.Spelled.{Factor, a_name, negation, parentheses, Ands, factor_alone, factor_and, Ors, ands_alone, ands_or, Commas, ors_alone, ors_comma, factor_words, ands_words, ors_words, commas_words, factor_tree, ands_trees, ors_trees, commas_trees, FactorFits, AndsFit, OrsFit, CommasFit, IsSpelled}
use Rattle.lq_expr.proofs.Levels.{inside_more}

-- ---- words joined again

abbrev word_of : Operator → Word
word_of Comma = word.Comma
word_of Or = word.Or
word_of And = word.And

operator_is : (operator : Operator) (w : Word) → is_operator operator w ≡ true → w ≡ word_of operator
operator_is Comma word.Comma is = refl
operator_is Comma w is = absurd Prim.cc
operator_is Or word.Or is = refl
operator_is Or w is = absurd Prim.cc
operator_is And word.And is = refl
operator_is And w is = absurd Prim.cc

-- the parts with the operator between them: a first part and those after it
abbrev rejoined : Operator → List (List Word) → List Word
rejoined operator [] = []
rejoined operator (p ∷ []) = p
rejoined operator (p ∷ q ∷ ps) = p ++ word_of operator ∷ rejoined operator (q ∷ ps)

-- there is a part
abbrev HasPart : List (List Word) → Type 0
HasPart [] = ⊥
HasPart (p ∷ ps) = Unit {0}

cut_has_part : (operator : Operator) (depth : ℕ) (ws : List Word) → HasPart (cut operator depth ws)
unfolding cut
cut_has_part operator depth [] = tt
cut_has_part operator depth (w ∷ ws) =
    elim (is_cut operator depth w) as (λ b. HasPart (cond b ([] ∷ cut operator 0 ws) (longer w (cut operator (depth_after w depth) ws)))) [
      | true ↦ tt
      | false ↦ longer_has_part w (cut operator (depth_after w depth) ws)
    ]
  where
    longer_has_part : (w : Word) (ps : List (List Word)) → HasPart (longer w ps)
    longer_has_part w [] = tt
    longer_has_part w (p ∷ ps) = tt

rejoined_longer : (operator : Operator) (w : Word) (ps : List (List Word)) → HasPart ps → rejoined operator (longer w ps) ≡ w ∷ rejoined operator ps
rejoined_longer operator w [] has = absurd has
rejoined_longer operator w (p ∷ []) has = refl
rejoined_longer operator w (p ∷ q ∷ ps) has = refl

rejoined_cut : (operator : Operator) (ps : List (List Word)) → HasPart ps → rejoined operator ([] ∷ ps) ≡ word_of operator ∷ rejoined operator ps
rejoined_cut operator [] has = absurd has
rejoined_cut operator (q ∷ ps) has = refl

cut_is_operator : (operator : Operator) (depth : ℕ) (w : Word) → is_cut operator depth w ≡ true → is_operator operator w ≡ true
cut_is_operator operator zero w is = is
cut_is_operator operator (suc depth) w is = second _ (is_operator operator w) is
  where
    second : (a b : Bool) → (a && b) ≡ true → b ≡ true
    second true b h = h
    second false b h = absurd Prim.cc

cut_rejoined : (operator : Operator) (depth : ℕ) (ws : List Word) → rejoined operator (cut operator depth ws) ≡ ws
unfolding cut
cut_rejoined operator depth [] = refl
cut_rejoined operator depth (w ∷ ws) =
    elim (is_cut operator depth w) as (λ b. is_cut operator depth w ≡ b → rejoined operator (cond b ([] ∷ cut operator 0 ws) (longer w (cut operator (depth_after w depth) ws))) ≡ w ∷ ws) [
      | true ↦ λ is.
          rejoined_cut operator (cut operator 0 ws) (cut_has_part operator 0 ws)
          ∙ ap (λ z. z ∷ rejoined operator (cut operator 0 ws)) (sym (operator_is operator w (cut_is_operator operator depth w is)))
          ∙ ap (λ z. w ∷ z) (cut_rejoined operator 0 ws)
      | false ↦ λ is.
          rejoined_longer operator w (cut operator (depth_after w depth) ws) (cut_has_part operator (depth_after w depth) ws)
          ∙ ap (λ z. w ∷ z) (cut_rejoined operator (depth_after w depth) ws)
    ] refl

-- ---- what stands in parentheses

inside_says : (ws between : List Word) → inside ws ≡ Some between → ws ≡ between ++ word.Close ∷ []
inside_says [] between is = absurd Prim.cc
inside_says (word.Close ∷ []) between is = let none : (let empty : List Word = [] in empty) ≡ between = Prim.cc in rw (sym none) refl
inside_says (w ∷ []) between is = absurd Prim.cc
inside_says (w ∷ v ∷ vs) between is = further (λ more at. inside_says (v ∷ vs) more at) (inside (v ∷ vs)) refl (sym (inside_more w v vs) ∙ is)
  where
    further : ((more : List Word) → inside (v ∷ vs) ≡ Some more → v ∷ vs ≡ more ++ word.Close ∷ []) → (o : Option (List Word)) → inside (v ∷ vs) ≡ o
        → option_map (λ more. w ∷ more) o ≡ Some between → w ∷ v ∷ vs ≡ between ++ word.Close ∷ []
    further again None at made = absurd Prim.cc
    further again (Some more) at made = let same : w ∷ more ≡ between = Prim.cc in rw (sym same) (ap (λ z. w ∷ z) (again more at))

-- ---- the parts of a reading

record IsFactor (levels : ℕ) (ws : List Word) (e : Expr) : Type 0 where
  pub it : Factor
  pub fits : FactorFits levels it
  pub words : factor_words it ≡ ws
  pub tree : factor_tree it ≡ e

record AreAnds (levels : ℕ) (ws : List Word) (es : List Expr) : Type 0 where
  pub it : Ands
  pub fits : AndsFit levels it
  pub words : ands_words it ≡ ws
  pub trees : ands_trees it ≡ es

record AreOrs (levels : ℕ) (ws : List Word) (es : List Expr) : Type 0 where
  pub it : Ors
  pub fits : OrsFit levels it
  pub words : ors_words it ≡ ws
  pub trees : ors_trees it ≡ es

record AreCommas (levels : ℕ) (ws : List Word) (es : List Expr) : Type 0 where
  pub it : Commas
  pub fits : CommasFit levels it
  pub words : commas_words it ≡ ws
  pub trees : commas_trees it ≡ es

-- each part has a property, and what is made of one part and of one more is so for all of them
module _ (operator : Operator) (part : List Word → Option Expr) (P : List Word → Expr → Type 0) (All : List Word → List Expr → Type 0)
    (says : (ws : List Word) (e : Expr) → part ws ≡ Some e → P ws e) (one : (ws : List Word) (e : Expr) → P ws e → All ws (e ∷ []))
    (more : (vs ws : List Word) (e : Expr) (es : List Expr) → P vs e → All ws es → All (vs ++ word_of operator ∷ ws) (e ∷ es)) where
  first_of_each : (p : List Word) (ps : List (List Word)) (es : List Expr) (o : Option Expr) (r : Option (List Expr)) → part p ≡ o → each part ps ≡ r
      → option_and_then (λ b. option_map (λ rest. b ∷ rest) r) o ≡ Some es → (e : Expr) × (rest : List Expr) × (part p ≡ Some e) × (each part ps ≡ Some rest) × (es ≡ e ∷ rest)
  first_of_each p ps es None r at behind is = absurd Prim.cc
  first_of_each p ps es (Some e) None at behind is = absurd Prim.cc
  first_of_each p ps es (Some e) (Some rest) at behind is = (e, rest, at, behind, sym Prim.cc)

  all_parts : (ps : List (List Word)) (es : List Expr) → HasPart ps → each part ps ≡ Some es → All (rejoined operator ps) es
  all_parts [] es has is = absurd has
  all_parts (p ∷ []) es has is =
      let found = first_of_each p [] es (part p) (each part []) refl refl is in
      let none : (let empty : List Expr = [] in empty) ≡ found.1 = Prim.cc in
      subst (λ z. All p z) (sym (found.4 ∙ ap (λ z. found.0 ∷ z) (sym none))) (one p found.0 (says p found.0 found.2))
  all_parts (p ∷ q ∷ ps) es has is =
      let found = first_of_each p (q ∷ ps) es (part p) (each part (q ∷ ps)) refl refl is in
      subst (λ z. All (p ++ word_of operator ∷ rejoined operator (q ∷ ps)) z) (sym found.4)
      (more p (rejoined operator (q ∷ ps)) found.0 found.1 (says p found.0 found.2) (all_parts (q ∷ ps) found.1 tt found.3))

  joined_parts : (ws : List Word) (e : Expr) (o : Option (List Expr)) → each part (cut operator 0 ws) ≡ o → option_map (join operator) o ≡ Some e → (es : List Expr) × All ws es × (join operator es ≡ e)
  joined_parts ws e None at is = absurd Prim.cc
  joined_parts ws e (Some es) at is =
      (es, subst (λ z. All z es) (cut_rejoined operator 0 ws) (all_parts (cut operator 0 ws) es (cut_has_part operator 0 ws) at), Prim.cc)

  says_joined : (ws : List Word) (e : Expr) → joined operator part ws ≡ Some e → (es : List Expr) × All ws es × (join operator es ≡ e)
  says_joined ws e is = joined_parts ws e (each part (cut operator 0 ws)) refl is

-- ---- names, negations, parentheses

name_fits : (levels : ℕ) (n : List ℕ) → starts_with nat_eq n (codes "@") ≡ false → FactorFits levels (a_name n)
name_fits zero n fits = fits
name_fits (suc levels) n fits = fits

name_says : (levels : ℕ) (ws : List Word) (e : Expr) → name ws ≡ Some e → IsFactor levels ws e
name_says levels [] e is = absurd Prim.cc
name_says levels (word.Name n ∷ []) e is = by (starts_with nat_eq n (codes "@")) refl is
  where
    by : (b : Bool) → starts_with nat_eq n (codes "@") ≡ b → (let found : Option Expr = cond b None (Some (expr.Name n)) in found ≡ Some e) → IsFactor levels (word.Name n ∷ []) e
    by true at made = absurd Prim.cc
    by false at made = record { it = a_name n; fits = name_fits levels n at; words = refl; tree = Prim.cc }
name_says levels (w ∷ ws) e is = absurd Prim.cc

-- ---- lists of parts

AllFactors : ℕ → Type 0
AllFactors levels = (ws : List Word) (e : Expr) → factor levels ws ≡ Some e → IsFactor levels ws e

SomeAnds : ℕ → List Word → Expr → Type 0
SomeAnds levels ws e = (es : List Expr) × AreAnds levels ws es × (join And es ≡ e)

SomeOrs : ℕ → List Word → Expr → Type 0
SomeOrs levels ws e = (es : List Expr) × AreOrs levels ws es × (join Or es ≡ e)

ands_say : (levels : ℕ) → AllFactors levels → (ws : List Word) (e : Expr) → joined And (factor levels) ws ≡ Some e → SomeAnds levels ws e
unfolding AllFactors SomeAnds
ands_say levels says =
    says_joined And (factor levels) (IsFactor levels) (AreAnds levels) says
    (λ ws e p. record { it = factor_alone p.it; fits = p.fits; words = p.words; trees = ap (λ z. z ∷ []) p.tree })
    (λ vs ws e es p a. record { it = factor_and p.it a.it; fits = (p.fits, a.fits); words = Prim.cc (p.words, a.words); trees = Prim.cc (p.tree, a.trees) })

ors_say : (levels : ℕ) → AllFactors levels → (ws : List Word) (e : Expr) → joined Or (joined And (factor levels)) ws ≡ Some e → SomeOrs levels ws e
unfolding SomeAnds SomeOrs
ors_say levels says =
    says_joined Or (joined And (factor levels)) (SomeAnds levels) (AreOrs levels) (ands_say levels says)
    (λ ws e p. record { it = ands_alone p.1.it; fits = p.1.fits; words = p.1.words; trees = ap (λ z. z ∷ []) (ap (join And) p.1.trees ∙ p.2) })
    (λ vs ws e es p a. record {
      it = ands_or p.1.it a.it;
      fits = (p.1.fits, a.fits);
      words = Prim.cc (p.1.words, a.words);
      trees = let first : join And (ands_trees p.1.it) ≡ e = ap (join And) p.1.trees ∙ p.2 in Prim.cc (first, a.trees);
    })

all_say : (levels : ℕ) → AllFactors levels → (ws : List Word) (e : Expr) → expression (factor levels) ws ≡ Some e → IsSpelled levels ws e
unfolding SomeOrs
all_say levels says ws e is =
    let found = says_joined Comma (joined Or (joined And (factor levels))) (SomeOrs levels) (AreCommas levels) (ors_say levels says)
    (λ ws e p. record { it = ors_alone p.1.it; fits = p.1.fits; words = p.1.words; trees = ap (λ z. z ∷ []) (ap (join Or) p.1.trees ∙ p.2) })
    (λ vs ws e es p a. record {
      it = ors_comma p.1.it a.it;
      fits = (p.1.fits, a.fits);
      words = Prim.cc (p.1.words, a.words);
      trees = let first : join Or (ors_trees p.1.it) ≡ e = ap (join Or) p.1.trees ∙ p.2 in Prim.cc (first, a.trees);
    })
    ws e is in
    record { parts = found.1.it; fits = found.1.fits; words = found.1.words; tree = ap (join Comma) found.1.trees ∙ found.2 }

negation_says : (levels : ℕ) → AllFactors levels → (ws : List Word) (e : Expr) (o : Option Expr) → factor levels ws ≡ o → option_map expr.Not o ≡ Some e → IsFactor (suc levels) (word.Not ∷ ws) e
unfolding AllFactors
negation_says levels says ws e None at made = absurd Prim.cc
negation_says levels says ws e (Some d) at made =
    let inner = says ws d at in
    let same : expr.Not d ≡ e = Prim.cc in
    record { it = negation inner.it; fits = inner.fits; words = ap (λ z. word.Not ∷ z) inner.words; tree = ap expr.Not inner.tree ∙ same }

parentheses_say : (levels : ℕ) → AllFactors levels → (ws : List Word) (e : Expr) (o : Option (List Word)) → inside ws ≡ o → option_and_then (expression (factor levels)) o ≡ Some e
    → IsFactor (suc levels) (word.Open ∷ ws) e
parentheses_say levels says ws e None at made = absurd Prim.cc
parentheses_say levels says ws e (Some between) at made =
    let inner = all_say levels says between e made in
    record {
      it = parentheses inner.parts;
      fits = inner.fits;
      words = ap (λ z. word.Open ∷ z) (ap (λ z. z ++ word.Close ∷ []) inner.words ∙ sym (inside_says ws between at));
      tree = inner.tree;
    }

factor_says : (levels : ℕ) → AllFactors levels
unfolding AllFactors factor
factor_says zero ws e is = name_says zero ws e is
factor_says (suc levels) [] e is = absurd Prim.cc
factor_says (suc levels) (word.Not ∷ ws) e is = negation_says levels (factor_says levels) ws e (factor levels ws) refl is
factor_says (suc levels) (word.Open ∷ ws) e is = parentheses_say levels (factor_says levels) ws e (inside ws) refl is
factor_says (suc levels) (w ∷ ws) e is = name_says (suc levels) (w ∷ ws) e is

pub spelled : (levels : ℕ) (ws : List Word) (e : Expr) → expression (factor levels) ws ≡ Some e → IsSpelled levels ws e
spelled levels ws e is = all_say levels (factor_says levels) ws e is
