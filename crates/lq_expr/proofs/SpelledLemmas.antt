-- The words of an expression are read as its tree.
use Rattle.std.proofs.Common.{◌≡◌, ◌-◌, ◌==◌, ℕ, zero, suc, true, false, List, [], ◌∷◌, ◌++◌, Option, Some, option_map, arith, refl, sym, ap, ◌∙◌, append_assoc}
use Rattle.std.proofs.lemmas.List.{append-nil}
use Rattle.lq_expr.specs.declared.expr.Expr.{Expr}
use Rattle.lq_expr.specs.declared.expr.Expr.TheVariants as expr
use Rattle.lq_operators.specs.declared.operator.Operator.{Operator}
use Rattle.lq_operators.specs.declared.operator.Operator.TheVariants.{Comma, Or, And}
use Rattle.lq_operators.specs.declared.word.Word.{Word}
use Rattle.lq_operators.specs.declared.word.Word.TheVariants as word
use Rattle.lq_expr.specs.Words.{longer}
use Rattle.lq_operators.specs.Operators.{is_operator}
use Rattle.lq_expr.specs.Grammar.{is_cut, depth_after, cut, each, join, joined, expression, inside, factor}
use Rattle.lq_expr.specs.Spelled.{Factor, a_name, negation, parentheses, Ands, factor_alone, factor_and, Ors, ands_alone, ands_or, Commas, ors_alone, ors_comma, factor_words, ands_words, ors_words, commas_words, factor_tree, ands_trees, ors_trees, commas_trees, FactorFits, AndsFit, OrsFit, CommasFit}
use Rattle.lq_expr.proofs.Levels.{inside_more}

-- the first of the parts begins with these words
onto : List Word → List (List Word) → List (List Word)
onto [] ps = ps
onto (w ∷ ws) ps = longer w (onto ws ps)

onto_append : (vs ws : List Word) (ps : List (List Word)) → onto (vs ++ ws) ps ≡ onto vs (onto ws ps)
unfolding onto
onto_append [] ws ps = refl
onto_append (v ∷ vs) ws ps = ap (longer v) (onto_append vs ws ps)

onto_first : (ws : List Word) (ps : List (List Word)) → onto ws ([] ∷ ps) ≡ ws ∷ ps
unfolding onto
onto_first [] ps = refl
onto_first (w ∷ ws) ps = ap (longer w) (onto_first ws ps)

one_word : (operator : Operator) (depth : ℕ) (w : Word) (rest : List Word) → is_cut operator depth w ≡ false → cut operator depth (w ∷ rest) ≡ longer w (cut operator (depth_after w depth) rest)
unfolding cut
one_word operator depth w rest is = rw is refl

cut_word : (operator : Operator) (w : Word) (rest : List Word) → is_cut operator 0 w ≡ true → cut operator 0 (w ∷ rest) ≡ [] ∷ cut operator 0 rest
unfolding cut
cut_word operator w rest is = rw is refl

-- words that are cut nowhere at this depth, and leave the depth as it was
record Uncut (operator : Operator) (depth : ℕ) (ws : List Word) : Type 0 where
  pub uncut : (rest : List Word) → cut operator depth (ws ++ rest) ≡ onto ws (cut operator depth rest)

uncut_word : (operator : Operator) (depth : ℕ) (w : Word) → is_cut operator depth w ≡ false → depth_after w depth ≡ depth → Uncut operator depth (w ∷ [])
unfolding onto
uncut_word operator depth w is same = record { uncut = λ rest. one_word operator depth w rest is ∙ ap (λ d. longer w (cut operator d rest)) same }

uncut_both : (operator : Operator) (depth : ℕ) (vs ws : List Word) → Uncut operator depth vs → Uncut operator depth ws → Uncut operator depth (vs ++ ws)
uncut_both operator depth vs ws one two =
    record {
      uncut = λ rest.
          ap (cut operator depth) (append_assoc vs ws rest) ∙ one.uncut (ws ++ rest) ∙ ap (onto vs) (two.uncut rest)
          ∙ sym (onto_append vs ws (cut operator depth rest));
    }

uncut_between : (operator : Operator) (depth : ℕ) (vs ws : List Word) (w : Word) → is_cut operator depth w ≡ false → depth_after w depth ≡ depth
    → Uncut operator depth vs → Uncut operator depth ws → Uncut operator depth (vs ++ w ∷ ws)
uncut_between operator depth vs ws w is same one two =
    uncut_both operator depth vs (w ∷ ws) one (uncut_both operator depth (w ∷ []) ws (uncut_word operator depth w is same) two)

less : (depth : ℕ) → suc depth - 1 ≡ depth
less depth = omega arith

not_zero : (depth : ℕ) → (suc depth == 0) ≡ false
not_zero depth = search (arith)

-- inside parentheses no word cuts
enclosed_is_none : (operator : Operator) (depth : ℕ) (w : Word) → is_cut operator (suc depth) w ≡ false
enclosed_is_none operator depth w = rw (not_zero depth) refl

no_operator : (operator : Operator) (depth : ℕ) (w : Word) → is_operator operator w ≡ false → is_cut operator depth w ≡ false
no_operator operator zero w is = is
no_operator operator (suc depth) w is = enclosed_is_none operator depth w

open_is_none : (operator : Operator) → is_operator operator word.Open ≡ false
open_is_none Comma = refl
open_is_none Or = refl
open_is_none And = refl

not_is_none : (operator : Operator) → is_operator operator word.Not ≡ false
not_is_none Comma = refl
not_is_none Or = refl
not_is_none And = refl

name_is_none : (operator : Operator) (n : List ℕ) → is_operator operator (word.Name n) ≡ false
name_is_none Comma n = refl
name_is_none Or n = refl
name_is_none And n = refl

-- what is uncut inside parentheses is so with them
enclosed_uncut : (operator : Operator) (depth : ℕ) (ws : List Word) → Uncut operator (suc depth) ws → Uncut operator depth (word.Open ∷ (ws ++ word.Close ∷ []))
unfolding onto
enclosed_uncut operator depth ws in_them =
    record {
      uncut = λ rest.
          one_word operator depth word.Open ((ws ++ word.Close ∷ []) ++ rest) (no_operator operator depth word.Open (open_is_none operator))
          ∙ ap (longer word.Open)
          (ap (cut operator (suc depth)) (append_assoc ws (word.Close ∷ []) rest)
          ∙ in_them.uncut (word.Close ∷ rest)
          ∙ ap (onto ws) (one_word operator (suc depth) word.Close rest (enclosed_is_none operator depth word.Close) ∙ ap (λ d. longer word.Close (cut operator d rest)) (less depth))
          ∙ sym (onto_append ws (word.Close ∷ []) (cut operator depth rest)));
    }

-- ---- inside parentheses nothing is cut

mutual
  deep_factor : (operator : Operator) (depth : ℕ) (f : Factor) → Uncut operator (suc depth) (factor_words f)
  deep_factor operator depth (a_name n) = uncut_word operator (suc depth) (word.Name n) (enclosed_is_none operator depth (word.Name n)) refl
  deep_factor operator depth (negation f) = uncut_both operator (suc depth) (word.Not ∷ []) (factor_words f) (uncut_word operator (suc depth) word.Not (enclosed_is_none operator depth word.Not) refl) (deep_factor operator depth f)
  deep_factor operator depth (parentheses c) = enclosed_uncut operator (suc depth) (commas_words c) (deep_commas operator (suc depth) c)

  deep_ands : (operator : Operator) (depth : ℕ) (a : Ands) → Uncut operator (suc depth) (ands_words a)
  deep_ands operator depth (factor_alone f) = deep_factor operator depth f
  deep_ands operator depth (factor_and f a) = uncut_between operator (suc depth) (factor_words f) (ands_words a) word.And (enclosed_is_none operator depth word.And) refl (deep_factor operator depth f) (deep_ands operator depth a)

  deep_ors : (operator : Operator) (depth : ℕ) (o : Ors) → Uncut operator (suc depth) (ors_words o)
  deep_ors operator depth (ands_alone a) = deep_ands operator depth a
  deep_ors operator depth (ands_or a o) = uncut_between operator (suc depth) (ands_words a) (ors_words o) word.Or (enclosed_is_none operator depth word.Or) refl (deep_ands operator depth a) (deep_ors operator depth o)

  deep_commas : (operator : Operator) (depth : ℕ) (c : Commas) → Uncut operator (suc depth) (commas_words c)
  deep_commas operator depth (ors_alone o) = deep_ors operator depth o
  deep_commas operator depth (ors_comma o c) = uncut_between operator (suc depth) (ors_words o) (commas_words c) word.Comma (enclosed_is_none operator depth word.Comma) refl (deep_ors operator depth o) (deep_commas operator depth c)

-- ---- outside of them nothing is cut at a looser operator

whole_factor : (operator : Operator) (f : Factor) → Uncut operator 0 (factor_words f)
whole_factor operator (a_name n) = uncut_word operator 0 (word.Name n) (name_is_none operator n) refl
whole_factor operator (negation f) = uncut_both operator 0 (word.Not ∷ []) (factor_words f) (uncut_word operator 0 word.Not (not_is_none operator) refl) (whole_factor operator f)
whole_factor operator (parentheses c) = enclosed_uncut operator 0 (commas_words c) (deep_commas operator 0 c)

whole_ands : (operator : Operator) (a : Ands) → is_operator operator word.And ≡ false → Uncut operator 0 (ands_words a)
whole_ands operator (factor_alone f) looser = whole_factor operator f
whole_ands operator (factor_and f a) looser = uncut_between operator 0 (factor_words f) (ands_words a) word.And looser refl (whole_factor operator f) (whole_ands operator a looser)

whole_ors : (o : Ors) → Uncut Comma 0 (ors_words o)
whole_ors (ands_alone a) = whole_ands Comma a refl
whole_ors (ands_or a o) = uncut_between Comma 0 (ands_words a) (ors_words o) word.Or refl refl (whole_ands Comma a refl) (whole_ors o)

-- ---- the parts

part_alone : (operator : Operator) (part : List Word → Option Expr) (ws : List Word) (e : Expr) → Uncut operator 0 ws → part ws ≡ Some e → each part (cut operator 0 ws) ≡ Some (e ∷ [])
unfolding cut
part_alone operator part ws e whole is =
    let one : cut operator 0 ws ≡ ws ∷ [] = ap (cut operator 0) (sym (append-nil ws)) ∙ whole.uncut [] ∙ onto_first ws [] in
    ap (each part) one ∙ rw is refl

part_more : (operator : Operator) (part : List Word → Option Expr) (vs ws : List Word) (w : Word) (e : Expr) (es : List Expr) → is_operator operator w ≡ true
    → Uncut operator 0 vs → part vs ≡ Some e → each part (cut operator 0 ws) ≡ Some es → each part (cut operator 0 (vs ++ w ∷ ws)) ≡ Some (e ∷ es)
part_more operator part vs ws w e es at whole is more =
    let first : cut operator 0 (vs ++ w ∷ ws) ≡ vs ∷ cut operator 0 ws = whole.uncut (w ∷ ws) ∙ ap (onto vs) (cut_word operator w ws at) ∙ onto_first vs (cut operator 0 ws) in
    ap (each part) first ∙ rw (is, more) refl

inside_closed : (ws : List Word) → inside (ws ++ word.Close ∷ []) ≡ Some ws
inside_closed [] = refl
inside_closed (w ∷ []) = inside_more w word.Close []
inside_closed (w ∷ v ∷ vs) = inside_more w v (vs ++ word.Close ∷ []) ∙ ap (option_map (λ more. w ∷ more)) (inside_closed (v ∷ vs))

parts_joined : (operator : Operator) (part : List Word → Option Expr) (ws : List Word) (es : List Expr) → each part (cut operator 0 ws) ≡ Some es → joined operator part ws ≡ Some (join operator es)
parts_joined operator part ws es is = ap (option_map (join operator)) is

mutual
  unfolding factor

  read_factor : (levels : ℕ) (f : Factor) → FactorFits levels f → factor levels (factor_words f) ≡ Some (factor_tree f)
  read_factor zero (a_name n) fits = rw fits refl
  read_factor (suc levels) (a_name n) fits = rw fits refl
  read_factor zero (negation f) fits = absurd fits
  read_factor (suc levels) (negation f) fits = ap (option_map expr.Not) (read_factor levels f fits)
  read_factor zero (parentheses c) fits = absurd fits
  read_factor (suc levels) (parentheses c) fits = rw (inside_closed (commas_words c)) (parts_joined Comma (joined Or (joined And (factor levels))) (commas_words c) (commas_trees c) (read_all levels c fits))

  read_ands : (levels : ℕ) (a : Ands) → AndsFit levels a → each (factor levels) (cut And 0 (ands_words a)) ≡ Some (ands_trees a)
  read_ands levels (factor_alone f) fits = part_alone And (factor levels) (factor_words f) (factor_tree f) (whole_factor And f) (read_factor levels f fits)
  read_ands levels (factor_and f a) fits =
      part_more And (factor levels) (factor_words f) (ands_words a) word.And (factor_tree f) (ands_trees a) refl (whole_factor And f) (read_factor levels f fits.0) (read_ands levels a fits.1)

  read_ors : (levels : ℕ) (o : Ors) → OrsFit levels o → each (joined And (factor levels)) (cut Or 0 (ors_words o)) ≡ Some (ors_trees o)
  read_ors levels (ands_alone a) fits =
      part_alone Or (joined And (factor levels)) (ands_words a) (join And (ands_trees a)) (whole_ands Or a refl) (parts_joined And (factor levels) (ands_words a) (ands_trees a) (read_ands levels a fits))
  read_ors levels (ands_or a o) fits =
      part_more Or (joined And (factor levels)) (ands_words a) (ors_words o) word.Or (join And (ands_trees a)) (ors_trees o) refl (whole_ands Or a refl)
      (parts_joined And (factor levels) (ands_words a) (ands_trees a) (read_ands levels a fits.0)) (read_ors levels o fits.1)

  read_all : (levels : ℕ) (c : Commas) → CommasFit levels c → each (joined Or (joined And (factor levels))) (cut Comma 0 (commas_words c)) ≡ Some (commas_trees c)
  read_all levels (ors_alone o) fits =
      part_alone Comma (joined Or (joined And (factor levels))) (ors_words o) (join Or (ors_trees o)) (whole_ors o) (parts_joined Or (joined And (factor levels)) (ors_words o) (ors_trees o) (read_ors levels o fits))
  read_all levels (ors_comma o c) fits =
      part_more Comma (joined Or (joined And (factor levels))) (ors_words o) (commas_words c) word.Comma (join Or (ors_trees o)) (commas_trees c) refl (whole_ors o)
      (parts_joined Or (joined And (factor levels)) (ors_words o) (ors_trees o) (read_ors levels o fits.0)) (read_all levels c fits.1)

pub read_commas : (levels : ℕ) (c : Commas) → CommasFit levels c → expression (factor levels) (commas_words c) ≡ Some (join Comma (commas_trees c))
read_commas levels c fits = parts_joined Comma (joined Or (joined And (factor levels))) (commas_words c) (commas_trees c) (read_all levels c fits)
