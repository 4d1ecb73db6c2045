-- The answer of a reading, or want of memory.
use Rattle.std.specs.List.{list_all, list_any, starts_with}
use Rattle.std.specs.Prelude.{Bool, Err, List, None, Ok, Option, Result, Some, [], codes, false, nat_eq, not, suc, zero, ℕ, ◌++◌, ◌∷◌, ◌≡◌}
use Rattle.std.specs.Str.{str_eq_ignore_ascii_case}
use Rattle.lq_expr.specs.Grammar.{expression, factor, join}
use Rattle.lq_expr.specs.declared.expr.Expr.{Expr, fold-Expr}
use Rattle.lq_expr.specs.declared.expr.Expr.TheOpen.{Expr-F}
use Rattle.lq_expr.specs.declared.expr.Expr.TheVariants as expr
use Rattle.lq_expr.specs.declared.expr.ExprFault.{ExprFault}
use Rattle.lq_expr.specs.declared.expr.ExprFault.TheVariants.{NotExpr, OutOfMemory}
use Rattle.lq_operators.specs.declared.operator.Operator.TheVariants as operator
use Rattle.lq_operators.specs.declared.word.Word.{Word}
use Rattle.lq_operators.specs.declared.word.Word.TheVariants as word

abbrev pub Gives : {A : Type 0} → Option A → Result A ExprFault → Type 0
Gives meant (Ok a) = meant ≡ Some a
Gives meant (Err NotExpr) = meant ≡ None
Gives meant (Err OutOfMemory) = Unit {0}

-- Expressions as they are spelled, from the grammar's side.

-- a factor is a name, a negated factor or an expression in parentheses; `and` stands between factors, `or` between
-- those, and `,` between those again
mutual
  pub data Factor : Type 0 where
    a_name : List ℕ → Factor
    negation : Factor → Factor
    parentheses : Commas → Factor

  pub data Ands : Type 0 where
    factor_alone : Factor → Ands
    factor_and : Factor → Ands → Ands

  pub data Ors : Type 0 where
    ands_alone : Ands → Ors
    ands_or : Ands → Ors → Ors

  pub data Commas : Type 0 where
    ors_alone : Ors → Commas
    ors_comma : Ors → Commas → Commas

-- their words
abbrev mutual
  pub factor_words : Factor → List Word
  factor_words (a_name n) = word.Name n ∷ []
  factor_words (negation f) = word.Not ∷ factor_words f
  factor_words (parentheses c) = word.Open ∷ (commas_words c ++ word.Close ∷ [])

  pub ands_words : Ands → List Word
  ands_words (factor_alone f) = factor_words f
  ands_words (factor_and f a) = factor_words f ++ word.And ∷ ands_words a

  pub ors_words : Ors → List Word
  ors_words (ands_alone a) = ands_words a
  ors_words (ands_or a o) = ands_words a ++ word.Or ∷ ors_words o

  pub commas_words : Commas → List Word
  commas_words (ors_alone o) = ors_words o
  commas_words (ors_comma o c) = ors_words o ++ word.Comma ∷ commas_words c

-- their trees: all of the parts of `and`, any of those of `or` and `,`
abbrev mutual
  pub factor_tree : Factor → Expr
  factor_tree (a_name n) = expr.Name n
  factor_tree (negation f) = expr.Not (factor_tree f)
  factor_tree (parentheses c) = join operator.Comma (commas_trees c)

  pub ands_trees : Ands → List Expr
  ands_trees (factor_alone f) = factor_tree f ∷ []
  ands_trees (factor_and f a) = factor_tree f ∷ ands_trees a

  pub ors_trees : Ors → List Expr
  ors_trees (ands_alone a) = join operator.And (ands_trees a) ∷ []
  ors_trees (ands_or a o) = join operator.And (ands_trees a) ∷ ors_trees o

  pub commas_trees : Commas → List Expr
  commas_trees (ors_alone o) = join operator.Or (ors_trees o) ∷ []
  commas_trees (ors_comma o c) = join operator.Or (ors_trees o) ∷ commas_trees c

-- no name begins with `@`, and at most so many parentheses and negations are open at a place
abbrev mutual
  pub FactorFits : ℕ → Factor → Type 0
  FactorFits levels (a_name n) = starts_with nat_eq n (codes "@") ≡ false
  FactorFits zero (negation f) = ⊥
  FactorFits (suc levels) (negation f) = FactorFits levels f
  FactorFits zero (parentheses c) = ⊥
  FactorFits (suc levels) (parentheses c) = CommasFit levels c

  pub AndsFit : ℕ → Ands → Type 0
  AndsFit levels (factor_alone f) = FactorFits levels f
  AndsFit levels (factor_and f a) = FactorFits levels f × AndsFit levels a

  pub OrsFit : ℕ → Ors → Type 0
  OrsFit levels (ands_alone a) = AndsFit levels a
  OrsFit levels (ands_or a o) = AndsFit levels a × OrsFit levels o

  pub CommasFit : ℕ → Commas → Type 0
  CommasFit levels (ors_alone o) = OrsFit levels o
  CommasFit levels (ors_comma o c) = OrsFit levels o × CommasFit levels c

-- the words of an expression are read as its tree
abbrev pub SpelledIsRead : Type 0
SpelledIsRead = (levels : ℕ) (c : Commas) → CommasFit levels c → expression (factor levels) (commas_words c) ≡ Some (join operator.Comma (commas_trees c))

-- the words of an expression with this tree
pub record IsSpelled (levels : ℕ) (ws : List Word) (e : Expr) : Type 0 where
  pub parts : Commas
  pub fits : CommasFit levels parts
  pub words : commas_words parts ≡ ws
  pub tree : join operator.Comma (commas_trees parts) ≡ e

-- words that are read as a tree are those of an expression with that tree
abbrev pub ReadIsSpelled : Type 0
ReadIsSpelled = (levels : ℕ) (ws : List Word) (e : Expr) → expression (factor levels) ws ≡ Some e → IsSpelled levels ws e

-- The value of an expression.

-- names are compared without regard to the case of their ASCII letters
unfoldable pub is_same_name : List ℕ → List ℕ → Bool
is_same_name = str_eq_ignore_ascii_case

-- a name is among those given; the other forms from the values of their parts
abbrev pub value_of : List (List ℕ) → Expr-F Bool → Bool
value_of names (Expr-F.Name name) = list_any (is_same_name name) names
value_of names (Expr-F.Not value) = not value
value_of names (Expr-F.All values) = list_all (λ value. value) values
value_of names (Expr-F.Any values) = list_any (λ value. value) values

-- the value of an expression where these names, and no others, are given
abbrev pub holds : List (List ℕ) → Expr → Bool
holds names = fold-Expr Bool (value_of names)
