-- The expression that words spell: the words are split at their loosest operator outside parentheses.
use Rattle.std.specs.List.{starts_with}
use Rattle.std.specs.Prelude.{Bool, Err, List, None, Ok, Option, Result, Some, [], codes, false, if◌then◌else◌, nat_eq, option_and_then, option_map, suc, true, zero, ℕ, ◌&&◌, ◌-◌, ◌==◌, ◌∷◌}
use Rattle.lq_expr.specs.Words.{longer, words}
use Rattle.lq_expr.specs.declared.expr.Expr.{Expr}
use Rattle.lq_expr.specs.declared.expr.Expr.TheVariants as expr
use Rattle.lq_expr.specs.declared.expr.ExprFault.{ExprFault}
use Rattle.lq_expr.specs.declared.expr.ExprFault.TheVariants.{NotExpr}
use Rattle.lq_operators.specs.Operators.{is_operator}
use Rattle.lq_operators.specs.declared.operator.Operator.{Operator}
use Rattle.lq_operators.specs.declared.operator.Operator.TheVariants.{And, Comma, Or}
use Rattle.lq_operators.specs.declared.word.Word.{Word}
use Rattle.lq_operators.specs.declared.word.Word.TheVariants as word

-- how many parentheses are open behind a word
abbrev pub depth_after : Word → ℕ → ℕ
depth_after word.Open depth = suc depth
depth_after word.Close depth = depth - 1
depth_after _ depth = depth

-- an operator outside parentheses
abbrev pub is_cut : Operator → ℕ → Word → Bool
is_cut operator depth w = depth == 0 && is_operator operator w

-- the words cut at each such operator outside parentheses, where so many are open before them
unfoldable pub cut : Operator → ℕ → List Word → List (List Word)
cut operator depth [] = [] ∷ []
cut operator depth (w ∷ ws) =
    if is_cut operator depth w then [] ∷ cut operator 0 ws else longer w (cut operator (depth_after w depth) ws)

-- each one, if each is there
abbrev pub each : {A B : Type 0} → (A → Option B) → List A → Option (List B)
each f [] = Some []
each f (a ∷ as_) = option_and_then (λ b. option_map (λ more. b ∷ more) (each f as_)) (f a)

-- one part is itself; `,` and `or` want any of the parts, `and` wants all
abbrev pub join : Operator → List Expr → Expr
join operator (e ∷ []) = e
join And es = expr.All es
join _ es = expr.Any es

-- the parts between such operators, joined
abbrev pub joined : Operator → (List Word → Option Expr) → List Word → Option Expr
joined operator part ws = option_map (join operator) (each part (cut operator 0 ws))

-- what stands between such operators, from the loosest to the tightest
abbrev pub tighter : Operator → (List Word → Option Expr) → List Word → Option Expr
tighter And factor = factor
tighter Or factor = joined And factor
tighter Comma factor = joined Or (joined And factor)

-- words split at `,`, the parts at `or`, theirs at `and`
abbrev pub expression : (List Word → Option Expr) → List Word → Option Expr
expression factor = joined Comma (tighter Comma factor)

-- the words before a `)` at the end
abbrev pub inside : List Word → Option (List Word)
inside [] = None
inside (word.Close ∷ []) = Some []
inside (w ∷ ws) = option_map (λ more. w ∷ more) (inside ws)

-- the name, unless it begins with `@`
abbrev pub named : List ℕ → Option Expr
named n = if starts_with nat_eq n (codes "@") then None else Some (expr.Name n)

-- one word that is a name
abbrev pub name : List Word → Option Expr
name (word.Name n ∷ []) = named n
name _ = None

-- a name, a negation or an expression in parentheses, with so many levels at most
unfoldable pub factor : ℕ → List Word → Option Expr
factor zero ws = name ws
factor (suc levels) (word.Not ∷ ws) = option_map expr.Not (factor levels ws)
factor (suc levels) (word.Open ∷ ws) = option_and_then (expression (factor levels)) (inside ws)
factor (suc levels) ws = name ws

-- `NotExpr` where there is none
abbrev pub or_fault : Option Expr → Result Expr ExprFault
or_fault (Some e) = Ok e
or_fault None = Err NotExpr

-- what a text is read as, were there memory enough
abbrev pub parsed : List ℕ → Result Expr ExprFault
parsed text = or_fault (expression (factor 64) (words text))

-- Names with commas between.

-- the name, unless it begins with `@`
abbrev pub label_named : List ℕ → Option (List ℕ)
label_named n = if starts_with nat_eq n (codes "@") then None else Some n

-- one word that is a name
abbrev pub label_name : List Word → Option (List ℕ)
label_name (word.Name n ∷ []) = label_named n
label_name _ = None

-- no words are no names; else the words cut at each comma are a name each
abbrev pub names_in : List Word → Option (List (List ℕ))
names_in [] = Some []
names_in (w ∷ ws) = each label_name (cut Comma 0 (w ∷ ws))

-- `NotExpr` where there are none
abbrev pub names_or_fault : Option (List (List ℕ)) → Result (List (List ℕ)) ExprFault
names_or_fault (Some names) = Ok names
names_or_fault None = Err NotExpr

-- the names that a text lists, were there memory enough
abbrev pub parsed_names : List ℕ → Result (List (List ℕ)) ExprFault
parsed_names text = names_or_fault (names_in (words text))
