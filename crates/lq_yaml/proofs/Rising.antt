-- The tokens of a line stand each deeper than the one before, and dashes stand before all others.
use Rattle.std.proofs.Common.{◌≡◌, ℕ, ◌<◌, ◌+◌, ◌*◌, ◌==◌, cond, List, [], ◌∷◌, ◌++◌, Option, Some, None, option_map, refl, ap, arith, encode_utf8_all}
use Rattle.std.specs.Option.{IfSome}
use Rattle.lq_tree.specs.declared.node.Node.{Node, List as ListNode, Map as MapNode}
use Rattle.lq_yaml.specs.declared.token.Chomping.{Chomping}
use Rattle.lq_yaml.specs.declared.token.Head.TheVariants.{Dash, Key}
use Rattle.lq_yaml.specs.declared.token.Token.{Token}
use Rattle.lq_yaml.specs.declared.token.Token.TheVariants.{Begin, Value, LiteralHeader, LiteralLine}
use Rattle.lq_yaml.specs.Line.{without_blanks, front, scalar_node, is_end, value_if, value_by, value_token, value_tokens, header, behind_pair, key, behind_key, entry_by, entry_tokens, is_dash, tokens_at}
use Rattle.lq_yaml.specs.Laws.{shallow, Rises}
use Rattle.lq_yaml.proofs.Trees.{map_some, then_some, any, either}

-- ---- values

-- a value of that rank
abbrev pub IsAt : ℕ → Token → Type 0
IsAt q (Begin r h) = ⊥
IsAt q (Value r v) = r ≡ q
IsAt q (LiteralHeader r chomping) = r ≡ q
IsAt q (LiteralLine l) = ⊥

value_if_at : (q : ℕ) (v : Node) (rest : List ℕ) → IfSome (value_if q v rest) (IsAt q)
value_if_at q v rest = either (IsAt q) (is_end rest) (Some (Value q v)) None refl tt

value_at : (q : ℕ) (cs : List ℕ) (a b : Option (List ℕ)) (h : Option Chomping) → IfSome (value_by q cs a b h) (IsAt q)
value_at q cs (Some rest) b h = value_if_at q (ListNode []) rest
value_at q cs None (Some rest) h = value_if_at q (MapNode []) rest
value_at q cs None None (Some chomping) = refl
value_at q cs None None None =
    then_some (λ _. Unit {0}) (IsAt q) (λ f. value_if q (scalar_node f) f.rest) (front cs) (λ f u. value_if_at q (scalar_node f) f.rest) (any (front cs))

at_rises : (p q : ℕ) (t : Token) → p < q → IsAt q t → Rises p (t ∷ [])
at_rises p q (Begin r h) lt is = absurd is
at_rises p q (Value r v) lt is = (omega (arith, lt, is), refl)
at_rises p q (LiteralHeader r chomping) lt is = (omega (arith, lt, is), refl)
at_rises p q (LiteralLine l) lt is = absurd is

values_rise : (p q : ℕ) (cs : List ℕ) → p < q → IfSome (value_tokens q cs) (Rises p)
values_rise p q cs lt =
    map_some (IsAt q) (Rises p) (λ t. t ∷ []) (value_token q cs) (λ t is. at_rises p q t lt is) (value_at q cs (behind_pair 91 93 cs) (behind_pair 123 125 cs) (header cs))

-- ---- and what they stand behind

behind_rises : (p q : ℕ) (cs : List ℕ) → p < q → IfSome (behind_key q cs) (Rises p)
behind_rises p q [] lt = tt
behind_rises p q (c ∷ cs) lt = values_rise p q (c ∷ cs) lt

entry_rises : (p column : ℕ) (cs : List ℕ) (k : Option (List ℕ × List ℕ)) → p < 2 * column + 1 → IfSome (entry_by column cs k) (Rises p)
entry_rises p column cs None lt = values_rise p (2 * column + 1) cs lt
entry_rises p column cs (Some k) lt =
    map_some (Rises (2 * column + 1)) (Rises p) (λ ts. Begin (2 * column + 1) (Key (encode_utf8_all k.0)) ∷ ts) (behind_key (2 * column + 2) (without_blanks k.1)) (λ ts h. (lt, h))
    (behind_rises (2 * column + 1) (2 * column + 2) (without_blanks k.1) (omega arith))

pub tokens_rise : (p column : ℕ) (cs : List ℕ) → p < 2 * column + 1 → IfSome (tokens_at column cs) (Rises p)
tokens_rise p column [] lt = tt
tokens_rise p column (c ∷ cs) lt =
    either (Rises p) (c == 32) (tokens_at (column + 1) cs)
    (cond (is_dash c cs) (option_map (λ ts. Begin (2 * column + 2) Dash ∷ ts) (tokens_at (column + 1) cs)) (entry_tokens column (c ∷ cs)))
    (tokens_rise p (column + 1) cs (omega (arith, lt)))
    (either (Rises p) (is_dash c cs) (option_map (λ ts. Begin (2 * column + 2) Dash ∷ ts) (tokens_at (column + 1) cs)) (entry_tokens column (c ∷ cs))
    (map_some (Rises (2 * column + 2)) (Rises p) (λ ts. Begin (2 * column + 2) Dash ∷ ts) (tokens_at (column + 1) cs) (λ ts h. (omega (arith, lt), h))
    (tokens_rise (2 * column + 2) (column + 1) cs (omega arith)))
    (entry_rises p column (c ∷ cs) (key (c ∷ cs)) lt))

-- ---- tokens without a dash in front

abbrev pub Stays : List Token → Type 0
Stays ts = (n : ℕ) → shallow n ts ≡ ts

at_stays : (q : ℕ) (t : Token) → IsAt q t → Stays (t ∷ [])
at_stays q (Begin r h) is n = absurd is
at_stays q (Value r v) is n = refl
at_stays q (LiteralHeader r chomping) is n = refl
at_stays q (LiteralLine l) is n = absurd is

pub entry_stays : (column : ℕ) (cs : List ℕ) (k : Option (List ℕ × List ℕ)) → IfSome (entry_by column cs k) Stays
entry_stays column cs None =
    map_some (IsAt (2 * column + 1)) Stays (λ t. t ∷ []) (value_token (2 * column + 1) cs) (λ t is. at_stays (2 * column + 1) t is)
    (value_at (2 * column + 1) cs (behind_pair 91 93 cs) (behind_pair 123 125 cs) (header cs))
entry_stays column cs (Some k) =
    map_some (λ _. Unit {0}) Stays (λ ts. Begin (2 * column + 1) (Key (encode_utf8_all k.0)) ∷ ts) (behind_key (2 * column + 2) (without_blanks k.1)) (λ ts u n. refl)
    (any (behind_key (2 * column + 2) (without_blanks k.1)))

pub stays_whole : (n : ℕ) (before : List Token) (o : Option (List Token)) → IfSome o Stays → option_map (λ ts. before ++ shallow n ts) o ≡ option_map (λ ts. before ++ ts) o
stays_whole n before None h = refl
stays_whole n before (Some ts) h = ap (λ (l : List Token). Some (before ++ l)) (h n)
