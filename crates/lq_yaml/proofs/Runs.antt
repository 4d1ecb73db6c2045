-- The machine with its deepest level, over tokens and over lines.
use Rattle.std.proofs.Common.{◌≡◌, ℕ, ◌≤◌, ◌+◌, max, length, arith, List, [], ◌∷◌, ◌++◌, Option, Some, None, option_and_then, option_map, refl, sym, ap, ◌∙◌}
use Rattle.lq_yaml.specs.declared.mode.Mode.{Mode}
use Rattle.lq_yaml.specs.declared.token.Token.{Token}
use Rattle.lq_yaml.specs.declared.token.Token.TheVariants.{Begin, Value, LiteralHeader, LiteralLine}
use Rattle.lq_yaml.specs.Machine.{Deep, deep, own_levels, deeper, deep_step, deep_run, Place, step, run, level_at, reach, reach_by}
use Rattle.lq_yaml.specs.Line.{Lexed, line_tokens, tokens_of}
use Rattle.lq_yaml.specs.Yaml.{State, state, line_step, run_lines}

-- ---- over tokens

max_zero : (k : ℕ) → k ≡ max k 0
max_zero k = omega arith

plus_zero : (k n : ℕ) → max k (n + 0) ≡ max k n
plus_zero k n = omega arith

deeper_is : (k : ℕ) (t : Token) (n : Place) → deeper k (length n.frames) (own_levels t) ≡ max k (level_at t n)
deeper_is k (Begin q h) n = plus_zero k (length n.frames)
deeper_is k (Value q v) n = refl
deeper_is k (LiteralHeader q chomping) n = max_zero k
deeper_is k (LiteralLine l) n = max_zero k

abbrev pub deepened : ℕ → ℕ → Option Place → Option Deep
deepened k reached o = option_map (λ p. deep p (max k reached)) o

max_assoc : (a b c : ℕ) → max (max a b) c ≡ max a (max b c)
max_assoc a b c = omega arith

deep_by : (t : Token) (ts : List Token) (k : ℕ) (o : Option Place) → ((s : Deep) → deep_run ts s ≡ deepened s.levels (reach ts s.at) (run ts s.at))
    → option_and_then (λ n. deep_run ts n) (option_map (λ n. deep n (deeper k (length n.frames) (own_levels t))) o)
    ≡ deepened k (reach_by t (λ n. reach ts n) o) (option_and_then (λ n. run ts n) o)
deep_by t ts k None h = refl
deep_by t ts k (Some n) h =
    ap (λ (j : ℕ). deep_run ts (deep n j)) (deeper_is k t n) ∙ h (deep n (max k (level_at t n)))
    ∙ ap (λ (j : ℕ). option_map (λ p. deep p j) (run ts n)) (max_assoc k (level_at t n) (reach ts n))

pub deep_is : (ts : List Token) (s : Deep) → deep_run ts s ≡ deepened s.levels (reach ts s.at) (run ts s.at)
deep_is [] s = ap (λ (k : ℕ). Some (deep s.at k)) (max_zero s.levels)
deep_is (t ∷ ts) s = deep_by t ts s.levels (step t s.at) (λ n. deep_is ts n)

-- where the deep machine leads, the machine leads
pub record Leads (toks : List Token) (s n : Deep) : Type 0 where
  pub runs : run toks s.at ≡ Some n.at
  pub levels : n.levels ≡ max s.levels (reach toks s.at)

leads_by : (toks : List Token) (s n : Deep) (o : Option Place) → run toks s.at ≡ o → deepened s.levels (reach toks s.at) o ≡ Some n → Leads toks s n
leads_by toks s n None is e = absurd cc
leads_by toks s n (Some p) is e =
    let same : deep p (max s.levels (reach toks s.at)) ≡ n = cc in
    record { runs = is ∙ ap (λ (d : Deep). Some d.at) same; levels = sym (ap (λ (d : Deep). d.levels) same) }

pub leads : (toks : List Token) (s n : Deep) → deep_run toks s ≡ Some n → Leads toks s n
leads toks s n is = leads_by toks s n (run toks s.at) refl (sym (deep_is toks s) ∙ is)

pub leads_back : (toks : List Token) (s : Deep) (p : Place) → run toks s.at ≡ Some p → deep_run toks s ≡ Some (deep p (max s.levels (reach toks s.at)))
leads_back toks s p is = deep_is toks s ∙ ap (λ (o : Option Place). deepened s.levels (reach toks s.at) o) is

along : (a b : List Token) (o : Option Deep) (n : Deep) → ((s : Deep) → deep_run a s ≡ Some n → deep_run (a ++ b) s ≡ deep_run b n)
    → option_and_then (λ s. deep_run a s) o ≡ Some n → option_and_then (λ s. deep_run (a ++ b) s) o ≡ deep_run b n
along a b None n h is = absurd cc
along a b (Some s) n h is = h s is

run_append : (a b : List Token) (s n : Deep) → deep_run a s ≡ Some n → deep_run (a ++ b) s ≡ deep_run b n
run_append [] b s n is = ap (λ (o : Option Deep). option_and_then (λ n. deep_run b n) o) is
run_append (t ∷ a) b s n is = along a b (deep_step t s) n (λ s. run_append a b s n) is

dead_by : (a b : List Token) (o : Option Deep) → ((s : Deep) → deep_run a s ≡ None → deep_run (a ++ b) s ≡ None)
    → option_and_then (λ s. deep_run a s) o ≡ None → option_and_then (λ s. deep_run (a ++ b) s) o ≡ None
dead_by a b None h is = refl
dead_by a b (Some s) h is = h s is

dead : (a b : List Token) (s : Deep) → deep_run a s ≡ None → deep_run (a ++ b) s ≡ None
dead [] b s is = absurd cc
dead (t ∷ a) b s is = dead_by a b (deep_step t s) (λ s. dead a b s) is

-- ---- over lines

none_of : (rest : Option (List Token)) (a : List Token) (s : Deep) → deep_run a s ≡ None → option_and_then (λ toks. deep_run toks s) (option_map (λ b. a ++ b) rest) ≡ None
none_of None a s is = refl
none_of (Some b) a s is = dead a b s is

some_of : (rest : Option (List Token)) (a : List Token) (s n : Deep) → deep_run a s ≡ Some n
    → option_and_then (λ toks. deep_run toks n) rest ≡ option_and_then (λ toks. deep_run toks s) (option_map (λ b. a ++ b) rest)
some_of None a s n is = refl
some_of (Some b) a s n is = sym (run_append a b s n is)

abbrev pub deeps : Option State → Option Deep
deeps o = option_map (λ s. s.deep) o

through : (a : List Token) (m : Mode) (ls : List (List ℕ)) (s : Deep) (o : Option Deep) → deep_run a s ≡ o
    → ((n : State) → deeps (run_lines ls n) ≡ option_and_then (λ toks. deep_run toks n.deep) (tokens_of n.mode ls))
    → deeps (option_and_then (λ n. run_lines ls n) (option_map (λ d. state m d) o)) ≡ option_and_then (λ toks. deep_run toks s) (option_map (λ b. a ++ b) (tokens_of m ls))
through a m ls s None is h = sym (none_of (tokens_of m ls) a s is)
through a m ls s (Some n) is h = h (state m n) ∙ some_of (tokens_of m ls) a s n is

taken_by : (o : Option Lexed) (ls : List (List ℕ)) (s : Deep)
    → ((n : State) → deeps (run_lines ls n) ≡ option_and_then (λ toks. deep_run toks n.deep) (tokens_of n.mode ls))
    → deeps (option_and_then (λ n. run_lines ls n) (option_and_then (λ x. option_map (λ d. state x.1 d) (deep_run x.0 s)) o))
    ≡ option_and_then (λ toks. deep_run toks s) (option_and_then (λ x. option_map (λ b. x.0 ++ b) (tokens_of x.1 ls)) o)
taken_by None ls s h = refl
taken_by (Some x) ls s h = through x.0 x.1 ls s (deep_run x.0 s) refl h

-- the lines are taken as their tokens are
pub taken : (ls : List (List ℕ)) (s : State) → deeps (run_lines ls s) ≡ option_and_then (λ toks. deep_run toks s.deep) (tokens_of s.mode ls)
taken [] s = refl
taken (l ∷ ls) s = taken_by (line_tokens s.mode l) ls s.deep (λ n. taken ls n)

lines_dead_by : (a b : List (List ℕ)) (o : Option State) → ((s : State) → run_lines a s ≡ None → run_lines (a ++ b) s ≡ None)
    → option_and_then (λ s. run_lines a s) o ≡ None → option_and_then (λ s. run_lines (a ++ b) s) o ≡ None
lines_dead_by a b None h is = refl
lines_dead_by a b (Some s) h is = h s is

pub lines_dead : (a b : List (List ℕ)) (s : State) → run_lines a s ≡ None → run_lines (a ++ b) s ≡ None
lines_dead [] b s is = absurd cc
lines_dead (t ∷ a) b s is = lines_dead_by a b (line_step t s) (λ s. lines_dead a b s) is

lines_append_by : (a b : List (List ℕ)) (o : Option State) (n : State) → ((s : State) → run_lines a s ≡ Some n → run_lines (a ++ b) s ≡ run_lines b n)
    → option_and_then (λ s. run_lines a s) o ≡ Some n → option_and_then (λ s. run_lines (a ++ b) s) o ≡ run_lines b n
lines_append_by a b None n h is = absurd cc
lines_append_by a b (Some s) n h is = h s is

pub lines_append : (a b : List (List ℕ)) (s n : State) → run_lines a s ≡ Some n → run_lines (a ++ b) s ≡ run_lines b n
lines_append [] b s n is = ap (λ (o : Option State). option_and_then (λ n. run_lines b n) o) is
lines_append (t ∷ a) b s n is = lines_append_by a b (line_step t s) n (λ s. lines_append a b s n) is

-- where the lines lead, their tokens lead
pub record Tokens (ls : List (List ℕ)) (s : State) (d : Deep) : Type 0 where
  pub toks : List Token
  pub are : tokens_of s.mode ls ≡ Some toks
  pub runs : deep_run toks s.deep ≡ Some d

tokens_by : (ls : List (List ℕ)) (s : State) (d : Deep) (o : Option (List Token)) → tokens_of s.mode ls ≡ o → option_and_then (λ toks. deep_run toks s.deep) o ≡ Some d → Tokens ls s d
tokens_by ls s d None is e = absurd cc
tokens_by ls s d (Some toks) is e = record { toks = toks; are = is; runs = e }

pub tokens : (ls : List (List ℕ)) (s n : State) → run_lines ls s ≡ Some n → Tokens ls s n.deep
tokens ls s n is = tokens_by ls s n.deep (tokens_of s.mode ls) refl (sym (taken ls s) ∙ ap deeps is)

-- and back
pub record State_of (ls : List (List ℕ)) (s : State) (d : Deep) : Type 0 where
  pub state : State
  pub runs : run_lines ls s ≡ Some state
  pub is : state.deep ≡ d

back_by : (ls : List (List ℕ)) (s : State) (d : Deep) (o : Option State) → run_lines ls s ≡ o → deeps o ≡ Some d → State_of ls s d
back_by ls s d None is e = absurd cc
back_by ls s d (Some n) is e = let same : n.deep ≡ d = cc in record { state = n; runs = is; is = same }

pub back : (ls : List (List ℕ)) (s : State) (d : Deep) (toks : List Token) → tokens_of s.mode ls ≡ Some toks → deep_run toks s.deep ≡ Some d → State_of ls s d
back ls s d toks are runs = back_by ls s d (run_lines ls s) refl (taken ls s ∙ ap (λ (o : Option (List Token)). option_and_then (λ toks. deep_run toks s.deep) o) are ∙ runs)

-- the deepest level never falls
pub mono : (ls : List (List ℕ)) (s n : State) → run_lines ls s ≡ Some n → s.deep.levels ≤ n.deep.levels
mono ls s n is = let t = tokens ls s n is in let l = leads t.toks s.deep n.deep t.runs in omega (arith, l.levels)
