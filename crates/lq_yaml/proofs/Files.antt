-- What is read is laid out, and the line at which the reader stops is the least.
use Rattle.std.proofs.Common.{◌≡◌, ℕ, ◌<◌, ◌≤◌, ◌+◌, ◌-◌, max, Bool, true, false, cond, length, nat_lt, take, get_or, arith, append_assoc, List, [], ◌∷◌, ◌++◌, Option, Some, None, option_and_then, option_map, refl, sym, ap, subst, ◌∙◌, chars, map, nat_le, Result, Ok, Err, IfOk, IfErr, ◌↔◌, drop, ◌⊎◌, inl, inr}
use Rattle.std.proofs.lemmas.Bool.{leb-true, leb-false}
use Rattle.std.proofs.lemmas.Bool.Decides.{nat_tests}
use Rattle.std.proofs.lemmas.List.{append-nil, drop_more, length-append, take-append-drop}
use Rattle.std.proofs.Math.Seq.{drop-length, take-append-add, take-append_seam, take-length}
use Rattle.std.proofs.lemmas.Str.{IsUtf8-from_is_utf8, is_utf8-from_IsUtf8}
use Rattle.std.specs.Str.{IsUtf8, is_utf8}
use Rattle.std.specs.Str.Lines.{lines}
use denote.Ref.{Bor}
use Rattle.lq_tree.specs.declared.node.Node.{Node}
use Rattle.lq_yaml.specs.declared.fault.YamlFault.{YamlFault}
use Rattle.lq_yaml.specs.declared.fault.YamlFault.TheVariants.{NotUtf8, Line, TooDeep, OutOfMemory}
use Rattle.lq_yaml.specs.declared.mode.Mode.{Mode}
use Rattle.lq_yaml.specs.declared.mode.Mode.TheVariants.{Fresh, Between, AfterHeader, InLiteral}
use Rattle.lq_yaml.specs.declared.token.Head.TheVariants.{Dash}
use Rattle.lq_yaml.specs.declared.token.Token.{Token}
use Rattle.lq_yaml.specs.declared.token.Token.TheVariants.{Begin}
use Rattle.lq_yaml.specs.Machine.{Deep, deep, deep_start, deep_run, start, finish, reach}
use Rattle.lq_yaml.specs.Yaml.{shown_lines, State, state, file_start, line_step, run_lines, IsYaml, TreesAreLaidOut, after_line, at_end, lines_tree, text_tree, yaml_tree}
use Rattle.lq_yaml.specs.File.{lines_of, Blames, IsLaidOut, Begins, BeginsDeep, IsLeast, IsWrong, IsTooDeep, IsRead, LinesLayOutOne}
use Rattle.lq_yaml.specs.Line.{Lexed, line_tokens}
use Rattle.lq_yaml.specs.Tree.{Tree, levels, node_of}
use Rattle.lq_yaml.proofs.Complete.{above, complete, not_above}
use Rattle.lq_yaml.proofs.Sound as sound
use Rattle.lq_yaml.proofs.LineForms.{file_found, file_written}
use Rattle.lq_yaml.proofs.Runs.{leads, leads_back, tokens, back, mono, lines_dead, lines_append}

-- ---- sound and complete

-- a tree that means the node is laid out, as deep as was counted
pub record Read (ls : List (List ℕ)) (node : Node) (deepest : ℕ) : Type 0 where
  pub tree : Tree
  pub lays : IsLaidOut ls tree
  pub means : node_of tree ≡ node
  pub levels : levels tree ≡ deepest

max_none : (k : ℕ) → max 0 k ≡ k
max_none k = omega arith

pub read : (ls : List (List ℕ)) (s : State) (n : Node) → run_lines ls file_start ≡ Some s → finish s.deep.at ≡ Some n → Read ls n s.deep.levels
read ls s n is end =
    let t = tokens ls file_start s is in
    let l = leads t.toks deep_start s.deep t.runs in
    let x = sound.sound t.toks s.deep.at n l.runs end in
    let r = complete x.tree t.toks x.lays in
    record {
      tree = x.tree;
      lays = (t.toks, file_found ls t.toks t.are, x.lays);
      means = x.means;
      levels = sym r.deep ∙ sym (max_none (reach t.toks start)) ∙ sym l.levels;
    }

pub is_read : (ls : List (List ℕ)) (s : State) (n : Node) → run_lines ls file_start ≡ Some s → finish s.deep.at ≡ Some n → s.deep.levels ≤ 64 → IsRead ls n
is_read ls s n is end le = let r = read ls s n is end in (r.tree, r.lays, subst (λ (k : ℕ). k ≤ 64) (sym r.levels) le, r.means)

-- the lines of a layout lead to its node
pub record Ends (ls : List (List ℕ)) (t : Tree) : Type 0 where
  pub state : State
  pub runs : run_lines ls file_start ≡ Some state
  pub ends : finish state.deep.at ≡ Some (node_of t)
  pub levels : state.deep.levels ≡ levels t

pub ends : (ls : List (List ℕ)) (t : Tree) → IsLaidOut ls t → Ends ls t
ends ls t lay =
    let r = complete t lay.0 lay.2 in
    let b = back ls file_start (deep r.at (max 0 (reach lay.0 start))) lay.0 (file_written ls lay.0 lay.1) (leads_back lay.0 deep_start r.at r.runs) in
    record {
      state = b.state;
      runs = b.runs;
      ends = ap (λ (d : Deep). finish d.at) b.is ∙ r.ends;
      levels = ap (λ (d : Deep). d.levels) b.is ∙ max_none (reach lay.0 start) ∙ r.deep;
    }

pub one_tree : LinesLayOutOne
one_tree ls t u a b =
    let x = ends ls t a in
    let y = ends ls u b in
    let same : x.state ≡ y.state = cc (x.runs, y.runs) in
    let e : finish x.state.deep.at ≡ finish y.state.deep.at = ap (λ (s : State). finish s.deep.at) same in
    cc (x.ends, y.ends, e)

-- ---- what was taken begins a layout

-- a line that is a dash goes on where nothing has begun
dash_line : (m : Mode) → line_tokens m (45 ∷ []) ≡ Some (Begin 2 Dash ∷ [], Between 0)
dash_line Fresh = refl
dash_line (Between p) = refl
dash_line (AfterHeader p) = rw (not_above p 0 (omega arith)) refl
dash_line (InLiteral p b) = rw (not_above p 0 (omega arith)) refl

-- some layout begins so, as deep as was counted or of one level
pub record Begun (ls : List (List ℕ)) (deepest : ℕ) : Type 0 where
  pub more : List (List ℕ)
  pub tree : Tree
  pub levels : levels tree ≤ max 1 deepest
  pub lays : IsLaidOut (ls ++ more) tree

one_dash : (m : Mode) (d : Deep) → d ≡ deep_start → (n : State) × (line_step (45 ∷ []) (state m d) ≡ Some n) × ((x : Node) × (finish n.deep.at ≡ Some x)) × (n.deep.levels ≡ 1)
one_dash m d is = subst (λ (d : Deep). (n : State) × (line_step (45 ∷ []) (state m d) ≡ Some n) × ((x : Node) × (finish n.deep.at ≡ Some x)) × (n.deep.levels ≡ 1)) (sym is)
    (_, ap (λ (o : Option Lexed). option_and_then (λ x. option_map (λ d. state x.1 d) (deep_run x.0 deep_start)) o) (dash_line m), (_, refl), refl)

just : (o : Option State) → option_and_then (λ n. Some n) o ≡ o
just None = refl
just (Some s) = refl

at_start : (toks : List Token) (d : Deep) → toks ≡ [] → deep_run toks deep_start ≡ Some d → d ≡ deep_start
at_start toks d is runs =
    let e : deep_run [] deep_start ≡ Some d = ap (λ (l : List Token). deep_run l deep_start) (sym is) ∙ runs in
    cc

begun_by : (ls : List (List ℕ)) (s : State) → run_lines ls file_start ≡ Some s → (o : Option Node) → finish s.deep.at ≡ o → Begun ls s.deep.levels
begun_by ls s is (Some n) end =
    let r = read ls s n is end in
    record { more = []; tree = r.tree; levels = omega (arith, r.levels); lays = subst (λ (l : List (List ℕ)). IsLaidOut l r.tree) (sym (append-nil ls)) r.lays }
begun_by ls s is None end =
    let t = tokens ls file_start s is in
    let l = leads t.toks deep_start s.deep t.runs in
    let none = sound.nothing_yet t.toks s.deep.at l.runs end in
    let d = one_dash s.mode s.deep (at_start t.toks s.deep none t.runs) in
    let runs = lines_append ls ((45 ∷ []) ∷ []) file_start s is ∙ just (line_step (45 ∷ []) s) ∙ d.1 in
    let r = read (ls ++ (45 ∷ []) ∷ []) d.0 d.2.0 runs d.2.1 in
    record { more = (45 ∷ []) ∷ []; tree = r.tree; levels = omega (arith, r.levels, d.3); lays = r.lays }

pub begun : (ls : List (List ℕ)) (s : State) → run_lines ls file_start ≡ Some s → Begun ls s.deep.levels
begun ls s is = begun_by ls s is (finish s.deep.at) refl

begins : (ls : List (List ℕ)) (s : State) → run_lines ls file_start ≡ Some s → s.deep.levels ≤ 64 → Begins ls
begins ls s is le = let b = begun ls s is in (b.more, b.tree, omega (arith, b.levels, le), b.lays)

begins_deep : (ls : List (List ℕ)) (s : State) → run_lines ls file_start ≡ Some s → BeginsDeep ls
begins_deep ls s is = let b = begun ls s is in (b.more, b.tree, b.lays)

shallow : (ls : List (List ℕ)) → Begins ls → BeginsDeep ls
shallow ls b = (b.0, b.1, b.3)

-- ---- and what was refused begins none

refused : (ls : List (List ℕ)) → run_lines ls file_start ≡ None → BeginsDeep ls → ⊥
refused ls is b =
    let e = ends (ls ++ b.0) b.1 b.2 in
    let none = lines_dead ls b.0 file_start is in
    cc (e.runs, none)

too_deep : (ls : List (List ℕ)) (s : State) → run_lines ls file_start ≡ Some s → 64 < s.deep.levels → Begins ls → ⊥
too_deep ls s is lt b =
    let e = ends (ls ++ b.0) b.1 b.3 in
    let on : run_lines b.0 s ≡ Some e.state = sym (lines_append ls b.0 file_start s is) ∙ e.runs in
    let up = mono b.0 s e.state on in
    absurd (omega (arith, lt, up, e.levels, b.2))

least : (ls : List (List ℕ)) (n : ℕ) (s : State) → n < length ls → run_lines (take n ls) file_start ≡ Some s → s.deep.levels ≤ 64 → (Begins (take (n + 1) ls) → ⊥) → IsLeast ls (n + 1)
least ls n s lt runs le none =
    let same : n + 1 - 1 ≡ n = omega arith in
    record {
      some = omega arith;
      within = omega arith;
      before = subst (λ (k : ℕ). Begins (take k ls)) (sym same) (begins (take n ls) s runs le);
      none = λ within b. none b;
      end = λ gt t le lay. absurd (omega arith);
    }

least_end : (ls : List (List ℕ)) (s : State) → run_lines ls file_start ≡ Some s → s.deep.levels ≤ 64 → finish s.deep.at ≡ None → IsLeast ls (length ls + 1)
least_end ls s runs le none =
    let same : length ls + 1 - 1 ≡ length ls = omega arith in
    let all : take (length ls + 1 - 1) ls ≡ ls = ap (λ (k : ℕ). take k ls) same ∙ take-length ls in
    record {
      some = omega arith;
      within = omega arith;
      before = subst (λ (l : List (List ℕ)). Begins l) (sym all) (begins ls s runs le);
      none = λ within b. absurd (omega arith);
      end = λ gt t deep lay.
          let e = ends ls t lay in
          let same : s ≡ e.state = cc (runs, e.runs) in
          let at : finish s.deep.at ≡ finish e.state.deep.at = ap (λ (s : State). finish s.deep.at) same in
          cc (none, e.ends, at);
    }

-- ---- with each line in its turn

-- one line more
one_line : (before : List (List ℕ)) (l : List ℕ) (s : State) → run_lines before file_start ≡ Some s → run_lines (before ++ l ∷ []) file_start ≡ line_step l s
one_line before l s is = lines_append before (l ∷ []) file_start s is ∙ just (line_step l s)

far : (before rest : List (List ℕ)) (l : List ℕ) → length before < length (before ++ l ∷ rest)
far before rest l = let is = length-append before (l ∷ rest) in omega (arith, is)

taken : (before rest : List (List ℕ)) (s : State) → run_lines before file_start ≡ Some s → run_lines (take (length before) (before ++ rest)) file_start ≡ Some s
taken before rest s is = ap (λ (l : List (List ℕ)). run_lines l file_start) (take-append_seam before rest) ∙ is

taken_more : (before rest : List (List ℕ)) (l : List ℕ) (s : State) → run_lines before file_start ≡ Some s
    → run_lines (take (length before + 1) (before ++ l ∷ rest)) file_start ≡ line_step l s
taken_more before rest l s is = ap (λ (l : List (List ℕ)). run_lines l file_start) (take-append-add before (l ∷ rest) 1) ∙ one_line before l s is

wrong : (before rest : List (List ℕ)) (l : List ℕ) (s : State) → run_lines before file_start ≡ Some s → s.deep.levels ≤ 64
    → line_step l s ≡ None → IsWrong (before ++ l ∷ rest) (length before + 1)
wrong before rest l s is le no_step =
    let any = refused (take (length before + 1) (before ++ l ∷ rest)) (taken_more before rest l s is ∙ no_step) in
    record {
      least = least (before ++ l ∷ rest) (length before) s (far before rest l) (taken before (l ∷ rest) s is) le (λ b. any (shallow (take (length before + 1) (before ++ l ∷ rest)) b));
      any = λ within b. any b;
    }

deep_line : (before rest : List (List ℕ)) (l : List ℕ) (s n : State) → run_lines before file_start ≡ Some s → s.deep.levels ≤ 64
    → line_step l s ≡ Some n → 64 < n.deep.levels → IsTooDeep (before ++ l ∷ rest)
deep_line before rest l s n is le stepped gt =
    let on : run_lines (take (length before + 1) (before ++ l ∷ rest)) file_start ≡ Some n = taken_more before rest l s is ∙ stepped in
    let within = far before rest l in
    record {
      line = length before + 1;
      within = omega (arith, within);
      least = least (before ++ l ∷ rest) (length before) s within (taken before (l ∷ rest) s is) le (λ b. too_deep (take (length before + 1) (before ++ l ∷ rest)) n on gt b);
      deep = begins_deep (take (length before + 1) (before ++ l ∷ rest)) n on;
    }

-- what is read says this of the lines
abbrev pub Says : List (List ℕ) → Result Node YamlFault → Type 0
Says ls (Ok node) = IsRead ls node
Says ls (Err NotUtf8) = ⊥
Says ls (Err (Line n)) = IsWrong ls n
Says ls (Err TooDeep) = IsTooDeep ls
Says ls (Err OutOfMemory) = ⊥

at_its_end : (ls : List (List ℕ)) (s : State) → run_lines ls file_start ≡ Some s → s.deep.levels ≤ 64 → (o : Option Node) → finish s.deep.at ≡ o → Says ls (at_end (length ls + 1) o)
at_its_end ls s is le None end = record { least = least_end ls s is le end; any = λ within b. absurd (omega arith) }
at_its_end ls s is le (Some node) end = is_read ls s node is end le

gt_of : (q r : ℕ) → nat_lt q r ≡ true → q < r
gt_of q r is = grind (arith, nat_tests)

le_of : (q r : ℕ) → nat_lt q r ≡ false → r ≤ q
le_of q r is = grind (arith, nat_tests)

by_depth : (before rest : List (List ℕ)) (l : List ℕ) (s n : State) → run_lines before file_start ≡ Some s → s.deep.levels ≤ 64 → line_step l s ≡ Some n
    → (n.deep.levels ≤ 64 → Says (before ++ l ∷ rest) (lines_tree (length before + 1 + 1) rest n))
    → (b : Bool) → nat_lt 64 n.deep.levels ≡ b → Says (before ++ l ∷ rest) (cond b (Err TooDeep) (lines_tree (length before + 1 + 1) rest n))
by_depth before rest l s n is le stepped more true deep = deep_line before rest l s n is le stepped (gt_of 64 n.deep.levels deep)
by_depth before rest l s n is le stepped more false deep = more (le_of 64 n.deep.levels deep)

by_step : (before rest : List (List ℕ)) (l : List ℕ) (s : State) → run_lines before file_start ≡ Some s → s.deep.levels ≤ 64
    → ((n : State) → line_step l s ≡ Some n → n.deep.levels ≤ 64 → Says (before ++ l ∷ rest) (lines_tree (length before + 1 + 1) rest n))
    → (o : Option State) → line_step l s ≡ o → Says (before ++ l ∷ rest) (after_line (length before + 1) (lines_tree (length before + 1 + 1) rest) o)
by_step before rest l s is le more None stepped = wrong before rest l s is le stepped
by_step before rest l s is le more (Some n) stepped = by_depth before rest l s n is le stepped (more n stepped) (nat_lt 64 n.deep.levels) refl

says_from : (before ls : List (List ℕ)) (s : State) → run_lines before file_start ≡ Some s → s.deep.levels ≤ 64 → Says (before ++ ls) (lines_tree (length before + 1) ls s)
says_from before [] s is le =
    subst (λ (l : List (List ℕ)). Says l (at_end (length before + 1) (finish s.deep.at))) (sym (append-nil before)) (at_its_end before s is le (finish s.deep.at) refl)
says_from before (l ∷ ls) s is le =
    by_step before ls l s is le (λ n stepped low.
    subst (λ (k : ℕ). Says (before ++ l ∷ ls) (lines_tree (k + 1) ls n)) (length-append before (l ∷ []))
    (subst (λ (all : List (List ℕ)). Says all (lines_tree (length (before ++ l ∷ []) + 1) ls n)) (append_assoc before (l ∷ []) ls)
    (says_from (before ++ l ∷ []) ls n (one_line before l s is ∙ stepped) low))) (line_step l s) refl

pub says : (ls : List (List ℕ)) → Says ls (text_tree ls)
unfolding text_tree
says ls = says_from [] ls file_start refl (omega arith)

-- ---- the reader's loop

pub begun_tree : (xs : List (Bor (List ℕ))) (s : State) → s ≡ file_start → text_tree (shown_lines xs) ≡ lines_tree (0 + 1) (shown_lines (drop 0 xs)) s
unfolding text_tree
begun_tree xs s is = ap (lines_tree 1 (shown_lines xs)) (sym is)

tree_at : (xs : List (Bor (List ℕ))) (i : ℕ) (d : Bor (List ℕ)) (s : State) → i < length xs
    → lines_tree (i + 1) (shown_lines (drop i xs)) s ≡ after_line (i + 1) (lines_tree (i + 1 + 1) (shown_lines (drop (i + 1) xs))) (line_step (chars (get_or xs i d).now) s)
tree_at xs i d s lt = ap (λ (l : List (Bor (List ℕ))). lines_tree (i + 1) (shown_lines l) s) (drop_more xs i d lt)

pub stepped : (xs : List (Bor (List ℕ))) (i : ℕ) (d : Bor (List ℕ)) (s n : State) (t : Result Node YamlFault) → i < length xs → t ≡ lines_tree (i + 1) (shown_lines (drop i xs)) s
    → line_step (chars (get_or xs i d).now) s ≡ Some n → n.deep.levels ≤ 64 → t ≡ lines_tree (i + 1 + 1) (shown_lines (drop (i + 1) xs)) n
stepped xs i d s n t lt is step low =
    is ∙ tree_at xs i d s lt
    ∙ ap (λ (o : Option State). after_line (i + 1) (lines_tree (i + 1 + 1) (shown_lines (drop (i + 1) xs))) o) step
    ∙ ap (λ (b : Bool). cond b (Err TooDeep) (lines_tree (i + 1 + 1) (shown_lines (drop (i + 1) xs)) n)) (not_above 64 n.deep.levels low)

pub stuck : (xs : List (Bor (List ℕ))) (i : ℕ) (d : Bor (List ℕ)) (s : State) (t : Result Node YamlFault) → i < length xs → t ≡ lines_tree (i + 1) (shown_lines (drop i xs)) s
    → line_step (chars (get_or xs i d).now) s ≡ None → t ≡ Err (Line (i + 1))
stuck xs i d s t lt is step =
    is ∙ tree_at xs i d s lt ∙ ap (λ (o : Option State). after_line (i + 1) (lines_tree (i + 1 + 1) (shown_lines (drop (i + 1) xs))) o) step

pub deeper : (xs : List (Bor (List ℕ))) (i : ℕ) (d : Bor (List ℕ)) (s n : State) (t : Result Node YamlFault) → i < length xs → t ≡ lines_tree (i + 1) (shown_lines (drop i xs)) s
    → line_step (chars (get_or xs i d).now) s ≡ Some n → 64 < n.deep.levels → t ≡ Err TooDeep
deeper xs i d s n t lt is step high =
    is ∙ tree_at xs i d s lt
    ∙ ap (λ (o : Option State). after_line (i + 1) (lines_tree (i + 1 + 1) (shown_lines (drop (i + 1) xs))) o) step
    ∙ ap (λ (b : Bool). cond b (Err TooDeep) (lines_tree (i + 1 + 1) (shown_lines (drop (i + 1) xs)) n)) (above 64 n.deep.levels high)

pub ended : (xs : List (Bor (List ℕ))) (i : ℕ) (s : State) (t : Result Node YamlFault) (o : Option Node) → i ≡ length xs → t ≡ lines_tree (i + 1) (shown_lines (drop i xs)) s
    → finish s.deep.at ≡ o → t ≡ at_end (length xs + 1) o
ended xs i s t o end is found =
    is ∙ ap (λ (k : ℕ). lines_tree (k + 1) (shown_lines (drop k xs)) s) end
    ∙ ap (λ (l : List (Bor (List ℕ))). lines_tree (length xs + 1) (shown_lines l) s) (drop-length xs)
    ∙ ap (at_end (length xs + 1)) found

-- ---- the lines of a text

shown_map : (ls : List (Bor (List ℕ))) → shown_lines ls ≡ map chars (map (λ l. l.now) ls)
shown_map [] = refl
shown_map (l ∷ ls) = ap (λ (m : List (List ℕ)). chars l.now ∷ m) (shown_map ls)

pub shown : (text : List ℕ) (ls : List (Bor (List ℕ))) → map (λ l. l.now) ls ≡ lines text → shown_lines ls ≡ lines_of text
shown text ls is = shown_map ls ∙ ap (λ (m : List (List ℕ)). map chars m) is

pub found_in : (text : List ℕ) (ls : List (Bor (List ℕ))) (r : Result Node YamlFault) → map (λ l. l.now) ls ≡ lines text
    → (r ≡ Err OutOfMemory) ⊎ (r ≡ text_tree (shown_lines ls)) → (r ≡ Err OutOfMemory) ⊎ (r ≡ text_tree (lines_of text))
found_in text ls r is found = subst (λ (l : List (List ℕ)). (r ≡ Err OutOfMemory) ⊎ (r ≡ text_tree l)) (shown text ls is) found

-- ---- UTF-8

pub utf8 : (bytes : List ℕ) (ls : List (List ℕ)) (r : Result Node YamlFault) → IsUtf8 bytes → IfErr r (Blames ls) → (r ≡ Err NotUtf8) ↔ (¬ IsUtf8 bytes)
utf8 bytes ls (Ok n) is h = (λ e. absurd cc, λ bad. absurd (bad is))
utf8 bytes ls (Err NotUtf8) is h = absurd h
utf8 bytes ls (Err (Line n)) is h = (λ e. absurd cc, λ bad. absurd (bad is))
utf8 bytes ls (Err TooDeep) is h = (λ e. absurd cc, λ bad. absurd (bad is))
utf8 bytes ls (Err OutOfMemory) is h = (λ e. absurd cc, λ bad. absurd (bad is))

-- ---- what is laid out is read

all_of : (n : ℕ) (ls : List (List ℕ)) (node : Node) → IsRead ls node → Begins (take n ls)
all_of n ls node r = (drop n ls, r.0, r.2, subst (λ (l : List (List ℕ)). IsLaidOut l r.0) (sym (take-append-drop n ls)) r.1)

not_least_by : (ls : List (List ℕ)) (n : ℕ) (node : Node) (b : Bool) → nat_le n (length ls) ≡ b → IsLeast ls n → IsRead ls node → ⊥
not_least_by ls n node true is l r = l.none (leb-true n (length ls) is) (all_of n ls node r)
not_least_by ls n node false is l r = l.end (leb-false n (length ls) is) r.0 r.2 r.1

not_least : (ls : List (List ℕ)) (n : ℕ) (node : Node) → IsLeast ls n → IsRead ls node → ⊥
not_least ls n node = not_least_by ls n node (nat_le n (length ls)) refl

same_node : (ls : List (List ℕ)) (m n : Node) → IsRead ls m → IsRead ls n → m ≡ n
same_node ls m n a b = sym a.3 ∙ one_tree ls a.0 b.0 a.1 b.1 ∙ b.3

-- where lines lay out a node, it is the answer, or memory ran out
pub whole : (ls : List (List ℕ)) (r : Result Node YamlFault) (node : Node) → IfOk r (λ found. IsRead ls found) → IfErr r (Blames ls) → IsRead ls node → (r ≡ Ok node) ⊎ (r ≡ Err OutOfMemory)
whole ls (Ok found) node ok err r = inl (ap Ok (same_node ls found node ok r))
whole ls (Err NotUtf8) node ok err r = absurd err
whole ls (Err (Line n)) node ok err r = absurd (not_least ls n node err.least r)
whole ls (Err TooDeep) node ok err r = absurd (not_least ls err.line node err.least r)
whole ls (Err OutOfMemory) node ok err r = inr refl

-- ---- what is read by the function

ok_says : (ls : List (List ℕ)) (r : Result Node YamlFault) → Says ls r → IfOk r (λ node. IsRead ls node)
ok_says ls (Ok node) says = says
ok_says ls (Err fault) says = tt

err_says : (ls : List (List ℕ)) (r : Result Node YamlFault) → Says ls r → IfErr r (λ fault. Blames ls fault)
err_says ls (Ok node) says = tt
err_says ls (Err NotUtf8) says = says
err_says ls (Err (Line n)) says = says
err_says ls (Err TooDeep) says = says
err_says ls (Err OutOfMemory) says = tt

pub ok_found : (ls : List (List ℕ)) (r : Result Node YamlFault) → (r ≡ Err OutOfMemory) ⊎ (r ≡ text_tree ls) → IfOk r (λ node. IsRead ls node)
ok_found ls r (inl none) = subst (λ (r : Result Node YamlFault). IfOk r (λ node. IsRead ls node)) (sym none) tt
ok_found ls r (inr is) = ok_says ls r (subst (Says ls) (sym is) (says ls))

pub err_found : (ls : List (List ℕ)) (r : Result Node YamlFault) → (r ≡ Err OutOfMemory) ⊎ (r ≡ text_tree ls) → IfErr r (λ fault. Blames ls fault)
err_found ls r (inl none) = subst (λ (r : Result Node YamlFault). IfErr r (λ fault. Blames ls fault)) (sym none) tt
err_found ls r (inr is) = err_says ls r (subst (Says ls) (sym is) (says ls))

of_text : (bytes : List ℕ) → IsUtf8 bytes → (r : Result Node YamlFault) → Says (lines_of bytes) r → IsYaml bytes r
of_text bytes utf (Ok found) is = record {
  tree = λ node. (λ e. (utf, subst (IsRead (lines_of bytes)) (let same : found ≡ node = cc in same) is), λ r. ap Ok (same_node (lines_of bytes) found node is r.1));
  not_utf8 = (λ e. absurd cc, λ bad. absurd (bad utf));
  line = λ n e. absurd cc;
  deep = λ e. absurd cc;
  memory = λ e. absurd cc;
}
of_text bytes utf (Err NotUtf8) is = absurd is
of_text bytes utf (Err (Line k)) is = record {
  tree = λ node. (λ e. absurd cc, λ r. absurd (not_least (lines_of bytes) k node is.least r.1));
  not_utf8 = (λ e. absurd cc, λ bad. absurd (bad utf));
  line = λ n e. subst (IsWrong (lines_of bytes)) (let same : k ≡ n = cc in same) is;
  deep = λ e. absurd cc;
  memory = λ e. absurd cc;
}
of_text bytes utf (Err TooDeep) is = record {
  tree = λ node. (λ e. absurd cc, λ r. absurd (not_least (lines_of bytes) is.line node is.least r.1));
  not_utf8 = (λ e. absurd cc, λ bad. absurd (bad utf));
  line = λ n e. absurd cc;
  deep = λ e. is;
  memory = λ e. absurd cc;
}
of_text bytes utf (Err OutOfMemory) is = absurd is

no_text : (bytes : List ℕ) → ¬ IsUtf8 bytes → IsYaml bytes (Err NotUtf8)
no_text bytes bad = record {
  tree = λ node. (λ e. absurd cc, λ r. absurd (bad r.0));
  not_utf8 = (λ e. bad, λ bad. refl);
  line = λ n e. absurd cc;
  deep = λ e. absurd cc;
  memory = λ e. absurd cc;
}

by_test : (bytes : List ℕ) (b : Bool) → is_utf8 bytes ≡ b → IsYaml bytes (cond b (text_tree (lines_of bytes)) (Err NotUtf8))
by_test bytes true is = of_text bytes (IsUtf8-from_is_utf8 bytes is) (text_tree (lines_of bytes)) (says (lines_of bytes))
by_test bytes false is = no_text bytes (λ utf. let yes = is_utf8-from_IsUtf8 bytes utf in absurd cc)

pub trees : TreesAreLaidOut
unfolding yaml_tree
trees bytes = by_test bytes (is_utf8 bytes) refl

pub utf8_tree : (bytes : List ℕ) → IsUtf8 bytes → yaml_tree bytes ≡ text_tree (lines_of bytes)
unfolding yaml_tree
utf8_tree bytes is = ap (λ (b : Bool). cond b (text_tree (lines_of bytes)) (Err NotUtf8)) (is_utf8-from_IsUtf8 bytes is)

pub other_tree : (bytes : List ℕ) → ¬ IsUtf8 bytes → yaml_tree bytes ≡ Err NotUtf8
other_tree bytes bad = (trees bytes).not_utf8.1 bad

pub utf8_found : (bytes : List ℕ) (r : Result Node YamlFault) → IsUtf8 bytes → (r ≡ Err OutOfMemory) ⊎ (r ≡ text_tree (lines_of bytes)) → (r ≡ Err OutOfMemory) ⊎ (r ≡ yaml_tree bytes)
utf8_found bytes r is found = subst (λ (t : Result Node YamlFault). (r ≡ Err OutOfMemory) ⊎ (r ≡ t)) (sym (utf8_tree bytes is)) found
