-- The lines of a file are made of what is found in them.
use Rattle.std.proofs.Common.{◌≡◌, ℕ, zero, suc, ◌+◌, ◌-◌, ◌*◌, ◌/◌, ◌<◌, ◌≤◌, Bool, true, false, cond, ◌&&◌, ◌==◌, nat_lt, nat_le, List, [], ◌∷◌, ◌++◌, drop, Option, Some, None, option_map, option_and_then, refl, sym, ap, subst, ◌∙◌, ◌⊎◌, inl, inr, append_assoc, arith, encode_utf8_all, add-one, if◌then◌else◌}
use Rattle.std.proofs.lemmas.Bool.{eqb-true, ltb-true, ltb-false, leb-true, leb-false, lt-ltb, le-leb, false_from_ne_true}
use Rattle.std.proofs.lemmas.List.{append-nil, length-replicate, replicate-append-replicate}
use Rattle.std.proofs.Math.Seq.{drop-append_seam}
use Rattle.lq_yaml.specs.declared.mode.Mode.{Mode}
use Rattle.lq_yaml.specs.declared.mode.Mode.TheVariants.{Fresh, Between, AfterHeader, InLiteral}
use Rattle.lq_yaml.specs.declared.token.Token.{Token}
use Rattle.lq_yaml.specs.declared.token.Token.TheVariants.{LiteralLine}
use Rattle.lq_yaml.specs.Tree.{is_blank, is_nil}
use Rattle.lq_yaml.specs.Line.{trimmed, begins_with, spaces, without_spaces, without_blanks, Lexed, tokens_at, base_of, parent_of, without_block, blank_tokens, is_marker, mode_after, has_tab, line_by, line_tokens, tokens_of}
use Rattle.lq_yaml.specs.Layout.{literal_lines}
use Rattle.lq_yaml.specs.Made.{spaced, IsValue, empty_list, empty_map, quoted, plain, clipping, stripping, IsEntry, value, key, pair, IsContent, entry, dash, item, IsLine, IsComment, IsSkipped, IsMarker, column_after, opens_block, HasIndent, IsBlockIndent, IsBlockLine, AreBlockLines, EndsBlock, AreLines, no_lines, skipped, with_tokens, with_block, AreSkipped, IsUnmarked, IsFile, marked, unmarked, AreBlanks, BeginsWith}
use Rattle.lq_yaml.specs.Laws.{FilesAreFound, LinesMeanOne}
use Rattle.lq_yaml.proofs.ContentForms.{split, passed, all_passed, none_passed, begun_with, first_content, content_read, content_written}
use Rattle.lq_yaml.proofs.Splits.{some_of, then_of, both_of, differs, trimmed_is, trimmed_last, Left, trim}

-- ---- indents

spaces_plus : (n : ℕ) (y : List ℕ) → spaces (spaced n ++ y) ≡ n + spaces y
spaces_plus zero y = omega arith
spaces_plus (suc n) y = let h = spaces_plus n y in omega (arith, h)

spaces_behind : (n : ℕ) (y : List ℕ) → without_spaces (spaced n ++ y) ≡ without_spaces y
spaces_behind zero y = refl
spaces_behind (suc n) y = spaces_behind n y

split_space : (c : ℕ) (cs : List ℕ) (b : Bool) → (c == 32) ≡ b → cs ≡ spaced (spaces cs) ++ without_spaces cs
    → c ∷ cs ≡ spaced (cond b (spaces cs + 1) 0) ++ cond b (without_spaces cs) (c ∷ cs)
split_space c cs true is h = rw add-one (ap (λ (k : ℕ). k ∷ cs) (eqb-true c 32 is) ∙ ap (λ (l : List ℕ). 32 ∷ l) h)
split_space c cs false is h = refl

spaces_split : (l : List ℕ) → l ≡ spaced (spaces l) ++ without_spaces l
spaces_split [] = refl
spaces_split (c ∷ cs) = split_space c cs (c == 32) refl (spaces_split cs)

first_by : (c : ℕ) (cs : List ℕ) (d : ℕ) (rest : List ℕ) (b : Bool) → (c == 32) ≡ b → (without_spaces cs ≡ d ∷ rest → (d == 32) ≡ false) → cond b (without_spaces cs) (c ∷ cs) ≡ d ∷ rest → (d == 32) ≡ false
first_by c cs d rest true is h at = h at
first_by c cs d rest false is h at = let same : c ≡ d = cc in subst (λ (k : ℕ). (k == 32) ≡ false) same is

space_first : (l : List ℕ) (d : ℕ) (rest : List ℕ) → without_spaces l ≡ d ∷ rest → (d == 32) ≡ false
space_first [] d rest at = absurd cc
space_first (c ∷ cs) d rest at = first_by c cs d rest (c == 32) refl (space_first cs d rest) at

spaces_blank : (n : ℕ) → AreBlanks (spaced n)
spaces_blank zero = refl
spaces_blank (suc n) = spaces_blank n

-- a line that is not blank, and has no tab in its indent, has an indent
pub record Indented (l : List ℕ) : Type 0 where
  pub first : ℕ
  pub rest : List ℕ
  pub behind : without_spaces l ≡ first ∷ rest
  pub dark : is_blank first ≡ false

not_blank : (l : List ℕ) → is_nil (without_blanks l) ≡ false → without_spaces l ≡ [] → ⊥
not_blank l some none =
    let all : l ≡ spaced (spaces l) = spaces_split l ∙ ap (λ (r : List ℕ). spaced (spaces l) ++ r) none ∙ append-nil (spaced (spaces l)) in
    let nil : without_blanks l ≡ [] = ap without_blanks all ∙ all_passed (spaced (spaces l)) (spaces_blank (spaces l)) in
    let bad : is_nil [] ≡ false = subst (λ (r : List ℕ). is_nil r ≡ false) nil some in
    absurd cc

indented_by : (l behind : List ℕ) → without_spaces l ≡ behind → is_nil (without_blanks l) ≡ false → begins_with 9 behind ≡ false → Indented l
indented_by l [] at some tab = absurd (not_blank l some at)
indented_by l (c ∷ cs) at some tab = record { first = c; rest = cs; behind = at; dark = rw (space_first l c cs at, tab) refl }

indented : (l : List ℕ) → is_nil (without_blanks l) ≡ false → has_tab l ≡ false → Indented l
indented l some tab = indented_by l (without_spaces l) refl some tab

indent_is : (l : List ℕ) → (i : Indented l) → l ≡ spaced (spaces l) ++ i.first ∷ i.rest
indent_is l i = spaces_split l ∙ ap (λ (r : List ℕ). spaced (spaces l) ++ r) i.behind

-- what the functions say of a line with an indent
pub record Told (l : List ℕ) (n c : ℕ) (cs : List ℕ) : Type 0 where
  pub count : spaces l ≡ n
  pub behind : without_spaces l ≡ c ∷ cs
  pub blanks : without_blanks l ≡ c ∷ cs
  pub tab : has_tab l ≡ false
  pub some : is_nil (without_blanks l) ≡ false

plus_zero : (n : ℕ) → n + 0 ≡ n
plus_zero n = omega arith

told : (l : List ℕ) (n c : ℕ) (cs : List ℕ) → l ≡ spaced n ++ c ∷ cs → is_blank c ≡ false → Told l n c cs
told l n c cs is dark =
    let space : (c == 32) ≡ false = differs is_blank c 32 false dark refl in
    let none : spaces (c ∷ cs) ≡ 0 = rw space refl in
    let here : without_spaces (c ∷ cs) ≡ c ∷ cs = rw space refl in
    let behind : without_spaces l ≡ c ∷ cs = ap without_spaces is ∙ spaces_behind n (c ∷ cs) ∙ here in
    let blanks : without_blanks l ≡ c ∷ cs = ap without_blanks is ∙ passed (spaced n) c cs (spaces_blank n) dark in
    record {
      count = ap spaces is ∙ spaces_plus n (c ∷ cs) ∙ ap (λ (k : ℕ). n + k) none ∙ plus_zero n;
      behind = behind;
      blanks = blanks;
      tab = ap (begins_with 9) behind ∙ differs is_blank c 9 false dark refl;
      some = ap is_nil blanks;
    }

-- ---- which lines are skipped

blank_line : (l : List ℕ) → AreBlanks l → is_nil (without_blanks l) ≡ true
blank_line l h = ap is_nil (all_passed l h)

nil_is : (l : List ℕ) → is_nil l ≡ true → l ≡ []
nil_is [] is = refl
nil_is (c ∷ cs) is = absurd cc

blank_found : (l : List ℕ) → is_nil (without_blanks l) ≡ true → AreBlanks l
blank_found l is = none_passed l (nil_is (without_blanks l) is)

comment_line : (l : List ℕ) (h : IsComment l) → without_blanks l ≡ 35 ∷ h.1
comment_line l h = ap without_blanks h.2 ∙ passed h.0 35 h.1 h.3 refl

comment_found : (l : List ℕ) → begins_with 35 (without_blanks l) ≡ true → IsComment l
comment_found l is =
    let s = split l in
    let h = begun_with 35 (without_blanks l) is in
    (s.gap, h.0, s.is ∙ ap (λ (r : List ℕ). s.gap ++ r) h.1, s.blanks)

not_skipped : (l : List ℕ) → is_nil (without_blanks l) ≡ false → begins_with 35 (without_blanks l) ≡ false → IsSkipped l → ⊥
not_skipped l some words (inl h) = let yes = blank_line l h in absurd (let bad : true ≡ false = sym yes ∙ some in cc)
not_skipped l some words (inr h) = let at : true ≡ false = sym (ap (begins_with 35) (comment_line l h)) ∙ words in absurd cc

-- ---- the marker

is_three : (column : ℕ) (x : List ℕ) → is_marker Fresh column x ≡ true → (column ≡ 0) × (x ≡ 45 ∷ 45 ∷ 45 ∷ [])
is_three column [] is = absurd cc
is_three column (a ∷ []) is = absurd cc
is_three column (a ∷ b ∷ []) is = absurd cc
is_three column (a ∷ b ∷ c ∷ []) is =
    let x = both_of (column == 0) (a == 45 && (b == 45 && c == 45)) is in
    let y = both_of (a == 45) (b == 45 && c == 45) x.1 in
    let z = both_of (b == 45) (c == 45) y.1 in (
      eqb-true column 0 x.0,
      ap (λ (i : ℕ). i ∷ b ∷ c ∷ []) (eqb-true a 45 y.0) ∙ ap (λ (i : ℕ). 45 ∷ i ∷ c ∷ []) (eqb-true b 45 z.0) ∙ ap (λ (i : ℕ). 45 ∷ 45 ∷ i ∷ []) (eqb-true c 45 z.1),
    )
is_three column (a ∷ b ∷ c ∷ d ∷ cs) is = absurd cc

marker_by : (l text : List ℕ) → without_spaces l ≡ text → Left text (trimmed text) → spaces l ≡ 0 → trimmed text ≡ 45 ∷ 45 ∷ 45 ∷ [] → IsMarker l
marker_by l text at (inl e) none is = absurd (let bad : [] ≡ 45 ∷ 45 ∷ 45 ∷ [] = sym e.0 ∙ is in cc)
marker_by l text at (inr t) none is =
    (t.gap, spaces_split l ∙ ap (λ (k : ℕ). spaced k ++ without_spaces l) none ∙ at ∙ t.is ∙ ap (λ (r : List ℕ). r ++ t.gap) is, t.blanks)

marker_found : (l : List ℕ) → is_marker Fresh (spaces l) (trimmed (without_spaces l)) ≡ true → IsMarker l
marker_found l is = let h = is_three (spaces l) (trimmed (without_spaces l)) is in marker_by l (without_spaces l) refl (trim (without_spaces l)) h.0 h.1

marker_read : (l : List ℕ) → IsMarker l → line_tokens Fresh l ≡ Some ([], Between 0)
marker_read l h =
    let cut : trimmed (45 ∷ 45 ∷ 45 ∷ h.0) ≡ 45 ∷ 45 ∷ 45 ∷ [] = trimmed_is (45 ∷ 45 ∷ []) h.0 45 refl h.2 in
    ap (line_tokens Fresh) h.1 ∙ rw cut refl

-- ---- the mode after a line

abbrev pub mode_of : Bool → ℕ → Mode
mode_of true column = AfterHeader column
mode_of false column = Between column

abbrev Moves : List Token → Type 0
Moves ts = (p : ℕ) → mode_after p ts ≡ mode_of (opens_block ts) (column_after p ts)

moves_value : (rank : ℕ) (x : List ℕ) (token : Token) → IsValue rank x token → Moves (token ∷ [])
moves_value rank x token (empty_list tail is h at) = subst (λ (t : Token). Moves (t ∷ [])) (sym at) (λ p. refl)
moves_value rank x token (empty_map tail is h at) = subst (λ (t : Token). Moves (t ∷ [])) (sym at) (λ p. refl)
moves_value rank x token (quoted scalar tail chars is q h at) = subst (λ (t : Token). Moves (t ∷ [])) (sym at) (λ p. refl)
moves_value rank x token (plain scalar tail is q h at) = subst (λ (t : Token). Moves (t ∷ [])) (sym at) (λ p. refl)
moves_value rank x token (clipping is at) = subst (λ (t : Token). Moves (t ∷ [])) (sym at) (λ p. refl)
moves_value rank x token (stripping is at) = subst (λ (t : Token). Moves (t ∷ [])) (sym at) (λ p. refl)

moves_entry : (column : ℕ) (x : List ℕ) (ts : List Token) → IsEntry column x ts → Moves ts
moves_entry column x ts (value token v at) = subst Moves (sym at) (moves_value (2 * column + 1) x token v)
moves_entry column x ts (key name gap chars is k blanks at) = subst Moves (sym at) (λ p. refl)
moves_entry column x ts (pair name gap wide rest chars token is k blanks wides v at) =
    subst Moves (sym at) (λ p. moves_value (2 * column + 2) rest token v ((2 * column + 1 - 1) / 2))

moves : {column : ℕ} {x : List ℕ} {ts : List Token} → IsContent column x ts → Moves ts
moves {column} {x} {ts} (entry e) = moves_entry column x ts e
moves {column} {x} {ts} (dash is at) = subst Moves (sym at) (λ p. refl)
moves {column} {x} {ts} (item gap rest more is at c) = subst Moves (sym at) (λ p. moves c ((2 * column + 2 - 1) / 2))

-- ---- a line with tokens

pub record Read (l : List ℕ) (ts : List Token) : Type 0 where
  pub some : is_nil (without_blanks l) ≡ false
  pub words : begins_with 35 (without_blanks l) ≡ false
  pub tab : has_tab l ≡ false
  pub are : tokens_at (spaces l) (trimmed (without_spaces l)) ≡ Some ts
  pub moves : Moves ts

line_read : (l : List ℕ) (ts : List Token) → IsLine l ts → Read l ts
line_read l ts (indent, last, content, blanks, is, c, ends, dark, all) =
    let f = first_content c in
    let at : l ≡ spaced indent ++ f.first ∷ (f.rest ++ blanks) = is ∙ ap (λ (r : List ℕ). spaced indent ++ (r ++ blanks)) f.is in
    let t = told l indent f.first (f.rest ++ blanks) at f.dark in
    let behind : without_spaces l ≡ content ++ blanks = t.behind ∙ ap (λ (r : List ℕ). r ++ blanks) (sym f.is) in
    let cut : trimmed (without_spaces l) ≡ content = ap trimmed behind ∙ trimmed_last content blanks last ends dark all in
    record {
      some = t.some;
      words = ap (begins_with 35) t.blanks ∙ f.words;
      tab = t.tab;
      are = ap (λ (k : ℕ). tokens_at k (trimmed (without_spaces l))) t.count ∙ ap (tokens_at indent) cut ∙ content_written c;
      moves = moves c;
    }

same_first : (c d : ℕ) (cs ds gap : List ℕ) → c ∷ cs ≡ (d ∷ ds) ++ gap → c ≡ d
same_first c d cs ds gap is = cc

found_by : (l left : List ℕ) (ts : List Token) (i : Indented l) → trimmed (without_spaces l) ≡ left → Left (without_spaces l) left → tokens_at (spaces l) left ≡ Some ts → IsLine l ts
found_by l left ts i at (inl e) is =
    let all : AreBlanks (i.first ∷ i.rest) = subst AreBlanks i.behind e.1 in
    absurd (let bad : true ≡ false = sym (both_of (is_blank i.first) _ all).0 ∙ i.dark in cc)
found_by l [] ts i at (inr t) is = absurd (t.ends refl)
found_by l (d ∷ ds) ts i at (inr t) is =
    let same : i.first ≡ d = same_first i.first d i.rest ds t.gap (sym i.behind ∙ t.is) in
    let dark : is_blank d ≡ false = subst (λ (k : ℕ). is_blank k ≡ false) same i.dark in
    let whole : trimmed (d ∷ ds) ≡ d ∷ ds = sym (ap trimmed (append-nil (d ∷ ds))) ∙ trimmed_last (d ∷ ds) [] t.last t.at t.no_blank refl in
    (spaces l, t.last, d ∷ ds, t.gap, spaces_split l ∙ ap (λ (r : List ℕ). spaced (spaces l) ++ r) t.is, content_read (spaces l) d ds ts dark whole is, t.at, t.no_blank, t.blanks)

line_found : (l : List ℕ) (ts : List Token) → is_nil (without_blanks l) ≡ false → has_tab l ≡ false → tokens_at (spaces l) (trimmed (without_spaces l)) ≡ Some ts → IsLine l ts
line_found l ts some tab is = found_by l (trimmed (without_spaces l)) ts (indented l some tab) refl (trim (without_spaces l)) is

-- ---- a line where no block is open

by_blank : (m : Mode) (l : List ℕ) → AreBlanks l → line_tokens m l ≡ Some (blank_tokens m, m)
by_blank m l h = rw (blank_line l h) refl

by_comment : (m : Mode) (l : List ℕ) → IsComment l → base_of m (spaces l) ≡ None → line_tokens m l ≡ Some ([], without_block m)
by_comment m l h at =
    let is = comment_line l h in
    let some : is_nil (without_blanks l) ≡ false = ap is_nil is in
    let words : begins_with 35 (without_blanks l) ≡ true = ap (begins_with 35) is in
    rw (some, at, words) refl

by_skipped : (column : ℕ) (l : List ℕ) → IsSkipped l → line_tokens (Between column) l ≡ Some ([], Between column)
by_skipped column l (inl h) = by_blank (Between column) l h
by_skipped column l (inr h) = by_comment (Between column) l h refl

fresh_skipped : (l : List ℕ) → IsSkipped l → line_tokens Fresh l ≡ Some ([], Fresh)
fresh_skipped l (inl h) = by_blank Fresh l h
fresh_skipped l (inr h) = by_comment Fresh l h refl

by_tokens : (column : ℕ) (l : List ℕ) (ts : List Token) → IsLine l ts → line_tokens (Between column) l ≡ Some (ts, mode_of (opens_block ts) (column_after column ts))
by_tokens column l ts h =
    let r = line_read l ts h in
    rw (r.some, r.words, r.tab, r.are) (ap (λ (m : Mode). Some (ts, m)) (r.moves column))

-- ---- what is written is found

after_line : (m n : Mode) (l : List ℕ) (ls : List (List ℕ)) (own more : List Token) → line_tokens m l ≡ Some (own, n) → tokens_of n ls ≡ Some more → tokens_of m (l ∷ ls) ≡ Some (own ++ more)
after_line m n l ls own more at is =
    ap (λ (o : Option Lexed). option_and_then (λ x. option_map (λ ts. x.0 ++ ts) (tokens_of x.1 ls)) o) at ∙ ap (λ (o : Option (List Token)). option_map (λ ts. own ++ ts) o) is

-- where a line ends a block, none is open
ends_as : (m : Mode) (column : ℕ) (l : List ℕ) → without_block m ≡ Between column → parent_of m ≡ column → is_nil (without_blanks l) ≡ false → base_of m (spaces l) ≡ None
    → line_tokens m l ≡ line_tokens (Between column) l
ends_as Fresh column l w p some at = absurd cc
ends_as (Between q) column l w p some at = ap (λ (k : ℕ). line_tokens (Between k) l) p
ends_as (AfterHeader q) column l w p some at = rw (some, at, p) refl
ends_as (InLiteral q b) column l w p some at = rw (some, at, p) refl

below : (base n : ℕ) (y l : List ℕ) → l ≡ spaced (base + n) ++ y → BeginsWith (spaced base) l
below base n y l is = (spaced n ++ y, is ∙ ap (λ (r : List ℕ). r ++ y) (sym (replicate-append-replicate base n 32)) ∙ append_assoc (spaced base) (spaced n) y)

-- a line with so many spaces in front begins with them
has_spaces : (base : ℕ) (l : List ℕ) → base ≤ spaces l → BeginsWith (spaced base) l
has_spaces base l le =
    let sum : spaces l ≡ base + (spaces l - base) = omega (arith, le) in
    below base (spaces l - base) (without_spaces l) l (spaces_split l ∙ ap (λ (k : ℕ). spaced k ++ without_spaces l) sum)

fewer : (base : ℕ) (l : List ℕ) → (BeginsWith (spaced base) l → ⊥) → nat_le base (spaces l) ≡ false
fewer base l less = false_from_ne_true (nat_le base (spaces l)) (λ t. less (has_spaces base l (leb-true base (spaces l) t)))

not_nil : (l : List ℕ) → (AreBlanks l → ⊥) → is_nil (without_blanks l) ≡ false
not_nil l h = false_from_ne_true (is_nil (without_blanks l)) (λ t. h (blank_found l t))

ended_after_header : (column : ℕ) (rest : List (List ℕ)) → EndsBlock (column + 1) rest → tokens_of (AfterHeader column) rest ≡ tokens_of (Between column) rest
ended_after_header column [] h = refl
ended_after_header column (l ∷ ls) h =
    let less = leb-false (column + 1) (spaces l) (fewer (column + 1) l h.1) in
    let none : nat_lt column (spaces l) ≡ false = false_from_ne_true (nat_lt column (spaces l)) (λ t. absurd (omega (arith, ltb-true column (spaces l) t, less))) in
    let same = ends_as (AfterHeader column) column l refl refl (not_nil l h.0) (rw none refl) in
    ap (λ (o : Option Lexed). option_and_then (λ x. option_map (λ ts. x.0 ++ ts) (tokens_of x.1 ls)) o) same

no_and : (a b : Bool) → b ≡ false → (a && b) ≡ false
no_and true b is = is
no_and false b is = refl

ended_in_literal : (column base : ℕ) (rest : List (List ℕ)) → EndsBlock base rest → tokens_of (InLiteral column base) rest ≡ tokens_of (Between column) rest
ended_in_literal column base [] h = refl
ended_in_literal column base (l ∷ ls) h =
    let none : (nat_lt column (spaces l) && nat_le base (spaces l)) ≡ false = no_and (nat_lt column (spaces l)) (nat_le base (spaces l)) (fewer base l h.1) in
    let same = ends_as (InLiteral column base) column l refl refl (not_nil l h.0) (rw none refl) in
    ap (λ (o : Option Lexed). option_and_then (λ x. option_map (λ ts. x.0 ++ ts) (tokens_of x.1 ls)) o) same

-- what stands behind the indent of a block's line
dropped : (base : ℕ) (l chars : List ℕ) → l ≡ spaced base ++ chars → drop base l ≡ chars
dropped base l chars is =
    ap (drop base) is ∙ ap (λ (k : ℕ). drop k (spaced base ++ chars)) (sym (length-replicate base 32)) ∙ drop-append_seam (spaced base) chars

-- what the functions say of a block's line
pub record InBlock (l : List ℕ) (base : ℕ) (text : List ℕ) : Type 0 where
  pub some : is_nil (without_blanks l) ≡ false
  pub tab : has_tab l ≡ false
  pub far : base ≤ spaces l
  pub is : encode_utf8_all (drop base l) ≡ text

in_block : (l chars text : List ℕ) (base n : ℕ) → l ≡ spaced base ++ chars → HasIndent n chars → text ≡ encode_utf8_all chars → InBlock l base text
in_block l chars text base n is h at =
    let whole : l ≡ spaced (base + n) ++ h.0 ∷ h.1 =
    is ∙ ap (λ (r : List ℕ). spaced base ++ r) h.2 ∙ sym (append_assoc (spaced base) (spaced n) (h.0 ∷ h.1)) ∙ ap (λ (r : List ℕ). r ++ h.0 ∷ h.1) (replicate-append-replicate base n 32) in
    let t = told l (base + n) h.0 h.1 whole h.3 in
    record { some = t.some; tab = t.tab; far = omega (arith, t.count); is = ap encode_utf8_all (dropped base l chars is) ∙ sym at }

by_block : (m : Mode) (l text : List ℕ) (base : ℕ) → InBlock l base text → base_of m (spaces l) ≡ Some base → line_tokens m l ≡ Some (LiteralLine text ∷ [], InLiteral (parent_of m) base)
by_block m l text base k at = rw (k.some, at, k.tab) (ap (λ (t : List ℕ). Some (LiteralLine t ∷ [], InLiteral (parent_of m) base)) k.is)

blank_indent : (l : List ℕ) (n : ℕ) → AreBlanks l → HasIndent n l → ⊥
blank_indent l n blank h =
    let some = (told l n h.0 h.1 h.2 h.3).some in
    let bad : true ≡ false = sym (blank_line l blank) ∙ some in
    absurd cc

blank_block : (l chars : List ℕ) (base n : ℕ) → AreBlanks l → l ≡ spaced base ++ chars → HasIndent n chars → ⊥
blank_block l chars base n blank is h =
    let bad : true ≡ false = sym (blank_line l blank) ∙ (in_block l chars (encode_utf8_all chars) base n is h refl).some in
    absurd cc

in_literal_written : (column base : ℕ) (block texts rest : List (List ℕ)) (more : List Token) → column < base → AreBlockLines base block texts → EndsBlock base rest
    → tokens_of (Between column) rest ≡ Some more → tokens_of (InLiteral column base) (block ++ rest) ≡ Some (literal_lines texts ++ more)
in_literal_written column base [] texts rest more lt h ends is = ended_in_literal column base rest ends ∙ is ∙ ap (λ (l : List (List ℕ)). Some (literal_lines l ++ more)) (sym h)
in_literal_written column base (l ∷ block) texts rest more lt (text, others, at, inl (blank, none), h) ends is =
    after_line (InLiteral column base) (InLiteral column base) l (block ++ rest) (LiteralLine [] ∷ []) (literal_lines others ++ more) (by_blank (InLiteral column base) l blank) (in_literal_written column base block others rest more lt h ends is)
    ∙ ap (λ (t : List ℕ). Some (LiteralLine t ∷ (literal_lines others ++ more))) (sym none) ∙ ap (λ (l : List (List ℕ)). Some (literal_lines l ++ more)) (sym at)
in_literal_written column base (l ∷ block) texts rest more lt (text, others, at, inr (n, chars, apart, indent, means), h) ends is =
    let k = in_block l chars text base n apart indent means in
    let far : nat_lt column (spaces l) ≡ true = lt-ltb column (spaces l) (omega (arith, lt, k.far)) in
    let deep : nat_le base (spaces l) ≡ true = le-leb base (spaces l) k.far in
    after_line (InLiteral column base) (InLiteral column base) l (block ++ rest) (LiteralLine text ∷ []) (literal_lines others ++ more) (by_block (InLiteral column base) l text base k (rw (far, deep) refl))
    (in_literal_written column base block others rest more lt h ends is)
    ∙ ap (λ (l : List (List ℕ)). Some (literal_lines l ++ more)) (sym at)

block_written : (column base : ℕ) (block texts rest : List (List ℕ)) (more : List Token) → IsBlockIndent column base block → AreBlockLines base block texts → EndsBlock base rest
    → tokens_of (Between column) rest ≡ Some more → tokens_of (AfterHeader column) (block ++ rest) ≡ Some (literal_lines texts ++ more)
block_written column base [] texts rest more b h ends is =
    ended_after_header column rest (subst (λ (k : ℕ). EndsBlock k rest) b ends) ∙ is ∙ ap (λ (l : List (List ℕ)). Some (literal_lines l ++ more)) (sym h)
block_written column base (l ∷ block) texts rest more (inl b) (text, others, at, inl (blank, none), h) ends is =
    after_line (AfterHeader column) (AfterHeader column) l (block ++ rest) (LiteralLine [] ∷ []) (literal_lines others ++ more) (by_blank (AfterHeader column) l blank) (block_written column base block others rest more b.1 h ends is)
    ∙ ap (λ (t : List ℕ). Some (LiteralLine t ∷ (literal_lines others ++ more))) (sym none) ∙ ap (λ (l : List (List ℕ)). Some (literal_lines l ++ more)) (sym at)
block_written column base (l ∷ block) texts rest more (inl b) (text, others, at, inr (n, chars, apart, indent, means), h) ends is = absurd (blank_block l chars base n b.0 apart indent)
block_written column base (l ∷ block) texts rest more (inr b) (text, others, at, inl (blank, none), h) ends is = absurd (blank_indent l base blank b.0)
block_written column base (l ∷ block) texts rest more (inr b) (text, others, at, inr (n, chars, apart, indent, means), h) ends is =
    let k = in_block l chars text base n apart indent means in
    let t = told l base b.0.0 b.0.1 b.0.2 b.0.3 in
    let far : nat_lt column (spaces l) ≡ true = lt-ltb column (spaces l) (omega (arith, b.1, k.far)) in
    after_line (AfterHeader column) (InLiteral column base) l (block ++ rest) (LiteralLine text ∷ []) (literal_lines others ++ more)
    (by_block (AfterHeader column) l text base k (rw far (ap (λ (n : ℕ). Some n) t.count))) (in_literal_written column base block others rest more b.1 h ends is)
    ∙ ap (λ (l : List (List ℕ)). Some (literal_lines l ++ more)) (sym at)

lines_written : {column : ℕ} {lines : List (List ℕ)} {tokens : List Token} → AreLines column lines tokens → tokens_of (Between column) lines ≡ Some tokens
lines_written {column} {lines} {tokens} (no_lines none empty) = ap (tokens_of (Between column)) none ∙ ap (λ (l : List Token). Some l) (sym empty)
lines_written {column} {lines} {tokens} (skipped l rest is h more) =
    ap (tokens_of (Between column)) is ∙ after_line (Between column) (Between column) l rest [] tokens (by_skipped column l h) (lines_written more)
lines_written {column} {lines} {tokens} (with_tokens l own rest more is at h closed after) =
    ap (tokens_of (Between column)) is
    ∙ after_line (Between column) (Between (column_after column own)) l rest own more (by_tokens column l own h ∙ ap (λ (b : Bool). Some (own, mode_of b (column_after column own))) closed) (lines_written after)
    ∙ ap (λ (l : List Token). Some l) (sym at)
lines_written {column} {lines} {tokens} (with_block l own base block texts rest more is at h opened b are ends after) =
    ap (tokens_of (Between column)) is
    ∙ after_line (Between column) (AfterHeader (column_after column own)) l (block ++ rest) own (literal_lines texts ++ more) (by_tokens column l own h ∙ ap (λ (b : Bool). Some (own, mode_of b (column_after column own))) opened)
    (block_written (column_after column own) base block texts rest more b are ends (lines_written after))
    ∙ ap (λ (l : List Token). Some l) (sym at)

skips_written : (before rest : List (List ℕ)) (tokens : List Token) → AreSkipped before → tokens_of Fresh rest ≡ Some tokens → tokens_of Fresh (before ++ rest) ≡ Some tokens
skips_written [] rest tokens h is = is
skips_written (l ∷ before) rest tokens h is = after_line Fresh Fresh l (before ++ rest) [] tokens (fresh_skipped l h.0) (skips_written before rest tokens h.1 is)

-- where no marker stands, a first line is as any other
begun_as : (l : List ℕ) (b : Bool) → has_tab l ≡ b → (IsSkipped l → ⊥) → (IsMarker l → ⊥) → line_tokens Fresh l ≡ line_tokens (Between 0) l
begun_as l b tab skip mark =
    let some = not_nil l (λ h. skip (inl h)) in
    let words : begins_with 35 (without_blanks l) ≡ false = false_from_ne_true (begins_with 35 (without_blanks l)) (λ t. skip (inr (comment_found l t))) in
    let other : is_marker Fresh (spaces l) (trimmed (without_spaces l)) ≡ false = false_from_ne_true (is_marker Fresh (spaces l) (trimmed (without_spaces l))) (λ t. mark (marker_found l t)) in
    rw (some, words, other) refl

begun_written : (rest : List (List ℕ)) → IsUnmarked rest → tokens_of Fresh rest ≡ tokens_of (Between 0) rest
begun_written [] h = refl
begun_written (l ∷ ls) h = ap (λ (o : Option Lexed). option_and_then (λ x. option_map (λ ts. x.0 ++ ts) (tokens_of x.1 ls)) o) (begun_as l (has_tab l) refl h.0 h.1)

pub file_written : (lines : List (List ℕ)) (tokens : List Token) → IsFile lines tokens → tokens_of Fresh lines ≡ Some tokens
file_written lines tokens (marked before l rest is h mark more) =
    ap (tokens_of Fresh) is ∙ skips_written before (l ∷ rest) tokens h (after_line Fresh (Between 0) l rest [] tokens (marker_read l mark) (lines_written more))
file_written lines tokens (unmarked before rest is h begun more) =
    ap (tokens_of Fresh) is ∙ skips_written before rest tokens h (begun_written rest begun ∙ lines_written more)

-- ---- what is found is written

-- a block's lines from here on, and what follows
pub record Blocked (column base : ℕ) (lines : List (List ℕ)) (tokens : List Token) : Type 0 where
  pub block : List (List ℕ)
  pub texts : List (List ℕ)
  pub rest : List (List ℕ)
  pub more : List Token
  pub lines_are : lines ≡ block ++ rest
  pub tokens_are : tokens ≡ literal_lines texts ++ more
  pub are : AreBlockLines base block texts
  pub ends : EndsBlock base rest
  pub after : AreLines column rest more

-- what the lines are made of, from each mode on
abbrev Made : Mode → List (List ℕ) → List Token → Type 0
Made Fresh lines tokens = IsFile lines tokens
Made (Between column) lines tokens = AreLines column lines tokens
Made (AfterHeader column) lines tokens = (base : ℕ) × (k : Blocked column base lines tokens) × IsBlockIndent column base k.block
Made (InLiteral column base) lines tokens = Blocked column base lines tokens

abbrev Valid : Mode → Type 0
Valid (InLiteral column base) = column < base
Valid _ = Unit {0}

abbrev Later : List (List ℕ) → Type 0
Later ls = (m : Mode) (ts : List Token) → Valid m → tokens_of m ls ≡ Some ts → Made m ls ts

later_at : (ls : List (List ℕ)) (m n : Mode) (ts : List Token) → Later ls → Valid n → m ≡ n → tokens_of m ls ≡ Some ts → Made n ls ts
later_at ls m n ts h valid at is = h n ts valid (sym (ap (λ (m : Mode). tokens_of m ls) at) ∙ is)

-- ---- a line where no block is open

abbrev IsOpen : ℕ → List ℕ → Lexed → Type 0
IsOpen column l x = (IsSkipped l × (x.0 ≡ []) × (x.1 ≡ Between column)) ⊎ (IsLine l x.0 × (x.1 ≡ mode_of (opens_block x.0) (column_after column x.0)))

open_by : (column : ℕ) (l : List ℕ) (x : Lexed) (blank words tab : Bool) → is_nil (without_blanks l) ≡ blank → begins_with 35 (without_blanks l) ≡ words → has_tab l ≡ tab
    → (if blank then Some ([], Between column) else (if words then Some ([], Between column) else (if tab then None
    else option_map {U = Lexed} (λ ts. (ts, mode_after column ts)) (tokens_at (spaces l) (trimmed (without_spaces l)))))) ≡ Some x
    → IsOpen column l x
open_by column l x true words tab is_blank is_comment has is =
    let y : Lexed = ([], Between column) in
    let same : y ≡ x = cc in
    inl (inl (blank_found l is_blank), sym (ap (λ (y : Lexed). y.0) same), sym (ap (λ (y : Lexed). y.1) same))
open_by column l x false true tab is_blank is_comment has is =
    let y : Lexed = ([], Between column) in
    let same : y ≡ x = cc in
    inl (inr (comment_found l is_comment), sym (ap (λ (y : Lexed). y.0) same), sym (ap (λ (y : Lexed). y.1) same))
open_by column l x false false true is_blank is_comment has is = absurd cc
open_by column l x false false false is_blank is_comment has is =
    let some = some_of {B = Lexed} (λ ts. (ts, mode_after column ts)) (tokens_at (spaces l) (trimmed (without_spaces l))) x is in
    let line = line_found l some.0 is_blank has some.1 in
    subst (λ (x : Lexed). IsOpen column l x) some.2 (inr (line, (line_read l some.0 line).moves column))

open_found : (column : ℕ) (l : List ℕ) (x : Lexed) → line_tokens (Between column) l ≡ Some x → IsOpen column l x
open_found column l x is = open_by column l x (is_nil (without_blanks l)) (begins_with 35 (without_blanks l)) (has_tab l) refl refl refl is

opened_by : (column : ℕ) (l : List ℕ) (ls : List (List ℕ)) (x : Lexed) (ts tokens : List Token) (b : Bool) → opens_block x.0 ≡ b → IsLine l x.0 → x.1 ≡ mode_of b (column_after column x.0)
    → tokens_of x.1 ls ≡ Some ts → x.0 ++ ts ≡ tokens → Later ls → AreLines column (l ∷ ls) tokens
opened_by column l ls x ts tokens false closed line at is all h =
    with_tokens l x.0 ls ts refl (sym all) line closed (later_at ls x.1 (Between (column_after column x.0)) ts h tt at is)
opened_by column l ls x ts tokens true opened line at is all h =
    let k = later_at ls x.1 (AfterHeader (column_after column x.0)) ts h tt at is in
    with_block l x.0 k.0 k.1.block k.1.texts k.1.rest k.1.more (ap (λ (r : List (List ℕ)). l ∷ r) k.1.lines_are) (sym all ∙ ap (λ (r : List Token). x.0 ++ r) k.1.tokens_are) line opened k.2
    k.1.are k.1.ends k.1.after

open_step : (column : ℕ) (l : List ℕ) (ls : List (List ℕ)) (x : Lexed) (ts tokens : List Token) → IsOpen column l x → tokens_of x.1 ls ≡ Some ts → x.0 ++ ts ≡ tokens → Later ls
    → AreLines column (l ∷ ls) tokens
open_step column l ls x ts tokens (inl s) is all h =
    let same : ts ≡ tokens = sym (ap (λ (own : List Token). own ++ ts) s.1) ∙ all in
    skipped l ls refl s.0 (subst (λ (ts : List Token). AreLines column ls ts) same (later_at ls x.1 (Between column) ts h tt s.2 is))
open_step column l ls x ts tokens (inr s) is all h =
    opened_by column l ls x ts tokens (opens_block x.0) refl s.0 s.1 is all h

-- ---- a line of a block

abbrev block_more : (column base : ℕ) (l text : List ℕ) (ls : List (List ℕ)) (ts : List Token) → IsBlockLine base l text → Blocked column base ls ts → Blocked column base (l ∷ ls) (LiteralLine text ∷ ts)
block_more column base l text ls ts line k = record {
  block = l ∷ k.block;
  texts = text ∷ k.texts;
  rest = k.rest;
  more = k.more;
  lines_are = ap (λ (r : List (List ℕ)). l ∷ r) k.lines_are;
  tokens_are = ap (λ (r : List Token). LiteralLine text ∷ r) k.tokens_are;
  are = (text, k.texts, refl, line, k.are);
  ends = k.ends;
  after = k.after;
}

abbrev block_ends : (column base : ℕ) (lines : List (List ℕ)) (tokens : List Token) → EndsBlock base lines → AreLines column lines tokens → Blocked column base lines tokens
block_ends column base lines tokens ends after = record { block = []; texts = []; rest = lines; more = tokens; lines_are = refl; tokens_are = refl; are = refl; ends = ends; after = after }

line_ends : (base : ℕ) (l : List ℕ) (ls : List (List ℕ)) → is_nil (without_blanks l) ≡ false → spaces l < base → EndsBlock base (l ∷ ls)
line_ends base l ls some less = (
  λ blank. let bad : true ≡ false = sym (blank_line l blank) ∙ some in absurd cc,
  λ b. let n = ap spaces b.1 ∙ spaces_plus base b.0 in absurd (omega (arith, n, less)),
)

-- a line that is not blank and has the block's indent
block_line : (base : ℕ) (l : List ℕ) → is_nil (without_blanks l) ≡ false → has_tab l ≡ false → base ≤ spaces l → IsBlockLine base l (encode_utf8_all (drop base l))
block_line base l some tab le =
    let i = indented l some tab in
    let sum : spaces l ≡ base + (spaces l - base) = omega (arith, le) in
    let n = spaces l - base in
    let apart : l ≡ spaced base ++ (spaced n ++ i.first ∷ i.rest) =
    indent_is l i ∙ ap (λ (k : ℕ). spaced k ++ i.first ∷ i.rest) sum ∙ ap (λ (r : List ℕ). r ++ i.first ∷ i.rest) (sym (replicate-append-replicate base n 32))
    ∙ append_assoc (spaced base) (spaced n) (i.first ∷ i.rest) in
    let over = dropped base l (spaced n ++ i.first ∷ i.rest) apart in
    inr (n, spaced n ++ i.first ∷ i.rest, apart, (i.first, i.rest, refl, i.dark), ap encode_utf8_all over)

abbrev Own : List Token → Mode → Lexed
Own own m = (own, m)

after_header_by : (column : ℕ) (l : List ℕ) (ls : List (List ℕ)) (x : Lexed) (ts tokens : List Token) (blank far tab : Bool) → line_tokens (AfterHeader column) l ≡ Some x
    → is_nil (without_blanks l) ≡ blank → nat_lt column (spaces l) ≡ far → has_tab l ≡ tab
    → (if blank then Some (Own (LiteralLine [] ∷ []) (AfterHeader column)) else (cond far (if tab then None else Some (Own (LiteralLine (encode_utf8_all (drop (spaces l) l)) ∷ []) (InLiteral column (spaces l))))
    (line_by (AfterHeader column) l None))) ≡ Some x
    → tokens_of x.1 ls ≡ Some ts → x.0 ++ ts ≡ tokens → Later ls → Made (AfterHeader column) (l ∷ ls) tokens
after_header_by column l ls x ts tokens true far tab orig is_blank is_far has is on all h =
    let same : Own (LiteralLine [] ∷ []) (AfterHeader column) ≡ x = cc in
    let k = later_at ls x.1 (AfterHeader column) ts h tt (sym (ap (λ (y : Lexed). y.1) same)) on in
    let blank = blank_found l is_blank in
    subst (λ (tokens : List Token). Made (AfterHeader column) (l ∷ ls) tokens) (ap (λ (y : Lexed). y.0 ++ ts) same ∙ all)
    (k.0, block_more column k.0 l [] ls ts (inl (blank, refl)) k.1, inl (blank, k.2))
after_header_by column l ls x ts tokens false true true orig is_blank is_far has is on all h = absurd cc
after_header_by column l ls x ts tokens false true false orig is_blank is_far has is on all h =
    let base = spaces l in
    let same : Own (LiteralLine (encode_utf8_all (drop base l)) ∷ []) (InLiteral column base) ≡ x = cc in
    let lt : column < base = ltb-true column base is_far in
    let k = later_at ls x.1 (InLiteral column base) ts h lt (sym (ap (λ (y : Lexed). y.1) same)) on in
    let i = indented l is_blank has in
    subst (λ (tokens : List Token). Made (AfterHeader column) (l ∷ ls) tokens) (ap (λ (y : Lexed). y.0 ++ ts) same ∙ all)
    (base, block_more column base l (encode_utf8_all (drop base l)) ls ts (block_line base l is_blank has (omega arith)) k, inr ((i.first, i.rest, indent_is l i, i.dark), lt))
after_header_by column l ls x ts tokens false false tab orig is_blank is_far has is on all h =
    let le : spaces l ≤ column = ltb-false column (spaces l) is_far in
    let at : line_tokens (Between column) l ≡ Some x = sym (ends_as (AfterHeader column) column l refl refl is_blank (rw is_far refl)) ∙ orig in
    let lines = open_step column l ls x ts tokens (open_found column l x at) on all h in
    (column + 1, block_ends column (column + 1) (l ∷ ls) tokens (line_ends (column + 1) l ls is_blank (omega (arith, le))) lines, refl)

less_than : (column base n : ℕ) → column < base → (nat_lt column n && nat_le base n) ≡ false → n < base
less_than column base n lt is = below_by (nat_lt column n) (nat_le base n) refl refl is
  where
    below_by : (a b : Bool) → nat_lt column n ≡ a → nat_le base n ≡ b → (a && b) ≡ false → n < base
    below_by true true ea eb h = absurd cc
    below_by true false ea eb h = leb-false base n eb
    below_by false b ea eb h = let le : n ≤ column = ltb-false column n ea in omega arith

in_literal_by : (column base : ℕ) (l : List ℕ) (ls : List (List ℕ)) (x : Lexed) (ts tokens : List Token) (blank far tab : Bool) → column < base → line_tokens (InLiteral column base) l ≡ Some x
    → is_nil (without_blanks l) ≡ blank → (nat_lt column (spaces l) && nat_le base (spaces l)) ≡ far → has_tab l ≡ tab
    → (if blank then Some (Own (LiteralLine [] ∷ []) (InLiteral column base)) else (cond far (if tab then None else Some (Own (LiteralLine (encode_utf8_all (drop base l)) ∷ []) (InLiteral column base)))
    (line_by (InLiteral column base) l None))) ≡ Some x
    → tokens_of x.1 ls ≡ Some ts → x.0 ++ ts ≡ tokens → Later ls → Blocked column base (l ∷ ls) tokens
in_literal_by column base l ls x ts tokens true far tab lt orig is_blank is_far has is on all h =
    let same : Own (LiteralLine [] ∷ []) (InLiteral column base) ≡ x = cc in
    let k = later_at ls x.1 (InLiteral column base) ts h lt (sym (ap (λ (y : Lexed). y.1) same)) on in
    subst (λ (tokens : List Token). Blocked column base (l ∷ ls) tokens) (ap (λ (y : Lexed). y.0 ++ ts) same ∙ all)
    (block_more column base l [] ls ts (inl (blank_found l is_blank, refl)) k)
in_literal_by column base l ls x ts tokens false true true lt orig is_blank is_far has is on all h = absurd cc
in_literal_by column base l ls x ts tokens false true false lt orig is_blank is_far has is on all h =
    let same : Own (LiteralLine (encode_utf8_all (drop base l)) ∷ []) (InLiteral column base) ≡ x = cc in
    let k = later_at ls x.1 (InLiteral column base) ts h lt (sym (ap (λ (y : Lexed). y.1) same)) on in
    let le : base ≤ spaces l = leb-true base (spaces l) (both_of (nat_lt column (spaces l)) (nat_le base (spaces l)) is_far).1 in
    subst (λ (tokens : List Token). Blocked column base (l ∷ ls) tokens) (ap (λ (y : Lexed). y.0 ++ ts) same ∙ all)
    (block_more column base l (encode_utf8_all (drop base l)) ls ts (block_line base l is_blank has le) k)
in_literal_by column base l ls x ts tokens false false tab lt orig is_blank is_far has is on all h =
    let at : line_tokens (Between column) l ≡ Some x = sym (ends_as (InLiteral column base) column l refl refl is_blank (rw is_far refl)) ∙ orig in
    let lines = open_step column l ls x ts tokens (open_found column l x at) on all h in
    block_ends column base (l ∷ ls) tokens (line_ends base l ls is_blank (less_than column base (spaces l) lt is_far)) lines

-- ---- the first lines

marker_is : (l : List ℕ) → IsMarker l → is_marker Fresh (spaces l) (trimmed (without_spaces l)) ≡ true
marker_is l h =
    let cut : trimmed (45 ∷ 45 ∷ 45 ∷ h.0) ≡ 45 ∷ 45 ∷ 45 ∷ [] = trimmed_is (45 ∷ 45 ∷ []) h.0 45 refl h.2 in
    ap (λ (l : List ℕ). is_marker Fresh (spaces l) (trimmed (without_spaces l))) h.1 ∙ rw cut refl

one_skipped : (l : List ℕ) (ls : List (List ℕ)) (tokens : List Token) → IsSkipped l → IsFile ls tokens → IsFile (l ∷ ls) tokens
one_skipped l ls tokens s (marked before mark rest is h m more) = marked (l ∷ before) mark rest (ap (λ (r : List (List ℕ)). l ∷ r) is) (s, h) m more
one_skipped l ls tokens s (unmarked before rest is h begun more) = unmarked (l ∷ before) rest (ap (λ (r : List (List ℕ)). l ∷ r) is) (s, h) begun more

fresh_skip : (l : List ℕ) (ls : List (List ℕ)) (x : Lexed) (ts tokens : List Token) → IsSkipped l → Own [] Fresh ≡ x → tokens_of x.1 ls ≡ Some ts → x.0 ++ ts ≡ tokens → Later ls → IsFile (l ∷ ls) tokens
fresh_skip l ls x ts tokens s same on all h =
    let k = later_at ls x.1 Fresh ts h tt (sym (ap (λ (y : Lexed). y.1) same)) on in
    one_skipped l ls tokens s (subst (λ (tokens : List Token). IsFile ls tokens) (ap (λ (y : Lexed). y.0 ++ ts) same ∙ all) k)

fresh_by : (l : List ℕ) (ls : List (List ℕ)) (x : Lexed) (ts tokens : List Token) (blank words tab mark : Bool) → line_tokens Fresh l ≡ Some x
    → is_nil (without_blanks l) ≡ blank → begins_with 35 (without_blanks l) ≡ words → has_tab l ≡ tab → is_marker Fresh (spaces l) (trimmed (without_spaces l)) ≡ mark
    → (if blank then Some (Own [] Fresh) else (if words then Some (Own [] Fresh) else (if tab then None else (if mark then Some (Own [] (Between 0))
    else option_map {U = Lexed} (λ ts. (ts, mode_after 0 ts)) (tokens_at (spaces l) (trimmed (without_spaces l))))))) ≡ Some x
    → tokens_of x.1 ls ≡ Some ts → x.0 ++ ts ≡ tokens → Later ls → IsFile (l ∷ ls) tokens
fresh_by l ls x ts tokens true words tab mark orig is_blank is_comment has stands is on all h = let same : Own [] Fresh ≡ x = cc in fresh_skip l ls x ts tokens (inl (blank_found l is_blank)) same on all h
fresh_by l ls x ts tokens false true tab mark orig is_blank is_comment has stands is on all h =
    let same : Own [] Fresh ≡ x = cc in fresh_skip l ls x ts tokens (inr (comment_found l is_comment)) same on all h
fresh_by l ls x ts tokens false false true mark orig is_blank is_comment has stands is on all h = absurd cc
fresh_by l ls x ts tokens false false false true orig is_blank is_comment has stands is on all h =
    let same : Own [] (Between 0) ≡ x = cc in
    let k = later_at ls x.1 (Between 0) ts h tt (sym (ap (λ (y : Lexed). y.1) same)) on in
    marked [] l ls refl tt (marker_found l stands) (subst (λ (tokens : List Token). AreLines 0 ls tokens) (ap (λ (y : Lexed). y.0 ++ ts) same ∙ all) k)
fresh_by l ls x ts tokens false false false false orig is_blank is_comment has stands is on all h =
    let other : IsMarker l → ⊥ = λ m. let bad : true ≡ false = sym (marker_is l m) ∙ stands in absurd cc in
    let skip = not_skipped l is_blank is_comment in
    let at : line_tokens (Between 0) l ≡ Some x = sym (begun_as l (has_tab l) refl skip other) ∙ orig in
    unmarked [] (l ∷ ls) refl tt (skip, other) (open_step 0 l ls x ts tokens (open_found 0 l x at) on all h)

-- ---- all lines

by_cond : (m : Mode) (l : List ℕ) (base : ℕ) (far : Bool) → line_by m l (cond far (Some base) None) ≡ cond far (line_by m l (Some base)) (line_by m l None)
by_cond m l base true = refl
by_cond m l base false = refl

one_step : (m : Mode) (l : List ℕ) (ls : List (List ℕ)) (x : Lexed) (ts tokens : List Token) → Valid m → line_tokens m l ≡ Some x → tokens_of x.1 ls ≡ Some ts → x.0 ++ ts ≡ tokens → Later ls → Made m (l ∷ ls) tokens
one_step Fresh l ls x ts tokens valid is on all h =
    fresh_by l ls x ts tokens (is_nil (without_blanks l)) (begins_with 35 (without_blanks l)) (has_tab l) (is_marker Fresh (spaces l) (trimmed (without_spaces l))) is refl refl refl refl is on all h
one_step (Between column) l ls x ts tokens valid is on all h = open_step column l ls x ts tokens (open_found column l x is) on all h
one_step (AfterHeader column) l ls x ts tokens valid is on all h =
    after_header_by column l ls x ts tokens (is_nil (without_blanks l)) (nat_lt column (spaces l)) (has_tab l) is refl refl refl
    (ap (λ (o : Option Lexed). if is_nil (without_blanks l) then Some (Own (LiteralLine [] ∷ []) (AfterHeader column)) else o) (sym (by_cond (AfterHeader column) l (spaces l) (nat_lt column (spaces l)))) ∙ is) on all h
one_step (InLiteral column base) l ls x ts tokens valid is on all h =
    in_literal_by column base l ls x ts tokens (is_nil (without_blanks l)) (nat_lt column (spaces l) && nat_le base (spaces l)) (has_tab l) valid is refl refl refl
    (ap (λ (o : Option Lexed). if is_nil (without_blanks l) then Some (Own (LiteralLine [] ∷ []) (InLiteral column base)) else o) (sym (by_cond (InLiteral column base) l base (nat_lt column (spaces l) && nat_le base (spaces l)))) ∙ is) on all h

no_more : (m : Mode) (tokens : List Token) → [] ≡ tokens → Made m [] tokens
no_more Fresh tokens is = unmarked [] [] refl tt tt (no_lines refl (sym is))
no_more (Between column) tokens is = no_lines refl (sym is)
no_more (AfterHeader column) tokens is = (column + 1, block_ends column (column + 1) [] tokens tt (no_lines refl (sym is)), refl)
no_more (InLiteral column base) tokens is = block_ends column base [] tokens tt (no_lines refl (sym is))

made : (ls : List (List ℕ)) (m : Mode) (tokens : List Token) → Valid m → tokens_of m ls ≡ Some tokens → Made m ls tokens
made [] m tokens valid is = let same : [] ≡ tokens = cc in no_more m tokens same
made (l ∷ ls) m tokens valid is =
    let x = then_of (λ x. option_map (λ ts. x.0 ++ ts) (tokens_of x.1 ls)) (line_tokens m l) tokens is in
    let y = some_of (λ ts. x.0.0 ++ ts) (tokens_of x.0.1 ls) tokens x.2 in
    one_step m l ls x.0 y.0 tokens valid x.1 y.1 y.2 (λ n ts ok e. made ls n ts ok e)

pub file_found : (lines : List (List ℕ)) (tokens : List Token) → tokens_of Fresh lines ≡ Some tokens → IsFile lines tokens
file_found lines tokens is = made lines Fresh tokens tt is

pub files : FilesAreFound
files lines tokens = (λ is. file_found lines tokens is, λ h. file_written lines tokens h)

pub one_meaning : LinesMeanOne
one_meaning lines a b ha hb = let same : Some a ≡ Some b = sym (file_written lines a ha) ∙ file_written lines b hb in cc
