-- A line of more dashes than a tree may have levels is too deep, whatever else it has.
use Rattle.std.proofs.Common.{◌≡◌, ℕ, zero, suc, ◌<◌, ◌≤◌, ◌+◌, nat_lt, nat_le, Bool, true, false, cond, length, List, [], ◌∷◌, Option, Some, None, option_map, option_and_then, refl, sym, ap, subst, ◌∙◌, arith, inl, inr, ◌⊎◌, Result, Ok, Err, IfOk}
use Rattle.std.proofs.lemmas.Bool.Decides.{nat_tests}
use Rattle.std.proofs.lemmas.Bool.{leb-true, leb-false}
use Rattle.std.specs.Option.{IfSome}
use Rattle.lq_base.specs.declared.memory.NoMemory.{NoMemory}
use Rattle.lq_yaml.specs.declared.line.Line as line
use Rattle.lq_yaml.specs.declared.mode.Mode.{Mode}
use Rattle.lq_yaml.specs.declared.mode.Mode.TheVariants.{Between}
use Rattle.lq_yaml.specs.declared.token.Head.{Head}
use Rattle.lq_yaml.specs.declared.token.Head.TheVariants.{Dash, Key}
use Rattle.lq_yaml.specs.declared.token.Token.{Token}
use Rattle.lq_yaml.specs.declared.token.Token.TheVariants.{Begin, Value, LiteralHeader, LiteralLine}
use Rattle.lq_yaml.specs.Machine.{Deep, deep, deeper, deep_run, Frame, Place, Cell, none, done, block, place, cell_node, begun, fits, filled, next, frame, settled, top, open_more, again, step}
use Rattle.lq_yaml.specs.Laws.{shown_line, shallow, enough, Rises, IsShallow, Shows, Enters}
use Rattle.lq_yaml.specs.Line.{Lexed, line_tokens, tokens_at, mode_after, parent_of, is_marker, content_tokens}
use Rattle.lq_yaml.specs.Yaml.{State, state, line_step}
use Rattle.lq_yaml.specs.Tree.{value_levels}
use Rattle.lq_yaml.specs.View.{Takes}
use Rattle.lq_yaml.proofs.Complete.{step_inside, step_value, step_header}
use Rattle.lq_yaml.proofs.Rising.{tokens_rise}
use Rattle.lq_yaml.proofs.Trees.{some_same}

-- ---- fewer dashes

rises_more : (q r : ℕ) (ts : List Token) → q ≤ r → Rises r ts → Rises q ts
rises_more q r [] le h = tt
rises_more q r (Begin s d ∷ ts) le h = (omega (arith, le, h.0), h.1)
rises_more q r (Value s v ∷ ts) le h = (omega (arith, le, h.0), h.1)
rises_more q r (LiteralHeader s chomping ∷ ts) le h = (omega (arith, le, h.0), h.1)
rises_more q r (LiteralLine l ∷ ts) le h = h

rises_shallow : (n q : ℕ) (ts : List Token) → Rises q ts → Rises q (shallow n ts)
rises_shallow n q [] h = h
rises_shallow zero q (Begin r Dash ∷ ts) h = rises_more q r (shallow zero ts) (omega (arith, h.0)) (rises_shallow zero r ts h.1)
rises_shallow (suc n) q (Begin r Dash ∷ ts) h = (h.0, rises_shallow n r ts h.1)
rises_shallow n q (Begin r (Key k) ∷ ts) h = h
rises_shallow n q (Value r v ∷ ts) h = h
rises_shallow n q (LiteralHeader r chomping ∷ ts) h = h
rises_shallow n q (LiteralLine l ∷ ts) h = h

-- how many tokens at the front begin entries
abbrev pub heads : List Token → ℕ
heads [] = 0
heads (Begin q h ∷ ts) = suc (heads ts)
heads (t ∷ ts) = 0

whole : (n : ℕ) (ts : List Token) → heads ts ≤ n → shallow n ts ≡ ts
whole n [] le = refl
whole zero (Begin q Dash ∷ ts) le = absurd (omega (arith, le))
whole (suc n) (Begin q Dash ∷ ts) le = ap (λ (l : List Token). Begin q Dash ∷ l) (whole n ts (omega (arith, le)))
whole n (Begin q (Key k) ∷ ts) le = refl
whole n (Value q v ∷ ts) le = refl
whole n (LiteralHeader q chomping ∷ ts) le = refl
whole n (LiteralLine l ∷ ts) le = refl

many : (n : ℕ) (ts : List Token) → n ≤ heads ts → n ≤ heads (shallow n ts)
many n [] le = le
many zero (Begin q Dash ∷ ts) le = omega arith
many (suc n) (Begin q Dash ∷ ts) le = let more = many n ts (omega (arith, le)) in omega (arith, more)
many n (Begin q (Key k) ∷ ts) le = le
many n (Value q v ∷ ts) le = le
many n (LiteralHeader q chomping ∷ ts) le = le
many n (LiteralLine l ∷ ts) le = le

-- ---- behind an open head no token that is deeper is refused

pub record Deepens (ts : List Token) (d : Deep) (n : ℕ) : Type 0 where
  pub state : Deep
  pub leads : deep_run ts d ≡ Some state
  pub levels : n ≤ state.levels

abbrev pub then_run : List Token → ℕ → Option ℕ → Option Place → Option Deep
then_run ts k own o = option_and_then (λ n. deep_run ts n) (option_map (λ n. deep n (deeper k (length n.frames) own)) o)

goes_deeper : (ts : List Token) (q k : ℕ) (f : Frame) (fs : List Frame) → Rises q ts → f.rank ≤ q → length (f ∷ fs) ≤ k
    → Deepens ts (deep (place none (f ∷ fs)) k) (length (f ∷ fs) + heads ts)
goes_deeper [] q k f fs h low far = record { state = deep (place none (f ∷ fs)) k; leads = refl; levels = omega (arith, far) }
goes_deeper (Begin r d ∷ ts) q k f fs h low far =
    let more = goes_deeper ts r (deeper k (length (frame r (begun d) ∷ f ∷ fs)) (Some 0)) (frame r (begun d)) (f ∷ fs) h.1 (omega arith) (omega arith) in
    record {
      state = more.state;
      leads = ap (λ (o : Option Place). then_run ts k (Some 0) o) (step_inside r d f fs (omega (arith, low, h.0))) ∙ more.leads;
      levels = omega (arith, more.levels);
    }
goes_deeper (Value r v ∷ ts) q k f fs h low far =
    record {
      state = deep (place (done v) (f ∷ fs)) (deeper k (length (f ∷ fs)) (Some (value_levels v)));
      leads = ap (λ (o : Option Place). then_run ts k (Some (value_levels v)) o) (step_value r v f fs (omega (arith, low, h.0)))
          ∙ ap (λ (l : List Token). deep_run l (deep (place (done v) (f ∷ fs)) (deeper k (length (f ∷ fs)) (Some (value_levels v))))) h.1;
      levels = omega (arith, far);
    }
goes_deeper (LiteralHeader r chomping ∷ ts) q k f fs h low far =
    record {
      state = deep (place (block chomping []) (f ∷ fs)) k;
      leads = ap (λ (o : Option Place). then_run ts k None o) (step_header r chomping f fs (omega (arith, low, h.0)))
          ∙ ap (λ (l : List Token). deep_run l (deep (place (block chomping []) (f ∷ fs)) k)) h.1;
      levels = omega (arith, far);
    }
goes_deeper (LiteralLine l ∷ ts) q k f fs h low far = absurd h

-- ---- a head leaves an open head of its rank or a lower one

le_of : (q r : ℕ) → nat_lt q r ≡ false → r ≤ q
le_of q r is = grind (arith, nat_tests)

low_by : (q : ℕ) (c : Cell) (f : Frame) (fs : List Frame) (b : Bool) → nat_lt q f.rank ≡ b → top (settled q (done (filled f.part (cell_node c))) fs).frames ≤ q
    → top (cond b (settled q (done (filled f.part (cell_node c))) fs) (place c (f ∷ fs))).frames ≤ q
low_by q c f fs true is more = more
low_by q c f fs false is more = le_of q f.rank is

settled_low : (q : ℕ) (c : Cell) (fs : List Frame) → top (settled q c fs).frames ≤ q
settled_low q c [] = omega arith
settled_low q c (f ∷ fs) = low_by q c f fs (nat_lt q f.rank) refl (settled_low q (done (filled f.part (cell_node c))) fs)

pub record Opens (q : ℕ) (n : Place) : Type 0 where
  pub inner : Frame
  pub outer : List Frame
  pub is : place none (inner ∷ outer) ≡ n
  pub low : inner.rank ≤ q

opens_more : (q : ℕ) (h : Head) (c : Cell) (fs : List Frame) (n : Place) → open_more q h c fs ≡ Some n → Opens q n
opens_more q h none fs n is = record { inner = frame q (begun h); outer = fs; is = some_same is; low = omega arith }
opens_more q h (done v) fs n is = absurd cc
opens_more q h (block chomping ls) fs n is = absurd cc

fits_by : (q : ℕ) (h : Head) (c : Cell) (f : Frame) (fs : List Frame) (n : Place) → f.rank ≤ q → (b : Bool)
    → cond b (Some (place none (frame f.rank (next h f.part (cell_node c)) ∷ fs))) None ≡ Some n → Opens q n
fits_by q h c f fs n low true is = record { inner = frame f.rank (next h f.part (cell_node c)); outer = fs; is = some_same is; low = low }
fits_by q h c f fs n low false is = absurd cc

opens_again : (q : ℕ) (h : Head) (c : Cell) (fs : List Frame) (n : Place) → top fs ≤ q → again h c fs ≡ Some n → Opens q n
opens_again q h c [] n low is = absurd cc
opens_again q h c (f ∷ fs) n low is = fits_by q h c f fs n low (fits h f.part) is

opens_by : (q : ℕ) (h : Head) (c : Cell) (fs : List Frame) (n : Place) → top fs ≤ q → (b : Bool) → cond b (open_more q h c fs) (again h c fs) ≡ Some n → Opens q n
opens_by q h c fs n low true is = opens_more q h c fs n is
opens_by q h c fs n low false is = opens_again q h c fs n low is

opens : (q : ℕ) (h : Head) (s n : Place) → step (Begin q h) s ≡ Some n → Opens q n
opens q h s n is =
    let at = settled q s.cell s.frames in
    opens_by q h at.cell at.frames n (settled_low q s.cell s.frames) (nat_lt (top at.frames) q) is

-- ---- so both lines are refused, or both are too deep

abbrev pub Ends : Option Deep → Option Deep → Type 0
Ends None o = o ≡ None
Ends (Some s) o = (n : Deep) × (o ≡ Some n) × (64 < n.levels) × (64 < s.levels)

ends_inside : (a b : List Token) (q k : ℕ) (f : Frame) (fs : List Frame) → Rises q a → Rises q b → 64 ≤ heads a → 64 ≤ heads b → f.rank ≤ q → length (f ∷ fs) ≤ k
    → Ends (deep_run a (deep (place none (f ∷ fs)) k)) (deep_run b (deep (place none (f ∷ fs)) k))
ends_inside a b q k f fs ha hb na nb low far =
    let x = goes_deeper a q k f fs ha low far in
    let y = goes_deeper b q k f fs hb low far in
    subst (λ (o : Option Deep). Ends o (deep_run b (deep (place none (f ∷ fs)) k))) (sym x.leads) (y.state, y.leads, omega (arith, y.levels, nb), omega (arith, x.levels, na))

ends_by : (a b : List Token) (q k : ℕ) → Rises q a → Rises q b → 64 ≤ heads a → 64 ≤ heads b → (o : Option Place) → ((n : Place) → o ≡ Some n → Opens q n)
    → Ends (then_run a k (Some 0) o) (then_run b k (Some 0) o)
ends_by a b q k ha hb na nb None at = refl
ends_by a b q k ha hb na nb (Some n) at =
    let x = at n refl in
    subst (λ (p : Place). Ends (then_run a k (Some 0) (Some p)) (then_run b k (Some 0) (Some p))) x.is
    (ends_inside a b q (deeper k (length (x.inner ∷ x.outer)) (Some 0)) x.inner x.outer ha hb na nb x.low (omega arith))

ends_head : (a b : List Token) (q : ℕ) (h : Head) (s : Deep) → Rises q a → Rises q b → 64 ≤ heads a → 64 ≤ heads b → Ends (deep_run (Begin q h ∷ a) s) (deep_run (Begin q h ∷ b) s)
ends_head a b q h s ha hb na nb = ends_by a b q s.levels ha hb na nb (step (Begin q h) s.at) (λ n is. opens q h s.at n is)

ends : (ts : List Token) (s : Deep) → Rises 0 ts → 65 ≤ heads ts → Ends (deep_run (shallow enough ts) s) (deep_run ts s)
ends [] s h le = absurd (omega (arith, le))
ends (Begin q Dash ∷ ts) s h le =
    ends_head (shallow 64 ts) ts q Dash s (rises_shallow 64 q ts h.1) h.1 (many 64 ts (omega (arith, le))) (omega (arith, le))
ends (Begin q (Key k) ∷ ts) s h le = ends_head ts ts q (Key k) s h.1 h.1 (omega (arith, le)) (omega (arith, le))
ends (Value q v ∷ ts) s h le = absurd (omega (arith, le))
ends (LiteralHeader q chomping ∷ ts) s h le = absurd (omega (arith, le))
ends (LiteralLine l ∷ ts) s h le = absurd (omega (arith, le))

-- ---- a line

pub same : (o : Option line.Line) (meant : Option Lexed) → option_map shown_line o ≡ meant → Shows o meant
same None meant is = sym is
same (Some l) meant is = (shown_line l, sym is, inl refl)

pub same_ok : (r : Result (Option line.Line) NoMemory) (meant : Option Lexed) → IfOk r (λ o. option_map shown_line o ≡ meant) → IfOk r (λ o. Shows o meant)
same_ok (Ok o) meant is = same o meant is
same_ok (Err fault) meant is = tt

abbrev pub lexed : Mode → List Token → Lexed
lexed m ts = (ts, mode_after (parent_of m) ts)

shows_by : (l : line.Line) (m : Mode) (o : Option (List Token)) → IfSome o (Rises 0) → option_map (shallow enough) o ≡ Some l.tokens.items
    → l.mode ≡ mode_after (parent_of m) l.tokens.items → Shows (Some l) (option_map (lexed m) o)
shows_by l m None h is mode = absurd cc
shows_by l m (Some ts) h is mode =
    let are : l.tokens.items ≡ shallow enough ts = sym (some_same is) in
    (lexed m ts, refl, inr (record { tokens = are; rises = h; mode = λ e. mode ∙ ap (mode_after (parent_of m)) (are ∙ e) }))

pub content_shows : (l : line.Line) (m : Mode) (column : ℕ) (cs : List ℕ) → is_marker m column cs ≡ false → option_map (shallow enough) (tokens_at column cs) ≡ Some l.tokens.items
    → l.mode ≡ mode_after (parent_of m) l.tokens.items → Shows (Some l) (content_tokens m column cs)
content_shows l m column cs other is mode =
    subst (λ (b : Bool). Shows (Some l) (cond b (Some ([], Between 0)) (option_map (lexed m) (tokens_at column cs)))) (sym other)
    (shows_by l m (tokens_at column cs) (tokens_rise 0 column cs (omega arith)) is mode)

-- ---- is taken, or is too deep

taken : (b : Bool) (m : Mode) (o : Option Deep) (new : Deep) → Takes b o new → Enters b (option_map (λ d. state m d) o) (state m new)
taken true m o new is = inl (ap (λ (o : Option Deep). option_map (λ d. state m d) o) is)
taken false m o new is = ap (λ (o : Option Deep). option_map (λ d. state m d) o) is

taken_same : (b : Bool) (l : line.Line) (x : Lexed) (d new : Deep) → shown_line l ≡ x → Takes b (deep_run l.tokens.items d) new
    → Enters b (option_map (λ d. state x.1 d) (deep_run x.0 d)) (state l.mode new)
taken_same b l x d new is takes =
    subst (λ (x : Lexed). Enters b (option_map (λ d. state x.1 d) (deep_run x.0 d)) (state l.mode new)) is (taken b l.mode (deep_run l.tokens.items d) new takes)

taken_deep : (b : Bool) (m k : Mode) (a o : Option Deep) (new : Deep) → Takes b a new → Ends a o → Enters b (option_map (λ d. state m d) o) (state k new)
taken_deep true m k a o new is e =
    let x : Ends (Some new) o = subst (λ (a : Option Deep). Ends a o) is e in
    inr (record { state = state m x.0; leads = ap (λ (o : Option Deep). option_map (λ d. state m d) o) x.1; deep = x.2; new_deep = x.3 })
taken_deep false m k a o new is e =
    let x : Ends None o = subst (λ (a : Option Deep). Ends a o) is e in
    ap (λ (o : Option Deep). option_map (λ d. state m d) o) x

joined : (x : Lexed) (ts : List Token) (m : Mode) → ts ≡ x.0 → m ≡ x.1 → (let y : Lexed = (ts, m) in y) ≡ x
joined x ts m a b = ap (λ (us : List Token). let y : Lexed = (us, m) in y) a ∙ ap (λ (n : Mode). let y : Lexed = (x.0, n) in y) b

taken_shallow : (b : Bool) (l : line.Line) (x : Lexed) (d new : Deep) → IsShallow l x → Takes b (deep_run l.tokens.items d) new → (few : Bool) → nat_le (heads x.0) 65 ≡ few
    → Enters b (option_map (λ d. state x.1 d) (deep_run x.0 d)) (state l.mode new)
taken_shallow b l x d new s takes true few =
    let all = whole enough x.0 (leb-true (heads x.0) 65 few) in
    taken_same b l x d new (joined x l.tokens.items l.mode (s.tokens ∙ all) (s.mode all)) takes
taken_shallow b l x d new s takes false few =
    let gt = leb-false (heads x.0) 65 few in
    taken_deep b x.1 l.mode (deep_run l.tokens.items d) (deep_run x.0 d) new takes
    (subst (λ (ts : List Token). Ends (deep_run ts d) (deep_run x.0 d)) (sym s.tokens) (ends x.0 d s.rises (omega (arith, gt))))

taken_either : (b : Bool) (l : line.Line) (x : Lexed) (d new : Deep) → (shown_line l ≡ x) ⊎ IsShallow l x → Takes b (deep_run l.tokens.items d) new
    → Enters b (option_map (λ d. state x.1 d) (deep_run x.0 d)) (state l.mode new)
taken_either b l x d new (inl is) takes = taken_same b l x d new is takes
taken_either b l x d new (inr s) takes = taken_shallow b l x d new s takes (nat_le (heads x.0) 65) refl

entered : (b : Bool) (l : line.Line) (text : List ℕ) (s : State) (new : Deep) → Shows (Some l) (line_tokens s.mode text) → Takes b (deep_run l.tokens.items s.deep) new
    → Enters b (line_step text s) (state l.mode new)
entered b l text s new shows takes =
    subst (λ (o : Option Lexed). Enters b (option_and_then (λ x. option_map (λ d. state x.1 d) (deep_run x.0 s.deep)) o) (state l.mode new)) (sym shows.1)
    (taken_either b l shows.0 s.deep new shows.2 takes)

pub entered_ok : (r : Result Bool NoMemory) (l : line.Line) (text : List ℕ) (s : State) (new : Deep) → Shows (Some l) (line_tokens s.mode text)
    → IfOk r (λ b. Takes b (deep_run l.tokens.items s.deep) new) → IfOk r (λ b. Enters b (line_step text s) (state l.mode new))
entered_ok (Ok b) l text s new shows takes = entered b l text s new shows takes
entered_ok (Err fault) l text s new shows takes = tt

-- ---- what the reader's loop asks of a line that was taken

pub low : (meant : Option State) (new : State) → Enters true meant new → new.deep.levels ≤ 64 → meant ≡ Some new
low meant new (inl is) le = is
low meant new (inr d) le = absurd (omega (arith, le, d.new_deep))

pub high : (meant : Option State) (new : State) → Enters true meant new → 64 < new.deep.levels → (s : State) × (meant ≡ Some s) × (64 < s.deep.levels)
high meant new (inl is) gt = (new, is, gt)
high meant new (inr d) gt = (d.state, d.leads, d.deep)
