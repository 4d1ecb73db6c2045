-- What the machine has read is laid out.
use Rattle.std.proofs.Common.{◌≡◌, ℕ, ◌<◌, ◌≤◌, Bool, true, false, cond, nat_lt, List, [], ◌∷◌, ◌++◌, Option, Some, None, option_and_then, refl, sym, ap, subst, ◌∙◌, append_assoc, arith, ltb-true, ltb-false, inl, inr}
use Rattle.std.proofs.lemmas.List.{append-nil}
use Rattle.lq_tree.specs.declared.node.Node.{Node, Text as TextNode}
use Rattle.lq_yaml.specs.declared.token.Head.{Head}
use Rattle.lq_yaml.specs.declared.token.Token.{Token}
use Rattle.lq_yaml.specs.declared.token.Token.TheVariants.{Begin, Value, LiteralHeader, LiteralLine}
use Rattle.lq_yaml.specs.Tree.{Tree, leaf, empty, collection, Entries, no_entries, entry, node_of, collection_node}
use Rattle.lq_yaml.specs.Layout.{goes_with_all, IsFull, Inside, AreEntries, IsCollection, Layout, block_text, literal_lines}
use Rattle.lq_yaml.specs.Machine.{Frame, Place, Cell, none, done, block, place, start, cell_node, begun, fits, filled, next, frame, top, again, settled, put, open_more, add_line, made, step, run, finish}
use Rattle.lq_yaml.proofs.Parts.{Tells, tells_begun, tells_next, collected, collected_none, collected_begun, collected_next}
use Rattle.lq_yaml.proofs.Complete.{complete}

-- a whole collection on these tokens
pub record Whole (q : ℕ) (toks : List Token) (node : Node) : Type 0 where
  pub entries : Entries
  pub full : IsFull entries
  pub stands : AreEntries q [] toks entries
  pub means : collection_node entries ≡ node

-- whatever stands behind the open head, and the entries after it, complete the collection
pub record Parts (f : Frame) (mine : List Token) : Type 0 where
  pub seen : List Head
  pub tells : Tells f.part seen
  pub completes : (a b : List Token) (t : Tree) (es : Entries) → Inside f.rank a t → AreEntries f.rank seen b es → Whole f.rank (mine ++ (a ++ b)) (collected f.part (node_of t) es)

abbrev pub Open : List Frame → List Token → Type 0
Open [] toks = toks ≡ []
Open (f ∷ fs) toks = (before mine : List Token) × (toks ≡ before ++ mine) × Open fs before × (top fs < f.rank) × Parts f mine

-- outside of all collections stands a collection
abbrev pub Rooted : List Frame → Tree → Type 0
Rooted [] t = IsCollection t
Rooted (f ∷ fs) t = Unit {0}

abbrev pub Within : List Frame → Type 0
Within [] = ⊥
Within (f ∷ fs) = Unit {0}

-- these tokens are what stands behind the innermost open head so far
abbrev pub FilledBy : List Frame → List Token → Cell → Type 0
FilledBy fs inner none = inner ≡ []
FilledBy fs inner (done n) = (t : Tree) × (node_of t ≡ n) × Inside (top fs) inner t × Rooted fs t
FilledBy fs inner (block chomping ls) = (q : ℕ) × (top fs < q) × (inner ≡ LiteralHeader q chomping ∷ literal_lines ls) × Within fs

-- the tree behind the innermost open head
record Behind (r : ℕ) (inner : List Token) (c : Cell) : Type 0 where
  pub tree : Tree
  pub means : node_of tree ≡ cell_node c
  pub stands : Inside r inner tree

behind : (fs : List Frame) (inner : List Token) (c : Cell) → FilledBy fs inner c → Behind (top fs) inner c
behind fs inner none h = record { tree = empty; means = refl; stands = h }
behind fs inner (done n) h = record { tree = h.0; means = h.1; stands = h.2 }
behind fs inner (block chomping ls) h = record { tree = leaf (TextNode (block_text chomping ls)); means = refl; stands = (h.0, h.1, inr (chomping, ls, h.2, refl)) }

-- the tokens are those up to the innermost open head, and those of what stands behind it
pub record Stands (c : Cell) (fs : List Frame) (toks : List Token) : Type 0 where
  pub before : List Token
  pub inner : List Token
  pub whole : toks ≡ before ++ inner
  pub opens : Open fs before
  pub filled_by : FilledBy fs inner c

rooted_collection : (es : Entries) (fs : List Frame) → Rooted fs (collection es)
rooted_collection es [] = tt
rooted_collection es (f ∷ fs) = tt

-- the innermost collection is closed
closed : (c : Cell) (f : Frame) (fs : List Frame) (toks : List Token) → Stands c (f ∷ fs) toks → Stands (done (filled f.part (cell_node c))) fs toks
closed c f fs toks s =
    let o = s.opens in
    let x = behind (f ∷ fs) s.inner c s.filled_by in
    let w = o.5.completes s.inner [] x.tree no_entries x.stands refl in
    record {
      before = o.0;
      inner = o.1 ++ s.inner;
      whole = s.whole ∙ ap (λ (l : List Token). l ++ s.inner) o.2 ∙ append_assoc o.0 o.1 s.inner;
      opens = o.3;
      filled_by = (
        collection w.entries,
        w.means ∙ ap (λ (n : Node). collected f.part n no_entries) x.means ∙ collected_none f.part (cell_node c),
        (f.rank, o.4, w.full, subst (λ (l : List Token). AreEntries f.rank [] (o.1 ++ l) w.entries) (append-nil s.inner) w.stands),
        rooted_collection w.entries fs,
      );
    }

-- no open collection is of a rank above, after it
record Settles (q : ℕ) (s : Place) (toks : List Token) : Type 0 where
  pub stands : Stands s.cell s.frames toks
  pub below : top s.frames ≤ q

settles_by : (q : ℕ) (c : Cell) (f : Frame) (fs : List Frame) (toks : List Token) → Stands c (f ∷ fs) toks → (b : Bool) → nat_lt q f.rank ≡ b
    → Settles q (settled q (done (filled f.part (cell_node c))) fs) toks → Settles q (cond b (settled q (done (filled f.part (cell_node c))) fs) (place c (f ∷ fs))) toks
settles_by q c f fs toks s true is more = more
settles_by q c f fs toks s false is more = record { stands = s; below = ltb-false q f.rank is }

settles : (q : ℕ) (c : Cell) (fs : List Frame) (toks : List Token) → Stands c fs toks → Settles q (settled q c fs) toks
settles q c [] toks s = record { stands = s; below = omega arith }
settles q c (f ∷ fs) toks s = settles_by q c f fs toks s (nat_lt q f.rank) refl (settles q (done (filled f.part (cell_node c))) fs toks (closed c f fs toks s))

-- what stands behind the open head is not begun
bare : (fs : List Frame) (toks more : List Token) (s : Stands none fs toks) → toks ++ more ≡ s.before ++ more
bare fs toks more s = ap (λ (l : List Token). l ++ more) (s.whole ∙ ap (λ (l : List Token). s.before ++ l) s.filled_by ∙ append-nil s.before)

parts_begun : (q : ℕ) (h : Head) → Parts (frame q (begun h)) (Begin q h ∷ [])
parts_begun q h =
    record {
      seen = h ∷ [];
      tells = tells_begun h;
      completes = λ a b t es inside g. record { entries = entry h t es; full = tt; stands = (a, b, refl, refl, inside, g); means = sym (collected_begun h t es) };
    }

opened : (q : ℕ) (h : Head) (c : Cell) (fs : List Frame) (toks : List Token) (n : Place) → Stands c fs toks → top fs < q → open_more q h c fs ≡ Some n
    → Stands n.cell n.frames (toks ++ Begin q h ∷ [])
opened q h none fs toks n s lt is =
    let same : place none (frame q (begun h) ∷ fs) ≡ n = cc in
    subst (λ (n : Place). Stands n.cell n.frames (toks ++ Begin q h ∷ [])) same
    (record {
      before = s.before ++ Begin q h ∷ [];
      inner = [];
      whole = bare fs toks (Begin q h ∷ []) s ∙ sym (append-nil (s.before ++ Begin q h ∷ []));
      opens = (s.before, Begin q h ∷ [], refl, s.opens, lt, parts_begun q h);
      filled_by = refl;
    })
opened q h (done t) fs toks n s lt is = absurd cc
opened q h (block chomping ls) fs toks n s lt is = absurd cc

parts_next : (h : Head) (c : Cell) (f : Frame) (fs : List Frame) (mine inner : List Token) → Parts f mine → FilledBy (f ∷ fs) inner c → fits h f.part ≡ true
    → Parts (frame f.rank (next h f.part (cell_node c))) ((mine ++ inner) ++ Begin f.rank h ∷ [])
parts_next h c f fs mine inner p filled_by new =
    let x = behind (f ∷ fs) inner c filled_by in
    let goes : goes_with_all h p.seen ≡ true = sym (p.tells h) ∙ new in
    record {
      seen = p.seen ++ h ∷ [];
      tells = tells_next h f.part (cell_node c) p.seen p.tells goes;
      completes = λ a b t es inside g.
          let w = p.completes inner ((Begin f.rank h ∷ a) ++ b) x.tree (entry h t es) x.stands (a, b, refl, goes, inside, g) in
          let regroup : mine ++ (inner ++ ((Begin f.rank h ∷ a) ++ b)) ≡ ((mine ++ inner) ++ Begin f.rank h ∷ []) ++ (a ++ b) = simp append_assoc in
          record {
            entries = w.entries;
            full = w.full;
            stands = subst (λ (l : List Token). AreEntries f.rank [] l w.entries) regroup w.stands;
            means = w.means ∙ ap (λ (n : Node). collected f.part n (entry h t es)) x.means ∙ sym (collected_next h f.part (cell_node c) t es new);
          };
    }

next_by : (q : ℕ) (h : Head) (c : Cell) (f : Frame) (fs : List Frame) (toks : List Token) (n : Place) → Stands c (f ∷ fs) toks → f.rank ≡ q
    → (b : Bool) → fits h f.part ≡ b → cond b (Some (place none (frame f.rank (next h f.part (cell_node c)) ∷ fs))) None ≡ Some n → Stands n.cell n.frames (toks ++ Begin q h ∷ [])
next_by q h c f fs toks n s e true new is =
    let same : place none (frame f.rank (next h f.part (cell_node c)) ∷ fs) ≡ n = cc in
    let o = s.opens in
    let mine = (o.1 ++ s.inner) ++ Begin f.rank h ∷ [] in
    subst (λ (n : Place). Stands n.cell n.frames (toks ++ Begin q h ∷ [])) same
    (record {
      before = o.0 ++ mine;
      inner = [];
      whole = ap (λ (k : ℕ). toks ++ Begin k h ∷ []) (sym e) ∙ ap (λ (l : List Token). l ++ Begin f.rank h ∷ []) (s.whole ∙ ap (λ (l : List Token). l ++ s.inner) o.2) ∙ simp (append_assoc, append-nil);
      opens = (o.0, mine, refl, o.3, o.4, parts_next h c f fs o.1 s.inner o.5 s.filled_by new);
      filled_by = refl;
    })
next_by q h c f fs toks n s e false new is = absurd cc

begin_by : (q : ℕ) (h : Head) (c : Cell) (fs : List Frame) (toks : List Token) (n : Place) → Stands c fs toks → top fs ≤ q
    → (b : Bool) → nat_lt (top fs) q ≡ b → cond b (open_more q h c fs) (again h c fs) ≡ Some n → Stands n.cell n.frames (toks ++ Begin q h ∷ [])
begin_by q h c fs toks n s le true lt is = opened q h c fs toks n s (ltb-true (top fs) q lt) is
begin_by q h c [] toks n s le false lt is = absurd cc
begin_by q h c (f ∷ fs) toks n s le false lt is =
    let e : f.rank ≡ q = omega (arith, ltb-false f.rank q lt) in
    next_by q h c f fs toks n s e (fits h f.part) refl is

put_by : (q : ℕ) (k : Token) (v : Cell) (f : Frame) (fs : List Frame) (toks : List Token) (n : Place) → (f.rank < q → FilledBy (f ∷ fs) (k ∷ []) v) → Stands none (f ∷ fs) toks
    → (b : Bool) → nat_lt f.rank q ≡ b → cond b (Some (place v (f ∷ fs))) None ≡ Some n → Stands n.cell n.frames (toks ++ k ∷ [])
put_by q k v f fs toks n fill s true lt is =
    let same : place v (f ∷ fs) ≡ n = cc in
    subst (λ (n : Place). Stands n.cell n.frames (toks ++ k ∷ [])) same
    (record {
      before = s.before;
      inner = k ∷ [];
      whole = bare (f ∷ fs) toks (k ∷ []) s;
      opens = s.opens;
      filled_by = fill (ltb-true f.rank q lt);
    })
put_by q k v f fs toks n fill s false lt is = absurd cc

put_all : (q : ℕ) (k : Token) (v : Cell) (c : Cell) (fs : List Frame) (toks : List Token) (n : Place)
    → ((f : Frame) (fs : List Frame) → f.rank < q → FilledBy (f ∷ fs) (k ∷ []) v) → Stands c fs toks → put q v c fs ≡ Some n
    → Stands n.cell n.frames (toks ++ k ∷ [])
put_all q k v none [] toks n fill s is = absurd cc
put_all q k v none (f ∷ fs) toks n fill s is = put_by q k v f fs toks n (fill f fs) s (nat_lt f.rank q) refl is
put_all q k v (done t) fs toks n fill s is = absurd cc
put_all q k v (block chomping ls) fs toks n fill s is = absurd cc

literal_lines_snoc : (ls : List (List ℕ)) (l : List ℕ) → literal_lines (ls ++ l ∷ []) ≡ literal_lines ls ++ LiteralLine l ∷ []
literal_lines_snoc [] l = refl
literal_lines_snoc (m ∷ ls) l = ap (λ (ts : List Token). LiteralLine m ∷ ts) (literal_lines_snoc ls l)

added : (l : List ℕ) (c : Cell) (fs : List Frame) (toks : List Token) (n : Place) → Stands c fs toks → add_line l c fs ≡ Some n → Stands n.cell n.frames (toks ++ LiteralLine l ∷ [])
added l none fs toks n s is = absurd cc
added l (done t) fs toks n s is = absurd cc
added l (block chomping ls) fs toks n s is =
    let same : place (block chomping (ls ++ l ∷ [])) fs ≡ n = cc in
    let h = s.filled_by in
    subst (λ (n : Place). Stands n.cell n.frames (toks ++ LiteralLine l ∷ [])) same
    (record {
      before = s.before;
      inner = s.inner ++ LiteralLine l ∷ [];
      whole = ap (λ (ts : List Token). ts ++ LiteralLine l ∷ []) s.whole ∙ append_assoc s.before s.inner (LiteralLine l ∷ []);
      opens = s.opens;
      filled_by = (h.0, h.1, ap (λ (ts : List Token). ts ++ LiteralLine l ∷ []) h.2 ∙ ap (λ (ts : List Token). LiteralHeader h.0 chomping ∷ ts) (sym (literal_lines_snoc ls l)), h.3);
    })

pub sound_step : (t : Token) (s n : Place) (toks : List Token) → Stands s.cell s.frames toks → step t s ≡ Some n → Stands n.cell n.frames (toks ++ t ∷ [])
sound_step (Value q v) s n toks h is =
    let k = settles q s.cell s.frames toks h in
    put_all q (Value q v) (done v) _ _ toks n (λ f fs lt. (leaf v, refl, (q, lt, inl refl), tt)) k.stands is
sound_step (LiteralHeader q chomping) s n toks h is =
    let k = settles q s.cell s.frames toks h in
    put_all q (LiteralHeader q chomping) (block chomping []) _ _ toks n (λ f fs lt. (q, lt, refl, tt)) k.stands is
sound_step (LiteralLine l) s n toks h is = added l s.cell s.frames toks n h is
sound_step (Begin q d) s n toks h is =
    let k = settles q s.cell s.frames toks h in
    begin_by q d _ _ toks n k.stands k.below _ refl is

sound_more : (ts : List Token) (t : Token) (s : Place) (o : Option Place) → step t s ≡ o → (n : Place) (toks : List Token) → Stands s.cell s.frames toks
    → ((m : Place) → Stands m.cell m.frames (toks ++ t ∷ []) → run ts m ≡ Some n → Stands n.cell n.frames ((toks ++ t ∷ []) ++ ts))
    → option_and_then (λ n. run ts n) o ≡ Some n → Stands n.cell n.frames (toks ++ t ∷ ts)
sound_more ts t s None stepped n toks h more is = absurd cc
sound_more ts t s (Some m) stepped n toks h more is =
    subst (λ (l : List Token). Stands n.cell n.frames l) (append_assoc toks (t ∷ []) ts) (more m (sound_step t s m toks h stepped) is)

sound_run : (ts : List Token) (s n : Place) (toks : List Token) → Stands s.cell s.frames toks → run ts s ≡ Some n → Stands n.cell n.frames (toks ++ ts)
sound_run [] s n toks h is =
    let same : s ≡ n = cc in
    subst (λ (l : List Token). Stands n.cell n.frames l) (sym (append-nil toks)) (subst (λ (s : Place). Stands s.cell s.frames toks) same h)
sound_run (t ∷ ts) s n toks h is = sound_more ts t s (step t s) refl n toks h (λ m k e. sound_run ts m n (toks ++ t ∷ []) k e) is

at_start : Stands none [] []
at_start = record { before = []; inner = []; whole = refl; opens = refl; filled_by = refl }

-- a tree that means the node is laid out
pub record Lays (toks : List Token) (node : Node) : Type 0 where
  pub tree : Tree
  pub means : node_of tree ≡ node
  pub lays : Layout toks tree

-- at the end: all is closed
ended : (c : Cell) (fs : List Frame) (toks : List Token) (n : Node) → Stands c fs toks → top fs ≤ 0 → made c ≡ Some n → Lays toks n
ended none fs toks n s le is = absurd cc
ended (block chomping ls) fs toks n s le is = absurd cc
ended (done m) (f ∷ fs) toks n s le is = absurd (omega (arith, s.opens.4))
ended (done m) [] toks n s le is =
    let same : m ≡ n = cc in
    let h = s.filled_by in
    record {
      tree = h.0;
      means = h.1 ∙ same;
      lays = (h.3, subst (λ (l : List Token). Inside 0 l h.0) (sym (s.whole ∙ ap (λ (l : List Token). l ++ s.inner) s.opens)) h.2);
    }

nothing : (c : Cell) (fs : List Frame) (toks : List Token) → Stands c fs toks → top fs ≤ 0 → made c ≡ None → toks ≡ []
nothing none [] toks s le is = s.whole ∙ ap (λ (l : List Token). l ++ s.inner) s.opens ∙ s.filled_by
nothing (block chomping ls) [] toks s le is = absurd s.filled_by.3
nothing none (f ∷ fs) toks s le is = absurd (omega (arith, s.opens.4))
nothing (block chomping ls) (f ∷ fs) toks s le is = absurd (omega (arith, s.opens.4))
nothing (done t) fs toks s le is = absurd cc

-- what was read is laid out
pub sound : (toks : List Token) (s : Place) (n : Node) → run toks start ≡ Some s → finish s ≡ Some n → Lays toks n
sound toks s n is end =
    let k = settles 0 s.cell s.frames toks (sound_run toks start s [] at_start is) in
    ended _ _ toks n k.stands k.below end

-- where there is no node at the end, there was nothing
pub nothing_yet : (toks : List Token) (s : Place) → run toks start ≡ Some s → finish s ≡ None → toks ≡ []
nothing_yet toks s is end =
    let k = settles 0 s.cell s.frames toks (sound_run toks start s [] at_start is) in
    nothing _ _ toks k.stands k.below end

pub one_tree : (toks : List Token) (t u : Tree) → Layout toks t → Layout toks u → node_of t ≡ node_of u
one_tree toks t u a b =
    let c = complete t toks a in
    let d = complete u toks b in
    let same : c.at ≡ d.at = cc (c.runs, d.runs) in
    let ends : finish c.at ≡ finish d.at = ap finish same in
    cc (c.ends, d.ends, ends)
