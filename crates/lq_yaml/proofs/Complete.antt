-- Where a tree is laid out, the machine reads it.
use Rattle.std.proofs.Common.{◌≡◌, ℕ, ◌<◌, ◌≤◌, ◌+◌, max, Bool, true, false, cond, nat_lt, List, [], ◌∷◌, ◌++◌, length, Option, Some, None, option_and_then, refl, sym, ap, subst, ◌∙◌, append_assoc, arith, inl, inr, suc}
use Rattle.std.proofs.lemmas.List.{append-nil}
use Rattle.std.proofs.lemmas.Bool.Decides.{nat_tests}
use Rattle.lq_tree.specs.declared.node.Node.{Node, Text as TextNode, the_lemmas}
use Rattle.lq_yaml.specs.declared.token.Chomping.{Chomping}
use Rattle.lq_yaml.specs.declared.token.Head.{Head}
use Rattle.lq_yaml.specs.declared.token.Token.{Token}
use Rattle.lq_yaml.specs.declared.token.Token.TheVariants.{Begin, Value, LiteralHeader}
use Rattle.lq_yaml.specs.Tree.{Tree, leaf, empty, collection, Entries, no_entries, entry, node_of, collection_node, levels, entry_levels, value_levels}
use Rattle.lq_yaml.specs.Layout.{IsFull, Inside, AreEntries, Layout, IsLeaf, block_text, literal_lines}
use Rattle.lq_yaml.specs.Machine.{Frame, Place, Cell, none, done, block, place, start, cell_node, begun, fits, filled, next, frame, settled, made, begin, step, run, finish, level_at, reach, reach_by}
use Rattle.lq_yaml.proofs.Parts.{Tells, tells_begun, tells_next, collected, collected_none, collected_begun, collected_next}

pub above : (q r : ℕ) → q < r → nat_lt q r ≡ true
above q r h = grind (arith, nat_tests)

pub not_above : (q r : ℕ) → r ≤ q → nat_lt q r ≡ false
not_above q r h = grind (arith, nat_tests)

pub settled_here : (q : ℕ) (c : Cell) (f : Frame) (fs : List Frame) → f.rank ≤ q → settled q c (f ∷ fs) ≡ place c (f ∷ fs)
settled_here q c f fs h = rw (not_above q f.rank h) refl

pub settled_more : (q : ℕ) (c : Cell) (f : Frame) (fs : List Frame) → q < f.rank → settled q c (f ∷ fs) ≡ settled q (done (filled f.part (cell_node c))) fs
settled_more q c f fs h = rw (above q f.rank h) refl

along : (a b : List Token) (o : Option Place) (n : Place) → ((s : Place) → run a s ≡ Some n → run (a ++ b) s ≡ run b n)
    → option_and_then (λ s. run a s) o ≡ Some n → option_and_then (λ s. run (a ++ b) s) o ≡ run b n
along a b None n h is = absurd cc
along a b (Some s) n h is = h s is

pub run_append : (a b : List Token) (s n : Place) → run a s ≡ Some n → run (a ++ b) s ≡ run b n
run_append [] b s n is = ap (λ (o : Option Place). option_and_then (λ n. run b n) o) is
run_append (t ∷ a) b s n is = along a b (step t s) n (λ s. run_append a b s n) is

max_assoc : (a b c : ℕ) → max a (max b c) ≡ max (max a b) c
max_assoc a b c = omega arith

reach_along : (t : Token) (a b : List Token) (o : Option Place) (n : Place) → ((s : Place) → run a s ≡ Some n → reach (a ++ b) s ≡ max (reach a s) (reach b n))
    → option_and_then (λ s. run a s) o ≡ Some n → reach_by t (λ s. reach (a ++ b) s) o ≡ max (reach_by t (λ s. reach a s) o) (reach b n)
reach_along t a b None n h is = absurd cc
reach_along t a b (Some s) n h is = ap (λ (k : ℕ). max (level_at t s) k) (h s is) ∙ max_assoc (level_at t s) (reach a s) (reach b n)

from_some : (s n : Place) → (let o : Option Place = Some s in o) ≡ Some n → s ≡ n
from_some s n is = cc

max_zero : (k : ℕ) → k ≡ max 0 k
max_zero k = omega arith

pub reach_append : (a b : List Token) (s n : Place) → run a s ≡ Some n → reach (a ++ b) s ≡ max (reach a s) (reach b n)
reach_append [] b s n is = ap (λ (p : Place). reach b p) (from_some s n is) ∙ max_zero (reach b n)
reach_append (t ∷ a) b s n is = reach_along t a b (step t s) n (λ s. reach_append a b s n) is

-- the tokens lead to a place that, for any token of a rank below bound, is one with the node behind the innermost open head;
-- under n levels that are open before, d more are reached
pub record Goes (s : Place) (toks : List Token) (bound : ℕ) (node : Node) (fs : List Frame) (n : ℕ) (d : ℕ) : Type 0 where
  pub at : Place
  pub runs : run toks s ≡ Some at
  pub cell : Cell
  pub means : cell_node cell ≡ node
  pub same : (p : ℕ) → p < bound → settled p at.cell at.frames ≡ settled p cell fs
  pub deep : max n (reach toks s) ≡ n + d

-- the same where the node is that of a whole collection
pub record Collects (s : Place) (toks : List Token) (bound : ℕ) (node : Node) (fs : List Frame) (n : ℕ) (d : ℕ) : Type 0 where
  pub at : Place
  pub runs : run toks s ≡ Some at
  pub same : (p : ℕ) → p < bound → settled p at.cell at.frames ≡ settled p (done node) fs
  pub deep : max n (reach toks s) ≡ n + d

-- a token, then tokens, then the others
pub then_runs : (s m n : Place) (k : Token) (a b : List Token) → step k s ≡ Some m → run a m ≡ Some n → run ((k ∷ a) ++ b) s ≡ run b n
then_runs s m n k a b is more = ap (λ (o : Option Place). option_and_then (λ n. run (a ++ b) n) o) is ∙ run_append a b m n more

pub then_reach : (s m n : Place) (k : Token) (a b : List Token) → step k s ≡ Some m → run a m ≡ Some n → reach ((k ∷ a) ++ b) s ≡ max (level_at k m) (max (reach a m) (reach b n))
then_reach s m n k a b is more = ap (λ (o : Option Place). reach_by k (λ n. reach (a ++ b) n) o) is ∙ ap (λ (j : ℕ). max (level_at k m) j) (reach_append a b m n more)

-- a head behind an open head
pub step_inside : (q : ℕ) (h : Head) (f : Frame) (fs : List Frame) → f.rank < q → step (Begin q h) (place none (f ∷ fs)) ≡ Some (place none (frame q (begun h) ∷ f ∷ fs))
step_inside q h f fs lt =
    let le : f.rank ≤ q = omega arith in
    rw (not_above q f.rank le, above f.rank q lt) refl

pub step_value : (q : ℕ) (v : Node) (f : Frame) (fs : List Frame) → f.rank < q → step (Value q v) (place none (f ∷ fs)) ≡ Some (place (done v) (f ∷ fs))
step_value q v f fs lt =
    let le : f.rank ≤ q = omega arith in
    rw (not_above q f.rank le, above f.rank q lt) refl

pub step_header : (q : ℕ) (chomping : Chomping) (f : Frame) (fs : List Frame) → f.rank < q → step (LiteralHeader q chomping) (place none (f ∷ fs)) ≡ Some (place (block chomping []) (f ∷ fs))
step_header q chomping f fs lt =
    let le : f.rank ≤ q = omega arith in
    rw (not_above q f.rank le, above f.rank q lt) refl

run_literal_lines : (ls before : List (List ℕ)) (chomping : Chomping) (fs : List Frame) → run (literal_lines ls) (place (block chomping before) fs) ≡ Some (place (block chomping (before ++ ls)) fs)
run_literal_lines [] before chomping fs = ap (λ (l : List (List ℕ)). Some (place (block chomping l) fs)) (sym (append-nil before))
run_literal_lines (l ∷ ls) before chomping fs = run_literal_lines ls (before ++ l ∷ []) chomping fs ∙ ap (λ (m : List (List ℕ)). Some (place (block chomping m) fs)) (append_assoc before (l ∷ []) ls)

reach_literal_lines : (ls before : List (List ℕ)) (chomping : Chomping) (fs : List Frame) → reach (literal_lines ls) (place (block chomping before) fs) ≡ 0
reach_literal_lines [] before chomping fs = refl
reach_literal_lines (l ∷ ls) before chomping fs = ap (λ (k : ℕ). max 0 k) (reach_literal_lines ls (before ++ l ∷ []) chomping fs)

-- the next head of a collection
step_next : (h : Head) (s : Place) (c : Cell) (f : Frame) (fs : List Frame) → settled f.rank s.cell s.frames ≡ settled f.rank c (f ∷ fs) → fits h f.part ≡ true
    → step (Begin f.rank h) s ≡ Some (place none (frame f.rank (next h f.part (cell_node c)) ∷ fs))
step_next h s c f fs is new =
    let at = is ∙ settled_here f.rank c f fs (omega arith) in
    let no = not_above f.rank f.rank (omega arith) in
    ap (λ (n : Place). begin f.rank h n.cell n.frames) at ∙ rw (no, new) refl

max_value : (n v : ℕ) → max n (max (n + v) 0) ≡ n + v
max_value n v = omega arith

max_none : (n : ℕ) → max n (max 0 0) ≡ n + 0
max_none n = omega arith

text_levels : (text : List ℕ) → value_levels (TextNode text) ≡ 0
text_levels text = search (arith, the_lemmas)

leafs : (v : Node) (r q : ℕ) (toks : List Token) (f : Frame) (fs : List Frame) → f.rank < q → IsLeaf q toks v
    → Goes (place none (f ∷ fs)) toks (suc r) v (f ∷ fs) (length (f ∷ fs)) (value_levels v)
leafs v r q toks f fs lt (inl is) =
    subst (λ (ts : List Token). Goes (place none (f ∷ fs)) ts (suc r) v (f ∷ fs) (length (f ∷ fs)) (value_levels v)) (sym is)
    (record {
      at = place (done v) (f ∷ fs);
      runs = ap (λ (o : Option Place). option_and_then (λ n. Some n) o) (step_value q v f fs lt);
      cell = done v;
      means = refl;
      same = λ p h. refl;
      deep = ap (λ (o : Option Place). max (length (f ∷ fs)) (reach_by (Value q v) (λ n. reach [] n) o)) (step_value q v f fs lt) ∙ max_value (length (f ∷ fs)) (value_levels v);
    })
leafs v r q toks f fs lt (inr (chomping, ls, is, text)) =
    subst (λ (ts : List Token). Goes (place none (f ∷ fs)) ts (suc r) v (f ∷ fs) (length (f ∷ fs)) (value_levels v)) (sym is)
    (record {
      at = place (block chomping ls) (f ∷ fs);
      runs = ap (λ (o : Option Place). option_and_then (λ n. run (literal_lines ls) n) o) (step_header q chomping f fs lt) ∙ run_literal_lines ls [] chomping (f ∷ fs);
      cell = block chomping ls;
      means = sym text;
      same = λ p h. refl;
      deep = ap (λ (o : Option Place). max (length (f ∷ fs)) (reach_by (LiteralHeader q chomping) (λ n. reach (literal_lines ls) n) o)) (step_header q chomping f fs lt)
          ∙ ap (λ (k : ℕ). max (length (f ∷ fs)) (max 0 k)) (reach_literal_lines ls [] chomping (f ∷ fs)) ∙ max_none (length (f ∷ fs))
          ∙ ap (λ (k : ℕ). length (f ∷ fs) + k) (sym (text_levels (block_text chomping ls)) ∙ ap value_levels (sym text));
    })

-- the levels of an entry and of those after it
deep_collection : (n a b t es all : ℕ) → max n a ≡ n + t → max n b ≡ n + es → all ≡ max n (max a b) → max n all ≡ n + max t es
deep_collection n a b t es all x y z = omega (arith, x, y, z)

deep_begun : (n a b t es all : ℕ) → max (suc n) a ≡ suc n + t → max (suc n) b ≡ suc n + es → all ≡ max (suc n) (max a b) → max n all ≡ n + (max t es + 1)
deep_begun n a b t es all x y z = omega (arith, x, y, z)

max_least : (n : ℕ) → max n 0 ≡ n + 0
max_least n = omega arith

mutual
  pub complete_below : (t : Tree) (r : ℕ) (toks : List Token) (f : Frame) (fs : List Frame) → f.rank ≡ r → Inside r toks t
      → Goes (place none (f ∷ fs)) toks (suc r) (node_of t) (f ∷ fs) (length (f ∷ fs)) (levels t)
  complete_below (leaf v) r toks f fs e b = leafs v r b.0 toks f fs (omega (arith, b.1)) b.2
  complete_below empty r toks f fs e b =
      record {
        at = place none (f ∷ fs);
        runs = ap (λ (ts : List Token). run ts (place none (f ∷ fs))) b;
        cell = none;
        means = refl;
        same = λ p h. refl;
        deep = ap (λ (ts : List Token). max (length (f ∷ fs)) (reach ts (place none (f ∷ fs)))) b ∙ max_least (length (f ∷ fs));
      }
  complete_below (collection es) r toks f fs e b = opened es b.0 r toks f fs e b.1 b.2 b.3

  opened : (es : Entries) (q r : ℕ) (toks : List Token) (f : Frame) (fs : List Frame) → f.rank ≡ r → r < q → IsFull es → AreEntries q [] toks es
      → Goes (place none (f ∷ fs)) toks (suc r) (collection_node es) (f ∷ fs) (length (f ∷ fs)) (entry_levels es + 1)
  opened no_entries q r toks f fs e lt full g = absurd full
  opened (entry h t es) q r toks f fs e lt full g =
      let lt' : f.rank < q = omega arith in
      let s = place none (f ∷ fs) in
      let m = place none (frame q (begun h) ∷ f ∷ fs) in
      let stepped = step_inside q h f fs lt' in
      let inner = complete_below t q g.0 (frame q (begun h)) (f ∷ fs) refl g.4 in
      let rest = complete_collection es q (h ∷ []) g.1 inner.at inner.cell (frame q (begun h)) (f ∷ fs) refl (tells_begun h) inner.same g.5 in
      let reaches = then_reach s m inner.at (Begin q h) g.0 g.1 stepped inner.runs in
      subst (λ (ts : List Token). Goes (place none (f ∷ fs)) ts (suc r) (collection_node (entry h t es)) (f ∷ fs) (length (f ∷ fs)) (entry_levels (entry h t es) + 1)) (sym g.2)
      (record {
        at = rest.at;
        runs = then_runs s m inner.at (Begin q h) g.0 g.1 stepped inner.runs ∙ rest.runs;
        cell = done (collection_node (entry h t es));
        means = refl;
        same = λ p le. rest.same p (omega arith) ∙ ap (λ (n : Node). settled p (done n) (f ∷ fs)) (ap (λ (n : Node). collected (begun h) n es) inner.means ∙ collected_begun h t es);
        deep = deep_begun (length (f ∷ fs)) (reach g.0 m) (reach g.1 inner.at) (levels t) (entry_levels es) _ inner.deep rest.deep reaches;
      })

  complete_collection : (es : Entries) (q : ℕ) (seen : List Head) (toks : List Token) (s : Place) (c : Cell) (f : Frame) (fs : List Frame)
      → f.rank ≡ q → Tells f.part seen → ((p : ℕ) → p < suc q → settled p s.cell s.frames ≡ settled p c (f ∷ fs)) → AreEntries q seen toks es
      → Collects s toks q (collected f.part (cell_node c) es) fs (length (f ∷ fs)) (entry_levels es)
  complete_collection no_entries q seen toks s c f fs e tells same g =
      record {
        at = s;
        runs = ap (λ (ts : List Token). run ts s) g;
        same = λ p lt. same p (omega arith) ∙ settled_more p c f fs (omega arith) ∙ ap (λ (n : Node). settled p (done n) fs) (sym (collected_none f.part (cell_node c)));
        deep = ap (λ (ts : List Token). max (length (f ∷ fs)) (reach ts s)) g ∙ max_least (length (f ∷ fs));
      }
  complete_collection (entry h t es) q seen toks s c f fs e tells same g =
      let new : fits h f.part ≡ true = tells h ∙ g.3 in
      let at : settled f.rank s.cell s.frames ≡ settled f.rank c (f ∷ fs) = same f.rank (omega arith) in
      let f' = frame f.rank (next h f.part (cell_node c)) in
      let m = place none (f' ∷ fs) in
      let stepped = step_next h s c f fs at new in
      let inner = complete_below t q g.0 f' fs e g.4 in
      let rest = complete_collection es q (seen ++ h ∷ []) g.1 inner.at inner.cell f' fs e (tells_next h f.part (cell_node c) seen tells g.3) inner.same g.5 in
      let reaches = then_reach s m inner.at (Begin f.rank h) g.0 g.1 stepped inner.runs in
      let toks_are : ((Begin f.rank h ∷ g.0) ++ g.1) ≡ toks = ap (λ (k : ℕ). (Begin k h ∷ g.0) ++ g.1) e ∙ sym g.2 in
      subst (λ (ts : List Token). Collects s ts q (collected f.part (cell_node c) (entry h t es)) fs (length (f ∷ fs)) (entry_levels (entry h t es))) toks_are
      (record {
        at = rest.at;
        runs = then_runs s m inner.at (Begin f.rank h) g.0 g.1 stepped inner.runs ∙ rest.runs;
        same = λ p lt. rest.same p lt ∙ ap (λ (n : Node). settled p (done n) fs) (ap (λ (n : Node). collected (next h f.part (cell_node c)) n es) inner.means ∙ collected_next h f.part (cell_node c) t es new);
        deep = deep_collection (length (f ∷ fs)) (reach g.0 m) (reach g.1 inner.at) (levels t) (entry_levels es) _ inner.deep rest.deep reaches;
      })

deep_root : (a b t es all : ℕ) → max 1 a ≡ 1 + t → max 1 b ≡ 1 + es → all ≡ max 1 (max a b) → all ≡ max t es + 1
deep_root a b t es all x y z = omega (arith, x, y, z)

-- what the machine gives on what is laid out
pub record Reads (toks : List Token) (t : Tree) : Type 0 where
  pub at : Place
  pub runs : run toks start ≡ Some at
  pub ends : finish at ≡ Some (node_of t)
  pub deep : reach toks start ≡ levels t

begins_at : (q : ℕ) (h : Head) → 0 < q → step (Begin q h) start ≡ Some (place none (frame q (begun h) ∷ []))
begins_at q h lt = ap (λ (w : Bool). cond w (Some (place none (frame q (begun h) ∷ []))) None) (above 0 q lt)

-- the machine reads what is laid out
pub complete : (t : Tree) (toks : List Token) → Layout toks t → Reads toks t
complete (leaf v) toks h = absurd h.0
complete empty toks h = absurd h.0
complete (collection no_entries) toks w = absurd w.1.2
complete (collection (entry h t es)) toks w =
    let b = w.1 in
    let g = b.3 in
    let q = b.0 in
    let m = place none (frame q (begun h) ∷ []) in
    let stepped = begins_at q h b.1 in
    let inner = complete_below t q g.0 (frame q (begun h)) [] refl g.4 in
    let rest = complete_collection es q (h ∷ []) g.1 inner.at inner.cell (frame q (begun h)) [] refl (tells_begun h) inner.same g.5 in
    let reaches = then_reach start m inner.at (Begin q h) g.0 g.1 stepped inner.runs in
    let is : settled 0 rest.at.cell rest.at.frames ≡ place (done (collection_node (entry h t es))) [] =
    rest.same 0 b.1 ∙ ap (λ (n : Node). place (done n) []) (ap (λ (n : Node). collected (begun h) n es) inner.means ∙ collected_begun h t es) in
    subst (λ (ts : List Token). Reads ts (collection (entry h t es))) (sym g.2)
    (record {
      at = rest.at;
      runs = then_runs start m inner.at (Begin q h) g.0 g.1 stepped inner.runs ∙ rest.runs;
      ends = ap (λ (s : Place). made s.cell) is;
      deep = deep_root (reach g.0 m) (reach g.1 inner.at) (levels t) (entry_levels es) _ inner.deep rest.deep reaches;
    })

dead_by : (a b : List Token) (o : Option Place) → ((s : Place) → run a s ≡ None → run (a ++ b) s ≡ None)
    → option_and_then (λ s. run a s) o ≡ None → option_and_then (λ s. run (a ++ b) s) o ≡ None
dead_by a b None h is = refl
dead_by a b (Some s) h is = h s is

pub dead : (a b : List Token) (s : Place) → run a s ≡ None → run (a ++ b) s ≡ None
dead [] b s is = absurd cc
dead (t ∷ a) b s is = dead_by a b (step t s) (λ s. dead a b s) is
