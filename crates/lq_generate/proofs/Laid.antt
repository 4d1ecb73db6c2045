-- Maps whose entries are put in row by row, and lists of changesets.
use Rattle.std.proofs.Common.{List, Option, None, Some, [], ap, refl, ◌++◌, ◌∙◌, ◌∷◌, ◌≡◌, ℕ}
use Rattle.std.specs.Prelude.{Bool, true, false, if◌then◌else◌}
use Rattle.lq_tree.specs.Items.{is_empty}
use Rattle.lq_tree.specs.declared.node.Node.{Node}
use Rattle.lq_generate.specs.Generated.{set_tree, set_trees}
use Rattle.lq_generate.specs.Types.{Row, present}

abbrev pub Entries : Type 0
Entries = List (List ℕ × Node)

joined : (rs ss : List Row) → present rs ++ present ss ≡ present (rs ++ ss)
joined [] ss = refl
joined (r ∷ rs) ss = by r.1 (joined rs ss) where
  by : (o : Option Node) → present rs ++ present ss ≡ present (rs ++ ss) → (elim o as (λ _. Entries) [ None ↦ present rs | Some n ↦ (r.0, n) ∷ present rs ]) ++ present ss ≡ elim o as (λ _. Entries) [ None ↦ present (rs ++ ss) | Some n ↦ (r.0, n) ∷ present (rs ++ ss) ]
  by None rest = rest
  by (Some n) rest = ap (λ es. (r.0, n) ∷ es) rest

-- the entries of some rows, and behind them those of others

pub three : (a b c : List Row) → (present a ++ present b) ++ present c ≡ present ((a ++ b) ++ c)
three a b c = ap (λ es. es ++ present c) (joined a b) ∙ joined (a ++ b) c

pub four : (a b c d : List Row) → ((present a ++ present b) ++ present c) ++ present d ≡ present (((a ++ b) ++ c) ++ d)
four a b c d = ap (λ es. es ++ present d) (three a b c) ∙ joined ((a ++ b) ++ c) d

pub five : (a b c d e : List Row) → (((present a ++ present b) ++ present c) ++ present d) ++ present e ≡ present ((((a ++ b) ++ c) ++ d) ++ e)
five a b c d e =
    ap (λ es. (es ++ present d) ++ present e) (three a b c)
    ∙ ap (λ es. es ++ present e) (joined ((a ++ b) ++ c) d)
    ∙ joined (((a ++ b) ++ c) ++ d) e

abbrev Sets : Type 0
Sets = List (List ℕ × List Node)

sets_joined : (author : List ℕ) (xs ys : Sets) → set_trees author xs ++ set_trees author ys ≡ set_trees author (xs ++ ys)
sets_joined author [] ys = refl
sets_joined author (x ∷ xs) ys = by (is_empty x.1) (sets_joined author xs ys) where
  by : (b : Bool) → set_trees author xs ++ set_trees author ys ≡ set_trees author (xs ++ ys) → (if b then set_trees author xs else set_tree x.0 author x.1 ∷ set_trees author xs) ++ set_trees author ys ≡ (if b then set_trees author (xs ++ ys) else set_tree x.0 author x.1 ∷ set_trees author (xs ++ ys))
  by true rest = rest
  by false rest = ap (λ ns. set_tree x.0 author x.1 ∷ ns) rest

-- the changesets of some, and behind them those of others
pub sets_three : (author : List ℕ) (xs ys zs : Sets) → (set_trees author xs ++ set_trees author ys) ++ set_trees author zs ≡ set_trees author ((xs ++ ys) ++ zs)
sets_three author xs ys zs = ap (λ ns. ns ++ set_trees author zs) (sets_joined author xs ys) ∙ sets_joined author (xs ++ ys) zs
