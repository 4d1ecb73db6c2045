-- Lemmas on sets of names.
use Rattle.std.proofs.Common.{Bool, List, [], ap, cond, drop, false, get_or, length, map, refl, suc, sym, take, true, ℕ, ◌+◌, ◌<◌, ◌∙◌, ◌||◌, ◌++◌, ◌∷◌, ◌≡◌, add-one}
use Rattle.std.proofs.Math.Seq.{drop-cons, take-length, take-suc}
use Rattle.std.specs.BTreeSet.{BTreeSet, Updates}
use Rattle.std.specs.List.{list_any}
use Rattle.std.specs.declared.cmp.Ordering.{Ordering}
use denote.Ref.{Bor}
use Rattle.lq_base.specs.Name.{is_named, name_cmp}
use Rattle.lq_base.specs.declared.name.Name.{Name}
use Rattle.lq_model.specs.Catalogue.{is_in, repeats}
use Rattle.lq_model.proofs.Lists.{any-append, other_way, same_name, whether}
use Rattle.lq_shapes.specs.Created.{Grows, ShowsNames, has_name}

abbrev pub str_cmp : Bor Name → Bor Name → Ordering
str_cmp x y = name_cmp x.now y.now

abbrev pub named : List (Bor Name) → List Name
named ns = map (λ n. n.now) ns

pub either_way : (a b : Name) → is_named a b ≡ is_named b a
either_way a b = whether (is_named a b)
    (λ is. let e : a ≡ b = same_name a b is in rw (e) refl)
    (λ no. no ∙ sym (other_way a b no))

pub or_false : (b : Bool) → (b || false) ≡ b
or_false true = refl
or_false false = refl

as_or : (a b : Bool) → cond a true b ≡ (a || b)
as_or true b = refl
as_or false b = refl

-- what a set says of itself after a name came in
pub grown : (old new : BTreeSet (Bor Name)) (k : Bor Name) → Updates str_cmp old new k true → Grows old new k.now
grown old new k up = record { members = λ n. let q : Bor Name = record { ref_ptr = (0, 0); now = n } in up.0 q ∙ as_or (is_named k.now n) (has_name old n) ∙ rw (either_way k.now n) refl }

none_seen : (s : BTreeSet (Bor Name)) (ns : List Name) → s.keys ≡ [] → list_any (has_name s) ns ≡ false
none_seen s [] is = refl
none_seen s (n ∷ ns) is = rw is (none_seen s ns is)

joined : (k : Name) (old new : BTreeSet (Bor Name)) → Grows old new k → (ns : List Name) → list_any (has_name new) ns ≡ (is_in k ns || list_any (has_name old) ns)
joined k old new is [] = refl
joined k old new is (n ∷ ns) = rw (is.members n, joined k old new is ns, either_way n k) (shuffle (is_named k n) (has_name old n) (is_in k ns) (list_any (has_name old) ns)) where
  shuffle : (a b c d : Bool) → ((a || b) || (c || d)) ≡ ((a || c) || (b || d))
  shuffle true b c d = refl
  shuffle false true true d = refl
  shuffle false true false d = refl
  shuffle false false c d = refl

in_both : (n : Name) (front : List Name) (k : Name) → is_in n (front ++ k ∷ []) ≡ (is_in n front || is_named n k)
in_both n [] k = or_false (is_named n k)
in_both n (m ∷ front) k = rw (in_both n front k) (grouped (is_named n m) (is_in n front) (is_named n k)) where
  grouped : (a b c : Bool) → (a || (b || c)) ≡ ((a || b) || c)
  grouped true b c = refl
  grouped false b c = refl

-- a name behind others
repeats_last : (front : List Name) (k : Name) → repeats (front ++ k ∷ []) ≡ (is_in k front || repeats front)
repeats_last [] k = refl
repeats_last (n ∷ front) k = rw (in_both n front k, repeats_last front k, either_way n k) (shuffle (is_in n front) (is_named k n) (is_in k front) (repeats front)) where
  shuffle : (a b c d : Bool) → ((a || b) || (c || d)) ≡ ((b || c) || (a || d))
  shuffle true true c d = refl
  shuffle true false true d = refl
  shuffle true false false d = refl
  shuffle false true c d = refl
  shuffle false false true d = refl
  shuffle false false false d = refl

step : (all : Bool) (k : Name) (old new : BTreeSet (Bor Name)) (front : List Name) → all ≡ (list_any (has_name old) (front ++ k ∷ []) || repeats (front ++ k ∷ [])) → has_name old k ≡ false → Grows old new k
    → all ≡ (list_any (has_name new) front || repeats front)
step all k old new front so fresh more =
    so ∙ rw (any-append (has_name old) front (k ∷ []), fresh, repeats_last front k, joined k old new more front) (swap (list_any (has_name old) front) (is_in k front) (repeats front))
  where
    swap : (a b c : Bool) → ((a || (false || false)) || (b || c)) ≡ ((b || a) || c)
    swap true true c = refl
    swap true false c = refl
    swap false true c = refl
    swap false false c = refl

named_last : (front : List (Bor Name)) (k : Bor Name) → named (front ++ k ∷ []) ≡ named front ++ k.now ∷ []
named_last [] k = refl
named_last (n ∷ front) k = rw (named_last front k) refl

-- the first names, of which the last is the i-th
pub last_of : (ns : List (Bor Name)) (i left : ℕ) (d k : Bor Name) → left ≡ suc i → i < length ns → k ≡ get_or ns i d → named (take left ns) ≡ named (take i ns) ++ k.now ∷ []
last_of ns i left d k count within is =
    ap (λ n. named (take n ns)) count ∙ (ap named (take-suc ns i d within) ∙ (named_last (take i ns) (get_or ns i d) ∙ ap (λ (m : Bor Name). named (take i ns) ++ m.now ∷ []) (sym is)))

-- the name is new
pub repeats_before : (all : Bool) (ns front : List Name) (k : Name) (old new : BTreeSet (Bor Name)) → ns ≡ front ++ k ∷ [] → all ≡ (list_any (has_name old) ns || repeats ns) → has_name old k ≡ false → Grows old new k
    → all ≡ (list_any (has_name new) front || repeats front)
repeats_before all ns front k old new is so fresh more = step all k old new front (so ∙ ap (λ (ms : List Name). list_any (has_name old) ms || repeats ms) is) fresh more

-- the name was seen
pub repeats_found : (all : Bool) (ns front : List Name) (k : Name) (old : BTreeSet (Bor Name)) → ns ≡ front ++ k ∷ [] → all ≡ (list_any (has_name old) ns || repeats ns) → has_name old k ≡ true → all ≡ true
repeats_found all ns front k old is so seen = so ∙ rw (is, any-append (has_name old) front (k ∷ []), seen) (whichever (list_any (has_name old) front) (repeats (front ++ k ∷ []))) where
  whichever : (a b : Bool) → ((a || (true || false)) || b) ≡ true
  whichever true b = refl
  whichever false b = refl

-- all names
pub repeats_first : (s : BTreeSet (Bor Name)) (ns : List (Bor Name)) (n : ℕ) → s.keys ≡ [] → n ≡ length ns → repeats (named ns) ≡ (list_any (has_name s) (named (take n ns)) || repeats (named (take n ns)))
repeats_first s ns n none all = rw (all, take-length ns) (rw (none_seen s (named ns) none) refl)

-- a name is seen, or still to come
pub record Gathers (all : List (Bor Name)) (seen : BTreeSet (Bor Name)) (rest : List (Bor Name)) : Type 0 where
  pub members : (n : Name) → is_in n (named all) ≡ (has_name seen n || is_in n (named rest))

pub gathers_none : (seen : BTreeSet (Bor Name)) (all : List (Bor Name)) → seen.keys ≡ [] → Gathers all seen (drop 0 all)
gathers_none seen all is = record { members = λ n. rw (is) refl }

pub gathers_more : (all : List (Bor Name)) (i : ℕ) (d k : Bor Name) (old new : BTreeSet (Bor Name)) → i < length all → k ≡ get_or all i d → Gathers all old (drop i all) → Grows old new k.now → Gathers all new (drop (i + 1) all)
gathers_more all i d k old new within is so more = record { members = λ n. rw add-one (rw (drop-cons all i d, ← is) at (so.members n) ∙ rw (more.members n) (swap (has_name old n) (is_named n k.now) (is_in n (named (drop (suc i) all))))) } where
  swap : (a b c : Bool) → (a || (b || c)) ≡ ((b || a) || c)
  swap true true c = refl
  swap true false c = refl
  swap false true c = refl
  swap false false c = refl

all_shown : (all : List (Bor Name)) (seen : BTreeSet (Bor Name)) → Gathers all seen [] → ShowsNames (named all) seen
all_shown all seen so = record { members = λ n. sym (so.members n ∙ or_false (has_name seen n)) }

-- when all were seen
pub gathers_all : (all : List (Bor Name)) (i : ℕ) (seen : BTreeSet (Bor Name)) → drop i all ≡ [] → Gathers all seen (drop i all) → ShowsNames (named all) seen
gathers_all all i seen none so = all_shown all seen (rw none at so)
