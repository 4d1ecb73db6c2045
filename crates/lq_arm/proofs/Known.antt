-- Names come into a set one after another.
use Rattle.std.proofs.Common.{Bor, ◌<◌, ◌+◌, suc, add-one, length, drop, get_or, ◌≡◌, ◌∙◌, ◌||◌, Bool, true, false, List, [], ◌∷◌, refl, ap, sym, ℕ}
use Rattle.std.proofs.Math.Seq.{drop-cons}
use Rattle.std.specs.BTreeSet.{BTreeSet, insert_key}
use Rattle.std.specs.List.{list_any}
use Rattle.std.specs.Ordering.{is_eq, match_ordering}
use Rattle.std.specs.declared.cmp.Ordering.{Ordering}
use Rattle.std.specs.declared.cmp.Ordering.TheVariants.{Less, Equal, Greater}
use Rattle.lq_base.specs.Name.{is_named, name_cmp}
use Rattle.lq_base.specs.declared.name.Name.{Name}
use Rattle.lq_model.specs.Catalogue.{is_in, repeats}
use Rattle.lq_model.proofs.Lists.{named_itself, other_way, same_name, whether}
use Rattle.lq_arm.specs.Verdict.{has_name}

abbrev lent_cmp : Bor Name → Bor Name → Ordering
lent_cmp a b = name_cmp a.now b.now

again : (a b : Bool) → (a || b) ≡ (a || (a || b))
again true b = refl
again false b = refl

turned : (a b c : Bool) → (a || (b || c)) ≡ (b || (a || c))
turned true true c = refl
turned true false c = refl
turned false b c = refl

-- a name is known after it came in, and each other one if it was
known_more : (ks : List (Bor Name)) (k : Bor Name) (n : Name) → list_any (λ (x : Bor Name). is_named n x.now) (insert_key lent_cmp ks k) ≡ (is_named n k.now || list_any (λ (x : Bor Name). is_named n x.now) ks)
known_more [] k n = refl
known_more (x ∷ ks) k n =
    elim (name_cmp k.now x.now) as (λ r. name_cmp k.now x.now ≡ r → list_any (λ (y : Bor Name). is_named n y.now) (match_ordering r (k ∷ x ∷ ks) (x ∷ ks) (x ∷ insert_key lent_cmp ks k)) ≡ (is_named n k.now || (is_named n x.now || list_any (λ (y : Bor Name). is_named n y.now) ks))) [
      | Less ↦ λ e. refl
      | Equal ↦ λ e. again (is_named n x.now) _ ∙ ap (λ m. is_named n m || (is_named n x.now || list_any (λ (y : Bor Name). is_named n y.now) ks)) (sym (same_name k.now x.now (ap is_eq e)))
      | Greater ↦ λ e. ap (λ b. is_named n x.now || b) (known_more ks k n) ∙ turned (is_named n x.now) (is_named n k.now) _
    ] refl

pub known_also : (old new : BTreeSet (Bor Name)) (k : Bor Name) → new.keys ≡ insert_key lent_cmp old.keys k → (n : Name) → has_name new n ≡ (is_named n k.now || has_name old n)
known_also old new k is n = ap (λ ks. list_any (λ (x : Bor Name). is_named n x.now) ks) is ∙ known_more old.keys k n

none_known : (s : BTreeSet (Bor Name)) (ns : List Name) → s.keys ≡ [] → list_any (has_name s) ns ≡ false
none_known s [] is = refl
none_known s (n ∷ ns) is = rw is (none_known s ns is)

pub repeats_first : (s : BTreeSet (Bor Name)) (ns : List Name) → s.keys ≡ [] → repeats ns ≡ (list_any (has_name s) ns || repeats ns)
repeats_first s ns is = rw (none_known s ns is) refl

named_back : (a b : Name) → is_named a b ≡ is_named b a
named_back a b = whether (is_named a b) (λ is. is ∙ sym (ap (is_named b) (same_name a b is) ∙ named_itself b)) (λ other. other ∙ sym (other_way a b other))

joined : (k : Name) (old new : BTreeSet (Bor Name)) → ((n : Name) → has_name new n ≡ (is_named n k || has_name old n)) → (ns : List Name)
    → list_any (has_name new) ns ≡ (is_in k ns || list_any (has_name old) ns)
joined k old new also [] = refl
joined k old new also (n ∷ ns) =
    ap (λ b. b || list_any (has_name new) ns) (also n ∙ ap (λ b. b || has_name old n) (named_back n k)) ∙ ap (λ b. (is_named k n || has_name old n) || b) (joined k old new also ns)
    ∙ shuffle (is_named k n) (has_name old n) (is_in k ns) (list_any (has_name old) ns) where
      shuffle : (a b c d : Bool) → ((a || b) || (c || d)) ≡ ((a || c) || (b || d))
      shuffle true b c d = refl
      shuffle false true true d = refl
      shuffle false true false d = refl
      shuffle false false c d = refl

step : (all : Bool) (k : Name) (old new : BTreeSet (Bor Name)) (ns : List Name) → all ≡ (list_any (has_name old) (k ∷ ns) || repeats (k ∷ ns)) → has_name old k ≡ false
    → ((n : Name) → has_name new n ≡ (is_named n k || has_name old n)) → all ≡ (list_any (has_name new) ns || repeats ns)
step all k old new ns so fresh also = so ∙ rw (fresh, joined k old new also ns) (swap (list_any (has_name old) ns) (is_in k ns) (repeats ns)) where
  swap : (a b c : Bool) → (a || (b || c)) ≡ ((b || a) || c)
  swap true true c = refl
  swap true false c = refl
  swap false true c = refl
  swap false false c = refl

-- the name is new
pub repeats_more : (all : Bool) (ns : List Name) (i : ℕ) (d k : Name) (old new : BTreeSet (Bor Name)) → i < length ns → k ≡ get_or ns i d
    → all ≡ (list_any (has_name old) (drop i ns) || repeats (drop i ns)) → has_name old k ≡ false → ((n : Name) → has_name new n ≡ (is_named n k || has_name old n))
    → all ≡ (list_any (has_name new) (drop (i + 1) ns) || repeats (drop (i + 1) ns))
repeats_more all ns i d k old new within is so fresh also = rw add-one (step all k old new (drop (suc i) ns) (rw (drop-cons ns i d, ← is) at so) fresh also)

-- the name was known
pub repeats_found : (all : Bool) (ns : List Name) (i : ℕ) (d : Name) (old : BTreeSet (Bor Name)) → i < length ns
    → all ≡ (list_any (has_name old) (drop i ns) || repeats (drop i ns)) → has_name old (get_or ns i d) ≡ true → all ≡ true
repeats_found all ns i d old within so seen = so ∙ rw (drop-cons ns i d, seen) refl
