-- Lemmas on maps of kinds.
use Rattle.std.proofs.Common.{Bool, List, [], arith, cond, drop, false, get_or, is_some, length, map, nat_le, nat_lt, not, refl, suc, sym, tests, true, ℕ, ◌+◌, ◌<◌, ◌∙◌, ◌∷◌, ◌≡◌, add-one}
use Rattle.std.specs.Prelude.{None, Option, Some}
use Rattle.std.proofs.Math.Seq.{drop-cons}
use Rattle.std.specs.BTreeMap.{BTreeMap, Updates}
use denote.Ref.{Bor}
use Rattle.lq_base.specs.Name.{is_named}
use Rattle.lq_base.specs.declared.kind.Kind.{Kind}
use Rattle.lq_base.specs.declared.name.Name.{Name}
use Rattle.lq_model.specs.Kinds.{kind_of}
use Rattle.lq_model.specs.Catalogue.{is_in}
use Rattle.lq_model.specs.declared.column.Column.{Column}
use Rattle.lq_model.proofs.Lists.{same_name, whether}
use Rattle.lq_shapes.specs.Created.{KeepsFirst, ShowsKinds, first_of, kind_at}
use Rattle.lq_shapes.proofs.ShownLemmas.{either_way, str_cmp}

-- a column that has a kind is there
pub has_kind : (n : Name) (cs : List Column) → is_some (kind_of n cs) ≡ is_in n (map (λ (c : Column). c.name) cs)
has_kind n [] = refl
has_kind n (c ∷ cs) = whether (is_named n c.name) (λ is. rw (is) refl) (λ no. rw (no) (has_kind n cs))

first_stays : (b : Bool) (o : Option Kind) (k : Kind) → (b ≡ true → is_some o ≡ true) → o ≡ first_of o (cond b (Some k) None)
first_stays b (Some x) k h = refl
first_stays false None k h = refl
first_stays true None k h = absurd (Prim.cc (h refl))

pub was_there : (old : BTreeMap (Bor Name) Kind) (c : Column) → is_some (kind_at old c.name) ≡ true → KeepsFirst old old c
was_there old c has = record { same = λ n. first_stays (is_named n c.name) (kind_at old n) c.kind (λ is. let e : n ≡ c.name = same_name n c.name is in rw (e) has) }

none_there : (o : Option Kind) → is_some o ≡ false → o ≡ None
none_there None h = refl
none_there (Some x) h = absurd (Prim.cc h)

comes_first : (b : Bool) (o : Option Kind) (k : Kind) → (b ≡ true → o ≡ None) → cond b (Some k) o ≡ first_of o (cond b (Some k) None)
comes_first true o k h = rw (h refl) refl
comes_first false None k h = refl
comes_first false (Some x) k h = refl

pub came_in : (old new : BTreeMap (Bor Name) Kind) (key : Bor Name) (c : Column) → key.now ≡ c.name → is_some (kind_at old c.name) ≡ false → Updates str_cmp old new key (Some c.kind) → KeepsFirst old new c
came_in old new key c is has up = record {
  same = λ n.
      let q : Bor Name = record { ref_ptr = (0, 0); now = n } in
      up.0 q ∙ rw (is, either_way c.name n) (comes_first (is_named n c.name) (kind_at old n) c.kind (λ same. let e : n ≡ c.name = same_name n c.name same in none_there (kind_at old n) (rw (e) has)));
}

-- a column's kind is seen, or still to come
pub record Finds (all : List Column) (kinds : BTreeMap (Bor Name) Kind) (rest : List Column) : Type 0 where
  pub same : (n : Name) → kind_of n all ≡ first_of (kind_at kinds n) (kind_of n rest)

pub kinds_none : (kinds : BTreeMap (Bor Name) Kind) (all : List Column) → kinds.entries ≡ [] → Finds all kinds (drop 0 all)
kinds_none kinds all is = record { same = λ n. rw (is) refl }

pub kinds_more : (all : List Column) (i : ℕ) (d c : Column) (old new : BTreeMap (Bor Name) Kind) → i < length all → c ≡ get_or all i d → Finds all old (drop i all) → KeepsFirst old new c → Finds all new (drop (i + 1) all)
kinds_more all i d c old new within is so more = record { same = λ n. rw add-one (rw (drop-cons all i d, ← is) at (so.same n) ∙ rw (more.same n) (then (is_named n c.name) (kind_at old n) (kind_of n (drop (suc i) all)))) } where
  then : (b : Bool) (o r : Option Kind) → first_of o (cond b (Some c.kind) r) ≡ first_of (first_of o (cond b (Some c.kind) None)) r
  then b (Some x) r = refl
  then true None r = refl
  then false None r = refl

pub kinds_all : (all : List Column) (i : ℕ) (kinds : BTreeMap (Bor Name) Kind) → drop i all ≡ [] → Finds all kinds (drop i all) → ShowsKinds all kinds
kinds_all all i kinds none so = done (rw none at so) where
  one : (o : Option Kind) → first_of o None ≡ o
  one None = refl
  one (Some x) = refl

  done : Finds all kinds [] → ShowsKinds all kinds
  done so = record { same = λ n. sym (so.same n ∙ one (kind_at kinds n)) }

pub above_one : (n : ℕ) → nat_lt 1 n ≡ not (nat_le n 1)
above_one n = grind (arith, tests)
