-- Changesets come into the index one after another, the last one first.
use Rattle.std.proofs.Common.{ap, arith, sym, refl, ◌≡◌, ◌∙◌, ◌+◌, ◌++◌, ◌&&◌, Bool, true, false, cond, List, [], ◌∷◌, Option, Some, None, option_map, length, suc, ℕ}
use Rattle.std.specs.BTreeMap.{BTreeMap, Updates, get, is_at}
use Rattle.std.specs.Option.{option_copied, option_or}
use Rattle.lq_base.specs.declared.identity.Identity.{Identity}
use Rattle.lq_kinds.specs.declared.change_set.ChangeSet.{ChangeSet}
use Rattle.lq_plan.proofs.Behind.{at_key}
use Rattle.lq_plan.proofs.Indexed.{its_key}
use Rattle.lq_plan.specs.Told.{IdentityKey, key_cmp, keyed}
use Rattle.lq_back.specs.Reversal.{HasSets, KeepsSet, found_at, found_from, is_its, kept_set}
use Rattle.lq_back.specs.declared.set_index.Place.{Place}
use Rattle.lq_track.specs.Database.{same_identity}
use denote.Ref.{Bor}

-- behind the first ones the index has the rest
pub record IsPartly (xs rest : List ChangeSet) (index : BTreeMap IdentityKey Place) : Type 0 where
  pub values : (key : IdentityKey) → option_or (found_at (keyed key) rest) (kept_set index key) ≡ found_at (keyed key) xs

abbrev pub one : ℕ → ChangeSet → Option (ℕ × ChangeSet)
one n x = Some (n, x)

abbrev pair : Place → ℕ × ChangeSet
pair p = (p.index, p.set.now)

one_more : (b : Bool) (p : Place) (old : Option Place) → option_map pair (cond b (Some p) old) ≡ cond b (one p.index p.set.now) (option_map pair old)
one_more true p old = refl
one_more false p old = refl

pub keeps_here : (old new : BTreeMap IdentityKey Place) (k : IdentityKey) (p : Place) → p.set.now.here ≡ true → k.2.now ≡ p.set.now.identity.file → k.0.now ≡ p.set.now.identity.id → k.1.now ≡ p.set.now.identity.author
    → Updates key_cmp old new k (Some p) → KeepsSet old new p.index p.set.now
keeps_here old new k p here file id author up = record {
  values = λ key. ap (option_map pair) (up.0 key) ∙ (one_more (is_at (key_cmp k) key) p (get key_cmp old key)
      ∙ ap (λ b. cond b (one p.index p.set.now) (kept_set old key)) (at_key k key p.set.now.identity file id author ∙ sym (ap (λ b. b && same_identity (keyed key) p.set.now.identity) here)));
}

pub keeps_other : (index : BTreeMap IdentityKey Place) (n : ℕ) (x : ChangeSet) → x.here ≡ false → KeepsSet index index n x
keeps_other index n x other = record { values = λ key. sym (ap (λ b. cond (b && same_identity (keyed key) x.identity) (one n x) (kept_set index key)) other) }

none_kept : (index : BTreeMap IdentityKey Place) (key : IdentityKey) → index.entries ≡ [] → kept_set index key ≡ None
none_kept index key none = rw none refl

or_none : {A : Type 0} (o : Option A) → option_or o None ≡ o
or_none None = refl
or_none (Some x) = refl

pub partly_none : (xs : List ChangeSet) (index : BTreeMap IdentityKey Place) → index.entries ≡ [] → IsPartly xs xs index
partly_none xs index none = record { values = λ key. ap (option_or (found_at (keyed key) xs)) (none_kept index key none) ∙ or_none (found_at (keyed key) xs) }

passed : {A : Type 0} (o p : Option A) (b : Bool) (x : A) → option_or o (cond b (Some x) p) ≡ option_or (option_or o (cond b (Some x) None)) p
passed None p true x = refl
passed None p false x = refl
passed (Some y) p b x = refl

found_behind : (n : ℕ) (of : Identity) (front : List ChangeSet) (x : ChangeSet) → found_from n of (front ++ x ∷ []) ≡ option_or (found_from n of front) (cond (is_its of x) (one (n + length front) x) None)
found_behind n of [] x = let same : n ≡ n + 0 = omega arith in ap (λ m. cond (is_its of x) (one m x) None) same
found_behind n of (y ∷ front) x =
    let same : suc n + length front ≡ n + suc (length front) = omega arith in
    elim (is_its of y) as (λ b. cond b (one n y) (found_from (suc n) of (front ++ x ∷ [])) ≡ option_or (cond b (one n y) (found_from (suc n) of front)) (cond (is_its of x) (one (n + suc (length front)) x) None)) [
      | true ↦ refl
      | false ↦ found_behind (suc n) of front x ∙ ap (λ m. option_or (found_from (suc n) of front) (cond (is_its of x) (one m x) None)) same
    ]

pub partly_more : (xs rest front : List ChangeSet) (x : ChangeSet) (n : ℕ) (old new : BTreeMap IdentityKey Place) → rest ≡ front ++ x ∷ [] → n ≡ length front → IsPartly xs rest old → KeepsSet old new n x → IsPartly xs front new
partly_more xs rest front x n old new is at so also =
    let place : n ≡ 0 + length front = omega (arith, at) in
    record {
      values = λ key.
          ap (option_or (found_at (keyed key) front)) (also.values key)
          ∙ (passed (found_at (keyed key) front) (kept_set old key) (is_its (keyed key) x) (n, x)
          ∙ (ap (λ m. option_or (option_or (found_at (keyed key) front) (cond (is_its (keyed key) x) (one m x) None)) (kept_set old key)) place
          ∙ (ap (λ o. option_or o (kept_set old key)) (sym (ap (found_at (keyed key)) is ∙ found_behind 0 (keyed key) front x))
          ∙ so.values key)));
    }

pub has_sets : (xs rest : List ChangeSet) (index : BTreeMap IdentityKey Place) → rest ≡ [] → IsPartly xs rest index → HasSets xs index
has_sets xs rest index none so = record { values = λ key. sym (ap (λ r. option_or (found_at (keyed key) r) (kept_set index key)) none) ∙ so.values key }

-- what the index tells of an identity

module _ (xs : List ChangeSet) (of : Identity) (index : BTreeMap IdentityKey Place) (key : IdentityKey) (has : HasSets xs index)
    (file : key.2.now ≡ of.file) (id : key.0.now ≡ of.id) (author : key.1.now ≡ of.author) (found : Option (Bor Place)) (value : option_copied found ≡ get key_cmp index key) where
  told : kept_set index key ≡ found_at of xs
  told = has.values key ∙ ap (λ i. found_at i xs) (its_key of key file id author)

  pub found_place : (p : Bor Place) → found ≡ Some p → one p.now.index p.now.set.now ≡ found_at of xs
  found_place p is = ap (λ o. option_map pair (option_copied o)) (sym is) ∙ (ap (option_map pair) value ∙ told)

  pub found_none : found ≡ None → (let o : Option (ℕ × ChangeSet) = None in o) ≡ found_at of xs
  found_none is = ap (λ o. option_map pair (option_copied o)) (sym is) ∙ (ap (option_map pair) value ∙ told)
