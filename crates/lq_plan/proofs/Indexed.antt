-- Rows come into the index one after another, the last one first.
use Rattle.std.proofs.Common.{ap, sym, refl, ◌≡◌, ◌∙◌, ◌++◌, ◌&&◌, Bool, true, false, cond, List, [], ◌∷◌, Option, Some, None, option_map}
use Rattle.std.proofs.lemmas.List.Folds.{find-append}
use Rattle.std.specs.BTreeMap.{BTreeMap, Updates, get, is_at}
use Rattle.std.specs.List.{find}
use Rattle.std.specs.Option.{option_copied, option_or}
use Rattle.std.specs.Ordering.{is_eq, ordering_then}
use Rattle.std.specs.declared.cmp.Ordering.{Ordering}
use Rattle.std.specs.declared.cmp.Ordering.TheVariants.{Less, Equal, Greater}
use Rattle.lq_base.specs.Name.{text_cmp}
use Rattle.lq_base.specs.declared.identity.Identity.{Identity}
use Rattle.lq_base.specs.declared.tracking.Tracked.{Tracked}
use Rattle.lq_turns.specs.Deed.{is_of}
use Rattle.lq_turns.specs.Set.{row_at}
use Rattle.lq_plan.specs.Told.{HasRows, IdentityKey, KeepsAlso, kept, key_cmp, keyed}
use denote.Ref.{Bor}

-- behind the first ones the index has the rest
pub record IsPartly (rows rest : List Tracked) (index : BTreeMap IdentityKey (Bor Tracked)) : Type 0 where
  pub values : (key : IdentityKey) → option_or (row_at (keyed key) rest) (kept index key) ≡ row_at (keyed key) rows

and_false : (b : Bool) → false ≡ (b && false)
and_false true = refl
and_false false = refl

and_true : (b : Bool) → b ≡ (b && true)
and_true true = refl
and_true false = refl

-- what is compared last may as well be compared first
pub all_equal : (o p q : Ordering) → is_eq (ordering_then (ordering_then o p) q) ≡ (is_eq q && (is_eq o && is_eq p))
all_equal Less p q = and_false (is_eq q)
all_equal Greater p q = and_false (is_eq q)
all_equal Equal Less q = and_false (is_eq q)
all_equal Equal Greater q = and_false (is_eq q)
all_equal Equal Equal q = and_true (is_eq q)

at_key : (k key : IdentityKey) (row : Tracked) → k.2.now ≡ row.filename → k.0.now ≡ row.id → k.1.now ≡ row.author → is_at (key_cmp k) key ≡ is_of (keyed key) row
at_key k key row file id author = all_equal (text_cmp k.0.now key.0.now) (text_cmp k.1.now key.1.now) (text_cmp k.2.now key.2.now) ∙ rw (file, id, author) refl

one_more : (b : Bool) (row : Bor Tracked) (old : Option (Bor Tracked)) → option_map (λ (r : Bor Tracked). r.now) (cond b (Some row) old) ≡ cond b (Some row.now) (option_map (λ (r : Bor Tracked). r.now) old)
one_more true row old = refl
one_more false row old = refl

pub keeps_also : (old new : BTreeMap IdentityKey (Bor Tracked)) (k : IdentityKey) (row : Bor Tracked) → k.2.now ≡ row.now.filename → k.0.now ≡ row.now.id → k.1.now ≡ row.now.author → Updates key_cmp old new k (Some row) → KeepsAlso old new row.now
keeps_also old new k row file id author up = record {
  values = λ key. ap (option_map (λ (r : Bor Tracked). r.now)) (up.0 key) ∙ (one_more (is_at (key_cmp k) key) row (get key_cmp old key) ∙ ap (λ b. cond b (Some row.now) (kept old key)) (at_key k key row.now file id author));
}

none_kept : (index : BTreeMap IdentityKey (Bor Tracked)) (key : IdentityKey) → index.entries ≡ [] → kept index key ≡ None
none_kept index key none = rw none refl

or_none : {A : Type 0} (o : Option A) → option_or o None ≡ o
or_none None = refl
or_none (Some x) = refl

pub partly_none : (rows : List Tracked) (index : BTreeMap IdentityKey (Bor Tracked)) → index.entries ≡ [] → IsPartly rows rows index
partly_none rows index none = record { values = λ key. ap (option_or (row_at (keyed key) rows)) (none_kept index key none) ∙ or_none (row_at (keyed key) rows) }

passed : {A : Type 0} (o p : Option A) (b : Bool) (x : A) → option_or o (cond b (Some x) p) ≡ option_or (option_or o (cond b (Some x) None)) p
passed None p true x = refl
passed None p false x = refl
passed (Some y) p b x = refl

pub partly_more : (rows rest front : List Tracked) (row : Tracked) (old new : BTreeMap IdentityKey (Bor Tracked)) → rest ≡ front ++ row ∷ [] → IsPartly rows rest old → KeepsAlso old new row → IsPartly rows front new
partly_more rows rest front row old new is so also = record {
  values = λ key.
      ap (option_or (row_at (keyed key) front)) (also.values key)
      ∙ (passed (row_at (keyed key) front) (kept old key) (is_of (keyed key) row) row
      ∙ (ap (λ o. option_or o (kept old key)) (sym (ap (find (is_of (keyed key))) is ∙ find-append (is_of (keyed key)) front (row ∷ [])))
      ∙ so.values key));
}

pub has_rows : (rows rest : List Tracked) (index : BTreeMap IdentityKey (Bor Tracked)) → rest ≡ [] → IsPartly rows rest index → HasRows rows index
has_rows rows rest index none so = record { values = λ key. sym (ap (λ r. option_or (row_at (keyed key) r) (kept index key)) none) ∙ so.values key }

-- what the index tells of an identity

pub its_key : (of : Identity) (key : IdentityKey) → key.2.now ≡ of.file → key.0.now ≡ of.id → key.1.now ≡ of.author → keyed key ≡ of
its_key of key file id author = rw (file, id, author) refl

module _ (rows : List Tracked) (of : Identity) (index : BTreeMap IdentityKey (Bor Tracked)) (key : IdentityKey) (has : HasRows rows index)
    (file : key.2.now ≡ of.file) (id : key.0.now ≡ of.id) (author : key.1.now ≡ of.author) (found : Option (Bor (Bor Tracked))) (value : option_copied found ≡ get key_cmp index key) where
  told : kept index key ≡ row_at of rows
  told = has.values key ∙ ap (λ i. row_at i rows) (its_key of key file id author)

  pub found_row : (row : Bor (Bor Tracked)) → found ≡ Some row → (let o : Option Tracked = Some row.now.now in o) ≡ row_at of rows
  found_row row is = ap (λ o. option_map (λ (r : Bor Tracked). r.now) (option_copied o)) (sym is) ∙ (ap (option_map (λ (r : Bor Tracked). r.now)) value ∙ told)

  pub found_none : found ≡ None → (let o : Option Tracked = None in o) ≡ row_at of rows
  found_none is = ap (λ o. option_map (λ (r : Bor Tracked). r.now) (option_copied o)) (sym is) ∙ (ap (option_map (λ (r : Bor Tracked). r.now)) value ∙ told)
