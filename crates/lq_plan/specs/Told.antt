-- A changeset of which no more is told than its head.
use Rattle.std.specs.BTreeMap.{BTreeMap, get, is_at}
use Rattle.std.specs.BTreeSet.{BTreeSet, contains}
use Rattle.std.specs.List.{list_any}
use Rattle.std.specs.Ordering.{ordering_then}
use Rattle.std.specs.Prelude.{List, None, Ok, Option, Some, [], cond, map, option_map, suc, true, ℕ, ◌++◌, ◌||◌, ◌∷◌, ◌≡◌}
use Rattle.std.specs.declared.cmp.Ordering.{Ordering}
use denote.Ref.{Bor}
use Rattle.lq_base.specs.Name.{is_text, text_cmp}
use Rattle.lq_base.specs.declared.identity.Identity.{Identity}
use Rattle.lq_base.specs.declared.run.OnFail.TheVariants.{Halt}
use Rattle.lq_base.specs.declared.tracking.Tracked.{Tracked}
use Rattle.lq_plan.specs.declared.head.Head.{Head}
use Rattle.lq_plan.specs.declared.turns.Item.{Item}
use Rattle.lq_track.specs.Database.{same_identity}
use Rattle.lq_turns.specs.Deed.{is_of}
use Rattle.lq_turns.specs.Faults.{faults}
use Rattle.lq_turns.specs.Printed.{pending}
use Rattle.lq_turns.specs.Set.{Set, is_old_form, row_at, sum_by_form}
use Rattle.lq_turns.specs.Settle.{what}
use Rattle.lq_turns.specs.declared.choice.What.{What}

-- It says nothing of changes and conditions, which no fault and no turn's sort depends on.
abbrev pub headed : Head → Set (Unit {0})
headed h = record {
  identity = h.identity.now;
  here = h.here;
  selected = h.selected;
  changes = [];
  rollback = None;
  condition = record { told = λ c. Ok true; on_fail = Halt; on_error = Halt };
  run_always = h.run_always;
  run_on_change = h.run_on_change;
  fail_on_error = true;
  in_transaction = true;
  sum = h.sum.now;
  is_own_sum = λ stored. is_text stored (sum_by_form h.old_sum.now h.sum.now stored);
  is_old_sum = is_old_form;
  sum_like = sum_by_form h.old_sum.now h.sum.now;
  valid_sums = h.valid_sums.now;
  description = [];
  comments = [];
  tag = None;
  contexts = [];
  labels = [];
}

-- Rows, for looking up whose they are.

-- an identity as a key: an id, an author and a file
abbrev pub IdentityKey : Type 0
IdentityKey = Bor (List ℕ) × Bor (List ℕ) × Bor (List ℕ)

abbrev pub key_cmp : IdentityKey → IdentityKey → Ordering
key_cmp x y = ordering_then (ordering_then (text_cmp x.0.now y.0.now) (text_cmp x.1.now y.1.now)) (text_cmp x.2.now y.2.now)

abbrev pub keyed : IdentityKey → Identity
keyed key = record { file = key.2.now; id = key.0.now; author = key.1.now }

abbrev pub kept : BTreeMap IdentityKey (Bor Tracked) → IdentityKey → Option Tracked
kept index key = option_map (λ row. row.now) (get key_cmp index key)

-- new has the row beside what old has
pub record KeepsAlso (old new : BTreeMap IdentityKey (Bor Tracked)) (row : Tracked) : Type 0 where
  pub values : (key : IdentityKey) → kept new key ≡ cond (is_of (keyed key) row) (Some row) (kept old key)

-- the index has the first row of each identity
pub record HasRows (rows : List Tracked) (index : BTreeMap IdentityKey (Bor Tracked)) : Type 0 where
  pub values : (key : IdentityKey) → kept index key ≡ row_at (keyed key) rows

-- Identities, for looking up whether one stood there before.

-- new has the key beside what old has
pub record HasAlso {K : Type 0} (cmp : K → K → Ordering) (old new : BTreeSet K) (key : K) : Type 0 where
  pub members : (q : K) → contains cmp new q ≡ (is_at (cmp key) q || contains cmp old q)

-- the set has these identities
pub record HasSeen (earlier : List Identity) (seen : BTreeSet IdentityKey) : Type 0 where
  pub members : (key : IdentityKey) → contains key_cmp seen key ≡ list_any (same_identity (keyed key)) earlier

-- Which changesets have a turn.

abbrev pub item_at : ℕ → Option What → List Item
item_at n None = []
item_at n (Some what) = record { index = n; what = what } ∷ []

-- the changesets that have a turn on these rows, of which the first is the n-th
abbrev pub work_from : {Key : Type 0} → ℕ → List (Set Key) → List Tracked → List Item
work_from n [] rows = []
work_from n (x ∷ xs) rows = item_at n (what x rows) ++ work_from (suc n) xs rows

abbrev pub work : {Key : Type 0} → List (Set Key) → List Tracked → List Item
work xs rows = work_from 0 xs rows

-- What the head of a changeset tells.

-- the changeset without its changes and its condition
abbrev pub bare : {Key : Type 0} → Set Key → Set (Unit {0})
bare x = record {
  identity = x.identity;
  here = x.here;
  selected = x.selected;
  changes = [];
  rollback = None;
  condition = record { told = λ c. Ok true; on_fail = Halt; on_error = Halt };
  run_always = x.run_always;
  run_on_change = x.run_on_change;
  fail_on_error = true;
  in_transaction = true;
  sum = x.sum;
  is_own_sum = x.is_own_sum;
  is_old_sum = x.is_old_sum;
  sum_like = x.sum_like;
  valid_sums = x.valid_sums;
  description = [];
  comments = [];
  tag = None;
  contexts = [];
  labels = [];
}

-- The heads of changesets tell their faults, their turns and which of them a status lists.
abbrev pub HeadsTell : Type 0 → Type 0
HeadsTell Key = (hs : List Head) (xs : List (Set Key)) (rows : List Tracked) → map headed hs ≡ map bare xs
    → (faults (map headed hs) rows ≡ faults xs rows) × (work (map headed hs) rows ≡ work xs rows) × (pending (map headed hs) rows ≡ pending xs rows)
