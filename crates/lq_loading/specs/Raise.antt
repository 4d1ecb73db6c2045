-- How an engine is brought to what a journal's entries stand for: what each step of it answers.
use Rattle.std.specs.BTreeSet.{contains}
use Rattle.std.specs.List.{list_any}
use Rattle.std.specs.Ordering.{nat_cmp, ordering_then}
use Rattle.std.specs.Prelude.{Bool, Err, List, None, Ok, Option, Result, Some, false, nat_eq, true, ℕ, ◌||◌, ◌∷◌, ◌≡◌}
use Rattle.std.specs.declared.cmp.Ordering.{Ordering}
use denote.Ref.{Bor}
use Rattle.lq_base.specs.Name.{text_cmp}
use Rattle.lq_base.specs.declared.dialect.Dialect.{Dialect}
use Rattle.lq_base.specs.declared.identity.Identity.{Identity}
use Rattle.lq_base.specs.declared.tracking.Lock.{Lock}
use Rattle.lq_base.specs.declared.tracking.Tracked.{Tracked}
use Rattle.lq_entries.specs.Load.{if_clean, is_clean}
use Rattle.lq_frames.specs.Body.{has_state}
use Rattle.lq_frames.specs.declared.entry.Body.TheVariants.{State}
use Rattle.lq_frames.specs.declared.entry.Entry.{Entry as Placed}
use Rattle.lq_journal.specs.declared.fault.LoadFault.{LoadFault}
use Rattle.lq_journal.specs.declared.fault.LoadFault.TheVariants.{Damaged, Disk, OutOfMemory}
use Rattle.lq_loading.specs.declared.twins.Seen.{Seen}
use Rattle.lq_model.specs.Catalogue.{Catalogue}
use Rattle.lq_model.specs.Sound.{IsSound}
use Rattle.lq_store.specs.Executor.{Held, kept}
use Rattle.lq_track.specs.Database.{lock_of, same_identity}
use Rattle.lq_track.specs.Log.{identity_of}

-- what an engine stands at: a sound catalogue of the dialect
pub record IsAt (d : Dialect) (c : Catalogue) (h : Held) : Type 0 where
  pub dialect_is : h.dialect ≡ d
  pub now_is : h.now ≡ c
  pub sound : IsSound d c

-- what running texts answers: whether they ran
abbrev pub Ran : {E : Type 0} → Dialect → Option Catalogue → Result Bool E → Held → Type 0
Ran d meant (Ok true) h = (c : Catalogue) × (meant ≡ Some c) × IsAt d c h
Ran d meant (Ok false) h = meant ≡ None
Ran d meant (Err e) h = Unit {0}

-- what running entries answers: whether they ran, or at which place they are damaged
abbrev pub Folds : {T : Type 0} → Dialect → Result Catalogue ℕ → Result T LoadFault → Held → Type 0
Folds d meant (Ok _) h = (c : Catalogue) × (meant ≡ Ok c) × IsAt d c h
Folds d meant (Err (Damaged at)) h = meant ≡ Err at
Folds d meant (Err OutOfMemory) h = Unit {0}
Folds d meant (Err Disk) h = ⊥

-- the lock of a clean catalogue
abbrev pub IsCleanLock : Dialect → Catalogue → Option Lock → Type 0
IsCleanLock d c None = is_clean d c ≡ false
IsCleanLock d c (Some lock) = (is_clean d c ≡ true) × (lock_of d c ≡ Some lock)

-- an engine at what entries mean, and its lock: they are no damage
pub record IsRaised (d : Dialect) (meant : Result Catalogue ℕ) (h : Held) (lock : Lock) : Type 0 where
  pub catalogue : Catalogue
  pub meant_is : meant ≡ Ok catalogue
  pub clean : is_clean d catalogue ≡ true
  pub kept_is : kept h ≡ catalogue
  pub at : IsAt d catalogue h
  pub lock_is : lock_of d catalogue ≡ Some lock

-- the place of their damage, where this place is behind them, or want of memory
abbrev pub MayNotRaise : Dialect → ℕ → Result Catalogue ℕ → LoadFault → Type 0
MayNotRaise d used meant (Damaged at) = if_clean d used meant ≡ Err at
MayNotRaise d used meant OutOfMemory = Unit {0}
MayNotRaise d used meant Disk = ⊥

-- the state with which entries begin, whose place and bytes these are, and the entries behind it
abbrev pub BeginsWith : List Placed → ℕ → List ℕ → List Placed → Type 0
BeginsWith entries at bytes behind = (entries ≡ record { at = at; body = State bytes } ∷ behind) × (has_state behind ≡ false)

-- why the state at a place was not read
abbrev pub MayNotRead : ℕ → Option Catalogue → LoadFault → Type 0
MayNotRead at meant (Damaged place) = (place ≡ at) × (meant ≡ None)
MayNotRead at meant OutOfMemory = Unit {0}
MayNotRead at meant Disk = ⊥

-- The identities and orders of rows in sets.

-- an id, an author and a file
abbrev pub IdentityKey : Type 0
IdentityKey = Bor (List ℕ) × Bor (List ℕ) × Bor (List ℕ)

abbrev pub key_cmp : IdentityKey → IdentityKey → Ordering
key_cmp x y = ordering_then (ordering_then (text_cmp x.0.now y.0.now) (text_cmp x.1.now y.1.now)) (text_cmp x.2.now y.2.now)

abbrev pub identity_at : IdentityKey → Identity
identity_at k = record { file = k.2.now; id = k.0.now; author = k.1.now }

-- two rows have one identity or one order
abbrev pub is_twin : Tracked → Tracked → Bool
is_twin r s = same_identity (identity_of r) (identity_of s) || nat_eq r.order s.order

-- the sets have the identities and the orders of the rows
pub record IsSeen (rows : List Tracked) (seen : Seen) : Type 0 where
  pub identities : (k : IdentityKey) → contains key_cmp seen.identities k ≡ list_any (λ s. same_identity (identity_of s) (identity_at k)) rows
  pub orders : (n : ℕ) → contains nat_cmp seen.orders n ≡ list_any (λ s. nat_eq s.order n) rows

-- whether a row has a twin among rows that are in the sets; where it has none it is there too
abbrev pub Sees : {E : Type 0} → Tracked → List Tracked → Result Bool E → Seen → Type 0
Sees row rows (Ok true) seen = list_any (is_twin row) rows ≡ true
Sees row rows (Ok false) seen = (list_any (is_twin row) rows ≡ false) × IsSeen (row ∷ rows) seen
Sees row rows (Err e) seen = Unit {0}
