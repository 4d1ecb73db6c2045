-- How the lock and a store stand for a command that has begun.
use Rattle.std.specs.Option.{option_map}
use Rattle.std.specs.Prelude.{Bool, List, None, Ok, Option, Some, [], false, map, pos, true, ℕ, ◌++◌, ◌+◌, ◌∷◌, ◌≡◌, ◌≤◌, ◌⊎◌}
use Rattle.lq_base.specs.declared.dialect.Dialect.{Dialect}
use Rattle.lq_base.specs.declared.tracking.Lock.{Lock}
use Rattle.lq_hand.specs.Way.{Way}
use Rattle.lq_model.specs.StatementText.{text_of}
use Rattle.lq_model.specs.declared.caller.ByText.{ByText}
use Rattle.lq_model.specs.declared.caller.Room.{Room}
use Rattle.lq_model.specs.declared.caller.Room.TheVariants.{Ordinary, Release}
use Rattle.lq_run.specs.declared.holding.Holding.{Holding}
use Rattle.lq_run.specs.declared.holding.Holding.TheVariants as holding
use Rattle.lq_store.specs.Journal.{Entry, State, Transaction, end_of, size_of_all}
use Rattle.lq_store.specs.Journal.Entry.{Texts}
use Rattle.lq_track.specs.Lock.{taken}
use Rattle.lq_turns.specs.Deed.{made_of}
use Rattle.lq_turns.specs.Schedule.{StandsFor}
use Rattle.lq_turns.specs.Session.{Session}
use Rattle.lq_turns.specs.Set.{Meaning}
use Rattle.lq_turns.specs.declared.deed.Deed.{Deed}
use Rattle.lq_turns.specs.declared.deed.Deed.TheVariants.{Locks}
use Rattle.lq_turns.specs.declared.deed.OnLock.TheVariants.{Freed}
use Rattle.lq_turns.specs.declared.stamp.Stamp.{Stamp}

-- How the lock stands for a command that took it.

module _ (stamp : Stamp) (lock : Lock) where
  -- it is held with the command's reading and bare name
  abbrev pub IsBare : Type 0
  IsBare = lock ≡ taken (pos stamp.reading) stamp.who

  -- or with a mark behind the name
  abbrev pub IsMarked : Type 0
  IsMarked = (mark : List ℕ) × (lock ≡ taken (pos stamp.reading) (stamp.who ++ 124 ∷ mark))

  abbrev pub IsHeld : Type 0
  IsHeld = IsBare ⊎ IsMarked

  abbrev pub Holds : Holding → Type 0
  Holds holding.Bare = IsBare
  Holds holding.Marked = IsMarked
  Holds holding.Lost = IsHeld → ⊥

  abbrev pub HoldsAs : Bool → Type 0
  HoldsAs true = IsMarked
  HoldsAs false = IsBare

-- what LOCKEDBY is to a name
abbrev pub Names : List ℕ → List ℕ → Holding → Type 0
Names who by holding.Bare = by ≡ who
Names who by holding.Marked = (mark : List ℕ) × (by ≡ who ++ 124 ∷ mark)
Names who by holding.Lost = ((by ≡ who) ⊎ ((mark : List ℕ) × (by ≡ who ++ 124 ∷ mark))) → ⊥

-- by what stands behind the name
abbrev pub StandsBehind : List ℕ → Holding → Type 0
StandsBehind rest holding.Bare = rest ≡ []
StandsBehind rest holding.Marked = (mark : List ℕ) × (rest ≡ 124 ∷ mark)
StandsBehind rest holding.Lost = ((rest ≡ []) ⊎ ((mark : List ℕ) × (rest ≡ 124 ∷ mark))) → ⊥

-- A store's state stands for a session of deeds.

-- the canonical text of the deed's statement
abbrev pub deed_text : Dialect → Deed → List ℕ
deed_text d deed = text_of d (made_of d deed).1

abbrev pub entry_texts : Dialect → List Deed → List (List ℕ)
entry_texts d deeds = map (deed_text d) deeds

abbrev pub entry_of : Dialect → List Deed → Entry
entry_of d deeds = Texts (entry_texts d deeds)

abbrev pub entries_of : Dialect → List (List Deed) → List Entry
entries_of d entries = map (entry_of d) entries

abbrev pub text_by : Dialect → Deed → ByText
text_by d deed = record { by = (made_of d deed).0; text = deed_text d deed }

-- the texts of deeds that one call runs
abbrev pub texts_of : Dialect → List Deed → List ByText
texts_of d deeds = map (text_by d) deeds

-- how far an entry may fill the journal: the one that frees the lock may use all of it
abbrev pub room_of_entry : List Deed → Room
room_of_entry (Locks Freed ∷ []) = Release
room_of_entry deeds = Ordinary

-- each of the entries had room behind what was in use and the entries before it
abbrev pub HadRoom : Dialect → ℕ → ℕ → List (List Deed) → Type 0
HadRoom d limit used entries = (front : List (List Deed)) (deeds : List Deed) (rest : List (List Deed)) → entries ≡ front ++ deeds ∷ rest → used + size_of_all (entries_of d (front ++ deeds ∷ [])) ≤ end_of (room_of_entry deeds) limit

-- the session's transaction, where it has one; no other session has one
abbrev pub IsBegun : Dialect → ℕ → Session → Option Transaction → Type 0
IsBegun d number s None = (s.is_open ≡ false) × (s.seen ≡ s.committed) × (s.begun ≡ [])
IsBegun d number s (Some t) = (s.is_open ≡ true) × (t.session ≡ number) × StandsFor d t.now s.seen × (t.texts ≡ entry_texts d s.begun)

-- The store came from a start by the calls of a session that has this number.
pub record Stands (start : State) (number : ℕ) (x : State) (s : Session) : Type 0 where
  pub dialect : x.dialect ≡ start.dialect
  pub limit : x.limit ≡ start.limit
  pub live : x.live ≡ true
  pub committed : StandsFor start.dialect x.committed s.committed
  pub begun : IsBegun start.dialect number s x.begun
  -- the session's entries stand behind those of the start
  pub entries : x.entries ≡ option_map (λ entries. entries ++ entries_of start.dialect s.entries) start.entries
  pub used : x.used ≡ start.used + size_of_all (entries_of start.dialect s.entries)
  pub room : HadRoom start.dialect start.limit start.used s.entries

-- No changes.

abbrev pub no_changes : Meaning (Unit {0})
no_changes = record { is_for = λ d x. true; gives = λ d x. []; effect = λ d x c. Ok c; fresh = λ d x c. true; inverse = λ d x. None }

-- a source that tells nothing
abbrev pub nothing_told : Way
nothing_told = record { knows = λ c. Unit {0}; awaits = λ sights c. Unit {0}; yields = λ goes_on refusal c. Unit {0}; tells = λ refusal. Unit {0}; lacks = Unit {0} }
