-- A store shows a machine of several runners.
use Rattle.std.specs.List.{list_any}
use Rattle.std.specs.Option.{option_map}
use Rattle.std.specs.Prelude.{Bool, List, None, Option, Some, [], false, if◌then◌else◌, map, nat_eq, true, ℕ, ◌++◌, ◌+◌, ◌==◌, ◌∷◌, ◌≡◌, ◌≤◌, ◌⊎◌}
use Rattle.lq_base.specs.declared.dialect.Dialect.{Dialect}
use Rattle.lq_base.specs.declared.tracking.Lock.{Lock}
use Rattle.lq_drill.specs.declared.fault.DrillFault.{DrillFault}
use Rattle.lq_drill.specs.declared.fault.DrillFault.TheVariants as fault
use Rattle.lq_model.specs.StatementText.{text_of}
use Rattle.lq_model.specs.declared.caller.Room.{Room}
use Rattle.lq_model.specs.declared.caller.Room.TheVariants.{Ordinary, Release}
use Rattle.lq_store.specs.Journal.{Entry, State, Transaction, end_of, is_full, is_open, size_of_all}
use Rattle.lq_store.specs.Journal.Entry.{Texts}
use Rattle.lq_track.specs.Database.{Database}
use Rattle.lq_track.specs.Lock.{free}
use Rattle.lq_turns.specs.Deed.{made_of}
use Rattle.lq_turns.specs.Schedule.{Holder, Job, Machine, StandsFor, all_moved, answers_with, appended, moved}
use Rattle.lq_turns.specs.Script.{closing}
use Rattle.lq_turns.specs.Serial.{is_early, makes_first}
use Rattle.lq_turns.specs.Session.{Session, room_of, session_on}
use Rattle.lq_turns.specs.declared.call.Call.{Call}
use Rattle.lq_turns.specs.declared.call.Call.TheVariants.{Abort}
use Rattle.lq_turns.specs.declared.deed.Deed.{Deed}
use Rattle.lq_turns.specs.declared.deed.Deed.TheVariants.{Locks}
use Rattle.lq_turns.specs.declared.deed.OnLock.TheVariants.{Freed}

-- the texts of the deeds' statements
abbrev pub entry_texts : Dialect → List Deed → List (List ℕ)
entry_texts d deeds = map (λ deed. text_of d (made_of d deed).1) deeds

abbrev pub entry_of : Dialect → List Deed → Entry
entry_of d deeds = Texts (entry_texts d deeds)

abbrev pub entries_of : Dialect → List (List Deed) → List Entry
entries_of d entries = map (entry_of d) entries

-- how far an entry may fill the journal: the one that frees the lock may use all of it
abbrev pub room_of_entry : List Deed → Room
room_of_entry (Locks Freed ∷ []) = Release
room_of_entry deeds = Ordinary

-- each of the entries had room behind what was in use and the entries before it
abbrev pub HadRoom : Dialect → ℕ → ℕ → List (List Deed) → Type 0
HadRoom d limit used entries = (front : List (List Deed)) (deeds : List Deed) (rest : List (List Deed)) → entries ≡ front ++ deeds ∷ rest → used + size_of_all (entries_of d (front ++ deeds ∷ [])) ≤ end_of (room_of_entry deeds) limit

-- the session's transaction, where it has one
abbrev pub IsOpenAs : Dialect → ℕ → Session → Option Transaction → Type 0
IsOpenAs d number s None = (s.is_open ≡ false) × (s.seen ≡ s.committed) × (s.begun ≡ [])
IsOpenAs d number s (Some t) = (s.is_open ≡ true) × (t.session ≡ number) × StandsFor d t.now s.seen × (t.texts ≡ entry_texts d s.begun)

module _ {Answer : Type 0} {locked : Lock → Answer} {busy : ℕ → Answer} where
  -- no transaction is open but the holder's, whose session stands on what is committed
  abbrev pub IsHolders : Dialect → Database → Option (Holder Answer locked busy) → Option Transaction → Type 0
  IsHolders d committed None t = t ≡ None
  IsHolders d committed (Some h) t = (h.session.committed ≡ committed) × IsOpenAs d h.runner h.session t

  -- The store came from an origin by the calls of the machine's runners.
  pub record Shows (origin y : State) (x : Machine Answer locked busy) : Type 0 where
    pub dialect : y.dialect ≡ origin.dialect
    pub limit : y.limit ≡ origin.limit
    pub live : y.live ≡ true
    pub committed : StandsFor origin.dialect y.committed x.committed
    pub begun : IsHolders origin.dialect x.committed x.holder y.begun
    -- the machine's entries stand behind those of the origin
    pub entries : y.entries ≡ option_map (λ entries. entries ++ entries_of origin.dialect x.entries) origin.entries
    pub used : y.used ≡ origin.used + size_of_all (entries_of origin.dialect x.entries)
    pub room : HadRoom origin.dialect origin.limit origin.used x.entries

-- a crash leaves the entries that were there, and a front of those that came to the machine's
pub record LeftBetween {Answer : Type 0} {locked : Lock → Answer} {busy : ℕ → Answer} (d : Dialect) (x y : Machine Answer locked busy) (there left : List Entry) : Type 0 where
  pub front : List (List Deed)
  pub more : List (List Deed)
  pub came : y.entries ≡ x.entries ++ (front ++ more)
  pub is : left ≡ there ++ entries_of d front

-- the journal's entries stay, with others behind them, and its dialect and limit are the same
pub record Grows (x y : State) : Type 0 where
  pub dialect : y.dialect ≡ x.dialect
  pub limit : y.limit ≡ x.limit
  pub more : List Entry
  pub entries : y.entries ≡ option_map (λ entries. entries ++ more) x.entries

-- what a session's step leaves to the others
pub record LetsBe (session : ℕ) (x y : State) : Type 0 where
  pub grows : Grows x y
  -- the transactions that other sessions have open
  pub others : y.live ≡ true → (other : ℕ) → nat_eq session other ≡ false → is_open other y.begun ≡ is_open other x.begun

-- A machine whose runners may meet faults of the store.

-- what a runner answered, if it did
abbrev pub answer_of : {Answer : Type 0} → ℕ → List (ℕ × Answer) → Option Answer
answer_of n [] = None
answer_of n (a ∷ more) = if nat_eq a.0 n then Some a.1 else answer_of n more

-- a bar stands in a name
abbrev pub is_barred : List ℕ → Bool
is_barred name = list_any (λ b. b == 124) name

-- a mark stands in the lock's name, behind a bar
abbrev pub has_bar : Lock → Bool
has_bar lock = elim lock.by [ Some by ↦ is_barred by | None ↦ false ]

-- it is freed, or has a mark
abbrev pub IsLetGo : Lock → Type 0
IsLetGo lock = (lock ≡ free) ⊎ (has_bar lock ≡ true)

-- a lock that has a mark stays held
abbrev pub frees : Bool → List Call
frees true = []
frees false = closing ∷ []

-- the calls that are left to a holder that met a fault: it takes its transaction back, if it has one open, and frees a lock without a mark
abbrev pub last_calls : Session → List Call
last_calls s = if s.is_open then Abort ∷ frees (has_bar s.committed.lock) else frees (has_bar s.committed.lock)

-- the entry that frees the lock
abbrev pub freed : List (List Deed)
freed = (Locks Freed ∷ []) ∷ []

module _ {Answer : Type 0} {as_locked : Lock → Answer} {busy : ℕ → Answer} where
  -- the holder, where it is this runner
  abbrev pub held_by : ℕ → Option (Holder Answer as_locked busy) → Option (Holder Answer as_locked busy)
  held_by n None = None
  held_by n (Some h) = if nat_eq h.runner n then Some h else None

  module _ (failed : DrillFault → Answer) where
    -- with these calls alone; without any it answers at once
    abbrev pub left_with : List Call → DrillFault → Holder Answer as_locked busy → Machine Answer as_locked busy → Machine Answer as_locked busy
    left_with [] why h x = answers_with Answer as_locked busy h.runner (failed why) (record x { holder = None })
    left_with (call ∷ calls) why h x = record x { holder = Some (record h { rest = call ∷ calls; answer = failed why }) }

    -- the holder makes no other calls, and then answers the fault
    abbrev pub gives_up : DrillFault → Holder Answer as_locked busy → Machine Answer as_locked busy → Machine Answer as_locked busy
    gives_up why h x = left_with (last_calls h.session) why h x

    -- no runner has answered a fault
    abbrev pub IsGoing : Machine Answer as_locked busy → Type 0
    IsGoing x = (n : ℕ) (why : DrillFault) → answer_of n x.answers ≡ Some (failed why) → ⊥

    module _ (d : Dialect) (jobs : ℕ → Job Answer as_locked busy) where
      -- In its step the holder of this number met a fault: it gives up, and may have made the next of the calls that are left to it.
      pub record Falls (n : ℕ) (x z : Machine Answer as_locked busy) : Type 0 where
        pub why : DrillFault
        pub holder : Holder Answer as_locked busy
        pub held : held_by n x.holder ≡ Some holder
        pub locked : x.committed.lock.locked ≡ true
        -- without a transaction nothing is begun
        pub rests : holder.session.is_open ≡ false → holder.session.begun ≡ []
        pub is : (z ≡ gives_up why holder x) ⊎ (z ≡ moved Answer as_locked busy d jobs n (gives_up why holder x))

      -- one number of a schedule: a step of the machine; or, where its runner met a fault, that
      abbrev pub Steps : Type 0 → ℕ → Machine Answer as_locked busy → Machine Answer as_locked busy → Type 0
      Steps met n x z = (z ≡ moved Answer as_locked busy d jobs n x) ⊎ (met × Falls n x z)

      -- The steps of a schedule lead from one machine to another, where these runners met faults. One that has answered a fault ends them.
      abbrev pub Comes : (ℕ → Type 0) → List ℕ → Machine Answer as_locked busy → Machine Answer as_locked busy → Type 0
      Comes met [] x z = x ≡ z
      Comes met (n ∷ ns) x z = IsGoing x × ((y : Machine Answer as_locked busy) × Steps (met n) n x y × Comes met ns y z)

      -- The steps up to that of a runner that met a fault, and gave up, are those of the machine without faults.
      pub record FallsFirst (met : ℕ → Type 0) (steps : List ℕ) (x z : Machine Answer as_locked busy) : Type 0 where
        pub front : List ℕ
        pub next : ℕ
        pub later : List ℕ
        pub is : steps ≡ front ++ next ∷ later
        pub has_met : met next
        pub given_up : Machine Answer as_locked busy
        pub falls : Falls next (all_moved Answer as_locked busy d jobs front x) given_up
        pub goes_on : Comes met later given_up z

      -- On the way a runner that does not need the lock made its first call, while one that had met a fault still had it.
      pub record FreesEarly (met : ℕ → Type 0) (steps : List ℕ) (x z : Machine Answer as_locked busy) : Type 0 where
        pub before : List ℕ
        pub next : ℕ
        pub later : List ℕ
        pub is : steps ≡ before ++ next ∷ later
        pub now : Machine Answer as_locked busy
        pub came : Comes met before x now
        pub holder : Holder Answer as_locked busy
        pub held : now.holder ≡ Some holder
        pub gave_up : (why : DrillFault) × (holder.answer ≡ failed why)
        pub early : is_early Answer as_locked busy d jobs next now ≡ true
        pub unlocked : (jobs next).needs_lock ≡ false
        pub goes_on : Comes met (next ∷ later) now z

      -- the entries of the machine without faults after some of the steps, and then perhaps one that frees the lock
      pub record FreesAtMostOnce (steps : List ℕ) (x z : Machine Answer as_locked busy) : Type 0 where
        pub front : List ℕ
        pub rest : List ℕ
        pub is : steps ≡ front ++ rest
        pub tail : List (List Deed)
        pub once : (tail ≡ []) ⊎ (tail ≡ freed)
        pub entries : z.entries ≡ (all_moved Answer as_locked busy d jobs front x).entries ++ tail

      -- the next call that a runner makes, its first one or one of the lock's holder, and the session that makes it
      abbrev pub IsNext : ℕ → Machine Answer as_locked busy → Call → Session → Type 0
      IsNext n x call s = ((h : Holder Answer as_locked busy) × (rest : List Call) × (held_by n x.holder ≡ Some h) × (h.rest ≡ call ∷ rest) × (s ≡ h.session))
          ⊎ ((rest : List Call) × (makes_first Answer as_locked busy d jobs n x ≡ true) × ((jobs n).script x.committed ≡ call ∷ rest) × (s ≡ session_on x.committed))

      -- the entries of its next call do not go into a journal with this limit, of which so many bytes were filled at the start
      pub record HasNoRoom (filled limit : ℕ) (n : ℕ) (x : Machine Answer as_locked busy) (used next : ℕ) : Type 0 where
        pub call : Call
        pub session : Session
        pub is_next : IsNext n x call session
        pub used_is : used ≡ filled + size_of_all (entries_of d x.entries)
        pub next_is : next ≡ size_of_all (entries_of d (appended d call session))
        pub full : is_full (end_of (room_of call) limit) used (entries_of d (appended d call session)) ≡ true
        -- only the call that frees the lock may use all of the journal, and nothing is begun then
        pub which : (room_of call ≡ Ordinary) ⊎ ((call ≡ closing) × (session.begun ≡ []))

      abbrev pub HasCause : ℕ → ℕ → ℕ → Machine Answer as_locked busy → DrillFault → Type 0
      HasCause filled limit n x fault.Disk = Unit {0}
      HasCause filled limit n x (fault.Full used next) = HasNoRoom filled limit n x used next
      HasCause filled limit n x fault.OutOfMemory = Unit {0}

      -- A runner meets a fault in its step: at its next call, or, having given up in this step, at the one that is left.
      pub record Meets (filled limit : ℕ) (n : ℕ) (x : Machine Answer as_locked busy) (why : DrillFault) : Type 0 where
        pub at : Machine Answer as_locked busy
        pub is : (at ≡ x) ⊎ ((other : DrillFault) × (h : Holder Answer as_locked busy) × (held_by n x.holder ≡ Some h) × (h.session.is_open ≡ false → h.session.begun ≡ []) × (at ≡ gives_up other h x))
        pub cause : HasCause filled limit n at why
