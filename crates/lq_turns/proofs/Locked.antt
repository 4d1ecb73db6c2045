-- Where a stop may fall in a command that takes the lock for its turns.
use Rattle.std.proofs.Common.{ap, inl, inr, subst, sym, ◌∙◌}
use Rattle.std.proofs.lemmas.List.{append-nil, append_assoc}
use Rattle.std.specs.List.{list_all}
use Rattle.std.specs.Prelude.{Bool, Err, List, Ok, Result, [], false, map, refl, true, ◌++◌, ◌∷◌, ◌≡◌, ◌⊎◌}
use Rattle.lq_base.specs.declared.dialect.Dialect.{Dialect}
use Rattle.lq_base.specs.declared.dialect.Dialect.TheVariants.{Mysql, Postgresql}
use Rattle.lq_base.specs.declared.reason.Reason.{Reason}
use Rattle.lq_base.specs.declared.tracking.Lock.{Lock}
use Rattle.lq_model.proofs.Lists.{all-append, all-append_left, and_left, and_right}
use Rattle.lq_model.specs.Script.{if_any}
use Rattle.lq_track.specs.Database.{Database}
use Rattle.lq_track.specs.Lock.{free}
use Rattle.lq_turns.specs.Deed.{Contents, contents_of, with_contents, all_done, contents_after, done, if_accepted, lock_after}
use Rattle.lq_turns.specs.Script.{closing, if_missing, opening, with_lock}
use Rattle.lq_turns.specs.Session.{Session, all_called, all_executed, is_own, session_on, settled_if, settled_up}
use Rattle.lq_turns.specs.declared.call.Call.{Call}
use Rattle.lq_turns.specs.declared.deed.Deed.{Deed}
use Rattle.lq_turns.specs.declared.deed.Deed.TheVariants.{Locks, Rows, Users}
use Rattle.lq_turns.specs.declared.deed.OnLock.{OnLock}
use Rattle.lq_turns.specs.declared.deed.OnLock.TheVariants.{Freed, LockMade, LockRowMade, LogMade}
use Rattle.lq_turns.specs.declared.stamp.Stamp.{Stamp}
use Rattle.lq_turns.specs.Stops.{Journal, joined}
use Rattle.lq_turns.proofs.Journal.{done_both, joined_any, joined_both, next, same_ok}
use Rattle.lq_turns.proofs.Made.{calls_both}

-- deeds on the lock leave the contents

abbrev is_lock : Deed → Bool
is_lock (Users s) = false
is_lock (Rows w) = false
is_lock (Locks w) = true

abbrev pub all_locks : Journal → Bool
all_locks entries = list_all (list_all is_lock) entries

locks_leave : (d : Dialect) (deeds : List Deed) (database now : Database) → list_all is_lock deeds ≡ true → all_done d deeds database ≡ Ok now → contents_of now ≡ contents_of database
locks_leave d [] database now all is = ap contents_of (sym (same_ok d is))
locks_leave d (Users s ∷ deeds) database now all is = Prim.cc
locks_leave d (Rows w ∷ deeds) database now all is = Prim.cc
locks_leave d (Locks w ∷ deeds) database now all is = locks_leave d deeds (with_contents (lock_after w database) (contents_of database)) now all is

-- a test that each deed passes
all_joined : (test : Deed → Bool) (entries : Journal) → list_all (list_all test) entries ≡ true → list_all test (joined entries) ≡ true
all_joined test [] all = refl
all_joined test (deeds ∷ entries) all = all-append test deeds (joined entries) (and_left _ (list_all (list_all test) entries) all) (all_joined test entries (and_right (list_all test deeds) _ all))

pub all_any : (test : Deed → Bool) (deeds : List Deed) → list_all test deeds ≡ true → list_all (list_all test) (if_any deeds) ≡ true
all_any test [] all = refl
all_any test (deed ∷ deeds) all = ap (λ b. list_all (λ (x : Bool). x) (b ∷ [])) all

pub entries_leave : (d : Dialect) (entries : Journal) (database now : Database) → all_locks entries ≡ true → all_done d (joined entries) database ≡ Ok now → contents_of now ≡ contents_of database
entries_leave d entries database now all is = locks_leave d (joined entries) database now (all_joined is_lock entries all) is

-- a call of deeds on the lock appends entries of them

record Ready (s t : Session) : Type 0 where
  more : Journal
  entries : t.entries ≡ s.entries ++ more
  locks : all_locks more ≡ true
  begun : list_all is_lock t.begun ≡ true

pub record Opened (s t : Session) : Type 0 where
  pub more : Journal
  pub entries : t.entries ≡ s.entries ++ more
  pub locks : all_locks more ≡ true
  pub begun : t.begun ≡ []

up : (s t : Session) → Ready s t → Ready s (settled_up t)
up s t is = record {
  more = is.more ++ if_any t.begun;
  entries = ap (λ es. es ++ if_any t.begun) is.entries ∙ append_assoc s.entries is.more (if_any t.begun);
  locks = all-append (list_all is_lock) is.more (if_any t.begun) is.locks (all_any is_lock t.begun is.begun);
  begun = refl;
}

up_if : (own : Bool) (s t : Session) → Ready s t → Ready s (settled_if own t)
up_if true s t is = up s t is
up_if false s t is = is

with_lock_deed : (w : OnLock) (now : Database) (s t : Session) → Ready s t → Ready s (record t { seen = now; begun = t.begun ++ Locks w ∷ [] })
with_lock_deed w now s t is = record { more = is.more; entries = is.entries; locks = is.locks; begun = all-append is_lock t.begun (Locks w ∷ []) is.begun refl }

opens : (d : Dialect) (ws : List OnLock) (s t : Session) → Ready s t → Opened s (all_executed d (map Locks ws) t)
opens d [] s t is = let it = up s t is in record { more = it.more; entries = it.entries; locks = it.locks; begun = refl }
opens d (w ∷ ws) s t is =
    let own = is_own d (Locks w) in
    let now = with_contents (lock_after w t.seen) (contents_of t.seen) in
    opens d ws s (settled_if own (record (settled_if own t) { seen = now; begun = (settled_if own t).begun ++ Locks w ∷ [] }))
    (up_if own s (record (settled_if own t) { seen = now; begun = (settled_if own t).begun ++ Locks w ∷ [] }) (with_lock_deed w now s (settled_if own t) (up_if own s t is)))

freed_not_own : (d : Dialect) → is_own d (Locks Freed) ≡ false
freed_not_own Postgresql = refl
freed_not_own Mysql = refl

abbrev freed_entry : Journal
freed_entry = (Locks Freed ∷ []) ∷ []

-- the last call appends the entry that frees the lock
closes : (d : Dialect) (s : Session) → s.begun ≡ [] → (all_executed d (Locks Freed ∷ []) s).entries ≡ s.entries ++ freed_entry
closes d s idle =
    ap (λ own. settled_entries (settled_if own (record (settled_if own s) { seen = now; begun = (settled_if own s).begun ++ Locks Freed ∷ [] }))) (freed_not_own d)
    ∙ ap (λ b. s.entries ++ if_any (b ++ Locks Freed ∷ [])) idle where
      now : Database
      now = with_contents (lock_after Freed s.seen) (contents_of s.seen)

      settled_entries : Session → Journal
      settled_entries t = t.entries ++ if_any t.begun

-- a front of two lists ends in the first, or goes on in the second

abbrev pub Cut : {A : Type 0} → List A → List A → List A → List A → Type 0
Cut {A} first second front rest = ((more : List A) × (first ≡ front ++ more)) ⊎ ((more : List A) × (front ≡ first ++ more) × (second ≡ more ++ rest))

pub cut : {A : Type 0} (first second front rest : List A) → first ++ second ≡ front ++ rest → Cut first second front rest
cut [] second front rest is = inr (front, refl, is)
cut (e ∷ first) second [] rest is = inl (e ∷ first, refl)
cut (e ∷ first) second (x ∷ front) rest is =
    let same : e ≡ x = Prim.cc in
    let others : first ++ second ≡ front ++ rest = Prim.cc in
    elim (cut first second front rest others) [
      | inl q ↦ inl (q.0, ap (λ es. e ∷ es) q.1 ∙ ap (λ y. y ∷ (front ++ q.0)) same)
      | inr q ↦ inr (q.0, ap (λ y. y ∷ front) (sym same) ∙ ap (λ es. e ∷ es) q.1, q.2)
    ]

-- where a stop falls: before the turns, in them, or after them

pub record InOpening (d : Dialect) (opened : Journal) (database now : Database) : Type 0 where
  pub front : Journal
  pub rest : Journal
  pub is : opened ≡ front ++ rest
  pub led : all_done d (joined front) database ≡ Ok now
  pub contents : contents_of now ≡ contents_of database

pub record InTurns (d : Dialect) (opened turns : Journal) (database now : Database) : Type 0 where
  pub front : Journal
  pub rest : Journal
  pub is : turns ≡ front ++ rest
  pub led : all_done d (joined (opened ++ front)) database ≡ Ok now

pub record AfterTurns (d : Dialect) (opened turns : Journal) (database now : Database) : Type 0 where
  pub before : Database
  pub led : all_done d (joined (opened ++ turns)) database ≡ Ok before
  pub contents : contents_of now ≡ contents_of before
  pub lock : now.lock ≡ free

abbrev pub Falls : Dialect → Journal → Journal → Database → Database → Type 0
Falls d opened turns database now = InOpening d opened database now ⊎ (InTurns d opened turns database now ⊎ AfterTurns d opened turns database now)

next_ok : (d : Dialect) (deeds : List Deed) (r : Result Database Reason) (now : Database) → next d deeds r ≡ Ok now → (before : Database) × (r ≡ Ok before) × (all_done d deeds before ≡ Ok now)
next_ok d deeds (Ok before) now is = (before, refl, is)
next_ok d deeds (Err reason) now is = Prim.cc

-- entries, and then others
pub led_both : (d : Dialect) (first second : Journal) (database now : Database) → all_done d (joined (first ++ second)) database ≡ Ok now
    → (before : Database) × (all_done d (joined first) database ≡ Ok before) × (all_done d (joined second) before ≡ Ok now)
led_both d first second database now is = next_ok d (joined second) (all_done d (joined first) database) now (sym (done_both d (joined first) (joined second) database) ∙ sym (ap (λ deeds. all_done d deeds database) (joined_both first second)) ∙ is)

module _ (d : Dialect) (stamp : Stamp) (database : Database) where
  -- the session after the first call
  abbrev pub first_session : Session
  first_session = all_executed d (map Locks (opening stamp database)) (session_on database)

  pub opened_by : Opened (session_on database) first_session
  opened_by = opens d (opening stamp database) (session_on database) (session_on database) (record { more = []; entries = refl; locks = refl; begun = refl })

  in_opening : (front rest : Journal) (now : Database) → first_session.entries ≡ front ++ rest → all_done d (joined front) database ≡ Ok now → contents_of now ≡ contents_of database
  in_opening front rest now is led = entries_leave d front database now (all-append_left (list_all is_lock) front rest (ap all_locks (sym is ∙ opened_by.entries) ∙ opened_by.locks)) led

  freed : (turns : Journal) (before now : Database) → all_done d (joined (first_session.entries ++ turns)) database ≡ Ok before → all_done d (joined freed_entry) before ≡ Ok now → AfterTurns d first_session.entries turns database now
  freed turns before now led is =
      let same = sym (same_ok d is) in
      record { before = before; led = led; contents = ap contents_of same; lock = ap (λ (x : Database). x.lock) same }

  one_same : (x : List Deed) (rest : Journal) → freed_entry ≡ x ∷ rest → x ≡ Locks Freed ∷ []
  one_same x rest is = Prim.cc

  at_end : (turns more rest : Journal) (now : Database) → freed_entry ≡ more ++ rest → all_done d (joined (first_session.entries ++ (turns ++ more))) database ≡ Ok now → Falls d first_session.entries turns database now
  at_end turns [] rest now is led = inr (inl (record { front = turns; rest = []; is = sym (append-nil turns); led = subst (λ es. all_done d (joined (first_session.entries ++ es)) database ≡ Ok now) (append-nil turns) led }))
  at_end turns (x ∷ y ∷ more) rest now is led = Prim.cc
  at_end turns (x ∷ []) rest now is led =
      let same = one_same x rest is in
      let parts = led_both d (first_session.entries ++ turns) (x ∷ []) database now (subst (λ es. all_done d (joined es) database ≡ Ok now) (sym (append_assoc first_session.entries turns (x ∷ []))) led) in
      inr (inr (freed turns parts.0 now parts.1 (subst (λ deeds. all_done d (joined (deeds ∷ [])) parts.0 ≡ Ok now) same parts.2)))

  after_opening : (turns more rest : Journal) (now : Database) → turns ++ freed_entry ≡ more ++ rest → all_done d (joined (first_session.entries ++ more)) database ≡ Ok now → Falls d first_session.entries turns database now
  after_opening turns more rest now is led = elim (cut turns freed_entry more rest is) as (λ _. Falls d first_session.entries turns database now) [
    | inl q ↦ inr (inl (record { front = more; rest = q.0; is = q.1; led = led }))
    | inr q ↦ at_end turns q.0 rest now q.2 (subst (λ es. all_done d (joined (first_session.entries ++ es)) database ≡ Ok now) q.1 led)
  ]

  pub falls : (calls : List Call) (turns : Journal) → (all_called d calls first_session).entries ≡ first_session.entries ++ turns → (all_called d calls first_session).begun ≡ []
      → (front rest : Journal) (now : Database) → (all_called d (with_lock stamp database calls) (session_on database)).entries ≡ front ++ rest → all_done d (joined front) database ≡ Ok now
      → Falls d first_session.entries turns database now
  falls calls turns wrote idle front rest now is led =
      let all = sym (append_assoc first_session.entries turns freed_entry)
      ∙ ap (λ es. es ++ freed_entry) (sym wrote) ∙ sym (closes d (all_called d calls first_session) idle)
      ∙ sym (ap (λ (s : Session). s.entries) (calls_both d calls (closing ∷ []) first_session)) ∙ is in
      elim (cut first_session.entries (turns ++ freed_entry) front rest all) as (λ _. Falls d first_session.entries turns database now) [
        | inl q ↦ inl (record { front = front; rest = q.0; is = q.1; led = led; contents = in_opening front q.0 now q.1 led })
        | inr q ↦ after_opening turns q.0 rest now q.2 (subst (λ es. all_done d (joined es) database ≡ Ok now) q.1 led)
      ]

-- what a stop leaves of the lock, in postgresql

-- the database that was there before, or one whose lock is held, or is free
abbrev pub LockStands : Database → Database → Type 0
LockStands before now = (now ≡ before) ⊎ ((now.lock.locked ≡ true) ⊎ (now.lock ≡ free))

abbrev pub is_other : Deed → Bool
is_other (Users s) = true
is_other (Rows w) = true
is_other (Locks w) = false

abbrev pub no_locks : Journal → Bool
no_locks entries = list_all (list_all is_other) entries

-- deeds on all but the lock leave it

kept_lock : (x now : Database) (r : Result Contents Reason) → if_accepted (with_contents x) r ≡ Ok now → now.lock ≡ x.lock
kept_lock x now (Ok c) is = ap (λ (e : Database). e.lock) (sym (same_ok Postgresql is))
kept_lock x now (Err reason) is = Prim.cc

others_keep : (d : Dialect) (deeds : List Deed) (x now : Database) → list_all is_other deeds ≡ true → all_done d deeds x ≡ Ok now → now.lock ≡ x.lock
others_keep d [] x now all is = ap (λ (e : Database). e.lock) (sym (same_ok d is))
others_keep d (Locks w ∷ deeds) x now all is = Prim.cc
others_keep d (Users s ∷ deeds) x now all is =
    let one = next_ok d deeds (done d (Users s) x) now is in
    others_keep d deeds one.0 now all one.2 ∙ kept_lock x one.0 (contents_after d (Users s) (contents_of x)) one.1
others_keep d (Rows w ∷ deeds) x now all is =
    let one = next_ok d deeds (done d (Rows w) x) now is in
    others_keep d deeds one.0 now all one.2 ∙ kept_lock x one.0 (contents_after d (Rows w) (contents_of x)) one.1

-- the opening takes it

abbrev TakesLock : Dialect → List OnLock → Type 0
TakesLock d ws = (x now : Database) → all_done d (map Locks ws) x ≡ Ok now → now.lock.locked ≡ true

then_takes : (d : Dialect) (there : Bool) (w : OnLock) (ws : List OnLock) → TakesLock d ws → TakesLock d (if_missing there w ++ ws)
then_takes d true w ws takes = takes
then_takes d false w ws takes = λ x now led. takes (with_contents (lock_after w x) (contents_of x)) now led

opening_takes : (d : Dialect) (stamp : Stamp) (database : Database) → TakesLock d (opening stamp database)
opening_takes d stamp database =
    then_takes d database.has_log LogMade _ (then_takes d database.has_lock LockMade _ (then_takes d database.has_lock_row LockRowMade _ (λ x now led. ap (λ (e : Database). e.lock.locked) (sym (same_ok d led)))))

-- a front of one entry, if there is any
any_front : (deeds : List Deed) (front rest : Journal) → if_any deeds ≡ front ++ rest → (front ≡ []) ⊎ (front ≡ if_any deeds)
any_front deeds [] rest is = inl refl
any_front [] (e ∷ front) rest is = Prim.cc
any_front (deed ∷ deeds) (e ∷ x ∷ front) rest is = Prim.cc
any_front (deed ∷ deeds) (e ∷ []) rest is =
    let same : (deed ∷ deeds) ≡ e = Prim.cc in
    inr (ap (λ y. y ∷ []) (sym same))

one_opening : (ws : List OnLock) (s : Session) → (all_executed Postgresql (map Locks ws) s).entries ≡ s.entries ++ if_any (s.begun ++ map Locks ws)
one_opening [] s = ap (λ b. s.entries ++ if_any b) (sym (append-nil s.begun))
one_opening (w ∷ ws) s =
    let now = with_contents (lock_after w s.seen) (contents_of s.seen) in
    one_opening ws (record s { seen = now; begun = s.begun ++ Locks w ∷ [] }) ∙ ap (λ b. s.entries ++ if_any b) (append_assoc s.begun (Locks w ∷ []) (map Locks ws))

module _ (stamp : Stamp) (database : Database) where
  abbrev first_deeds : List Deed
  first_deeds = map Locks (opening stamp database)

  abbrev first_entries : Journal
  first_entries = (first_session Postgresql stamp database).entries

  is_opened : first_entries ≡ if_any first_deeds
  is_opened = one_opening (opening stamp database) (session_on database)

  held : (front : Journal) (now : Database) → front ≡ if_any first_deeds → all_done Postgresql (joined front) database ≡ Ok now → now.lock.locked ≡ true
  held front now is led = opening_takes Postgresql stamp database database now (subst (λ deeds. all_done Postgresql deeds database ≡ Ok now) (ap joined is ∙ joined_any first_deeds) led)

  pub lock_stands : (turns : Journal) (now : Database) → no_locks turns ≡ true → Falls Postgresql first_entries turns database now → LockStands database now
  lock_stands turns now others (inl opens) = elim (any_front first_deeds opens.front opens.rest (sym is_opened ∙ opens.is)) as (λ _. LockStands database now) [
    | inl none ↦ inl (sym (same_ok Postgresql (subst (λ es. all_done Postgresql (joined es) database ≡ Ok now) none opens.led)))
    | inr all ↦ inr (inl (held opens.front now all opens.led))
  ]
  lock_stands turns now others (inr (inl within)) =
      let parts = led_both Postgresql first_entries within.front database now within.led in
      let theirs = all-append_left (list_all is_other) within.front within.rest (subst (λ es. no_locks es ≡ true) within.is others) in
      let same = others_keep Postgresql (joined within.front) parts.0 now (all_joined is_other within.front theirs) parts.2 in
      inr (inl (ap (λ (l : Lock). l.locked) same ∙ held first_entries parts.0 is_opened parts.1))
  lock_stands turns now others (inr (inr after)) = inr (inr after.lock)
