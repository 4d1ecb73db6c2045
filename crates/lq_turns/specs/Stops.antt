-- Commands that can be run again after a stop.
use Rattle.std.specs.List.{flat_map, list_all, list_any}
use Rattle.std.specs.Prelude.{Bool, List, None, Ok, Option, Some, [], codes, false, if◌then◌else◌, is_some, not, pos, true, ℕ, ◌&&◌, ◌++◌, ◌<◌, ◌==◌, ◌^◌, ◌||◌, ◌∷◌, ◌≡◌, ◌⊎◌}
use Rattle.lq_base.specs.Name.{identity_text}
use Rattle.lq_base.specs.Number.{is_digits, whole_text}
use Rattle.lq_base.specs.declared.dialect.Dialect.{Dialect}
use Rattle.lq_base.specs.declared.dialect.Dialect.TheVariants.{Postgresql}
use Rattle.lq_base.specs.declared.run.Did.{Did}
use Rattle.lq_base.specs.declared.run.Did.TheVariants as did
use Rattle.lq_base.specs.declared.tracking.Lock.{Lock}
use Rattle.lq_base.specs.declared.tracking.Tracked.{Tracked}
use Rattle.lq_model.specs.Sound.{IsSound}
use Rattle.lq_track.specs.Database.{Database, same_identity}
use Rattle.lq_turns.specs.Deed.{Contents, all_done, contents_of}
use Rattle.lq_turns.specs.Laws.{AreRead}
use Rattle.lq_turns.specs.Script.{release_calls, sets_calls}
use Rattle.lq_turns.specs.Session.{Session, all_called, session_on}
use Rattle.lq_turns.specs.Set.{Changelog, Meaning, Set}
use Rattle.lq_turns.specs.Settle.{all_settled, updated, what}
use Rattle.lq_turns.specs.Turn.{mark_text}
use Rattle.lq_turns.specs.declared.call.Call.{Call}
use Rattle.lq_turns.specs.declared.choice.What.{What}
use Rattle.lq_turns.specs.declared.choice.What.TheVariants.{Again, Fill, New}
use Rattle.lq_turns.specs.declared.deed.Deed.{Deed}
use Rattle.lq_turns.specs.declared.deed.Deed.TheVariants.{Locks}
use Rattle.lq_turns.specs.declared.deed.OnLock.TheVariants.{Freed}
use Rattle.lq_turns.specs.declared.stamp.Stamp.{Stamp}
use Rattle.lq_turns.specs.declared.turn.Turn.{Turn}

-- Updates that can be run again after a stop, and what a stop may leave.

abbrev pub is_skip : Did → Bool
is_skip did.Skipped = true
is_skip _ = false

abbrev pub is_to_run : Option What → Bool
is_to_run (Some New) = true
is_to_run (Some Again) = true
is_to_run (Some Fill) = false
is_to_run None = false

module _ {Key : Type 0} where
  -- where it runs, it does not always run
  abbrev pub runs_once : Set Key → Option What → Bool
  runs_once x w = not (is_to_run w) || not x.run_always

  -- where it runs, it is one transaction
  abbrev pub runs_whole : Set Key → Option What → Bool
  runs_whole x w = not (is_to_run w) || x.in_transaction

  -- each of these changesets passes a test, told by what becomes of it by these rows
  abbrev pub all_at : (Set Key → Option What → Bool) → List (Set Key) → List Tracked → Bool
  all_at test xs rows = list_all (λ x. test x (what x rows)) xs

-- An update whose turns are the same again after a stop: the changelog has no condition of its own, no changeset is skipped, and none that is new or runs again always runs or is not one transaction.
pub record IsSteady {Key : Type 0} (d : Dialect) (m : Meaning Key) (stamp : Stamp) (g : Changelog Key) (c : Contents) : Type 0 where
  pub bare : (e : Contents) → g.condition.told e ≡ Ok true
  pub none_skipped : list_any (λ h. is_skip h.what) (updated d m stamp.reading g c).happened ≡ false
  pub once : all_at runs_once g.sets c.rows ≡ true
  pub whole : all_at runs_whole g.sets c.rows ≡ true

-- before the last `|`, and behind it
abbrev pub at_last_bar : List ℕ → Option (List ℕ × List ℕ)
at_last_bar [] = None
at_last_bar (b ∷ bs) = elim (at_last_bar bs) [ Some parts ↦ Some (b ∷ parts.0, parts.1) | None ↦ if b == 124 then Some ([], bs) else None ]

abbrev pub begins_with_zero : List ℕ → Bool
begins_with_zero [] = false
begins_with_zero (b ∷ bs) = b == 48

-- a number from 1 in decimal digits, without leading zeros
abbrev pub is_count : List ℕ → Bool
is_count text = is_digits text && not (begins_with_zero text)

-- what stands behind a front, where the text begins so
abbrev pub behind : List ℕ → List ℕ → Option (List ℕ)
behind [] text = Some text
behind (a ∷ front) [] = None
behind (a ∷ front) (b ∷ text) = if a == b then behind front text else None

abbrev pub counts_behind : List ℕ → List ℕ → Bool → Bool
counts_behind front text other = elim (behind front text) [ Some count ↦ is_count count | None ↦ other ]

abbrev pub is_mark_number : List ℕ → Bool
is_mark_number text = counts_behind (codes "undo ") text (counts_behind (codes "back ") text (is_count text))

-- `WHO|IDENTITY|K`, `WHO|IDENTITY|undo K` or `WHO|IDENTITY|back K`
abbrev pub is_mark : List ℕ → Bool
is_mark by = elim (at_last_bar by) [ Some parts ↦ is_some (at_last_bar parts.0) && is_mark_number parts.1 | None ↦ false ]

abbrev pub has_mark : Lock → Bool
has_mark lock = elim lock.by [ Some by ↦ is_mark by | None ↦ false ]

abbrev pub Journal : Type 0
Journal = List (List Deed)

-- nothing was made
abbrev pub joined : Journal → List Deed
joined entries = flat_map (λ (deeds : List Deed). deeds) entries

-- the journal after a stop: a front of the entries of these calls, and then possibly the closing one where the lock has no mark
pub record IsLeft (d : Dialect) (calls : List Call) (database : Database) (before after : Journal) : Type 0 where
  pub front : Journal
  pub rest : Journal
  pub entries : (all_called d calls (session_on database)).entries ≡ front ++ rest
  pub now : Database
  pub led : all_done d (joined front) database ≡ Ok now
  pub is : (after ≡ before ++ front) ⊎ ((after ≡ before ++ front ++ (Locks Freed ∷ []) ∷ []) × (has_mark now.lock ≡ false))

-- what one call of the command, or of release-locks, may leave
abbrev pub StopsAt : Dialect → Database → (List ℕ → Database → List Call) → Journal → Journal → Type 0
StopsAt d start command before after = (database : Database) × (all_done d (joined before) start ≡ Ok database)
    × (IsLeft d (release_calls database) database before after ⊎ ((database.lock.locked ≡ false) × ((who : List ℕ) × IsLeft d (command who database) database before after)))

-- journals, each left by the command or by release-locks on the one before
abbrev pub IsTrail : Dialect → Database → (List ℕ → Database → List Call) → Journal → List Journal → Journal → Type 0
IsTrail d start command from [] to = from ≡ to
IsTrail d start command from (next ∷ more) to = StopsAt d start command from next × IsTrail d start command next more to

-- each front of a command's entries may be left by a stop
abbrev pub FrontsAreLeft : Type 0
FrontsAreLeft = (d : Dialect) (calls : List Call) (database : Database) (journal front rest : Journal)
    → (all_called d calls (session_on database)).entries ≡ front ++ rest → IsLeft d calls database journal (journal ++ front)

-- so may the entries of its first calls
abbrev pub FirstCallsAreLeft : Type 0
FirstCallsAreLeft = (d : Dialect) (made rest : List Call) (database : Database) (journal : Journal)
    → IsLeft d (made ++ rest) database journal (journal ++ (all_called d made (session_on database)).entries)

-- what is said before a mark's number
abbrev pub undo_text : Bool → List ℕ
undo_text is_undo = if is_undo then codes "undo " else []

-- a mark is read as what was written: who and the changeset stand before the last bar, its number behind it
abbrev pub MarksAreRead : Type 0
MarksAreRead = (who : List ℕ) (turn : Turn) (k : ℕ) → 0 < k → k < 2 ^ 64
    → (at_last_bar (mark_text who turn k) ≡ Some (who ++ codes "|" ++ identity_text turn.identity, undo_text turn.is_undo ++ whole_text (pos k))) × (is_mark (mark_text who turn k) ≡ true)

-- a name without a bar has no mark
abbrev pub BareNamesHaveNoMark : Type 0
BareNamesHaveNoMark = (who : List ℕ) → list_any (λ b. b == 124) who ≡ false → is_mark who ≡ false

-- An update that is run again after it was stopped between two turns.

module _ {Key : Type 0} where
  -- its own sum is that of its changes, in the present form
  abbrev pub has_own_sum : Set Key → Bool
  has_own_sum x = x.is_own_sum x.sum && not (x.is_old_sum x.sum)

  -- both are selected, and have one identity
  abbrev pub is_twin : Set Key → Set Key → Bool
  is_twin x y = x.selected && (y.selected && same_identity y.identity x.identity)

  -- two selected changesets have one identity
  abbrev pub are_twins : List (Set Key) → Bool
  are_twins [] = false
  are_twins (x ∷ xs) = list_any (is_twin x) xs || are_twins xs

-- Where some turns of an update were made, none of which stopped it or was skipped, its turns are the rest: run again it leaves what it would have left, and stops where it would have.
abbrev pub GoesOn : {Key : Type 0} → Meaning Key → Type 0
GoesOn {Key} m = (d : Dialect) (stamp : Stamp) (xs ys : List (Set Key)) (c : Contents)
    → IsSound d c.users → AreRead d m xs → list_all has_own_sum xs ≡ true → are_twins (xs ++ ys) ≡ false → all_at runs_once xs c.rows ≡ true
    → (all_settled d m stamp.reading xs c).stop ≡ None → list_any (λ h. is_skip h.what) (all_settled d m stamp.reading xs c).happened ≡ false
    → ((all_settled d m stamp.reading (xs ++ ys) (all_settled d m stamp.reading xs c).contents).contents ≡ (all_settled d m stamp.reading (xs ++ ys) c).contents)
    × ((all_settled d m stamp.reading (xs ++ ys) (all_settled d m stamp.reading xs c).contents).stop ≡ (all_settled d m stamp.reading (xs ++ ys) c).stop)

-- Where a stop may fall in an update whose turns are one transaction each.

-- a session without an open transaction, on these contents
pub record IsIdle (s : Session) (c : Contents) : Type 0 where
  pub committed : contents_of s.committed ≡ c
  pub seen : contents_of s.seen ≡ c
  pub begun : s.begun ≡ []

-- the entries up to somewhere are those of some whole turns, none of which stops the update
pub record IsFront {Key : Type 0} (m : Meaning Key) (stamp : Stamp) (xs : List (Set Key)) (c : Contents) (s : Session) (front : Journal) : Type 0 where
  pub turns : List (Set Key)
  pub rest : List (Set Key)
  pub are : xs ≡ turns ++ rest
  pub goes_on : (all_settled Postgresql m stamp.reading turns c).stop ≡ None
  pub entries : (all_called Postgresql (sets_calls Postgresql m stamp turns c) s).entries ≡ s.entries ++ front

-- each front of the entries of an update in postgresql, whose changesets that run are one transaction each, is that of some whole turns
abbrev pub FrontsAreTurns : {Key : Type 0} → Meaning Key → Type 0
FrontsAreTurns {Key} m = (stamp : Stamp) (xs : List (Set Key)) (c : Contents) (s : Session) (front rest : Journal)
    → IsIdle s c → IsSound Postgresql c.users → AreRead Postgresql m xs → are_twins xs ≡ false → all_at runs_whole xs c.rows ≡ true
    → (all_called Postgresql (sets_calls Postgresql m stamp xs c) s).entries ≡ s.entries ++ (front ++ rest) → IsFront m stamp xs c s front
