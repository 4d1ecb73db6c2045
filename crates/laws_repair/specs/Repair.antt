-- The last text of a journal tells whether the last deed set a mark.
use Rattle.std.specs.List.{filter, last_or, list_all, list_any}
use Rattle.std.specs.Prelude.{Bool, List, None, Ok, Option, Some, [], codes, false, if◌then◌else◌, is_none, is_some, length, map, nat_lt, not, pos, suc, take, true, zero, ℕ, ◌&&◌, ◌++◌, ◌<◌, ◌==◌, ◌^◌, ◌||◌, ◌∷◌, ◌≡◌, ◌⊎◌}
use Rattle.lq_base.specs.Name.{identity_text, is_text}
use Rattle.lq_base.specs.Number.{whole_text}
use Rattle.lq_base.specs.declared.dialect.Dialect.{Dialect}
use Rattle.lq_base.specs.declared.dialect.Dialect.TheVariants.{Mysql}
use Rattle.lq_base.specs.declared.identity.Identity.{Identity}
use Rattle.lq_base.specs.declared.run.Why.{Why}
use Rattle.lq_base.specs.declared.tracking.Lock.{Lock}
use Rattle.lq_base.specs.declared.tracking.Tracked.{Tracked}
use Rattle.lq_model.specs.Catalogue.{Catalogue}
use Rattle.lq_model.specs.Sound.{IsSound}
use Rattle.lq_model.specs.SqlText.{statement_in}
use Rattle.lq_model.specs.StatementText.{text_of}
use Rattle.lq_model.specs.Step.{run}
use Rattle.lq_model.specs.declared.caller.By.TheVariants.{User}
use Rattle.lq_model.specs.declared.statement.Statement.{Statement}
use Rattle.lq_reverse.specs.Back.{PartsBack, back, backs}
use Rattle.lq_track.specs.Database.{Database}
use Rattle.lq_track.specs.Lock.{free, taken}
use Rattle.lq_turns.specs.Deed.{Contents, all_done, contents_after, contents_of, made_of}
use Rattle.lq_turns.specs.Laws.{AreRead, IsAtRest}
use Rattle.lq_turns.specs.Script.{closing, release_calls, update_calls}
use Rattle.lq_turns.specs.Session.{all_called, left_by, session_on}
use Rattle.lq_turns.specs.Set.{Changelog, Meaning, Set, all_fresh, has_row, inverses, statements_of}
use Rattle.lq_turns.specs.Settle.{all_settled, choice, settle, updated, what}
use Rattle.lq_turns.specs.Stops.{IsLeft, IsSteady, Journal, are_twins, has_own_sum, joined}
use Rattle.lq_turns.specs.Turn.{made}
use Rattle.lq_turns.specs.Within.{IsBetween, holds_unless, keeps_nothing_by, marks_last, none_gives_way}
use Rattle.lq_turns.specs.declared.call.Call.{Call}
use Rattle.lq_turns.specs.declared.call.Call.TheVariants.{Begin, Commit, Execute}
use Rattle.lq_turns.specs.declared.choice.Choice.TheVariants.{Runs}
use Rattle.lq_turns.specs.declared.choice.What.{What}
use Rattle.lq_turns.specs.declared.choice.What.TheVariants.{Again, Fill, New}
use Rattle.lq_turns.specs.declared.deed.Deed.{Deed}
use Rattle.lq_turns.specs.declared.deed.Deed.TheVariants.{Locks, Users}
use Rattle.lq_turns.specs.declared.deed.OnLock.TheVariants.{Marked}
use Rattle.lq_turns.specs.declared.stamp.Stamp.{Stamp}

-- the canonical text of the deed's statement, which is read back as it
abbrev pub text_by : Dialect → Deed → List ℕ
text_by d deed = text_of d (made_of d deed).1

abbrev pub IsReadBack : Dialect → Deed → Type 0
IsReadBack d deed = statement_in d (text_by d deed) ≡ Some (made_of d deed).1

abbrev pub AreReadBack : Dialect → List Deed → Type 0
AreReadBack d [] = Unit {0}
AreReadBack d (deed ∷ deeds) = IsReadBack d deed × AreReadBack d deeds

-- the last text of entries, or else this one
abbrev pub last_text : Option (List ℕ) → List (List (List ℕ)) → Option (List ℕ)
last_text o [] = o
last_text o (entry ∷ entries) = last_text (last_or o entry) entries

-- it is the text that sets this mark
abbrev pub is_mark_text : Dialect → List ℕ → Option (List ℕ) → Bool
is_mark_text d by None = false
is_mark_text d by (Some text) = is_text (text_by d (Locks (Marked by))) text

-- Where all deeds of a journal were accepted, and their texts are read back: its last text sets the mark exactly where the last deed does.
abbrev pub LastTextTells : Type 0
LastTextTells = (d : Dialect) (by : List ℕ) (database now : Database) (entries : Journal) → all_done d (joined entries) database ≡ Ok now → AreReadBack d (joined entries) → IsReadBack d (Locks (Marked by))
    → is_mark_text d by (last_text None (map (map (text_by d)) entries)) ≡ marks_last by (last_or None (joined entries))

-- What of a turn's statements stands after a stop, and what takes it back.

-- `WHO|IDENTITY|K`, and where what takes statement K back is marked `WHO|IDENTITY|back K`
abbrev pub marked_text : Bool → List ℕ → Identity → ℕ → List ℕ
marked_text is_back who of k = who ++ codes "|" ++ identity_text of ++ codes "|" ++ (if is_back then codes "back " else []) ++ whole_text (pos k)

-- How many statements are to be taken back, by the mark's form and number, and by whether the last deed set the mark.
abbrev pub standing : Bool → Bool → ℕ → ℕ
standing false false k = k
standing true true k = k
standing false true (suc k) = k
standing true false (suc k) = k
standing false true zero = 0
standing true false zero = 0

-- one statement that takes back the k-th, in a transaction with its mark
abbrev pub back_calls : List ℕ → Identity → ℕ → Option Statement → List Call
back_calls who of k None = []
back_calls who of k (Some s) = Begin ∷ Execute (Locks (Marked (marked_text true who of k))) ∷ Execute (Users s) ∷ Commit ∷ []

-- statements, of which the first is the k-th, are taken back, the last first
abbrev pub undo_calls : Dialect → List ℕ → Identity → ℕ → List Statement → List Call
undo_calls d who of k [] = []
undo_calls d who of k (s ∷ ss) = undo_calls d who of (suc k) ss ++ back_calls who of k (back d s)

-- The calls of undo-unrecorded, where these first statements of the changeset stand. What is refused is followed by an abort, and the lock stays held.
abbrev pub repair_calls : Dialect → List ℕ → Identity → List Statement → Database → List Call
repair_calls d who of first database = made d (undo_calls d who of 1 first ++ closing ∷ []) (contents_of database)

-- The lock has a mark of one of the two forms; of the statements the first ones are to be taken back, and what takes each of them back leads to these contents.
pub record IsPartly (d : Dialect) (at : ℕ) (who : List ℕ) (of : Identity) (statements : List Statement) (c : Contents) (last : Option Deed) (now : Database) : Type 0 where
  pub is_back : Bool
  pub k : ℕ
  pub first : List Statement
  pub rest : List Statement
  pub are : statements ≡ first ++ rest
  -- the statement that the mark names
  pub place : (pre : List Statement) × (s : Statement) × (post : List Statement) × (statements ≡ pre ++ s ∷ post) × (k ≡ suc (length pre))
  pub number : length first ≡ standing is_back (marks_last (marked_text is_back who of k) last) k
  pub lock : now.lock ≡ taken (pos at) (marked_text is_back who of k)
  pub returns : run User d (backs d first) now.users ≡ Ok c.users
  pub rows : now.rows ≡ c.rows

-- these contents, with a free lock
pub record IsWhole (c : Contents) (now : Database) : Type 0 where
  pub contents : contents_of now ≡ c
  pub lock : now.lock ≡ free

-- the repair leaves them; and wherever it is stopped they are left, or a part stands still
abbrev pub RepairLeaves : Type 0
RepairLeaves = (d : Dialect) (at : ℕ) (who : List ℕ) (of : Identity) (statements : List Statement) (c : Contents) (last : Option Deed) (database : Database)
    (partly : IsPartly d at who of statements c last database)
    → IsWhole c (left_by d (repair_calls d who of partly.first database) database)
    × ((front rest : Journal) (now : Database) → (all_called d (repair_calls d who of partly.first database) (session_on database)).entries ≡ front ++ rest → all_done d (joined front) database ≡ Ok now
    → IsWhole c now ⊎ IsPartly d at who of statements c (last_or last (joined front)) now)

-- the repair is stopped at each of these fronts of its entries, each time run from where the stop before left it
abbrev pub IsMended : Dialect → ℕ → List ℕ → Identity → List Statement → Contents → Option Deed → Database → List Journal → Option Deed → Database → Type 0
IsMended d at who of statements c last database [] end now = (end ≡ last) × (now ≡ database)
IsMended d at who of statements c last database (front ∷ fronts) end now =
    (partly : IsPartly d at who of statements c last database) × (rest : Journal) × (next : Database)
    × ((all_called d (repair_calls d who of partly.first database) (session_on database)).entries ≡ front ++ rest) × (all_done d (joined front) database ≡ Ok next)
    × IsMended d at who of statements c (last_or last (joined front)) next fronts end now

-- after any number of stops they are left already, or a part stands still: so the repair that is run to its end leaves them
abbrev pub RepairResumes : Type 0
RepairResumes = (d : Dialect) (at : ℕ) (who : List ℕ) (of : Identity) (statements : List Statement) (c : Contents) (last : Option Deed) (database : Database) (fronts : List Journal) (end : Option Deed) (now : Database)
    → IsPartly d at who of statements c last database → IsMended d at who of statements c last database fronts end now
    → IsWhole c now ⊎ ((partly : IsPartly d at who of statements c end now) × IsWhole c (left_by d (repair_calls d who of partly.first now) now))

-- the first statements of changes that are fresh at their places, each with an inverse, are taken back
abbrev pub PartsReturn : {Key : Type 0} → Meaning Key → Type 0
PartsReturn {Key} m = PartsBack m.is_for m.gives m.fresh m.inverse → (d : Dialect) (xs : List Key) (c p : Catalogue) (undoing : List Statement) (first rest : List Statement)
    → list_all (m.is_for d) xs ≡ true → IsSound d c → all_fresh d m xs c ≡ true → inverses d m xs ≡ Some undoing
    → statements_of d m xs ≡ first ++ rest → run User d first c ≡ Ok p → run User d (backs d first) p ≡ Ok c

-- the changeset runs there for the first time, and each of its changes is fresh at its place and has an inverse
pub record RunsFirst {Key : Type 0} (d : Dialect) (m : Meaning Key) (x : Set Key) (c : Contents) : Type 0 where
  pub why : Option Why
  pub runs : choice x c ≡ Runs New why
  pub undoing : List Statement
  pub inverse : inverses d m x.changes ≡ Some undoing
  pub fresh : all_fresh d m x.changes c.users ≡ true

-- Wherever an update that began where no lock was held is stopped with the lock held, whole turns stand and, where the lock has the mark of a changeset that runs for the first time, a part of its statements.
abbrev pub UpdateRepairs : {Key : Type 0} → Meaning Key → Type 0
UpdateRepairs {Key} m = PartsBack m.is_for m.gives m.fresh m.inverse → (d : Dialect) (stamp : Stamp) (g : Changelog Key) (database now : Database) (front rest : Journal)
    → IsSound d database.users → AreRead d m g.sets → database.lock.locked ≡ false → none_gives_way d m stamp g.sets (contents_of database) ≡ true
    → (all_called d (update_calls d m stamp g database) (session_on database)).entries ≡ front ++ rest → all_done d (joined front) database ≡ Ok now → now.lock.locked ≡ true
    → (turns : List (Set Key)) × (more : List (Set Key)) × (g.sets ≡ turns ++ more) × ((all_settled d m stamp.reading turns (contents_of database)).stop ≡ None)
    × (IsBetween stamp (all_settled d m stamp.reading turns (contents_of database)).contents now
    ⊎ ((x : Set Key) × (others : List (Set Key)) × (more ≡ x ∷ others)
    × (RunsFirst d m x (all_settled d m stamp.reading turns (contents_of database)).contents
    → IsPartly d stamp.reading stamp.who x.identity (statements_of d m x.changes) (all_settled d m stamp.reading turns (contents_of database)).contents (last_or None (joined front)) now)))

-- An update in MySQL that is stopped any number of times, each time taken back by undo-unrecorded or released, and then run to its end.

-- a mark of the first two forms, read
pub record Mark (lock : Lock) : Type 0 where
  pub who : List ℕ
  -- the changeset's identity, as it is printed
  pub name : List ℕ
  pub is_back : Bool
  pub k : ℕ
  pub small : suc k < 2 ^ 64
  pub is : lock.by ≡ Some (who ++ codes "|" ++ name ++ codes "|" ++ (if is_back then codes "back " else []) ++ whole_text (pos (suc k)))
  pub plain : list_any (λ b. b == 124) who ≡ false

abbrev pub by_of : Lock → List ℕ
by_of lock = elim lock.by [ Some by ↦ by | None ↦ [] ]

abbrev pub is_first_time : Option What → Bool
is_first_time None = true
is_first_time (Some New) = true
is_first_time (Some Fill) = true
is_first_time (Some Again) = false

module _ {Key : Type 0} where
  -- the changeset is here, has no row and prints this
  abbrev pub is_named_so : List ℕ → List Tracked → Set Key → Bool
  is_named_so name rows x = x.here && (not (has_row rows x.identity) && is_text name (identity_text x.identity))

  -- the one that does
  abbrev pub the_only : List (Set Key) → Option (Set Key)
  the_only (x ∷ []) = Some x
  the_only _ = None

  abbrev pub marked_set : List ℕ → List Tracked → List (Set Key) → Option (Set Key)
  marked_set name rows sets = the_only (filter (is_named_so name rows) sets)

module _ {Key : Type 0} (m : Meaning Key) (stamp : Stamp) where
  -- what is pending runs for the first time, has no rollback block, is fresh and reversible change by change, and keeps nothing where it is refused; it is here, no other changeset prints its identity, and its statements are counted
  abbrev pub fits : List (Set Key) → Set Key → Contents → Bool
  fits sets x c = is_first_time (what x c.rows)
      && (not (is_some (what x c.rows))
      || (is_none x.rollback && (is_some (inverses Mysql m x.changes) && (all_fresh Mysql m x.changes c.users && (keeps_nothing_by Mysql m stamp x c (choice x c) && (x.here && (is_some (marked_set (identity_text x.identity) c.rows sets) && nat_lt (length (statements_of Mysql m x.changes)) (2 ^ 64))))))))

  abbrev pub all_fit : List (Set Key) → List (Set Key) → Contents → Bool
  all_fit sets [] c = true
  all_fit sets (x ∷ xs) c = fits sets x c && holds_unless (settle Mysql m stamp.reading x c).stop (all_fit sets xs (settle Mysql m stamp.reading x c).contents)

  -- one stop: of the update where no lock is held, of the repair where it is held with a mark, of release-locks where it is held without one
  abbrev pub MendsAt : Changelog Key → Database → Journal → Journal → Type 0
  MendsAt g start before after = (database : Database) × (all_done Mysql (joined before) start ≡ Ok database)
      × (((database.lock.locked ≡ false) × ((who : List ℕ) × (list_any (λ b. b == 124) who ≡ false) × IsLeft Mysql (update_calls Mysql m (record stamp { who = who }) g database) database before after))
      ⊎ ((database.lock.locked ≡ true) × (mark : Mark database.lock) × (x : Set Key) × (marked_set mark.name database.rows g.sets ≡ Some x)
      × IsLeft Mysql (repair_calls Mysql mark.who x.identity (take (standing mark.is_back (marks_last (by_of database.lock) (last_or None (joined before))) (suc mark.k)) (statements_of Mysql m x.changes)) database) database before after)
      ⊎ ((database.lock.locked ≡ true) × (Mark database.lock → ⊥) × IsLeft Mysql (release_calls database) database before after))

  abbrev pub AreMended : Changelog Key → Database → Journal → List Journal → Journal → Type 0
  AreMended g start from [] to = from ≡ to
  AreMended g start from (next ∷ more) to = MendsAt g start from next × AreMended g start next more to

-- A steady update in MySQL each of whose pending changesets fits: stopped any number of times, each time taken back or released, and then run to its end, it leaves what it would have left, with a free lock, or the database as it was before the first where nothing was called.
abbrev pub UpdateMends : {Key : Type 0} → Meaning Key → Type 0
UpdateMends {Key} m = PartsBack m.is_for m.gives m.fresh m.inverse → (stamp : Stamp) (g : Changelog Key) (start database : Database) (stops : List Journal) (last : Journal)
    → IsSound Mysql start.users → start.lock.locked ≡ false → AreRead Mysql m g.sets → list_all has_own_sum g.sets ≡ true → are_twins g.sets ≡ false
    → IsSteady Mysql m stamp g (contents_of start) → all_fit m stamp g.sets g.sets (contents_of start) ≡ true
    → AreMended m stamp g start [] stops last → all_done Mysql (joined last) start ≡ Ok database → database.lock.locked ≡ false
    → IsAtRest start (updated Mysql m stamp.reading g (contents_of start)).contents (left_by Mysql (update_calls Mysql m stamp g database) database)
    × ((updated Mysql m stamp.reading g (contents_of database)).stop ≡ (updated Mysql m stamp.reading g (contents_of start)).stop)
