-- What a contract sees of an engine.
use Rattle.std.specs.Map.{keys_of}
use Rattle.std.specs.Prelude.{Bool, Err, List, Ok, Result, [], map, ℕ, ◌||◌, ◌∷◌, ◌≡◌, ◌≤◌}
use Rattle.lq_base.specs.Name.{is_named}
use Rattle.lq_base.specs.declared.dialect.Dialect.{Dialect}
use Rattle.lq_base.specs.declared.name.Name.{Name}
use Rattle.lq_base.specs.declared.reason.Reason.{Reason}
use Rattle.lq_chain.specs.History.{History, marked, undone_to}
use Rattle.lq_engine.specs.declared.apart.Sought.{Sought}
use Rattle.lq_engine.specs.declared.apart.Sought.TheVariants.{LockKey, Tracking}
use Rattle.lq_engine.specs.declared.names.Sort.{Sort}
use Rattle.lq_engine.specs.declared.names.Sort.TheVariants.{Sequence, Table, View}
use Rattle.lq_model.specs.Catalogue.{Catalogue}
use Rattle.lq_model.specs.NameSpaces.{is_tracking, lock_key}
use Rattle.lq_model.specs.Sound.{IsSound}
use Rattle.lq_rows.specs.declared.fault.RunFault.{RunFault}
use Rattle.lq_rows.specs.declared.fault.RunFault.TheVariants.{OutOfMemory, Refused}
use Rattle.lq_track.specs.Lock.{lock_table}
use Rattle.lq_track.specs.Log.{log_table}

-- the catalogue now, and before each `run` since the last `forget` that answered a number and is not undone, the newest first
pub record State : Type 0 where
  pub dialect : Dialect
  pub now : Catalogue
  pub past : List Catalogue

abbrev pub state : Dialect → Catalogue → List Catalogue → State
state d now past = record { dialect = d; now = now; past = past }

-- the catalogue at the last `forget`
abbrev pub oldest : Catalogue → List Catalogue → Catalogue
oldest now [] = now
oldest now (c ∷ past) = oldest c past

-- how a statement is answered: what it means on the catalogue before, and nothing changed at a fault
abbrev pub Runs : Result (Catalogue × ℕ) Reason → State → State → Result ℕ RunFault → Type 0
Runs meaning old new (Ok n) = (meaning ≡ Ok (new.now, n)) × (new ≡ state old.dialect new.now (old.now ∷ old.past))
Runs meaning old new (Err (Refused r)) = (meaning ≡ Err r) × (new ≡ old)
Runs meaning old new (Err OutOfMemory) = new ≡ old

-- before the last of them
abbrev pub back : State → State
back s = elim s.past [ [] ↦ s | c ∷ past ↦ state s.dialect c past ]

-- Where each statement began.

-- the catalogues before the statements that began at these marks
abbrev pub catalogues_at : History Catalogue → List ℕ → List Catalogue
catalogues_at parts marks = map (λ mark. (undone_to parts mark).now) marks

-- no mark is above a later one, and the first statement began where nothing was to be undone
abbrev pub AreMarks : ℕ → List ℕ → Type 0
AreMarks top [] = top ≡ 0
AreMarks top (mark ∷ marks) = (mark ≤ top) × AreMarks mark marks

abbrev pub AllSound : Dialect → List Catalogue → Type 0
AllSound d [] = Unit {0}
AllSound d (c ∷ cs) = IsSound d c × AllSound d cs

-- what an engine of these parts stands for, with the marks newest first
abbrev pub stands_for : Dialect → History Catalogue → List ℕ → State
stands_for d parts marks = state d parts.now (catalogues_at parts marks)

-- the marks are in order, and all catalogues are sound
unfoldable pub IsGood : Dialect → History Catalogue → List ℕ → Type 0
IsGood d parts marks = AreMarks (marked parts) marks × AllSound d (parts.now ∷ catalogues_at parts marks)

-- The names of the objects of a sort.

abbrev pub names_of : Sort → Catalogue → List Name
names_of Table c = keys_of c.tables
names_of View c = keys_of c.views
names_of Sequence c = keys_of c.sequences

-- Names that the users' objects have, where those of the tracking tables are looked for.

-- the tracking tables
abbrev pub is_tracking_table : Name → Bool
is_tracking_table t = is_named log_table t || is_named lock_table t

abbrev pub is_sought : Sought → Name → Bool
is_sought Tracking n = is_tracking n
is_sought LockKey n = is_named lock_key n
