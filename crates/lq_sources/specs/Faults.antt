-- Faults of a loading.
use Rattle.std.specs.Prelude.{Bool, Err, List, Ok, Option, Result, cond, false, true, ℕ, ◌≡◌, ◌⊎◌}
use Rattle.lq_base.specs.declared.fault.KindFault.TheVariants as kind
use Rattle.lq_outside.specs.declared.files.FilesFault.{FilesFault}
use Rattle.lq_outside.specs.declared.files.FilesFault.TheVariants as files
use Rattle.lq_sources.specs.declared.fault.Lack.{Lack}
use Rattle.lq_sources.specs.declared.fault.Lack.TheVariants.{File, Wrong}
use Rattle.lq_sources.specs.declared.fault.LoadFault.{LoadFault}
use Rattle.lq_sources.specs.declared.fault.LoadFault.TheVariants.{Fault, OutOfMemory, Read}
use Rattle.lq_sources.specs.declared.fault.What.{What}
use Rattle.lq_sources.specs.declared.fault.What.TheVariants.{Key}
use Rattle.lq_tree.specs.Look.{Found, placed}
pub use Rattle.lq_sources.specs.Source.{IsTold, Source}

-- what stands for a fault of the files
abbrev pub fault_of_files : FilesFault → LoadFault
fault_of_files files.Failed = Read
fault_of_files files.OutOfMemory = OutOfMemory

abbrev pub Loaded : Type 0 → Type 0
Loaded A = Result A LoadFault

-- the first fault stops a loading
infixl 10 ◌>>=◌
abbrev pub ◌>>=◌ : {A B : Type 0} → Loaded A → (A → Loaded B) → Loaded B
Ok a >>= f = f a
Err fault >>= f = Err fault

-- want of memory, which no definition tells
abbrev pub is_memory : What → Bool
is_memory (Key kind.OutOfMemory) = true
is_memory _ = false

-- what is wrong in the file at a path
abbrev pub fault_in : List ℕ → What → LoadFault
fault_in path what = cond (is_memory what) OutOfMemory (Fault path what)

abbrev pub in_file : {A : Type 0} → List ℕ → Result A What → Loaded A
in_file path (Ok a) = Ok a
in_file path (Err what) = Err (fault_in path what)

-- keys that are read in a file
abbrev pub by_keys : {A : Type 0} → Found A → Result A What
by_keys (Ok a) = Ok a
by_keys (Err fault) = Err (Key fault)

-- what is wrong in a tree, with its place below another one
abbrev pub placed_what : List ℕ → What → What
placed_what place (Key fault) = Key (placed place fault)
placed_what place what = what

abbrev pub at_place : {A : Type 0} → List ℕ → Result A What → Result A What
at_place place (Ok a) = Ok a
at_place place (Err what) = Err (placed_what place what)

-- How the calls of a loading answer.

-- what no definition tells: want of memory, and files that fail
abbrev pub IsFree : LoadFault → Type 0
IsFree fault = (fault ≡ OutOfMemory) ⊎ (fault ≡ Read)

abbrev pub is_read : LoadFault → Bool
is_read Read = true
is_read _ = false

-- the answer of a reading that needs no files, or want of memory
abbrev pub Loads : {A : Type 0} → Loaded A → Loaded A → Type 0
Loads meant (Ok a) = meant ≡ Ok a
Loads meant (Err fault) = ((fault ≡ OutOfMemory) ⊎ (meant ≡ Err fault)) × (is_read fault ≡ false)

-- the same of a reading that changes what is held
abbrev pub Holds : {A B : Type 0} → Loaded A → Loaded B → A → Type 0
Holds meant (Ok _) new = meant ≡ Ok new
Holds meant (Err fault) new = ((fault ≡ OutOfMemory) ⊎ (meant ≡ Err fault)) × (is_read fault ≡ false)

-- the answer of a reading that is meant so where the files hold a source
abbrev pub Answers : {A B : Type 0} → Option (List ℕ → Option (List ℕ)) → (Source → Loaded A) → Loaded B → A → Type 0
Answers told meant (Ok _) new = (source : Source) → IsTold told source → meant source ≡ Ok new
Answers told meant (Err fault) new = IsFree fault ⊎ ((source : Source) → IsTold told source → meant source ≡ Err fault)

-- the same of a reading whose value is the answer
abbrev pub Finds : {A : Type 0} → Option (List ℕ → Option (List ℕ)) → (Source → Loaded A) → Loaded A → Type 0
Finds told meant (Ok a) = (source : Source) → IsTold told source → meant source ≡ Ok a
Finds told meant (Err fault) = IsFree fault ⊎ ((source : Source) → IsTold told source → meant source ≡ Err fault)

-- the answer of a gathering, or want of memory
abbrev pub Makes : {A B : Type 0} → Result A Lack → Result B Lack → A → Type 0
Makes meant (Ok _) new = meant ≡ Ok new
Makes meant (Err (Wrong what)) new = (is_memory what ≡ true) ⊎ (meant ≡ Err (Wrong what))
Makes meant (Err (File it)) new = meant ≡ Err (File it)

-- the same of one whose value is the answer
abbrev pub IsGathered : {A : Type 0} → Result A Lack → Result A Lack → Type 0
IsGathered meant (Ok a) = meant ≡ Ok a
IsGathered meant (Err (Wrong what)) = (is_memory what ≡ true) ⊎ (meant ≡ Err (Wrong what))
IsGathered meant (Err (File it)) = meant ≡ Err (File it)

-- where a file is wanted, nothing was gathered
abbrev pub IsKept : {A B : Type 0} → Result B Lack → A → A → Type 0
IsKept (Ok _) old new = Unit {0}
IsKept (Err (Wrong what)) old new = Unit {0}
IsKept (Err (File it)) old new = new ≡ old

-- the answer of a reading of one file's contents, or want of memory
abbrev pub IsMade : {A : Type 0} → Result A What → Result A What → Type 0
IsMade meant (Ok a) = meant ≡ Ok a
IsMade meant (Err what) = (is_memory what ≡ true) ⊎ (meant ≡ Err what)

abbrev pub map_ok : {A B : Type 0} → (A → B) → Loaded A → Loaded B
map_ok f (Ok a) = Ok (f a)
map_ok f (Err fault) = Err fault
