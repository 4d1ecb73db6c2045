-- What the forms in memory of a disk, a clock, files and a sink keep.
use Rattle.std.specs.List.{Contains, IsDistinct}
use Rattle.std.specs.Option.{option_map}
use Rattle.std.specs.Prelude.{IsErr, IsOk, IsSome, List, None, Option, Result, Some, [], bytes_eq, if◌then◌else◌, length, min, slice_get, ℕ, ⊤, ◌++◌, ◌+◌, ◌-◌, ◌<◌, ◌^◌, ◌∷◌, ◌≡◌, ◌≢◌, ◌≤◌, ◌⊎◌}
use Rattle.lq_outside.specs.declared.calls.Call.{Call}
use Rattle.lq_outside.specs.declared.files.Found.{Found}
use Rattle.lq_outside.specs.declared.files.Found.TheVariants.{Absent, Bytes, TooLong}
use Rattle.lq_outside.specs.declared.fuse.Fuse.{Fuse}
use Rattle.lq_outside.specs.declared.mem_disk.MemDisk.{MemDisk}
use Rattle.lq_outside.specs.declared.sure_disk.SureDisk.{SureDisk}

-- The answers of a clock, of which the last one repeats.

abbrev pub after_first : List ℕ → List ℕ
after_first [] = []
after_first (last ∷ []) = last ∷ []
after_first (first ∷ next ∷ later) = next ∷ later

-- Counts of faults, which stay at the greatest u64.

-- it is higher, or stands at the top
abbrev pub Rose : ℕ → ℕ → Type 0
Rose before now = min (before + 1) (2 ^ 64 - 1) ≤ now

-- the count does not fall: a call fails only where it rose, and one that succeeds leaves it as it was
pub record CountsFault {T E : Type 0} (result : Result T E) (before now : ℕ) : Type 0 where
  pub later : before ≤ now
  pub rose : IsErr result → Rose before now
  pub stays : IsOk result → now ≡ before

-- What files tell.

abbrev pub limit : ℕ
limit = 16777216

-- what a read of a path gives
abbrev pub IsFound : Option (List ℕ) → Found → Type 0
IsFound held (Bytes bytes) = (held ≡ Some bytes) × (length bytes ≤ limit)
IsFound held Absent = held ≡ None
IsFound held TooLong = (bytes : List ℕ) × (held ≡ Some bytes) × (limit < length bytes)

abbrev pub IsWithinLimit : Found → Type 0
IsWithinLimit (Bytes bytes) = length bytes ≤ limit
IsWithinLimit Absent = ⊤
IsWithinLimit TooLong = ⊤

-- The path lies under the folder: it begins with the folder and a slash.
-- Under the folder without a name, the current one, lie all paths that do not begin with a slash.
abbrev pub IsUnder : List ℕ → List ℕ → Type 0
IsUnder [] path = slice_get path 0 ≢ Some 47
IsUnder folder path = (rest : List ℕ) × (path ≡ folder ++ 47 ∷ rest)

-- the paths of all files under a folder
pub record IsListing (files : List ℕ → Option (List ℕ)) (folder : List ℕ) (paths : List (List ℕ)) : Type 0 where
  pub each : (path : List ℕ) → Contains paths path → IsSome (files path) × IsUnder folder path
  pub all : (path : List ℕ) → IsSome (files path) → IsUnder folder path → Contains paths path
  pub once : IsDistinct bytes_eq paths

-- the step from the paths of some files to those of one more
abbrev pub Notes : List ℕ → List ℕ → List (List ℕ) → List (List ℕ) → Type 0
Notes folder path before after =
    (IsUnder folder path × (Contains before path → ⊥) × (after ≡ before ++ path ∷ []))
    ⊎ ((IsUnder folder path → Contains before path) × (after ≡ before))

-- what a list of files holds at a path: of two with one path, the first
abbrev pub held_in : List (List ℕ × List ℕ) → List ℕ → Option (List ℕ)
held_in [] path = None
held_in (file ∷ files) path = if bytes_eq file.0 path then Some file.1 else held_in files path

-- What the disks in memory keep.

-- the bytes, and the record of calls from which it tells what a crash may leave
abbrev pub state_of : SureDisk → List ℕ × List Call
state_of disk = (disk.bytes.items, disk.calls.items)

abbrev pub disk_of : MemDisk → SureDisk
disk_of disk = disk.disk

-- What a fuse keeps.

abbrev pub inner_of : {D : Type 0} → Fuse D → D
inner_of fuse = fuse.inner

-- how many more calls it passes on
abbrev pub calls_left : {D : Type 0} → Fuse D → ℕ
calls_left fuse = fuse.calls

-- How much of a piece a sink took.

-- the sink took the piece up to the rest, where it tells
pub record Took (piece rest : List ℕ) (before after : Option (List ℕ)) : Type 0 where
  pub front : List ℕ
  pub is : piece ≡ front ++ rest
  pub told : after ≡ option_map (λ bytes. bytes ++ front) before

-- the sink took a front of the piece, the whole or nothing included
abbrev pub IsPart : List ℕ → Option (List ℕ) → Option (List ℕ) → Type 0
IsPart piece before after = (rest : List ℕ) × Took piece rest before after
