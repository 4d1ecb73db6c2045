-- What the files below a root bring, or the first fault.
use Rattle.std.specs.List.{filter}
use Rattle.std.specs.Prelude.{Bool, Err, List, None, Ok, Option, Result, Some, [], codes, cond, false, if◌then◌else◌, is_some, length, nat_le, nat_lt, not, suc, true, zero, ℕ, ◌&&◌, ◌++◌, ◌+◌, ◌-◌, ◌==◌, ◌||◌, ◌∷◌}
use Rattle.std.specs.Str.{bytes_eq}
use Rattle.lq_base.specs.Number.{char_count, has_control}
use Rattle.lq_base.specs.declared.fault.KindFault.TheVariants.{Bad}
use Rattle.lq_paths.specs.Paths.{format_of, is_xml, joined, plain}
use Rattle.lq_paths.specs.declared.path.Format.{Format}
use Rattle.lq_sources.specs.Faults.{Loaded, at_place, by_keys, fault_in, in_file, placed_what, ◌>>=◌}
use Rattle.lq_sources.specs.Items.{Meaning, SoFar, entry_of, filled, item_at, items_of, nothing_yet, place, so_far, value_in, with_file, with_property, with_set}
use Rattle.lq_sources.specs.Source.{Source}
use Rattle.lq_sources.specs.declared.fault.Lack.{Lack}
use Rattle.lq_sources.specs.declared.fault.Lack.TheVariants.{File, Wrong}
use Rattle.lq_sources.specs.declared.fault.LoadFault.TheVariants.{Fault, NoFile, TooDeep, TooLong, TooMany, Xml}
use Rattle.lq_sources.specs.declared.fault.What.TheVariants.{BadPath, Key, UnknownFormat}
use Rattle.lq_sources.specs.declared.item.Included.{Included}
use Rattle.lq_sources.specs.declared.item.Item.{Item}
use Rattle.lq_sources.specs.declared.item.Item.TheVariants.{Include, IncludeAll, Other, Property}
use Rattle.lq_sources.specs.declared.reading.Reading.{Reading}
use Rattle.lq_tree.specs.declared.node.Node.{Node}

-- the items of a list with their places, counted from i, up to the first fault
abbrev pub each_from : {A S : Type 0} → (ℕ → A → S → Loaded S) → ℕ → List A → S → Loaded S
each_from take i [] s = Ok s
each_from take i (x ∷ xs) s = take i x s >>= each_from take (suc i) xs

abbrev pub each : {A S : Type 0} → (A → S → Loaded S) → List A → S → Loaded S
each take xs s = each_from (λ i. take) 0 xs s

-- ---- paths

-- 1 to 255 characters, none a control character
abbrev pub may_name : List ℕ → Bool
may_name path = nat_le 1 (char_count path) && (nat_le (char_count path) 255 && not (has_control path))

-- a path that may name a file
abbrev pub named : List ℕ → Loaded (List ℕ)
named path = if may_name path then Ok path else Err (Fault path BadPath)

-- the path that an include leads to: it stays within the folders that it names
unfoldable pub target : List ℕ → Loaded (List ℕ)
target path = elim (plain path) [ None ↦ Err (Fault path BadPath) | Some p ↦ Ok p ]

-- a file that an includeAll takes: those of another ending are passed over, but XML is refused when it is opened
abbrev pub is_taken : List ℕ → Bool
is_taken path = is_xml path || is_some (format_of path)

abbrev pub some_taken : List ℕ → List (List ℕ) → Loaded (List (List ℕ))
some_taken folder [] = Err (NoFile folder)
some_taken folder (p ∷ ps) = Ok (p ∷ ps)

-- the files under a folder that an includeAll takes: there is one
unfoldable pub taken_under : Source → List ℕ → Loaded (List (List ℕ))
taken_under source folder = some_taken folder (filter is_taken (source.under folder))

-- what the file at a path is written in
unfoldable pub written : List ℕ → Loaded Format
written path = if is_xml path then Err (Xml path) else elim (format_of path) [ None ↦ Err (Fault path UnknownFormat) | Some format ↦ Ok format ]

-- a path is tested before its file is read
abbrev pub may_open : List ℕ → ℕ → SoFar → Loaded Format
may_open path levels s = written path >>= (λ format.
    if levels == 0 then Err (TooDeep path) else if nat_le 10000 s.files then Err TooMany else Ok format)

-- the bytes of a file that may be read
unfoldable pub bytes_read : List ℕ → Option (List ℕ) → SoFar → Loaded (List ℕ)
bytes_read path None s = Err (NoFile path)
bytes_read path (Some bytes) s =
    if nat_lt 16777216 (length bytes) then Err (TooLong path) else if nat_lt 67108864 (s.bytes + length bytes) then Err (TooLong path) else Ok bytes

-- ---- items

-- what a loading holds
pub record Held (G : Type 0) : Type 0 where
  pub counts : SoFar
  pub gathered : G

abbrev pub held : {G : Type 0} → Reading → G → Held G
held reading gathered = record { counts = so_far reading; gathered = gathered }

abbrev pub is_set : List ℕ → Bool
is_set key = bytes_eq key (codes "changeSet")

-- an item of the file at a path is a map of one key
unfoldable pub entry_at : List ℕ → ℕ → Node → Loaded (List ℕ × Node)
entry_at path i n = elim (entry_of n) [ None ↦ Err (Fault path (Key (Bad (place i)))) | Some e ↦ Ok e ]

module _ {G : Type 0} (include : List ℕ → Held G → Loaded (Held G)) where
  -- the file at a path that an include or includeAll leads to
  abbrev pub take_path : List ℕ → Held G → Loaded (Held G)
  take_path path s = named path >>= (λ p. include p s)

  -- the files that an includeAll takes, in order of the bytes of their paths
  abbrev pub take_folder : Source → List ℕ → Held G → Loaded (Held G)
  take_folder source folder s = taken_under source folder >>= (λ paths. each take_path paths s)

-- the bytes of the file that an item of the file at a path wants, whatever the file is written in
abbrev pub wanted_bytes : Source → List ℕ → Included → SoFar → Loaded (List ℕ)
wanted_bytes source path it s =
    target (joined path it.relative it.path) >>= (λ place. named place >>= (λ p.
    if nat_le 10000 s.files then Err TooMany else bytes_read p (source.content p) s))

module _ {G : Type 0} (m : Meaning G) where
  -- an item by its key
  unfoldable pub item_read : List ℕ → ℕ → List ℕ → Node → Loaded Item
  item_read path i key n = in_file path (at_place (place i) (by_keys (item_at m.here key n)))

  -- what gathering an item of the file at a path comes to: what has been gathered, or the file that it wants too
  abbrev pub tried : List ℕ → ℕ → G → Result G Lack → Loaded (Option Included × G)
  tried path i g (Ok found) = Ok (None, found)
  tried path i g (Err (Wrong what)) = Err (fault_in path (placed_what (place i) what))
  tried path i g (Err (File it)) = Ok (Some it, g)

  module _ (source : Source) (is_root : Bool) (path : List ℕ) (i : ℕ) (key : List ℕ) (n : Node) where
    -- where a file is wanted, it is read, and the item gathered with its bytes too
    abbrev pub on_wanted : (List (List ℕ) → Held G → Loaded (Held G)) → List (List ℕ) → SoFar → G → Option Included → Loaded (Held G)
    on_wanted next given counts g None = Ok (record { counts = counts; gathered = g })
    on_wanted next given counts g (Some it) =
        wanted_bytes source path it counts >>= (λ bytes. next (given ++ bytes ∷ []) (record { counts = with_file (length bytes) counts; gathered = g }))

    -- an item gathered with the bytes of the files that it wants, in at most so many turns
    abbrev pub gathered_in : ℕ → List (List ℕ) → Held G → Loaded (Held G)
    gathered_in zero given s = Err TooMany
    gathered_in (suc turns) given s =
        tried path i s.gathered (m.gathers given is_root path key n s.gathered) >>= (λ made. on_wanted (gathered_in turns) given s.counts made.1 made.0)

    -- each turn but the last reads a file, of which there are 10,000 at most
    unfoldable pub item_with_files : Held G → Loaded (Held G)
    item_with_files s = gathered_in (suc (10000 - s.counts.files)) [] s

    -- an item that is gathered; a changeset too many is none before its keys are looked at
    unfoldable pub item_gathered : Held G → Loaded (Held G)
    item_gathered s =
        if is_set key && nat_le 10000 s.counts.sets then Err TooMany
        else (item_with_files s >>= (λ t. Ok (record { counts = cond (is_set key) (with_set t.counts) t.counts; gathered = t.gathered })))

  -- the items of a file's bytes: its whole tree is read before them
  abbrev pub items_read : List ℕ → Format → List ℕ → Loaded (List Node)
  items_read path format bytes = in_file path (m.tree format bytes) >>= (λ tree. in_file path (by_keys (items_of tree)))

  module _ (source : Source) (include : List ℕ → Held G → Loaded (Held G)) where
    -- what an item of the file at a path brings
    abbrev pub bring : Bool → List ℕ → ℕ → List ℕ → Node → Item → Held G → Loaded (Held G)
    bring is_root path i key n (Include it) s = target (joined path it.relative it.path) >>= (λ p. take_path include p s)
    bring is_root path i key n (IncludeAll it) s = target (joined path it.relative it.path) >>= (λ folder. take_folder include source folder s)
    bring is_root path i key n (Property it) s = Ok (record { counts = with_property path it s.counts; gathered = s.gathered })
    bring is_root path i key n Other s = item_gathered source is_root path i key n s

    abbrev pub take_entry : Bool → List ℕ → ℕ → List ℕ → Node → Held G → Loaded (Held G)
    take_entry is_root path i key n s = item_read path i key n >>= (λ item. bring is_root path i key n item s)

    -- an item, with the properties that were defined before it put into its texts
    abbrev pub take_item : Bool → List ℕ → ℕ → Node → Held G → Loaded (Held G)
    take_item is_root path i n s = entry_at path i (filled (value_in s.counts.values path) n) >>= (λ e. take_entry is_root path i e.0 e.1 s)

    -- what the file at a path brings
    abbrev pub contents : Bool → List ℕ → Format → Held G → Loaded (Held G)
    contents is_root path format s =
        bytes_read path (source.content path) s.counts >>= (λ bytes.
        items_read path format bytes >>= (λ items.
        each_from (take_item is_root path) 0 items (record { counts = with_file (length bytes) s.counts; gathered = s.gathered })))

  module _ (source : Source) where
    -- the file at a path, which is on the first of so many levels
    abbrev pub file : ℕ → Bool → List ℕ → Held G → Loaded (Held G)
    file zero is_root path s = may_open path 0 s.counts >>= (λ format. Err (TooDeep path))
    file (suc levels) is_root path s = may_open path (suc levels) s.counts >>= (λ format. contents source (file levels false) is_root path format s)

    -- the root, and 32 levels of includes below it
    unfoldable pub root_file : List ℕ → Held G → Loaded (Held G)
    root_file path s = file 33 true path s

    -- what the files below a root bring to what has been gathered
    unfoldable pub walked : List ℕ → List (List ℕ × List ℕ) → G → Loaded G
    walked root given g =
        named root >>= (λ path.
        root_file path (record { counts = nothing_yet given; gathered = g }) >>= (λ s. Ok s.gathered))
