-- Entries in the order of their names.
use Rattle.std.specs.BTreeMap.{BTreeMap, get, insert_entry}
use Rattle.std.specs.BTreeSet.{BTreeSet, contains}
use Rattle.std.specs.FinMap.Entries.{is_sorted}
use Rattle.std.specs.List.{count_by, flat_map, insert, position_or_len, remove}
use Rattle.std.specs.Map.{count_at, remove_entry}
use Rattle.std.specs.Ordering.{is_le}
use Rattle.std.specs.Prelude.{Bool, List, None, Option, Some, T, [], false, length, map, true, ℕ, ℤ, ⊤, ◌&&◌, ◌+◌, ◌-◌, ◌<◌, ◌||◌, ◌∷◌, ◌≡◌, ◌≤◌}
use Rattle.lq_base.specs.Name.{is_named, name_cmp}
use Rattle.lq_base.specs.declared.name.Name.{Name}
use Rattle.lq_chain.specs.History.{History, back}
use Rattle.lq_model.specs.Catalogue.{Catalogue, Sequence, Table, View, foreign_names, is_in, key_list, the_table}
use Rattle.lq_model.specs.NameSpaces.{names_inside}
use Rattle.lq_model.specs.declared.query.Query.{Query}
use Rattle.lq_parts.specs.declared.part.Part.{Part}
use Rattle.lq_parts.specs.declared.part.Part.TheVariants.{Sequences, Tables, Views}
use Rattle.lq_parts.specs.declared.slot.Slot.{Slot}
use Rattle.lq_parts.specs.declared.slot.Slot.TheVariants.{Put, Taken}
use Rattle.lq_parts.specs.declared.taken.TakenNames.{TakenNames}
use Rattle.lq_rows.specs.declared.shape.Shape.{Shape}

module _ {X : Type 0} where
  -- the names rise
  abbrev pub IsOrdered : List (Name × X) → Type 0
  IsOrdered es = T (is_sorted name_cmp es)

  -- where an entry of the name stands, or would stand
  abbrev pub place_of : Name → List (Name × X) → ℕ
  place_of n es = position_or_len (λ e. is_le (name_cmp n e.0)) es

  -- where the entry of the name stands
  abbrev pub position_of : Name → List (Name × X) → ℕ
  position_of n es = position_or_len (λ e. is_named n e.0) es

-- the entries with other values
abbrev pub values_by : {X Y : Type 0} → (X → Y) → List (Name × X) → List (Name × Y)
values_by f es = map (λ e. (e.0, f e.1)) es

-- The tables, views and sequences of a catalogue as they are kept, each with what it was before its changes.

abbrev pub the_view : Query → List Name → View
the_view query columns = record { query = query; columns = columns }

abbrev pub the_sequence : ℤ → ℤ → Sequence
the_sequence start step = record { start = start; step = step }

-- the table of a name under another one
abbrev pub with_renamed : Catalogue → Name → Name → Catalogue
with_renamed c t to = record c { tables = insert_entry name_cmp (remove_entry (is_named t) c.tables) to (the_table c t) }

pub record Kept : Type 0 where
  pub tables : History (List (Name × Table))
  pub views : History (List (Name × View))
  pub sequences : History (List (Name × Sequence))

abbrev pub kept_as : History (List (Name × Table)) → History (List (Name × View)) → History (List (Name × Sequence)) → Kept
kept_as tables views sequences = record { tables = tables; views = views; sequences = sequences }

abbrev pub catalogue_of : Kept → Catalogue
catalogue_of k = record { tables = k.tables.now; views = k.views.now; sequences = k.sequences.now }

-- one change of this part ago
abbrev pub one_back : Part → Kept → Kept
one_back Tables k = record k { tables = back 1 k.tables.now k.tables.past }
one_back Views k = record k { views = back 1 k.views.now k.views.past }
one_back Sequences k = record k { sequences = back 1 k.sequences.now k.sequences.past }

-- the catalogues before each change of these parts
abbrev pub past_catalogues : Kept → List Part → List Catalogue
past_catalogues k [] = []
past_catalogues k (p ∷ ps) = catalogue_of (one_back p k) ∷ past_catalogues (one_back p k) ps

-- What the record of changes of a list of entries, the newest first, stands for.

module _ {X : Type 0} where
  -- the entries before a change
  abbrev pub before : Slot X → List (Name × X) → List (Name × X)
  before (Put at) es = remove es at
  before (Taken at name item) es = insert es at (name, item)

  -- the entries before each change
  abbrev pub past_entries : List (Name × X) → List (Slot X) → List (List (Name × X))
  past_entries es [] = []
  past_entries es (s ∷ ss) = before s es ∷ past_entries (before s es) ss

  -- the change has its place
  abbrev pub HasPlace : Slot X → List (Name × X) → Type 0
  HasPlace (Put at) es = at < length es
  HasPlace (Taken at name item) es = at ≤ length es

  -- each change can be undone, with room for the entries before it, and gives entries in order
  abbrev pub CanUndo : ℕ → List (Name × X) → List (Slot X) → Type 0
  CanUndo room es [] = ⊤
  CanUndo room es (s ∷ ss) = HasPlace s es × (length (before s es) ≤ room) × IsOrdered (before s es) × CanUndo room (before s es) ss

-- What is known of the names inside tables.

abbrev pub TableMap : Type 0
TableMap = List (Name × Table)

-- the names that stand in each table, one table after another
abbrev pub names_in : (Name × Table → List Name) → TableMap → List Name
names_in names ts = flat_map names ts

abbrev pub foreign_inside : Name × Table → List Name
foreign_inside e = foreign_names e.1

-- the tables that the foreign keys of a table target, one for each
abbrev pub targets_inside : Name × Table → List Name
targets_inside e = map (λ f. f.table) e.1.foreign

-- the set has just these names
pub record HasJust (ns : List Name) (set : BTreeSet Name) : Type 0 where
  pub members : (n : Name) → contains name_cmp set n ≡ is_in n ns

-- new has these names beside what old has
pub record Gains (ns : List Name) (old new : BTreeSet Name) : Type 0 where
  pub members : (n : Name) → contains name_cmp new n ≡ (is_in n ns || contains name_cmp old n)

-- the set, where it is known, has just these names
abbrev pub IsTrueOf : List Name → Option (BTreeSet Name) → Type 0
IsTrueOf ns None = ⊤
IsTrueOf ns (Some set) = HasJust ns set

-- the map has how often each name stands among these
pub record HasCounts (ns : List Name) (counts : BTreeMap Name ℕ) : Type 0 where
  pub each : (n : Name) → count_at (get name_cmp counts) n ≡ count_by (is_named n) ns

-- new has each of these names once more than old
pub record CountsMore (ns : List Name) (old new : BTreeMap Name ℕ) : Type 0 where
  pub each : (n : Name) → count_at (get name_cmp new) n ≡ count_by (is_named n) ns + count_at (get name_cmp old) n

-- and once less, or not at all
pub record CountsLess (ns : List Name) (old new : BTreeMap Name ℕ) : Type 0 where
  pub each : (n : Name) → count_at (get name_cmp new) n ≡ count_at (get name_cmp old) n - count_by (is_named n) ns

-- the map, where it is known, has how often each name stands among these
abbrev pub AreCounts : List Name → Option (BTreeMap Name ℕ) → Type 0
AreCounts ns None = ⊤
AreCounts ns (Some counts) = HasCounts ns counts

-- what is known of the names inside these tables is true
pub record AreKnown (tables : TableMap) (names : TakenNames) : Type 0 where
  pub inner : IsTrueOf (names_in names_inside tables) names.inner
  pub foreign : IsTrueOf (names_in foreign_inside tables) names.foreign
  pub targets : AreCounts (names_in targets_inside tables) names.targets

-- the second list begins with the names of the first
abbrev pub begins : List Name → List Name → Bool
begins [] ms = true
begins (n ∷ ns) [] = false
begins (n ∷ ns) (m ∷ ms) = is_named n m && begins ns ms

-- the key and each unique constraint and index of the first shape has its name, at its place, in the second
abbrev pub inner_stay : Shape → Shape → Bool
inner_stay old new = begins (map (λ k. k.name) (key_list old.key)) (map (λ k. k.name) (key_list new.key))
    && (begins (map (λ u. u.name) old.uniques) (map (λ u. u.name) new.uniques) && begins (map (λ i. i.name) old.indexes) (map (λ i. i.name) new.indexes))

-- and each foreign key
abbrev pub foreign_stay : Shape → Shape → Bool
foreign_stay old new = begins (map (λ f. f.name) old.foreign) (map (λ f. f.name) new.foreign)
