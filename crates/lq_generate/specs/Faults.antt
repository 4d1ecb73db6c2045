-- What of a catalogue cannot be written as a changelog, and where.
use Rattle.std.specs.Borrow.{Bor}
use Rattle.std.specs.List.{find, list_any}
use Rattle.std.specs.Option.{option_copied, option_map, option_or}
use Rattle.std.specs.Prelude.{Bool, Err, List, None, Ok, Option, Result, Some, [], codes, cond, false, if◌then◌else◌, int_le, int_lt, length, map, nat_le, nat_lt, neg_ℤ, not, pos, true, ℕ, ℤ, ⊤, ◌&&◌, ◌++◌, ◌^◌, ◌||◌, ◌∷◌, ◌≡◌}
use Rattle.std.specs.Str.{bytes_eq}
use Rattle.lq_base.specs.Name.{is_elsewhere, schema_of, text_of}
use Rattle.lq_base.specs.declared.dialect.Dialect.{Dialect}
use Rattle.lq_base.specs.declared.name.Name.{Name}
use Rattle.lq_base.specs.declared.value.Value.{Value}
use Rattle.lq_base.specs.declared.value.Value.TheVariants as value
use Rattle.lq_generate.specs.Generated.{generated_text, generated_tree, is_numbered}
use Rattle.lq_generate.specs.declared.generating.GenerateFault.{GenerateFault}
use Rattle.lq_generate.specs.declared.generating.GenerateFault.TheVariants.{NotWritable, OutOfMemory}
use Rattle.lq_jsontext.specs.JsonText.{IsWritable}
use Rattle.lq_model.specs.Catalogue.{Catalogue, Sequence, Table, View}
use Rattle.lq_model.specs.declared.column.Column.{Column}
use Rattle.lq_model.specs.declared.constraint.ForeignKey.{ForeignKey}
use Rattle.lq_model.specs.declared.constraint.Key.{Key}
use Rattle.lq_model.specs.declared.constraint.Unique.{Unique}
use Rattle.lq_parts.specs.Steps.{Entries}
use Rattle.lq_rows.specs.Stored.{Stored}
use Rattle.lq_tree.specs.Given.{is_comma, without_blanks}
use Rattle.lq_tree.specs.Json.{json_tree}

-- an object, and the column of it if it is one of these
abbrev pub Place : Type 0
Place = Name × Option Name

-- outside `public` with the schema before it
abbrev pub shown : Name → List ℕ
shown n = if is_elsewhere n then schema_of n ++ 46 ∷ text_of n else n

abbrev pub place_text : Place → List ℕ
place_text p = elim p.1 [ None ↦ shown p.0 | Some column ↦ shown p.0 ++ 46 ∷ column ]

-- the first of a list in which there is a place
abbrev pub first_of : {A : Type 0} → (A → Option Place) → List A → Option Place
first_of f [] = None
first_of f (x ∷ xs) = option_or (f x) (first_of f xs)

-- a whole number of 64 bits
abbrev pub is_long : ℤ → Bool
is_long z = int_le (neg_ℤ (pos (2 ^ 63))) z && int_lt z (pos (2 ^ 63))

abbrev pub is_out : Sequence → Bool
is_out x = not (is_long x.start && is_long x.step)

abbrev pub first_sequence : List (Name × Sequence) → Option Place
first_sequence ss = option_map (λ (s : Name × Sequence). (s.0, None)) (find (λ (s : Name × Sequence). is_out s.1 || is_elsewhere s.0) ss)

-- a view outside `public`
abbrev pub first_view : List (Name × View) → Option Place
first_view vs = option_map (λ (v : Name × View). (v.0, None)) (find (λ (v : Name × View). is_elsewhere v.0) vs)

-- a null, or a decimal number whose text has more than 38 digits: one before the dot and the scale's behind it
abbrev pub is_unwritten : Option Value → Bool
is_unwritten (Some value.Null) = true
is_unwritten (Some (value.Fixed units scale)) = nat_le 38 scale
is_unwritten _ = false

-- a name that may stand in a list of names: no comma, and no blank at its ends
abbrev pub may_be_listed : Name → Bool
may_be_listed n = not (list_any is_comma n) && bytes_eq (without_blanks n) n

abbrev pub is_lost : Column → Bool
is_lost c = is_unwritten c.default || (c.numbered && not (may_be_listed c.name))

abbrev pub column_of : Name → Option Name → Option Place
column_of t found = option_map (λ (n : Name). (t, Some n)) found

abbrev pub created_fault : Name × Table → Option Place
created_fault e = column_of e.0 (option_map (λ (c : Column). c.name) (find is_lost e.1.columns))

abbrev pub listed_fault : Name → List Name → Option Place
listed_fault t ns = column_of t (find (λ n. not (may_be_listed n)) ns)

abbrev pub key_fault : Name → Option Key → Option Place
key_fault t None = None
key_fault t (Some k) = listed_fault t k.columns

-- the key of a numbered column stands in the createTable
abbrev pub own_key_fault : Name × Table → Option Place
own_key_fault e = cond (is_numbered e.1) None (key_fault e.0 e.1.key)

abbrev pub added_fault : Name × Table → Option Place
added_fault e = option_or (own_key_fault e) (first_of (λ (u : Unique). listed_fault e.0 u.columns) e.1.uniques)

abbrev pub foreign_fault : Name → ForeignKey → Option Place
foreign_fault t f = option_or (listed_fault t f.columns) (listed_fault f.table f.targets)

abbrev pub foreign_faults : Name × Table → Option Place
foreign_faults e = first_of (foreign_fault e.0) e.1.foreign

-- the first in the changesets of the tables
abbrev pub first_table : List (Name × Table) → Option Place
first_table ts = option_or (first_of created_fault ts) (option_or (first_of added_fault ts) (first_of foreign_faults ts))

-- the first in the output's order
abbrev pub first_fault : Catalogue → Option Place
first_fault c = option_or (first_sequence c.sequences) (option_or (first_table c.tables) (first_view c.views))

-- a changelog's file has at most 16,777,216 bytes
abbrev pub size_fault : List ℕ → Option (List ℕ)
size_fault text = if nat_lt 16777216 (length text) then Some (codes "the changelog") else None

-- what cannot be written: an object, a column of one, or all of it
abbrev pub fault_at : Dialect → List ℕ → Catalogue → Option (List ℕ)
fault_at d author c = option_or (option_map place_text (first_fault c)) (size_fault (generated_text d author c))

-- What the generating of a changelog answers.

-- the text where nothing of the catalogue is in the way, and else what is, the first
abbrev pub Generates : Dialect → List ℕ → Catalogue → Result (List ℕ) GenerateFault → Type 0
Generates d author c (Ok text) = (fault_at d author c ≡ None) × (text ≡ generated_text d author c)
Generates d author c (Err (NotWritable at)) = fault_at d author c ≡ Some at
Generates d author c (Err OutOfMemory) = ⊤

-- a text that is not too long
abbrev pub IsSized : List ℕ → Result (List ℕ) GenerateFault → Type 0
IsSized whole (Ok text) = (size_fault whole ≡ None) × (text ≡ whole)
IsSized whole (Err (NotWritable at)) = size_fault whole ≡ Some at
IsSized whole (Err OutOfMemory) = ⊤

-- the fault that tells a place
abbrev pub Tells : List ℕ → GenerateFault → Type 0
Tells at (NotWritable told) = told ≡ at
Tells at OutOfMemory = ⊤

-- the text is read as the tree that it was made from
abbrev pub IsReadBack : Dialect → List ℕ → Catalogue → List ℕ → Type 0
IsReadBack d author c text = IsWritable (generated_tree d author c) → json_tree text ≡ Ok (generated_tree d author c)

-- What is handed about by reference, as contracts see it.

-- a table with its name
abbrev pub table_in : Name × Stored → Name × Table
table_in e = (e.0, e.1.now)

abbrev pub tables_in : List (Bor (Name × Stored)) → List (Name × Table)
tables_in es = map (λ e. table_in e.now) es

abbrev pub place_in : Bor Name × Option (Bor Name) → Place
place_in p = (p.0.now, option_copied p.1)

abbrev pub with_tables : Catalogue → List (Name × Table) → Catalogue
with_tables c ts = record c { tables = ts }
