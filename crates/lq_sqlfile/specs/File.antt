-- The files of formatted SQL: a header, what may stand before the first changeset, and the changesets.
use Rattle.std.specs.List.{flat_map, list_all, list_any}
use Rattle.std.specs.Prelude.{Bool, Err, List, None, Ok, Option, Result, Some, [], codes, false, if◌then◌else◌, is_some, length, option_and_then, option_map, true, unwrap_or, ℕ, ◌++◌, ◌+◌, ◌↔◌, ◌∷◌, ◌≡◌}
use Rattle.std.specs.Str.{IsUtf8, is_utf8}
use Rattle.lq_base.specs.Kind.{is_blank}
use Rattle.lq_sqlfile.specs.Lines.{header, part_of}
use Rattle.lq_sqlfile.specs.Made.{IsHeader, IsPart}
use Rattle.lq_sqlfile.specs.Words.{value_of}
use Rattle.lq_sqlfile.specs.declared.draft.Draft.{Draft}
use Rattle.lq_sqlfile.specs.declared.fault.SqlFault.{SqlFault}
use Rattle.lq_sqlfile.specs.declared.fault.SqlFault.TheVariants.{Line, NoHeader}
use Rattle.lq_sqlfile.specs.declared.file.SqlFile.{SqlFile}
use Rattle.lq_sqlfile.specs.declared.file.SqlSet.{SqlSet}
use Rattle.lq_sqlfile.specs.declared.part.Heading.{Heading}
use Rattle.lq_sqlfile.specs.declared.part.Part.{Part}
use Rattle.lq_sqlfile.specs.declared.part.Part.TheVariants.{Body, ChangeSet, Check, Comment, Conditions, Note, Rollback}

-- ---- the parts of a changeset

abbrev pub is_heading : Part → Bool
is_heading (ChangeSet h) = true
is_heading _ = false

abbrev pub comment_in : Part → List (List ℕ)
comment_in (Comment text) = text ∷ []
comment_in _ = []

abbrev pub conditions_in : Part → List (List (List ℕ × List ℕ))
conditions_in (Conditions pairs) = pairs ∷ []
conditions_in _ = []

abbrev pub check_in : Part → List (List ℕ × List ℕ)
check_in (Check expected query) = (expected, query) ∷ []
check_in _ = []

abbrev pub rollback_in : Part → List (List ℕ)
rollback_in (Rollback text) = text ∷ []
rollback_in _ = []

abbrev pub body_in : Part → List (List ℕ)
body_in (Body line) = line ∷ []
body_in _ = []

-- a part that may stand before the first changeset: a comment of SQL or a blank line
abbrev pub is_idle : Part → Bool
is_idle Note = true
is_idle (Body line) = list_all is_blank line
is_idle _ = false

-- ---- texts of lines

-- with line feeds between
abbrev pub joined : List (List ℕ) → List ℕ
joined [] = []
joined (l ∷ []) = l
joined (l ∷ m ∷ ls) = l ++ (10 ∷ joined (m ∷ ls))

abbrev pub are_blank : List (List ℕ) → Bool
are_blank ls = list_all (λ l. list_all is_blank l) ls

-- without the blank lines at the end
abbrev pub trimmed : List (List ℕ) → List (List ℕ)
trimmed [] = []
trimmed (l ∷ ls) = if are_blank (l ∷ ls) then [] else l ∷ trimmed ls

-- the lines' text, if there are any
abbrev pub some_joined : List (List ℕ) → Option (List ℕ)
some_joined [] = None
some_joined (l ∷ ls) = Some (joined (l ∷ ls))

-- ---- changesets

-- one at most
abbrev pub IsOnly : {A : Type 0} → List A → Option A → Type 0
IsOnly [] one = one ≡ None
IsOnly (a ∷ []) one = one ≡ Some a
IsOnly _ one = ⊥

-- the text, or the empty one
abbrev pub text_or : Option (List ℕ) → List ℕ
text_or None = []
text_or (Some text) = text

abbrev pub condition : List ℕ → Option (List (List ℕ × List ℕ)) → Option (List ℕ)
condition name None = None
condition name (Some pairs) = value_of name pairs

-- the changeset of a heading in that line and of the parts up to the next heading: one comment at most, one line of conditions at most
pub record IsSet (line : ℕ) (h : Heading) (inside : List Part) (s : SqlSet) : Type 0 where
  pub line_is : s.line ≡ line
  pub author_is : s.author ≡ h.author
  pub id_is : s.id ≡ h.id
  pub attributes_are : s.attributes ≡ h.attributes
  pub comment_is : (one : Option (List ℕ)) × IsOnly (flat_map comment_in inside) one × (s.comment ≡ text_or one)
  pub conditions_are : (one : Option (List (List ℕ × List ℕ))) × IsOnly (flat_map conditions_in inside) one
      × (s.on_fail ≡ condition (codes "onFail") one) × (s.on_error ≡ condition (codes "onError") one)
  pub checks_are : s.checks ≡ flat_map check_in inside
  pub body_is : s.body ≡ joined (trimmed (flat_map body_in inside))
  pub rollback_is : s.rollback ≡ some_joined (flat_map rollback_in inside)

-- the changesets of parts from that line on, each a heading and the parts up to the next one
abbrev pub AreSets : ℕ → List Part → List SqlSet → Type 0
AreSets line parts [] = parts ≡ []
AreSets line parts (s ∷ sets) =
    (h : Heading) × (inside rest : List Part) × (parts ≡ ChangeSet h ∷ (inside ++ rest)) × (list_any is_heading inside ≡ false)
    × IsSet line h inside s × AreSets (line + 1 + length inside) rest sets

-- ---- files

-- each line is UTF-8 and says one part
abbrev pub AreParts : List (List ℕ) → List Part → Type 0
AreParts [] parts = parts ≡ []
AreParts (line ∷ lines) parts = (said : Part) × (more : List Part) × (parts ≡ said ∷ more) × IsUtf8 line × IsPart line said × AreParts lines more

-- the lines behind the first: blank ones and comments of SQL, and then the changesets
abbrev pub AreLines : List (List ℕ) → List SqlSet → Type 0
AreLines lines sets =
    (idle rest : List Part) × AreParts lines (idle ++ rest) × (list_all is_idle idle ≡ true) × AreSets (2 + length idle) rest sets

-- the lines of a file
abbrev pub IsFile : List (List ℕ) → SqlFile → Type 0
IsFile lines file =
    (first : List ℕ) × (rest : List (List ℕ)) × (lines ≡ first ∷ rest) × IsUtf8 first × IsHeader first file.logical × AreLines rest file.sets

-- the first line is a header
abbrev pub HasHeader : List (List ℕ) → Type 0
HasHeader lines = (first : List ℕ) × (rest : List (List ℕ)) × (logical : Option (List ℕ)) × (lines ≡ first ∷ rest) × IsUtf8 first × IsHeader first logical

-- n is the first line that is wrong: the lines before it are a file, and no file begins with them and it
abbrev pub IsWrong : List (List ℕ) → ℕ → Type 0
IsWrong lines n =
    (front : List (List ℕ)) × (line : List ℕ) × (rest : List (List ℕ)) × (file : SqlFile) × (lines ≡ front ++ line ∷ rest) × (n ≡ length front + 1)
    × IsFile front file × ((more : List (List ℕ)) (any : SqlFile) → ¬ (IsFile (front ++ line ∷ more) any))

-- What has been read of a file between two of its lines.

abbrev pub begun : ℕ → Heading → Draft
begun n h = record { line = n; heading = h; comment = None; conditions = None; checks = []; body = []; gap = []; rollback = None }

abbrev pub conditions_value : List ℕ → Option (List (List ℕ × List ℕ)) → Option (List ℕ)
conditions_value name None = None
conditions_value name (Some pairs) = value_of name pairs

-- with a line feed between
abbrev pub joined_with : Option (List ℕ) → List ℕ → List ℕ
joined_with None text = text
joined_with (Some before) text = before ++ (10 ∷ text)

-- blank lines wait for one that is not
unfoldable pub with_line : List ℕ → Draft → Draft
with_line line draft =
    if list_all is_blank line then record draft { gap = draft.gap ++ (line ++ 10 ∷ []) }
    else record draft { body = draft.body ++ (draft.gap ++ line); gap = 10 ∷ [] }

abbrev pub with_part : Part → Draft → Option Draft
with_part (ChangeSet h) draft = None
with_part (Comment text) draft = if is_some draft.comment then None else Some (record draft { comment = Some text })
with_part (Conditions pairs) draft = if is_some draft.conditions then None else Some (record draft { conditions = Some pairs })
with_part (Check expected query) draft = Some (record draft { checks = draft.checks ++ (expected, query) ∷ [] })
with_part (Rollback text) draft = Some (record draft { rollback = Some (joined_with draft.rollback text) })
with_part Note draft = Some draft
with_part (Body line) draft = Some (with_line line draft)

abbrev pub closed : Draft → SqlSet
closed draft = record {
  line = draft.line;
  author = draft.heading.author;
  id = draft.heading.id;
  attributes = draft.heading.attributes;
  comment = unwrap_or draft.comment [];
  on_fail = conditions_value (codes "onFail") draft.conditions;
  on_error = conditions_value (codes "onError") draft.conditions;
  checks = draft.checks;
  body = draft.body;
  rollback = draft.rollback;
}

abbrev pub closed_all : Option Draft → List SqlSet
closed_all None = []
closed_all (Some draft) = closed draft ∷ []

-- a part that is no heading
abbrev pub take_inside : Part → Option Draft → Option (List SqlSet × Option Draft)
take_inside part None = if is_idle part then Some ([], None) else None
take_inside part (Some draft) = option_map (λ next. ([], Some next)) (with_part part draft)

-- the changesets that end before a line, and the one that is open behind it
abbrev pub take_part : ℕ → Part → Option Draft → Option (List SqlSet × Option Draft)
take_part n (ChangeSet h) draft = Some (closed_all draft, Some (begun n h))
take_part n part draft = take_inside part draft

-- the text of a line
abbrev pub text_in : List ℕ → Option (List ℕ)
text_in line = if is_utf8 line then Some line else None

unfoldable pub take_line : ℕ → List ℕ → Option Draft → Option (List SqlSet × Option Draft)
take_line n line draft = option_and_then (λ part. take_part n part draft) (option_and_then part_of (text_in line))

abbrev pub put_before : List SqlSet → Result (List SqlSet) ℕ → Result (List SqlSet) ℕ
put_before sets (Ok more) = Ok (sets ++ more)
put_before sets (Err line) = Err line

abbrev pub read_on : (Option Draft → Result (List SqlSet) ℕ) → ℕ → Option (List SqlSet × Option Draft) → Result (List SqlSet) ℕ
read_on rest n None = Err n
read_on rest n (Some p) = put_before p.0 (rest p.1)

-- the changesets of the lines from line n on, or the first line that is wrong
unfoldable pub read_from : ℕ → List (List ℕ) → Option Draft → Result (List SqlSet) ℕ
read_from n [] draft = Ok (closed_all draft)
read_from n (line ∷ lines) draft = read_on (λ next. read_from (n + 1) lines next) n (take_line n line draft)

abbrev pub file_with : Option (List ℕ) → Result (List SqlSet) ℕ → Result SqlFile SqlFault
file_with logical (Ok sets) = Ok (record { logical = logical; sets = sets })
file_with logical (Err line) = Err (Line line)

abbrev pub file_behind : List (List ℕ) → Option (Option (List ℕ)) → Result SqlFile SqlFault
file_behind lines None = Err NoHeader
file_behind lines (Some logical) = file_with logical (read_from 2 lines None)

-- the file of these lines, or what is wrong with them
abbrev pub file_of : List (List ℕ) → Result SqlFile SqlFault
file_of [] = Err NoHeader
file_of (line ∷ lines) = file_behind lines (option_and_then header (text_in line))

-- Laws of formatted SQL.

-- what a line says is what the reader finds in it
abbrev pub PartsAreFound : Type 0
PartsAreFound = (line : List ℕ) (said : Part) → (part_of line ≡ Some said) ↔ IsPart line said

-- the changesets of the lines behind the first are those that the reader finds
abbrev pub SetsAreFound : Type 0
SetsAreFound = (lines : List (List ℕ)) (sets : List SqlSet) → (read_from 2 lines None ≡ Ok sets) ↔ AreLines lines sets

-- a file has at most one reading
abbrev pub FilesMeanOne : Type 0
FilesMeanOne = (lines : List (List ℕ)) (a b : SqlFile) → IsFile lines a → IsFile lines b → a ≡ b
