-- The body of an entry as bytes, and back: some texts, or a state of the database.
use Rattle.std.specs.Int.{from_be_bytes, to_be_bytes, w32}
use Rattle.std.specs.List.{list_any, sum_by}
use Rattle.std.specs.Option.{option_map}
use Rattle.std.specs.Prelude.{Bool, Err, IsTrue, List, None, Ok, Option, Result, Some, [], bytes_eq, codes, cond, drop, false, if◌then◌else◌, is_some, length, map, nat_le, nat_lt, suc, take, true, unwrap_or, zero, ℕ, ◌&&◌, ◌++◌, ◌+◌, ◌-◌, ◌<◌, ◌==◌, ◌∷◌, ◌≡◌, ◌≤◌, ◌⊎◌}
use Rattle.std.specs.Str.{is_utf8}
use Rattle.lq_base.specs.declared.dialect.Dialect.{Dialect}
use Rattle.lq_base.specs.declared.dialect.Dialect.TheVariants.{Mysql, Postgresql}
use Rattle.lq_frames.specs.declared.entry.Body.{Body}
use Rattle.lq_frames.specs.declared.entry.Body.TheVariants.{State, Texts}
use Rattle.lq_frames.specs.declared.entry.Entry.{Entry}

-- a length as four bytes, greatest first: the lowest 32 bits
unfoldable pub number : ℕ → List ℕ
number n = to_be_bytes w32 n

-- the length that the first four bytes are
unfoldable pub front_number : List ℕ → ℕ
front_number bytes = from_be_bytes w32 (take 4 bytes)

-- each text behind its length
abbrev pub framed_texts : List (List ℕ) → List ℕ
framed_texts [] = []
framed_texts (text ∷ texts) = number (length text) ++ text ++ framed_texts texts

-- the byte `T`, then the texts; or the byte `S`, then the state
abbrev pub body_of : Body → List ℕ
body_of (Texts texts) = 84 ∷ framed_texts texts
body_of (State bytes) = 83 ∷ bytes

-- an entry as it is written, with the closed gate behind it: the body's length, the body, 0
abbrev pub entry_of : Body → List ℕ
entry_of what = number (length (body_of what)) ++ body_of what ++ 0 ∷ []

-- how many bytes of a journal an entry takes
abbrev pub size_of : Body → ℕ
size_of what = length (entry_of what)

-- Reading back. A text must be UTF-8.
abbrev pub with_text : List ℕ → Option (List (List ℕ)) → Option (List (List ℕ))
with_text text texts = if is_utf8 text then option_map (λ more. text ∷ more) texts else None

-- The texts that fill these bytes, each behind its length. So many bytes are passed over first, up to a length.
abbrev pub texts_from : ℕ → List ℕ → Option (List (List ℕ))
texts_from zero [] = Some []
texts_from (suc n) [] = None
texts_from (suc n) (byte ∷ bytes) = texts_from n bytes
texts_from zero (byte ∷ bytes) = with_text (take (front_number (byte ∷ bytes)) (drop 3 bytes)) (texts_from (3 + front_number (byte ∷ bytes)) bytes)

-- a body of texts has at least one
abbrev pub if_any : Option (List (List ℕ)) → Option Body
if_any None = None
if_any (Some []) = None
if_any (Some (text ∷ texts)) = Some (Texts (text ∷ texts))

-- what a body says, where its form is right: any bytes are a state's
unfoldable pub as_body : List ℕ → Option Body
as_body [] = None
as_body (tag ∷ bytes) = if tag == 84 then if_any (texts_from 0 bytes) else (if tag == 83 then Some (State bytes) else None)

abbrev pub is_body : List ℕ → Bool
is_body bytes = is_some (as_body bytes)

abbrev pub AreTexts : List (List ℕ) → Type 0
AreTexts [] = Unit {0}
AreTexts (text ∷ texts) = IsTrue (is_utf8 text) × AreTexts texts

-- it reads back
abbrev pub IsRight : Body → Type 0
IsRight (Texts texts) = AreTexts texts × (0 < length texts)
IsRight (State bytes) = Unit {0}

abbrev pub is_state : Body → Bool
is_state (Texts texts) = false
is_state (State bytes) = true

-- An entry that is ready to be written.

-- the texts of these lengths, which stand in the bytes one after another, each behind four bytes
abbrev pub texts_by : List ℕ → List ℕ → List (List ℕ)
texts_by [] bytes = []
texts_by (n ∷ lens) bytes = take n (drop 4 bytes) ∷ texts_by lens (drop n (drop 4 bytes))

-- the bytes of these texts, of which there is one at least, and their lengths
pub record IsEncoded (texts : List (List ℕ)) (lens bytes : List ℕ) : Type 0 where
  pub is : bytes ≡ entry_of (Texts texts)
  pub lens_are : lens ≡ map (λ text. length text) texts
  pub are_texts : AreTexts texts
  pub some : 0 < length texts

-- the state in an entry: behind its length and its tag, and before its gate
abbrev pub state_in : List ℕ → List ℕ
state_in bytes = take (length bytes - 6) (drop 5 bytes)

-- The entries of a journal as bytes. Each has a length of four bytes, greatest first, and a body.

-- the length of the entry at the front of these bytes
abbrev pub entry_len : List ℕ → ℕ
entry_len bytes = 4 + front_number bytes

-- an entry of the right form stands at the front of these bytes, and its next gate after it
abbrev pub begins : List ℕ → Bool
begins bytes = nat_lt (entry_len bytes) (length bytes) && is_body (drop 4 (take (entry_len bytes) bytes))

abbrev pub with_first : List ℕ → Result (List (List ℕ)) ℕ → Result (List (List ℕ)) ℕ
with_first entry (Ok entries) = Ok (entry ∷ entries)
with_first entry (Err at) = Err at

-- The entries from a place on, or the place of the first of a wrong form. So many bytes are passed over first, up to a gate.
abbrev pub entries_from : ℕ → ℕ → List ℕ → Result (List (List ℕ)) ℕ
entries_from at n [] = Ok []
entries_from at (suc n) (byte ∷ bytes) = entries_from (at + 1) n bytes
entries_from at zero (gate ∷ bytes) = if gate == 1
    then (if begins bytes then with_first (take (entry_len bytes) bytes) (entries_from (at + 1) (entry_len bytes) bytes) else Err (at + 1))
    else Ok []

-- the first 16 bytes, as ASCII
abbrev pub header : Dialect → List ℕ
header Postgresql = codes "LQJOURNAL1 PGSQL"
header Mysql = codes "LQJOURNAL1 MYSQL"

-- The entries, or the place of damage: first of the length, then of the header, then of an entry. A file of at most 17 bytes has none, whatever it holds.
abbrev pub frames_of : Dialect → ℕ → List ℕ → Result (List (List ℕ)) ℕ
frames_of dialect limit bytes = if nat_lt limit (length bytes) then Err limit
    else (if nat_le (length bytes) 17 then Ok []
    else (if bytes_eq (take 16 bytes) (header dialect) then entries_from 16 0 (drop 16 bytes) else Err 0))

-- each behind an open gate
abbrev pub frames : List (List ℕ) → List ℕ
frames [] = []
frames (entry ∷ entries) = 1 ∷ entry ++ frames entries

pub record IsEntry (entry : List ℕ) : Type 0 where
  pub size : length entry ≡ entry_len entry
  pub body : is_body (drop 4 entry) ≡ true

abbrev pub AreEntries : List (List ℕ) → Type 0
AreEntries [] = Unit {0}
AreEntries (entry ∷ entries) = IsEntry entry × AreEntries entries

-- The journal that bytes stand for: its entries, each with its place and its body, or a place of damage.

-- the body of an entry, which has a length of four bytes before it
abbrev pub body_in : List ℕ → Body
body_in entry = unwrap_or (as_body (drop 4 entry)) (State [])

-- entries from a place on, each with its next gate behind it
abbrev pub placed : ℕ → List (List ℕ) → List Entry
placed at [] = []
placed at (entry ∷ entries) = record { at = at; body = body_in entry } ∷ placed (at + (length entry + 1)) entries

abbrev pub read_frames : Result (List (List ℕ)) ℕ → Result (List Entry) ℕ
read_frames (Ok entries) = Ok (placed 17 entries)
read_frames (Err at) = Err at

-- the entries of a journal, or the place of damage
abbrev pub journal_of : Dialect → ℕ → List ℕ → Result (List Entry) ℕ
journal_of dialect limit bytes = read_frames (frames_of dialect limit bytes)

-- The place after the closed gate that ends a journal of these entries: 17 where there are none.
abbrev pub used_by : List Entry → ℕ
used_by entries = 17 + sum_by (λ entry. size_of entry.body) entries

abbrev pub has_state : List Entry → Bool
has_state entries = list_any (λ entry. is_state entry.body) entries

-- the entries from the last state on, or all where there is none
abbrev pub from_last_state : List Entry → List Entry
from_last_state [] = []
from_last_state (entry ∷ entries) = cond (has_state entries) (from_last_state entries) (entry ∷ entries)

-- with one more entry
abbrev pub with_last : ℕ → Body → Result (List Entry) ℕ → Result (List Entry) ℕ
with_last at what (Ok entries) = Ok (entries ++ record { at = at; body = what } ∷ [])
with_last at what (Err place) = Err place

-- the journal is what it was, or has the one entry more
abbrev pub IsSameOrMore : ℕ → Body → Option (Result (List Entry) ℕ) → Option (Result (List Entry) ℕ) → Type 0
IsSameOrMore at what before after = (after ≡ before) ⊎ (after ≡ option_map (with_last at what) before)

-- bytes stand for these entries, or for these and one more
abbrev pub StandsForSameOrMore : Dialect → ℕ → ℕ → Body → Result (List Entry) ℕ → List ℕ → Type 0
StandsForSameOrMore dialect limit at what entries bytes = (journal_of dialect limit bytes ≡ entries) ⊎ (journal_of dialect limit bytes ≡ with_last at what entries)

abbrev pub StandsForSame : Dialect → ℕ → Result (List Entry) ℕ → List ℕ → Type 0
StandsForSame dialect limit entries bytes = journal_of dialect limit bytes ≡ entries

-- That bytes are a journal.

-- The bytes are a journal of these entries, each given as its bytes, within the limit; the place after the closed gate that ends it is `used`, and anything may stand behind.
pub record Holds (dialect : Dialect) (limit : ℕ) (entries : List (List ℕ)) (used : ℕ) (bytes : List ℕ) : Type 0 where
  pub gate : ℕ
  pub tail : List ℕ
  pub is : bytes ≡ header dialect ++ frames entries ++ gate ∷ tail
  pub closed : ¬ gate ≡ 1
  pub place : used ≡ 17 + length (frames entries)
  pub whole : AreEntries entries
  pub within : length bytes ≤ limit

-- the bytes are such a journal or, before it is prepared, at most 17 bytes
abbrev pub Stands : Bool → Dialect → ℕ → ℕ → List ℕ → Type 0
Stands true dialect limit used bytes = (entries : List (List ℕ)) × Holds dialect limit entries used bytes
Stands false dialect limit used bytes = (used ≡ 17) × (length bytes ≤ 17)
