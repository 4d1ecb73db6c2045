-- An appending adds its entry.
use Rattle.std.proofs.Common.{◌≡◌, ◌+◌, ◌-◌, ◌<◌, ◌≤◌, ◌^◌, ◌⊎◌, inl, inr, ℕ, Bool, true, false, nat_le, nat_lt, is_some, List, [], ◌∷◌, ◌++◌, length, take, drop, Ok, Err, Option, None, Some, IfSome, unwrap_or, refl, sym, ◌∙◌, ap, subst, arith, length-append, length-drop, if◌then◌else◌, bytes_eq}
use Rattle.std.specs.Option.{option_map}
use Rattle.std.proofs.lemmas.Bool.Decides.{nat_tests}
use Rattle.std.proofs.lemmas.List.{append_assoc, take_at, drop_at}
use Rattle.lq_base.specs.declared.dialect.Dialect.{Dialect}
use Rattle.lq_base.specs.declared.dialect.Dialect.TheVariants.{Postgresql, Mysql}
use Rattle.lq_frames.specs.declared.entry.Body.{Body}
use Rattle.lq_frames.specs.declared.entry.Body.TheVariants.{State}
use Rattle.lq_frames.specs.declared.entry.Entry.{Entry}
use Rattle.lq_frames.specs.Body.{number, front_number, body_of, entry_of, as_body, IsRight, entries_from, header, frames_of, frames, IsEntry, AreEntries, body_in, placed, read_frames, journal_of, with_last, Holds}
use Rattle.lq_frames.proofs.Frames.{reads_back, frames-last, all-last}
use Rattle.lq_frames.proofs.Numbers.{number-length, front_number-number}
use Rattle.lq_frames.proofs.Texts.{body_reads_back}

pub header-length : (dialect : Dialect) → length (header dialect) ≡ 16
header-length Postgresql = refl
header-length Mysql = refl

header_same : (dialect : Dialect) → bytes_eq (header dialect) (header dialect) ≡ true
header_same Postgresql = refl
header_same Mysql = refl

-- the cases of reading a file
pub reads_too_long : (dialect : Dialect) (limit : ℕ) (bytes : List ℕ) → limit < length bytes → frames_of dialect limit bytes ≡ Err limit
reads_too_long dialect limit bytes long =
    let test : nat_lt limit (length bytes) ≡ true = grind (arith, nat_tests, long) in
    ap (λ (b : Bool). if b then Err limit else (if nat_le (length bytes) 17 then Ok [] else (if bytes_eq (take 16 bytes) (header dialect) then entries_from 16 0 (drop 16 bytes) else Err 0))) test

reads_within : (dialect : Dialect) (limit : ℕ) (bytes : List ℕ) → length bytes ≤ limit
    → frames_of dialect limit bytes ≡ (if nat_le (length bytes) 17 then Ok [] else (if bytes_eq (take 16 bytes) (header dialect) then entries_from 16 0 (drop 16 bytes) else Err 0))
reads_within dialect limit bytes within =
    let test : nat_lt limit (length bytes) ≡ false = grind (arith, nat_tests, within) in
    ap (λ (b : Bool). if b then Err limit else (if nat_le (length bytes) 17 then Ok [] else (if bytes_eq (take 16 bytes) (header dialect) then entries_from 16 0 (drop 16 bytes) else Err 0))) test

pub reads_short : (dialect : Dialect) (limit : ℕ) (bytes : List ℕ) → length bytes ≤ limit → length bytes ≤ 17 → frames_of dialect limit bytes ≡ Ok []
reads_short dialect limit bytes within short =
    let test : nat_le (length bytes) 17 ≡ true = grind (arith, nat_tests, short) in
    reads_within dialect limit bytes within
    ∙ ap (λ (b : Bool). if b then Ok [] else (if bytes_eq (take 16 bytes) (header dialect) then entries_from 16 0 (drop 16 bytes) else Err 0)) test

reads_long : (dialect : Dialect) (limit : ℕ) (bytes : List ℕ) → length bytes ≤ limit → 17 < length bytes
    → frames_of dialect limit bytes ≡ (if bytes_eq (take 16 bytes) (header dialect) then entries_from 16 0 (drop 16 bytes) else Err 0)
reads_long dialect limit bytes within long =
    let test : nat_le (length bytes) 17 ≡ false = grind (arith, nat_tests, long) in
    reads_within dialect limit bytes within
    ∙ ap (λ (b : Bool). if b then Ok [] else (if bytes_eq (take 16 bytes) (header dialect) then entries_from 16 0 (drop 16 bytes) else Err 0)) test

pub reads_headed : (dialect : Dialect) (limit : ℕ) (bytes : List ℕ) → length bytes ≤ limit → 17 < length bytes → take 16 bytes ≡ header dialect
    → frames_of dialect limit bytes ≡ entries_from 16 0 (drop 16 bytes)
reads_headed dialect limit bytes within long head =
    reads_long dialect limit bytes within long
    ∙ ap (λ (b : Bool). if b then entries_from 16 0 (drop 16 bytes) else Err 0) (ap (λ (l : List ℕ). bytes_eq l (header dialect)) head ∙ header_same dialect)

pub reads_unheaded : (dialect : Dialect) (limit : ℕ) (bytes : List ℕ) → length bytes ≤ limit → 17 < length bytes → bytes_eq (take 16 bytes) (header dialect) ≡ false
    → frames_of dialect limit bytes ≡ Err 0
reads_unheaded dialect limit bytes within long head =
    reads_long dialect limit bytes within long ∙ ap (λ (b : Bool). if b then entries_from 16 0 (drop 16 bytes) else Err 0) head

-- a short file has no entry
few : (entries : List (List ℕ)) → AreEntries entries → length (frames entries) ≤ 1 → entries ≡ []
few [] are le = refl
few (entry ∷ entries) are le = absurd (omega (arith, le, are.0.size, length-append entry (frames entries)))

either_length : (n : ℕ) → (n ≤ 17) ⊎ (17 < n)
either_length n = grind arith

framed : (dialect : Dialect) (limit : ℕ) (entries : List (List ℕ)) (gate : ℕ) (tail : List ℕ) → AreEntries entries → ¬ gate ≡ 1
    → length (header dialect ++ frames entries ++ gate ∷ tail) ≤ limit → frames_of dialect limit (header dialect ++ frames entries ++ gate ∷ tail) ≡ Ok entries
framed dialect limit entries gate tail are closed within =
    let bytes : List ℕ = header dialect ++ frames entries ++ gate ∷ tail in
    let parts = length-append (header dialect ++ frames entries) (gate ∷ tail) in
    let front = length-append (header dialect) (frames entries) in
    let whole : bytes ≡ header dialect ++ (frames entries ++ gate ∷ tail) = append_assoc (header dialect) (frames entries) (gate ∷ tail) in
    elim (either_length (length bytes)) [
      | inl short ↦ reads_short dialect limit bytes within short ∙ ap Ok (sym (few entries are (omega (arith, short, parts, front, header-length dialect))))
      | inr long ↦ reads_headed dialect limit bytes within long (ap (take 16) whole ∙ take_at (header dialect) (frames entries ++ gate ∷ tail) 16 (header-length dialect))
          ∙ ap (entries_from 16 0) (ap (drop 16) whole ∙ drop_at (header dialect) (frames entries ++ gate ∷ tail) 16 (header-length dialect))
          ∙ reads_back entries 16 gate tail are closed
    ]

pub frames_are : (dialect : Dialect) (limit : ℕ) (entries : List (List ℕ)) (used : ℕ) (bytes : List ℕ) → Holds dialect limit entries used bytes → frames_of dialect limit bytes ≡ Ok entries
frames_are dialect limit entries used bytes holds =
    ap (frames_of dialect limit) holds.is
    ∙ framed dialect limit entries holds.gate holds.tail holds.whole holds.closed (subst (λ (l : List ℕ). length l ≤ limit) holds.is holds.within)

pub journal_is : (dialect : Dialect) (limit : ℕ) (entries : List (List ℕ)) (used : ℕ) (bytes : List ℕ) → Holds dialect limit entries used bytes → journal_of dialect limit bytes ≡ Ok (placed 17 entries)
journal_is dialect limit entries used bytes holds = ap read_frames (frames_are dialect limit entries used bytes holds)

pub placed-last : (at : ℕ) (entries : List (List ℕ)) (entry : List ℕ) → placed at (entries ++ entry ∷ []) ≡ placed at entries ++ record { at = at + length (frames entries); body = body_in entry } ∷ []
placed-last at [] entry = let same : at ≡ at + 0 = omega arith in ap (λ (n : ℕ). record { at = n; body = body_in entry } ∷ []) same
placed-last at (first ∷ entries) entry =
    let place : at + (length first + 1) + length (frames entries) ≡ at + length (frames (first ∷ entries)) = omega (arith, length-append first (frames entries)) in
    ap (λ (es : List Entry). record { at = at; body = body_in first } ∷ es) (placed-last (at + (length first + 1)) entries entry)
    ∙ ap (λ (n : ℕ). record { at = at; body = body_in first } ∷ (placed (at + (length first + 1)) entries ++ record { at = n; body = body_in entry } ∷ [])) place

-- an entry, and the closed gate behind it
pub record Closed (what : Body) (bytes : List ℕ) : Type 0 where
  pub entry : List ℕ
  pub is : bytes ≡ entry ++ 0 ∷ []
  pub whole : IsEntry entry
  pub says : body_in entry ≡ what

pub closed_entry : (what : Body) (bytes : List ℕ) → bytes ≡ entry_of what → IsRight what → length bytes < 2 ^ 32 → Closed what bytes
closed_entry what bytes is right fits =
    let n = length (body_of what) in
    let entry = number n ++ body_of what in
    let sizes : length bytes ≡ 4 + n + 1 = omega (arith, ap length is, length-append entry (0 ∷ []), length-append (number n) (body_of what), number-length n) in
    let size : length entry ≡ 4 + n = omega (arith, length-append (number n) (body_of what), number-length n) in
    let front : front_number entry ≡ n = front_number-number n (body_of what) (omega (arith, sizes, fits)) in
    let read : as_body (drop 4 entry) ≡ Some what =
    ap as_body (drop_at (number n) (body_of what) 4 (number-length n)) ∙ body_reads_back what right (omega (arith, sizes, fits)) in
    record {
      entry = entry;
      is = is;
      whole = record { size = size ∙ ap (λ (k : ℕ). 4 + k) (sym front); body = ap (λ (o : Option Body). is_some o) read };
      says = ap (λ (o : Option Body). unwrap_or o (State [])) read;
    }

-- behind an open gate the new entry counts
pub open_holds : (dialect : Dialect) (limit : ℕ) (entries : List (List ℕ)) (used : ℕ) (what : Body) (bytes rest : List ℕ) → AreEntries entries → used ≡ 17 + length (frames entries)
    → (closed : Closed what bytes) → length (header dialect ++ frames entries ++ 1 ∷ (bytes ++ rest)) ≤ limit
    → Holds dialect limit (entries ++ closed.entry ∷ []) (used + length bytes) (header dialect ++ frames entries ++ 1 ∷ (bytes ++ rest))
open_holds dialect limit entries used what bytes rest are place closed within =
    let front = header dialect ++ frames entries in
    let whole : front ++ 1 ∷ (bytes ++ rest) ≡ header dialect ++ frames (entries ++ closed.entry ∷ []) ++ 0 ∷ rest =
    ap (λ (l : List ℕ). front ++ 1 ∷ (l ++ rest)) closed.is
    ∙ ap (λ (l : List ℕ). front ++ 1 ∷ l) (append_assoc closed.entry (0 ∷ []) rest)
    ∙ sym (append_assoc front (1 ∷ closed.entry) (0 ∷ rest))
    ∙ ap (λ (l : List ℕ). l ++ 0 ∷ rest) (append_assoc (header dialect) (frames entries) (1 ∷ closed.entry) ∙ ap (λ (l : List ℕ). header dialect ++ l) (sym (frames-last entries closed.entry))) in
    record {
      gate = 0;
      tail = rest;
      is = whole;
      closed = λ e. absurd (omega (arith, e));
      place = omega (arith, place, ap length closed.is, length-append closed.entry (0 ∷ []), ap length (frames-last entries closed.entry), length-append (frames entries) (1 ∷ closed.entry));
      whole = all-last entries closed.entry are closed.whole;
      within = within;
    }

-- the bytes stay within the limit, whatever the gate
pub room : (dialect : Dialect) (limit : ℕ) (entries : List (List ℕ)) (used gate : ℕ) (before bytes : List ℕ) (holds : Holds dialect limit entries used before) → used + length bytes ≤ limit
    → length (header dialect ++ frames entries ++ gate ∷ (bytes ++ drop (length bytes) holds.tail)) ≤ limit
room dialect limit entries used gate before bytes holds fits =
    let front = header dialect ++ frames entries in
    let within = holds.within in
    omega (
      arith,
      fits,
      within,
      holds.place,
      header-length dialect,
      length-append (header dialect) (frames entries),
      ap length holds.is,
      length-append front (holds.gate ∷ holds.tail),
      length-append front (gate ∷ (bytes ++ drop (length bytes) holds.tail)),
      length-append bytes (drop (length bytes) holds.tail),
      length-drop (length bytes) holds.tail,
    )

pub with_more : (dialect : Dialect) (limit : ℕ) (entries : List (List ℕ)) (used : ℕ) (before : List ℕ) (what : Body) (bytes : List ℕ) → Holds dialect limit entries used before
    → (closed : Closed what bytes) → with_last used what (journal_of dialect limit before) ≡ Ok (placed 17 (entries ++ closed.entry ∷ []))
with_more dialect limit entries used before what bytes holds closed =
    ap (with_last used what) (journal_is dialect limit entries used before holds)
    ∙ ap (λ (n : ℕ). Ok (placed 17 entries ++ record { at = n; body = what } ∷ [])) holds.place
    ∙ ap (λ (b : Body). Ok (placed 17 entries ++ record { at = 17 + length (frames entries); body = b } ∷ [])) (sym closed.says)
    ∙ ap Ok (sym (placed-last 17 entries closed.entry))
