-- Steps of reading entries, and their ends.
use Rattle.std.proofs.Common.{◌≡◌, ◌+◌, ◌-◌, ◌<◌, ◌≤◌, ℕ, Bool, true, false, cond, nat_lt, ◌&&◌, ◌||◌, is_some, List, [], ◌∷◌, ◌++◌, length, take, drop, Ok, Err, Option, None, Some, unwrap_or, refl, sym, ◌∙◌, ap, arith, length-append, length-drop, take-append-drop, if◌then◌else◌, bytes_eq}
use Rattle.std.specs.List.{sum_by}
use Rattle.std.proofs.lemmas.Bool.Decides.{nat_tests}
use Rattle.std.proofs.lemmas.List.{append_assoc, take_at}
use Rattle.std.proofs.lemmas.List.Sums.{sum_by-cons}
use Rattle.lq_base.specs.declared.dialect.Dialect.{Dialect}
use Rattle.lq_frames.specs.declared.entry.Body.{Body}
use Rattle.lq_frames.specs.declared.entry.Body.TheVariants.{State}
use Rattle.lq_frames.specs.declared.entry.Entry.{Entry}
use Rattle.lq_frames.specs.Body.{front_number, body_of, as_body, is_body, is_state, size_of, entry_len, begins, with_first, entries_from, header, frames, IsEntry, AreEntries, body_in, from_last_state, has_state, placed, read_frames, journal_of, used_by, Holds}
use Rattle.lq_journal.specs.declared.fault.LoadFault.{LoadFault}
use Rattle.lq_journal.specs.declared.fault.LoadFault.TheVariants.{Disk, Damaged, OutOfMemory}
use Rattle.lq_journal.specs.Reading.{IsNext, IsRead, IsStepFault, IsReadFault, taken_up}
use Rattle.lq_gate.specs.Gate.{IsEnd}
use Rattle.lq_frames.proofs.Frames.{reads_front, with_front, front_fails, frames-last, all-last}
use Rattle.lq_frames.proofs.Numbers.{front_number-append}
use Rattle.lq_frames.proofs.Texts.{body_fills, entry_of-length}
use Rattle.lq_frames.proofs.Appended.{placed-last, journal_is, reads_short, reads_headed, reads_unheaded}

-- an entry of the right form
pub is_next : (at : ℕ) (bytes behind entry after : List ℕ) (what : Body) → bytes ≡ 1 ∷ behind → behind ≡ entry ++ after → length entry ≡ entry_len behind → 0 < length after
    → Some what ≡ as_body (drop 4 entry) → IsNext at bytes (record { at = at + 1; body = what }) after
is_next at bytes behind entry after what opens cut size some read =
    let same : front_number behind ≡ front_number entry = ap front_number cut ∙ front_number-append entry after (omega (arith, size)) in
    record {
      raw = entry;
      is = opens ∙ ap (λ (l : List ℕ). 1 ∷ l) cut;
      whole = record { size = size ∙ ap (λ (n : ℕ). 4 + n) same; body = ap (λ (o : Option Body). is_some o) (sym read) };
      entry_is = ap (λ (b : Body). record { at = at + 1; body = b }) (ap (λ (o : Option Body). unwrap_or o (State [])) read);
      some = some;
    }

not_entry : (behind : List ℕ) (from : ℕ) → begins behind ≡ false → entries_from from 0 (1 ∷ behind) ≡ Err (from + 1)
not_entry behind from is = ap (λ (b : Bool). if b then with_first (take (entry_len behind) behind) (entries_from (from + 1) (entry_len behind) behind) else Err (from + 1)) is

-- it does not fit the file with its next gate
pub no_entry : (bytes behind : List ℕ) → bytes ≡ 1 ∷ behind → length behind ≤ entry_len behind → (from : ℕ) → entries_from from 0 bytes ≡ Err (from + 1)
no_entry bytes behind opens far from =
    let test : nat_lt (entry_len behind) (length behind) ≡ false = grind (arith, nat_tests, far) in
    ap (entries_from from 0) opens ∙ not_entry behind from (ap (λ (b : Bool). b && is_body (drop 4 (take (entry_len behind) behind))) test)

last_false : (a b : Bool) → b ≡ false → a && b ≡ false
last_false true b is = is
last_false false b is = refl

-- its body has a wrong form
pub no_body : (bytes behind entry after : List ℕ) → bytes ≡ 1 ∷ behind → behind ≡ entry ++ after → length entry ≡ entry_len behind → None ≡ as_body (drop 4 entry)
    → (from : ℕ) → entries_from from 0 bytes ≡ Err (from + 1)
no_body bytes behind entry after opens cut size none from =
    let taken : take (entry_len behind) behind ≡ entry = ap (take (entry_len behind)) cut ∙ take_at entry after (entry_len behind) size in
    let test : is_body (drop 4 (take (entry_len behind) behind)) ≡ false = ap (λ (l : List ℕ). is_body (drop 4 l)) taken ∙ ap (λ (o : Option Body). is_some o) (sym none) in
    ap (entries_from from 0) opens ∙ not_entry behind from (last_false (nat_lt (entry_len behind) (length behind)) (is_body (drop 4 (take (entry_len behind) behind))) test)

-- an entry more is taken up as it counts
some_state : (es : List Entry) (e : Entry) → is_state e.body ≡ true → has_state (es ++ e ∷ []) ≡ true
some_state [] e is = ap (λ (b : Bool). b || false) is
some_state (first ∷ es) e is = ap (λ (b : Bool). is_state first.body || b) (some_state es e is) ∙ or_true (is_state first.body)
  where
    or_true : (b : Bool) → b || true ≡ true
    or_true true = refl
    or_true false = refl

no_more_states : (es : List Entry) (e : Entry) → is_state e.body ≡ false → has_state (es ++ e ∷ []) ≡ has_state es
no_more_states [] e is = ap (λ (b : Bool). b || false) is
no_more_states (first ∷ es) e is = ap (λ (b : Bool). is_state first.body || b) (no_more_states es e is)

from_state : (es : List Entry) (e : Entry) → is_state e.body ≡ true → from_last_state (es ++ e ∷ []) ≡ e ∷ []
from_state [] e is = refl
from_state (first ∷ es) e is = ap (λ (b : Bool). cond b (from_last_state (es ++ e ∷ [])) (first ∷ (es ++ e ∷ []))) (some_state es e is) ∙ from_state es e is

from_texts : (es : List Entry) (e : Entry) → is_state e.body ≡ false → from_last_state (es ++ e ∷ []) ≡ from_last_state es ++ e ∷ []
from_texts [] e is = refl
from_texts (first ∷ es) e is =
    ap (λ (b : Bool). cond b (from_last_state (es ++ e ∷ [])) (first ∷ (es ++ e ∷ []))) (no_more_states es e is)
    ∙ ap (λ (l : List Entry). cond (has_state es) l (first ∷ (es ++ e ∷ []))) (from_texts es e is)
    ∙ both (has_state es)
  where
    both : (b : Bool) → cond b (from_last_state es ++ e ∷ []) (first ∷ (es ++ e ∷ [])) ≡ cond b (from_last_state es) (first ∷ es) ++ e ∷ []
    both true = refl
    both false = refl

takes_up : (es : List Entry) (e : Entry) → taken_up e (from_last_state es) ≡ from_last_state (es ++ e ∷ [])
takes_up es e = by (is_state e.body) refl
  where
    by : (b : Bool) → is_state e.body ≡ b → cond b (e ∷ []) (from_last_state es ++ e ∷ []) ≡ from_last_state (es ++ e ∷ [])
    by true is = sym (from_state es e is)
    by false is = sym (from_texts es e is)

-- only the first of them may be a state
pub from_one_state : (all : List Entry) → has_state (drop 1 (from_last_state all)) ≡ false
from_one_state [] = refl
from_one_state (e ∷ es) = by (has_state es) refl (from_one_state es)
  where
    by : (b : Bool) → has_state es ≡ b → has_state (drop 1 (from_last_state es)) ≡ false → has_state (drop 1 (cond b (from_last_state es) (e ∷ es))) ≡ false
    by true is more = more
    by false is more = is

-- The entries that were read stand before the place that is read next.
pub record ReadEntries (bytes rest : List ℕ) (at : ℕ) (entries : List Entry) : Type 0 where
  pub raw : List (List ℕ)
  pub is : drop 16 bytes ≡ frames raw ++ rest
  pub whole : AreEntries raw
  pub entries_are : entries ≡ from_last_state (placed 17 raw)
  pub place : at ≡ 16 + length (frames raw)
  pub some : 0 < length rest
  pub size : at + length rest ≡ length bytes

pub begins_read : (bytes rest : List ℕ) → 17 < length bytes → rest ≡ drop 16 bytes → ReadEntries bytes rest 16 []
begins_read bytes rest long rest_is = record {
  raw = [];
  is = sym rest_is;
  whole = tt;
  entries_are = refl;
  place = omega arith;
  some = omega (arith, long, ap length rest_is, length-drop 16 bytes);
  size = omega (arith, long, ap length rest_is, length-drop 16 bytes);
}

pub goes_on : (bytes rest after : List ℕ) (at next : ℕ) (entries more : List Entry) (entry : Entry) → ReadEntries bytes rest at entries → IsNext at rest entry after
    → more ≡ taken_up entry entries → next ≡ at + (length rest - length after) → ReadEntries bytes after next more
goes_on bytes rest after at next entries more entry read step more_is next_is =
    let last = frames-last read.raw step.raw in
    let size : length rest ≡ 1 + length step.raw + length after = omega (arith, ap length step.is, length-append step.raw after) in
    let place : next ≡ at + 1 + length step.raw = omega (arith, size, next_is) in
    let at_is : at + 1 ≡ 17 + length (frames read.raw) = omega (arith, read.place) in
    record {
      raw = read.raw ++ step.raw ∷ [];
      is = read.is ∙ ap (λ (l : List ℕ). frames read.raw ++ l) step.is ∙ sym (append_assoc (frames read.raw) (1 ∷ step.raw) after) ∙ ap (λ (l : List ℕ). l ++ after) (sym last);
      whole = all-last read.raw step.raw read.whole step.whole;
      entries_are = more_is ∙ ap (taken_up entry) read.entries_are ∙ takes_up (placed 17 read.raw) entry
          ∙ ap (λ (e : Entry). from_last_state (placed 17 read.raw ++ e ∷ [])) step.entry_is
          ∙ ap (λ (n : ℕ). from_last_state (placed 17 read.raw ++ record { at = n; body = body_in step.raw } ∷ [])) at_is
          ∙ ap from_last_state (sym (placed-last 17 read.raw step.raw));
      place = omega (arith, place, read.place, ap length last, length-append (frames read.raw) (1 ∷ step.raw));
      some = step.some;
      size = omega (arith, place, size, read.size);
    }

-- an entry takes its length and the next gate
entry_size : (entry : List ℕ) → IsEntry entry → length entry + 1 ≡ size_of (body_in entry)
entry_size entry is =
    let read = body_fills (drop 4 entry) is.body in
    let says : body_in entry ≡ read.0 = ap (λ (o : Option Body). unwrap_or o (State [])) read.1 in
    let size = is.size in
    omega (arith, size, read.2, length-drop 4 entry, entry_of-length (body_in entry), ap (λ (b : Body). length (body_of b)) says)

sizes : (at : ℕ) (raw : List (List ℕ)) → AreEntries raw → sum_by (λ entry. size_of entry.body) (placed at raw) ≡ length (frames raw)
sizes at [] are = refl
sizes at (entry ∷ raw) are =
    omega (arith, sum_by-cons (λ entry. size_of entry.body) (record { at = at; body = body_in entry }) (placed (at + (length entry + 1)) raw), sizes (at + (length entry + 1)) raw are.1, entry_size entry are.0, length-append entry (frames raw))

pub used_is : (raw : List (List ℕ)) (used : ℕ) → AreEntries raw → used ≡ 17 + length (frames raw) → used ≡ used_by (placed 17 raw)
used_is raw used are is = omega (arith, is, sizes 17 raw are)

-- the end of a journal
pub holds : (dialect : Dialect) (limit : ℕ) (bytes rest : List ℕ) (at : ℕ) (entries : List Entry) (read : ReadEntries bytes rest at entries) → length bytes ≤ limit → take 16 bytes ≡ header dialect
    → IsEnd rest → Holds dialect limit read.raw (at + 1) bytes
holds dialect limit bytes rest at entries read within head end = record {
  gate = end.gate;
  tail = end.tail;
  is = sym (take-append-drop 16 bytes) ∙ ap (λ (l : List ℕ). l ++ drop 16 bytes) head ∙ ap (λ (l : List ℕ). header dialect ++ l) (read.is ∙ ap (λ (l : List ℕ). frames read.raw ++ l) end.is)
      ∙ sym (append_assoc (header dialect) (frames read.raw) (end.gate ∷ end.tail));
  closed = end.closed;
  place = omega (arith, read.place);
  whole = read.whole;
  within = within;
}

pub read_is : (dialect : Dialect) (limit : ℕ) (bytes rest : List ℕ) (at : ℕ) (entries : List Entry) (read : ReadEntries bytes rest at entries) → length bytes ≤ limit → take 16 bytes ≡ header dialect
    → IsEnd rest → IsRead dialect limit bytes entries (at + 1)
read_is dialect limit bytes rest at entries read within head end = record {
  all = placed 17 read.raw;
  journal_is = journal_is dialect limit read.raw (at + 1) bytes (holds dialect limit bytes rest at entries read within head end);
  entries_are = read.entries_are;
  used_is = used_is read.raw (at + 1) read.whole (omega (arith, read.place));
}

pub texts_behind : (bytes rest : List ℕ) (at : ℕ) (entries : List Entry) → ReadEntries bytes rest at entries → has_state (drop 1 entries) ≡ false
texts_behind bytes rest at entries read = ap (λ (es : List Entry). has_state (drop 1 es)) read.entries_are ∙ from_one_state (placed 17 read.raw)

-- a damaged one
pub damaged : (dialect : Dialect) (limit : ℕ) (bytes rest : List ℕ) (at : ℕ) (entries : List Entry) → ReadEntries bytes rest at entries → 17 < length bytes → length bytes ≤ limit → take 16 bytes ≡ header dialect
    → ((from : ℕ) → entries_from from 0 rest ≡ Err (from + 1)) → journal_of dialect limit bytes ≡ Err (at + 1)
damaged dialect limit bytes rest at entries read long within head fails =
    let from : entries_from 16 0 (drop 16 bytes) ≡ Err (at + 1) =
    ap (entries_from 16 0) read.is ∙ reads_front read.raw 16 rest read.whole read.some
    ∙ ap (with_front read.raw) (ap (λ (n : ℕ). entries_from n 0 rest) (sym read.place) ∙ fails at) ∙ front_fails read.raw (at + 1) in
    ap read_frames (reads_headed dialect limit bytes within long head ∙ from)

pub unheaded : (dialect : Dialect) (limit : ℕ) (bytes : List ℕ) → length bytes ≤ limit → 17 < length bytes → bytes_eq (take 16 bytes) (header dialect) ≡ false
    → journal_of dialect limit bytes ≡ Err 0
unheaded dialect limit bytes within long head = ap read_frames (reads_unheaded dialect limit bytes within long head)

pub short : (dialect : Dialect) (limit : ℕ) (bytes : List ℕ) → length bytes ≤ limit → length bytes ≤ 17 → journal_of dialect limit bytes ≡ Ok []
short dialect limit bytes within few = ap read_frames (reads_short dialect limit bytes within few)

pub short_read : (dialect : Dialect) (limit : ℕ) (bytes : List ℕ) → length bytes ≤ limit → length bytes ≤ 17 → IsRead dialect limit bytes [] 17
short_read dialect limit bytes within few = record { all = []; journal_is = short dialect limit bytes within few; entries_are = refl; used_is = refl }

-- a fault of a step is one of the reading
pub read_fault : (dialect : Dialect) (limit : ℕ) (bytes rest : List ℕ) (at : ℕ) (entries : List Entry) → ReadEntries bytes rest at entries → 17 < length bytes → length bytes ≤ limit → take 16 bytes ≡ header dialect
    → (fault : LoadFault) → IsStepFault at rest fault → IsReadFault dialect limit bytes fault
read_fault dialect limit bytes rest at entries read long within head (Damaged place) step =
    damaged dialect limit bytes rest at entries read long within head step.1 ∙ ap Err (sym step.0)
read_fault dialect limit bytes rest at entries read long within head OutOfMemory step = tt
read_fault dialect limit bytes rest at entries read long within head Disk step = absurd step
