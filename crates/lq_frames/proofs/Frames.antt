-- What is framed reads back.
use Rattle.std.proofs.Common.{◌≡◌, ◌+◌, ◌<◌, inl, inr, ℕ, suc, Bool, true, nat_lt, ◌&&◌, List, [], ◌∷◌, ◌++◌, length, take, drop, Result, Ok, Err, refl, sym, ◌∙◌, ap, arith, length-append, if◌then◌else◌}
use Rattle.std.proofs.lemmas.Bool.{cases_eq}
use Rattle.std.proofs.lemmas.Bool.Decides.{nat_tests}
use Rattle.std.proofs.lemmas.List.{append_assoc, append-nil, take_at}
use Rattle.lq_frames.specs.Body.{is_body, entry_len, begins, with_first, entries_from, frames, IsEntry, AreEntries}
use Rattle.lq_frames.proofs.Numbers.{front_number-append}

entry_front : (entry rest : List ℕ) → IsEntry entry → entry_len (entry ++ rest) ≡ length entry
entry_front entry rest is = ap (λ (n : ℕ). 4 + n) (front_number-append entry rest (omega (arith, is.size))) ∙ sym is.size

taken : (entry rest : List ℕ) → IsEntry entry → take (entry_len (entry ++ rest)) (entry ++ rest) ≡ entry
taken entry rest is = take_at entry rest (entry_len (entry ++ rest)) (sym (entry_front entry rest is))

begins_there : (entry rest : List ℕ) → IsEntry entry → 0 < length rest → begins (entry ++ rest) ≡ true
begins_there entry rest is some =
    let shorter : nat_lt (entry_len (entry ++ rest)) (length (entry ++ rest)) ≡ true = grind (arith, nat_tests, length-append entry rest, entry_front entry rest is) in
    let body : is_body (drop 4 (take (entry_len (entry ++ rest)) (entry ++ rest))) ≡ true = ap (λ l. is_body (drop 4 l)) (taken entry rest is) ∙ is.body in
    ap (λ b. b && is_body (drop 4 (take (entry_len (entry ++ rest)) (entry ++ rest)))) shorter ∙ body

frames_some : (entries : List (List ℕ)) (gate : ℕ) (tail : List ℕ) → 0 < length (frames entries ++ gate ∷ tail)
frames_some entries gate tail = omega (arith, length-append (frames entries) (gate ∷ tail))

passes : (at : ℕ) (over bytes : List ℕ) → entries_from at (length over) (over ++ bytes) ≡ entries_from (at + length over) 0 bytes
passes at [] bytes = let same : at ≡ at + 0 = omega arith in ap (λ (n : ℕ). entries_from n 0 bytes) same
passes at (byte ∷ over) bytes =
    let same : at + 1 + length over ≡ at + suc (length over) = omega arith in
    passes (at + 1) over bytes ∙ ap (λ (n : ℕ). entries_from n 0 bytes) same

shut_ends : (at gate : ℕ) (bytes : List ℕ) → ¬ gate ≡ 1 → entries_from at 0 (gate ∷ bytes) ≡ Ok []
shut_ends at gate bytes closed = elim (cases_eq gate 1) [
  | inl is_open ↦ absurd (closed is_open)
  | inr shut ↦ grind (arith, nat_tests)
]

-- an entry behind an open gate is read
reads_one : (at : ℕ) (entry rest : List ℕ) → IsEntry entry → 0 < length rest
    → entries_from at 0 (1 ∷ (entry ++ rest)) ≡ with_first entry (entries_from (at + 1 + length entry) 0 rest)
reads_one at entry rest is some =
    ap (λ (b : Bool). if b then with_first (take (entry_len (entry ++ rest)) (entry ++ rest)) (entries_from (at + 1) (entry_len (entry ++ rest)) (entry ++ rest)) else Err (at + 1)) (begins_there entry rest is some)
    ∙ ap (λ (l : List ℕ). with_first l (entries_from (at + 1) (entry_len (entry ++ rest)) (entry ++ rest))) (taken entry rest is)
    ∙ ap (λ (n : ℕ). with_first entry (entries_from (at + 1) n (entry ++ rest))) (entry_front entry rest is)
    ∙ ap (with_first entry) (passes (at + 1) entry rest)

pub reads_back : (entries : List (List ℕ)) (at gate : ℕ) (tail : List ℕ) → AreEntries entries → ¬ gate ≡ 1 → entries_from at 0 (frames entries ++ gate ∷ tail) ≡ Ok entries
reads_back [] at gate tail are closed = shut_ends at gate tail closed
reads_back (entry ∷ entries) at gate tail are closed =
    let rest = frames entries ++ gate ∷ tail in
    let split : (entry ++ frames entries) ++ gate ∷ tail ≡ entry ++ rest = append_assoc entry (frames entries) (gate ∷ tail) in
    ap (λ (l : List ℕ). entries_from at 0 (1 ∷ l)) split
    ∙ reads_one at entry rest are.0 (frames_some entries gate tail)
    ∙ ap (with_first entry) (reads_back entries (at + 1 + length entry) gate tail are.1 closed)

abbrev pub with_front : List (List ℕ) → Result (List (List ℕ)) ℕ → Result (List (List ℕ)) ℕ
with_front [] read = read
with_front (entry ∷ entries) read = with_first entry (with_front entries read)

-- framed entries are read, and then what stands behind them
pub reads_front : (entries : List (List ℕ)) (at : ℕ) (rest : List ℕ) → AreEntries entries → 0 < length rest
    → entries_from at 0 (frames entries ++ rest) ≡ with_front entries (entries_from (at + length (frames entries)) 0 rest)
reads_front [] at rest are some = let same : at ≡ at + 0 = omega arith in ap (λ (n : ℕ). entries_from n 0 rest) same
reads_front (entry ∷ entries) at rest are some =
    let behind = frames entries ++ rest in
    let place : at + 1 + length entry + length (frames entries) ≡ at + suc (length (entry ++ frames entries)) = omega (arith, length-append entry (frames entries)) in
    ap (λ (l : List ℕ). entries_from at 0 (1 ∷ l)) (append_assoc entry (frames entries) rest)
    ∙ reads_one at entry behind are.0 (omega (arith, some, length-append (frames entries) rest))
    ∙ ap (with_first entry) (reads_front entries (at + 1 + length entry) rest are.1 some ∙ ap (λ (n : ℕ). with_front entries (entries_from n 0 rest)) place)

pub front_fails : (entries : List (List ℕ)) (at : ℕ) → with_front entries (Err at) ≡ Err at
front_fails [] at = refl
front_fails (entry ∷ entries) at = ap (with_first entry) (front_fails entries at)

pub frames-last : (entries : List (List ℕ)) (entry : List ℕ) → frames (entries ++ entry ∷ []) ≡ frames entries ++ 1 ∷ entry
frames-last [] entry = ap (λ (l : List ℕ). 1 ∷ l) (append-nil entry)
frames-last (first ∷ entries) entry =
    ap (λ (l : List ℕ). 1 ∷ (first ++ l)) (frames-last entries entry) ∙ ap (λ (l : List ℕ). 1 ∷ l) (sym (append_assoc first (frames entries) (1 ∷ entry)))

pub all-last : (entries : List (List ℕ)) (entry : List ℕ) → AreEntries entries → IsEntry entry → AreEntries (entries ++ entry ∷ [])
all-last [] entry are is = (is, tt)
all-last (first ∷ entries) entry are is = (are.0, all-last entries entry are.1 is)
