-- What a crash leaves while an entry is appended, and what a read gives after a failure.
use Rattle.std.proofs.Common.{◌≡◌, ◌+◌, ◌-◌, ◌<◌, ◌≤◌, inl, inr, ℕ, true, List, [], ◌∷◌, ◌++◌, length, take, drop, Ok, Err, Result, Option, None, Some, IfSome, OnErr, refl, sym, ◌∙◌, ap, subst, arith, length-append, length-drop, take-append-drop}
use Rattle.std.specs.Option.{option_map}
use Rattle.std.proofs.lemmas.Bool.{cases_eq}
use Rattle.std.proofs.lemmas.List.{take_at, drop_at, drop-drop}
use Rattle.lq_base.specs.declared.dialect.Dialect.{Dialect}
use Rattle.lq_outside.specs.Crash.{written, Torn, Tears, Crashes, LeavesOnly, Half, Settled}
use Rattle.lq_outside.proofs.Moments.{then, weaker}
use Rattle.lq_frames.specs.declared.entry.Body.{Body}
use Rattle.lq_frames.specs.Body.{header, frames, journal_of, IsSameOrMore, StandsForSameOrMore, Holds, Stands}
use Rattle.lq_gate.proofs.Written.{ends_with}
use Rattle.lq_frames.proofs.Appended.{Closed, header-length, journal_is, room, open_holds, with_more}
use Rattle.lq_gate.proofs.Gated.{staged}

-- behind a closed gate anything may stand
behind_gate : (dialect : Dialect) (limit : ℕ) (entries : List (List ℕ)) (used n : ℕ) (before c : List ℕ) → Holds dialect limit entries used before → used + n ≤ limit → Torn used n before c
    → Holds dialect limit entries used c
behind_gate dialect limit entries used n before c holds fits torn =
    let front = header dialect ++ frames entries in
    let size : length (front ++ holds.gate ∷ []) ≡ used =
    omega (arith, length-append front (holds.gate ∷ []), length-append (header dialect) (frames entries), header-length dialect, holds.place) in
    let start : take used c ≡ front ++ holds.gate ∷ [] =
    torn.front ∙ ap (take used) (holds.is ∙ ends_with front holds.gate holds.tail) ∙ take_at (front ++ holds.gate ∷ []) holds.tail used size in
    let longest = torn.no_longer in
    let within = holds.within in
    record {
      gate = holds.gate;
      tail = drop used c;
      is = sym (take-append-drop used c) ∙ ap (λ (l : List ℕ). l ++ drop used c) start ∙ sym (ends_with front holds.gate (drop used c));
      closed = holds.closed;
      place = holds.place;
      whole = holds.whole;
      within = omega (arith, longest, within, fits);
    }

some_first : (bytes : List ℕ) → 0 < length bytes → (x : ℕ) × (bytes ≡ x ∷ drop 1 bytes)
some_first [] some = absurd (omega (arith, some))
some_first (x ∷ bytes) some = (x, refl)

-- a torn gate is any byte
any_gate : (front : List ℕ) (gate : ℕ) (tail c : List ℕ) (at : ℕ) → at ≡ length front → Torn at 1 (front ++ gate ∷ tail) c → (x : ℕ) × (c ≡ front ++ x ∷ tail)
any_gate front gate tail c at is torn =
    let start : take at c ≡ front = torn.front ∙ take_at front (gate ∷ tail) at (sym is) in
    let size : length (front ++ gate ∷ []) ≡ at + 1 = omega (arith, length-append front (gate ∷ []), is) in
    let end : drop (at + 1) c ≡ tail = torn.back ∙ ap (drop (at + 1)) (ends_with front gate tail) ∙ drop_at (front ++ gate ∷ []) tail (at + 1) size in
    let first = some_first (drop at c) (omega (arith, length-drop at c, torn.no_shorter, length-append front (gate ∷ tail), is)) in
    let rest : drop 1 (drop at c) ≡ tail = drop-drop 1 at c ∙ end in
    (first.0, sym (take-append-drop at c) ∙ ap (λ (l : List ℕ). l ++ drop at c) start ∙ ap (λ (l : List ℕ). front ++ l) (first.1 ∙ ap (λ (l : List ℕ). first.0 ∷ l) rest))

-- what stands where the gate may be torn
opening : (dialect : Dialect) (limit : ℕ) (entries : List (List ℕ)) (used gate : ℕ) (before : List ℕ) (what : Body) (bytes c : List ℕ) → Holds dialect limit entries used before
    → Closed what bytes → gate ≡ used - 1 → used + length bytes ≤ limit → Torn gate 1 (written used bytes before) c
    → StandsForSameOrMore dialect limit used what (journal_of dialect limit before) c
opening dialect limit entries used gate before what bytes c holds closed gate_is fits torn =
    let front = header dialect ++ frames entries in
    let rest = drop (length bytes) holds.tail in
    let there : Torn gate 1 (front ++ holds.gate ∷ (bytes ++ rest)) c = subst (λ l. Torn gate 1 l c) (staged dialect limit entries used before bytes holds) torn in
    let any = any_gate front holds.gate (bytes ++ rest) c gate (omega (arith, length-append (header dialect) (frames entries), header-length dialect, holds.place, gate_is)) there in
    elim (cases_eq any.0 1) [
      | inl is_open ↦ inr (ap (journal_of dialect limit) (any.1 ∙ ap (λ (x : ℕ). front ++ x ∷ (bytes ++ rest)) is_open)
          ∙ journal_is dialect limit (entries ++ closed.entry ∷ []) (used + length bytes) (front ++ 1 ∷ (bytes ++ rest))
          (open_holds dialect limit entries used what bytes rest holds.whole holds.place closed (room dialect limit entries used 1 before bytes holds fits))
          ∙ sym (with_more dialect limit entries used before what bytes holds closed))
      | inr shut ↦ inl (journal_is dialect limit entries used c record {
        gate = any.0;
        tail = bytes ++ rest;
        is = any.1;
        closed = shut;
        place = holds.place;
        whole = holds.whole;
        within = subst (λ (l : List ℕ). length l ≤ limit) (sym any.1) (room dialect limit entries used any.0 before bytes holds fits);
      } ∙ sym (journal_is dialect limit entries used before holds))
    ]

same_behind : (dialect : Dialect) (limit : ℕ) (entries : List (List ℕ)) (used n : ℕ) (before c : List ℕ) → Holds dialect limit entries used before → used + n ≤ limit → Torn used n before c
    → journal_of dialect limit c ≡ journal_of dialect limit before
same_behind dialect limit entries used n before c holds fits torn =
    journal_is dialect limit entries used c (behind_gate dialect limit entries used n before c holds fits torn) ∙ sym (journal_is dialect limit entries used before holds)

-- the first write leaves the entries as they were
pub first_moment : (dialect : Dialect) (limit : ℕ) (told : Option (List ℕ)) (first middle : Crashes) (used : ℕ) (what : Body) (bytes : List ℕ) → IfSome told (Stands true dialect limit used)
    → used + length bytes ≤ limit → Settled told first → LeavesOnly first middle (Half first.leaves (Torn used (length bytes)))
    → IfSome told (λ before. LeavesOnly first middle (StandsForSameOrMore dialect limit used what (journal_of dialect limit before)))
first_moment dialect limit None first middle used what bytes ready fits settled leaves = tt
first_moment dialect limit (Some before) first middle used what bytes ready fits settled leaves =
    weaker first middle (Half first.leaves (Torn used (length bytes))) (StandsForSameOrMore dialect limit used what (journal_of dialect limit before)) leaves
    (λ honest c half.
    let torn = subst (λ l. Torn used (length bytes) l c) (settled honest half.0 half.1) half.2 in
    inl (same_behind dialect limit ready.0 used (length bytes) before c ready.1 fits torn))

-- the second leaves them with the new one or without
pub second_moment : (dialect : Dialect) (limit : ℕ) (told staged_told : Option (List ℕ)) (first middle last : Crashes) (used gate : ℕ) (what : Body) (bytes : List ℕ)
    → IfSome told (Stands true dialect limit used) → Closed what bytes → gate ≡ used - 1 → used + length bytes ≤ limit
    → Settled told first → LeavesOnly first middle (Half first.leaves (Torn used (length bytes)))
    → staged_told ≡ option_map (written used bytes) told → Settled staged_told middle → LeavesOnly middle last (Half middle.leaves (Torn gate 1))
    → IfSome told (λ before. LeavesOnly first last (StandsForSameOrMore dialect limit used what (journal_of dialect limit before)))
second_moment dialect limit None staged_told first middle last used gate what bytes ready closed gate_is fits settled leaves told_is settled_then leaves_then = tt
second_moment dialect limit (Some before) staged_told first middle last used gate what bytes ready closed gate_is fits settled leaves told_is settled_then leaves_then =
    let settled_there : Settled (Some (written used bytes before)) middle = subst (λ t. Settled t middle) told_is settled_then in
    let P = StandsForSameOrMore dialect limit used what (journal_of dialect limit before) in
    let so_far : LeavesOnly first middle P = first_moment dialect limit (Some before) first middle used what bytes ready fits settled leaves in
    then first middle last P so_far
    (weaker middle last (Half middle.leaves (Torn gate 1)) P leaves_then
    (λ honest c half.
    let torn = subst (λ l. Torn gate 1 l c) (settled_there honest half.0 half.1) half.2 in
    opening dialect limit ready.0 used gate before what bytes c ready.1 closed gate_is fits torn))

-- the same of a write that fails, for reads
pub first_torn : (dialect : Dialect) (limit : ℕ) (told after : Option (List ℕ)) (used : ℕ) (what : Body) (bytes : List ℕ) → IfSome told (Stands true dialect limit used) → used + length bytes ≤ limit
    → Tears used (length bytes) told after
    → IsSameOrMore used what (option_map (journal_of dialect limit) told) (option_map (journal_of dialect limit) after)
first_torn dialect limit None after used what bytes ready fits torn = inl (ap (option_map (journal_of dialect limit)) torn)
first_torn dialect limit (Some before) after used what bytes ready fits torn =
    inl (ap (option_map (journal_of dialect limit)) torn.1 ∙ ap Some (same_behind dialect limit ready.0 used (length bytes) before torn.0 ready.1 fits torn.2))

pub second_torn : (dialect : Dialect) (limit : ℕ) (told staged_told after : Option (List ℕ)) (used gate : ℕ) (what : Body) (bytes : List ℕ) → IfSome told (Stands true dialect limit used)
    → Closed what bytes → gate ≡ used - 1 → used + length bytes ≤ limit
    → staged_told ≡ option_map (written used bytes) told → Tears gate 1 staged_told after
    → IsSameOrMore used what (option_map (journal_of dialect limit) told) (option_map (journal_of dialect limit) after)
second_torn dialect limit None staged_told after used gate what bytes ready closed gate_is fits told_is torn =
    let t : Tears gate 1 None after = subst (λ s. Tears gate 1 s after) told_is torn in inl (ap (option_map (journal_of dialect limit)) t)
second_torn dialect limit (Some before) staged_told after used gate what bytes ready closed gate_is fits told_is torn =
    let t : Tears gate 1 (Some (written used bytes before)) after = subst (λ s. Tears gate 1 s after) told_is torn in
    elim (opening dialect limit ready.0 used gate before what bytes t.0 ready.1 closed gate_is fits t.2) [
      | inl same ↦ inl (ap (option_map (journal_of dialect limit)) t.1 ∙ ap Some same)
      | inr more ↦ inr (ap (option_map (journal_of dialect limit)) t.1 ∙ ap Some more)
    ]

pub on_err : {T E P : Type 0} (r : Result T E) → P → OnErr r P
on_err (Ok x) p = tt
on_err (Err e) p = p
