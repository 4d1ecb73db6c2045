-- An entry is written behind the closed gate, and then the gate is opened.
use Rattle.std.proofs.Common.{◌≡◌, ◌+◌, ◌-◌, ◌≤◌, ℕ, true, List, [], ◌∷◌, ◌++◌, length, drop, Option, None, Some, IfSome, sym, ◌∙◌, ap, subst, arith, length-append}
use Rattle.std.specs.Option.{option_map}
use Rattle.lq_base.specs.declared.dialect.Dialect.{Dialect}
use Rattle.lq_outside.specs.Crash.{written}
use Rattle.lq_frames.specs.declared.entry.Body.{Body}
use Rattle.lq_frames.specs.Body.{header, frames, journal_of, with_last, Holds, Stands}
use Rattle.lq_frames.proofs.Appended.{Closed, header-length, journal_is, open_holds, room, with_more}
use Rattle.lq_gate.proofs.Written.{behind, opened}

pub staged : (dialect : Dialect) (limit : ℕ) (entries : List (List ℕ)) (used : ℕ) (before bytes : List ℕ) (holds : Holds dialect limit entries used before)
    → written used bytes before ≡ header dialect ++ frames entries ++ holds.gate ∷ (bytes ++ drop (length bytes) holds.tail)
staged dialect limit entries used before bytes holds =
    let size : length (header dialect ++ frames entries) ≡ 16 + length (frames entries) = omega (arith, length-append (header dialect) (frames entries), header-length dialect) in
    ap (written used bytes) holds.is ∙ behind (header dialect ++ frames entries) holds.gate holds.tail bytes used (omega (arith, size, holds.place))

pub after : (dialect : Dialect) (limit : ℕ) (entries : List (List ℕ)) (used gate : ℕ) (before : List ℕ) (what : Body) (bytes : List ℕ) → Holds dialect limit entries used before
    → (closed : Closed what bytes) → gate ≡ used - 1 → used + length bytes ≤ limit
    → Holds dialect limit (entries ++ closed.entry ∷ []) (used + length bytes) (written gate (1 ∷ []) (written used bytes before))
after dialect limit entries used gate before what bytes holds closed gate_is fits =
    let front = header dialect ++ frames entries in
    let size : length front ≡ 16 + length (frames entries) = omega (arith, length-append (header dialect) (frames entries), header-length dialect) in
    let rest = drop (length bytes) holds.tail in
    let last : written gate (1 ∷ []) (written used bytes before) ≡ front ++ 1 ∷ (bytes ++ rest) =
    ap (written gate (1 ∷ [])) (staged dialect limit entries used before bytes holds) ∙ opened front holds.gate (bytes ++ rest) gate (omega (arith, size, holds.place, gate_is)) in
    subst (λ l. Holds dialect limit (entries ++ closed.entry ∷ []) (used + length bytes) l) (sym last)
    (open_holds dialect limit entries used what bytes rest holds.whole holds.place closed (room dialect limit entries used 1 before bytes holds fits))

-- over what a disk tells
pub in_turn : (f g : List ℕ → List ℕ) (t0 t1 t2 : Option (List ℕ)) → t1 ≡ option_map f t0 → t2 ≡ option_map g t1 → t2 ≡ option_map (λ l. g (f l)) t0
in_turn f g None t1 t2 e1 e2 = e2 ∙ ap (option_map g) e1
in_turn f g (Some l) t1 t2 e1 e2 = e2 ∙ ap (option_map g) e1

pub ready_after : (dialect : Dialect) (limit : ℕ) (t0 t4 : Option (List ℕ)) (used gate : ℕ) (what : Body) (bytes : List ℕ) → IfSome t0 (Stands true dialect limit used)
    → Closed what bytes → gate ≡ used - 1 → used + length bytes ≤ limit
    → t4 ≡ option_map (λ l. written gate (1 ∷ []) (written used bytes l)) t0 → IfSome t4 (Stands true dialect limit (used + length bytes))
ready_after dialect limit None t4 used gate what bytes ready closed gate_is fits is = subst (λ t. IfSome t (Stands true dialect limit (used + length bytes))) (sym is) tt
ready_after dialect limit (Some before) t4 used gate what bytes ready closed gate_is fits is =
    subst (λ t. IfSome t (Stands true dialect limit (used + length bytes))) (sym is)
    (ready.0 ++ closed.entry ∷ [], after dialect limit ready.0 used gate before what bytes ready.1 closed gate_is fits)

pub journal_after : (dialect : Dialect) (limit : ℕ) (t0 t4 : Option (List ℕ)) (used gate : ℕ) (what : Body) (bytes : List ℕ) → IfSome t0 (Stands true dialect limit used)
    → Closed what bytes → gate ≡ used - 1 → used + length bytes ≤ limit
    → t4 ≡ option_map (λ l. written gate (1 ∷ []) (written used bytes l)) t0
    → option_map (journal_of dialect limit) t4 ≡ option_map (with_last used what) (option_map (journal_of dialect limit) t0)
journal_after dialect limit None t4 used gate what bytes ready closed gate_is fits is = ap (option_map (journal_of dialect limit)) is
journal_after dialect limit (Some before) t4 used gate what bytes ready closed gate_is fits is =
    ap (option_map (journal_of dialect limit)) is
    ∙ ap Some (journal_is dialect limit (ready.0 ++ closed.entry ∷ []) (used + length bytes) (written gate (1 ∷ []) (written used bytes before))
    (after dialect limit ready.0 used gate before what bytes ready.1 closed gate_is fits)
    ∙ sym (with_more dialect limit ready.0 used before what bytes ready.1 closed))
