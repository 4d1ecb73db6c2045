-- The one runner of a machine makes the calls of its command's script.
use Rattle.std.proofs.Common.{ap, append-nil, append_assoc, arith, subst, sym, ◌∙◌}
use Rattle.std.specs.Prelude.{Bool, Err, List, None, Ok, Option, Result, Some, [], false, if◌then◌else◌, length, refl, replicate, suc, true, zero, ℕ, ◌&&◌, ◌++◌, ◌<◌, ◌∷◌, ◌≡◌}
use Rattle.lq_base.specs.declared.dialect.Dialect.{Dialect}
use Rattle.lq_base.specs.declared.reason.Reason.{Reason}
use Rattle.lq_base.specs.declared.tracking.Lock.{Lock}
use Rattle.lq_model.specs.Script.{if_any}
use Rattle.lq_track.specs.Database.{Database}
use Rattle.lq_turns.specs.Deed.{done}
use Rattle.lq_turns.specs.Schedule.{Job, Machine, all_moved, answers_with, appended, begins, makes, moved, start}
use Rattle.lq_turns.specs.Session.{Session, aborted, accepted, all_called, all_executed, all_executed_as, called, closed, executed_as, is_own, left_by, session_on, settled_if, settled_up}
use Rattle.lq_turns.specs.Stops.{Journal}
use Rattle.lq_turns.specs.declared.call.Call.{Call}
use Rattle.lq_turns.specs.declared.call.Call.TheVariants.{Abort, Alone, Begin, Commit, Execute}
use Rattle.lq_turns.specs.declared.deed.Deed.{Deed}

-- a call appends the same entries behind whatever stands before them

abbrev behind : Journal → Session → Session
behind front s = record s { entries = front ++ s.entries }

settles : (own : Bool) (front : Journal) (s : Session) → settled_if own (behind front s) ≡ behind front (settled_if own s)
settles true front s = ap (λ (es : Journal). record (settled_up s) { entries = es }) (append_assoc front s.entries (if_any s.begun))
settles false front s = refl

closes : (front : Journal) (s : Session) → closed (behind front s) ≡ behind front (closed s)
closes front s = ap (λ (es : Journal). record (closed s) { entries = es }) (append_assoc front s.entries (if_any s.begun))

-- the session in which a deed has been accepted
abbrev with_deed : Deed → Database → Session → Session
with_deed deed now s = record s { seen = now; begun = s.begun ++ deed ∷ [] }

accepts : (own : Bool) (deed : Deed) (now : Database) (front : Journal) (s : Session)
    → settled_if own (with_deed deed now (settled_if own (behind front s))) ≡ behind front (settled_if own (with_deed deed now (settled_if own s)))
accepts own deed now front s = ap (λ (t : Session). settled_if own (with_deed deed now t)) (settles own front s) ∙ settles own front (with_deed deed now (settled_if own s))

module _ (d : Dialect) where
  executes : (deed : Deed) (front : Journal) (s : Session) (r : Result Database Reason) → executed_as d deed (behind front s) r ≡ behind front (executed_as d deed s r)
  executes deed front s (Ok now) = accepts (is_own d deed) deed now front s
  executes deed front s (Err reason) = settles (is_own d deed) front s

  executes_all : (deeds : List Deed) (front : Journal) (s : Session) → all_executed d deeds (behind front s) ≡ behind front (all_executed d deeds s)
  executes_all [] front s = closes front s
  executes_all (deed ∷ deeds) front s = elim (done d deed s.seen) as (λ r. all_executed_as d deed (behind front s) (all_executed d deeds) r ≡ behind front (all_executed_as d deed s (all_executed d deeds) r)) [
    | Ok now ↦ ap (all_executed d deeds) (accepts (is_own d deed) deed now front s) ∙ executes_all deeds front (accepted d deed now s)
    | Err reason ↦ ap aborted (settles (is_own d deed) front s)
  ]

  calls_behind : (call : Call) (front : Journal) (s : Session) → called d call (behind front s) ≡ behind front (called d call s)
  calls_behind (Alone deeds room) front s = executes_all deeds front s
  calls_behind Begin front s = refl
  calls_behind (Execute deed) front s = executes deed front s (done d deed s.seen)
  calls_behind Commit front s = closes front s
  calls_behind Abort front s = refl

  adds_up : (call : Call) (s : Session) → (called d call s).entries ≡ s.entries ++ appended d call s
  adds_up call s =
      let bare : Session = record s { entries = [] } in
      let same : behind s.entries bare ≡ s = ap (λ (es : Journal). record s { entries = es }) (append-nil s.entries) in
      ap (λ (t : Session). (called d call t).entries) (sym same) ∙ ap (λ (t : Session). t.entries) (calls_behind call s.entries bare)

  next_entries : (entries : Journal) (call : Call) (s : Session) → entries ≡ s.entries → entries ++ appended d call s ≡ (called d call s).entries
  next_entries entries call s is = ap (λ (es : Journal). es ++ appended d call s) is ∙ sym (adds_up call s)

fewer : (j k : ℕ) → suc j < suc k → j < k
fewer j k few = omega arith

none_before : {A : Type 0} (j : ℕ) → suc j < 1 → A
none_before j few = absurd (omega arith)

module _ (Answer : Type 0) (locked : Lock → Answer) (busy : ℕ → Answer) (d : Dialect) (jobs : ℕ → Job Answer locked busy) (database : Database) where
  abbrev Runs : Type 0
  Runs = Machine Answer locked busy

  abbrev begin : Runs
  begin = start Answer locked busy database

  abbrev stepped : ℕ → Runs → Runs
  stepped k x = all_moved Answer locked busy d jobs (replicate k 1) x

  -- the machine of a runner that is under way
  abbrev way : Answer → Session → Call → List Call → List ℕ → Journal → Runs
  way a s call rest begun entries = record {
    committed = s.committed;
    holder = Some (record { runner = 1; session = s; rest = call ∷ rest; answer = a });
    begun = 1 ∷ begun;
    answers = [];
    entries = entries;
  }

  -- it has made these calls in a session, and answered
  record Made (calls : List Call) (s : Session) (a : Answer) (x : Runs) : Type 0 where
    committed : x.committed ≡ (all_called d calls s).committed
    entries : x.entries ≡ (all_called d calls s).entries
    answers : x.answers ≡ (1, a) ∷ []

  makes_rest : (rest : List Call) (call : Call) (s : Session) (a : Answer) (begun : List ℕ) (entries : Journal) → entries ≡ s.entries → Made (call ∷ rest) s a (stepped (length (call ∷ rest)) (way a s call rest begun entries))
  makes_rest [] call s a begun entries is = record { committed = refl; entries = next_entries d entries call s is; answers = refl }
  makes_rest (next ∷ rest) call s a begun entries is =
      let more : Made (next ∷ rest) (called d call s) a (stepped (length (next ∷ rest)) (way a (called d call s) next rest (1 ∷ begun) (entries ++ appended d call s)))
      = makes_rest rest next (called d call s) a (1 ∷ begun) (entries ++ appended d call s) (next_entries d entries call s is) in
      record { committed = more.committed; entries = more.entries; answers = more.answers }

  -- until its last call it has not
  silent_on_way : (rest : List Call) (call : Call) (s : Session) (a : Answer) (begun : List ℕ) (entries : Journal) (k : ℕ) → k < length (call ∷ rest) → (stepped k (way a s call rest begun entries)).answers ≡ []
  silent_on_way rest call s a begun entries zero few = refl
  silent_on_way [] call s a begun entries (suc k) few = none_before k few
  silent_on_way (next ∷ rest) call s a begun entries (suc k) few = silent_on_way rest next (called d call s) a (1 ∷ begun) (entries ++ appended d call s) k (fewer k (length (next ∷ rest)) few)

  -- after so many steps it has made these calls, and answers
  pub record Follows (calls : List Call) (a : Answer) : Type 0 where
    pub steps : ℕ
    pub committed : (stepped steps begin).committed ≡ left_by d calls database
    pub entries : (stepped steps begin).entries ≡ (all_called d calls (session_on database)).entries
    pub answers : (stepped steps begin).answers ≡ (1, a) ∷ []
    pub silent : (k : ℕ) → k < steps → (stepped k begin).answers ≡ []

  silent_first : (k : ℕ) → k < 1 → (stepped k begin).answers ≡ []
  silent_first zero few = refl
  silent_first (suc k) few = none_before k few

  from_first : (calls : List Call) (a : Answer) → moved Answer locked busy d jobs 1 begin ≡ makes Answer locked busy d jobs 1 (session_on database) calls a begin → Follows calls a
  from_first [] a is = record {
    steps = 1;
    committed = ap (λ (x : Runs). x.committed) is;
    entries = ap (λ (x : Runs). x.entries) is;
    answers = ap (λ (x : Runs). x.answers) is;
    silent = silent_first;
  }
  from_first (call ∷ []) a is = record {
    steps = 1;
    committed = ap (λ (x : Runs). x.committed) is;
    entries = ap (λ (x : Runs). x.entries) is;
    answers = ap (λ (x : Runs). x.answers) is;
    silent = silent_first;
  }
  from_first (call ∷ next ∷ rest) a is =
      let s : Session = called d call (session_on database) in
      let more : Made (next ∷ rest) s a (stepped (length (next ∷ rest)) (moved Answer locked busy d jobs 1 begin))
      = subst (λ (x : Runs). Made (next ∷ rest) s a (stepped (length (next ∷ rest)) x)) (sym is) (makes_rest rest next s a [] (appended d call (session_on database)) refl) in
      record {
        steps = suc (length (next ∷ rest));
        committed = more.committed;
        entries = more.entries;
        answers = more.answers;
        silent = silent;
      } where
        silent : (k : ℕ) → k < suc (length (next ∷ rest)) → (stepped k begin).answers ≡ []
        silent zero few = refl
        silent (suc k) few = ap (λ (x : Runs). (stepped k x).answers) is ∙ silent_on_way rest next (called d call (session_on database)) a [] (appended d call (session_on database)) k (fewer k (length (next ∷ rest)) few)

  -- what it answers at its first step by its checks
  abbrev pub checked : Option Answer
  checked = if (jobs 1).needs_lock && database.lock.locked then Some (locked database.lock) else (jobs 1).refuses database

  first_step_is : moved Answer locked busy d jobs 1 begin ≡ begins Answer locked busy d jobs 1 checked begin
  first_step_is = elim ((jobs 1).needs_lock && database.lock.locked) as (λ b.
      (if b then answers_with Answer locked busy 1 (locked database.lock) begin else begins Answer locked busy d jobs 1 ((jobs 1).refuses database) begin)
      ≡ begins Answer locked busy d jobs 1 (if b then Some (locked database.lock) else (jobs 1).refuses database) begin) [
        | true ↦ refl
        | false ↦ refl
      ]

  pub refused : (a : Answer) → checked ≡ Some a → Follows [] a
  refused a is = from_first [] a (first_step_is ∙ ap (λ o. begins Answer locked busy d jobs 1 o begin) is)

  pub follows : checked ≡ None → Follows ((jobs 1).script database) ((jobs 1).answer database)
  follows is = from_first ((jobs 1).script database) ((jobs 1).answer database) (first_step_is ∙ ap (λ o. begins Answer locked busy d jobs 1 o begin) is)
