-- A command that runs keeps its lock until its last call.
use Rattle.std.proofs.Common.{ap, inl, inr, subst, sym, ◌∙◌}
use Rattle.std.proofs.lemmas.List.{append_assoc}
use Rattle.std.specs.List.{list_any}
use Rattle.std.specs.Prelude.{Bool, Err, List, None, Ok, Option, Some, [], codes, false, if◌then◌else◌, map, not, pos, refl, suc, true, ℕ, ◌++◌, ◌||◌, ◌∷◌, ◌≡◌}
use Rattle.lq_base.specs.Number.{whole_text}
use Rattle.lq_base.specs.Name.{identity_text}
use Rattle.lq_base.specs.declared.dialect.Dialect.{Dialect}
use Rattle.lq_base.specs.declared.tracking.Lock.{Lock}
use Rattle.lq_base.specs.declared.tracking.Tracked.{Tracked}
use Rattle.lq_model.specs.Step.{commits_itself}
use Rattle.lq_model.specs.declared.statement.Statement.{Statement}
use Rattle.lq_track.specs.Database.{Database}
use Rattle.lq_track.specs.Lock.{taken}
use Rattle.lq_turns.specs.Deed.{Contents, contents_of, with_contents, contents_after, done, if_accepted, locked_after}
use Rattle.lq_turns.specs.Session.{Both, are_accepted, went, Session, called, executed_as, is_own, settled_if}
use Rattle.lq_turns.specs.Rest.{Inside, NoMore, OfRows, OfSets, Turns, between, if_goes_on, rest, turns_calls}
use Rattle.lq_turns.specs.Script.{calls_if_finished, turns_made, calls_of_turn, calls_unless, set_calls, sets_calls, turn_by}
use Rattle.lq_turns.specs.Set.{Meaning, Set}
use Rattle.lq_turns.specs.Settle.{choice, settle}
use Rattle.lq_turns.specs.Turn.{Ending, Finished, Refused, apart, contents_in, ending, made, made_on, mark, mark_text, row_calls, statement_calls, turn_calls}
use Rattle.lq_turns.specs.declared.call.Call.{Call}
use Rattle.lq_turns.specs.declared.call.Call.TheVariants.{Abort, Alone, Begin, Commit, Execute}
use Rattle.lq_turns.specs.declared.deed.Deed.{Deed}
use Rattle.lq_turns.specs.declared.deed.Deed.TheVariants.{Locks, Rows, Users}
use Rattle.lq_turns.specs.declared.deed.OnLock.TheVariants.{Freed, LockMade, LockRowMade, LogMade, Marked, Taken}
use Rattle.lq_turns.specs.declared.deed.OnRows.TheVariants.{Inserted}
use Rattle.lq_turns.specs.declared.stamp.Stamp.{Stamp}
use Rattle.lq_turns.specs.declared.stop.Stop.{Stop}
use Rattle.lq_turns.specs.declared.turn.Turn.{Turn}
use Rattle.lq_run.specs.Ends.{AllHoldOn, HoldsOn, IsNameOf, KeepsLock}
use Rattle.lq_run.specs.Stands.{IsHeld}

-- the lock after a call

module _ (stamp : Stamp) where
  renamed : (lock : Lock) (by : List ℕ) → IsHeld stamp lock → record lock { by = Some by } ≡ taken (pos stamp.reading) by
  renamed lock by (inl is) = ap (λ (l : Lock). record l { by = Some by }) is
  renamed lock by (inr is) = ap (λ (l : Lock). record l { by = Some by }) is.1

  named : (lock : Lock) (by : List ℕ) → lock ≡ taken (pos stamp.reading) by → IsNameOf stamp.who by → IsHeld stamp lock
  named lock by is (inl same) = inl (is ∙ ap (taken (pos stamp.reading)) same)
  named lock by is (inr same) = inr (same.0, is ∙ ap (taken (pos stamp.reading)) same.1)

  stays : (deed : Deed) (database : Database) → HoldsOn stamp.who (Execute deed) → IsHeld stamp database.lock → IsHeld stamp (locked_after deed database).lock
  stays (Users s) database on held = held
  stays (Rows w) database on held = held
  stays (Locks (Marked by)) database on held = named (record (database.lock) { by = Some by }) by (renamed database.lock by held) on
  stays (Locks LogMade) database on held = held
  stays (Locks LockMade) database on held = held
  stays (Locks LockRowMade) database on held = held
  stays (Locks (Taken at by)) database on held = absurd on
  stays (Locks Freed) database on held = absurd on

  abbrev pub BothHeld : Session → Type 0
  BothHeld s = IsHeld stamp s.committed.lock × IsHeld stamp s.seen.lock

  up : (own : Bool) (s : Session) → BothHeld s → BothHeld (settled_if own s)
  up true s is = (is.1, is.1)
  up false s is = is

  takes : (own : Bool) (deed : Deed) (now : Database) (s : Session) → IsHeld stamp now.lock → BothHeld s → BothHeld (settled_if own (record (settled_if own s) { seen = now; begun = (settled_if own s).begun ++ deed ∷ [] }))
  takes own deed now s is held = up own (record (settled_if own s) { seen = now; begun = (settled_if own s).begun ++ deed ∷ [] }) ((up own s held).0, is)

  executes : (d : Dialect) (deed : Deed) (s : Session) → HoldsOn stamp.who (Execute deed) → BothHeld s → BothHeld (executed_as d deed s (done d deed s.seen))
  executes d deed s on held = elim (contents_after d deed (contents_of s.seen)) as (λ r. BothHeld (executed_as d deed s (if_accepted (with_contents (locked_after deed s.seen)) r))) [
    | Ok now ↦ takes (is_own d deed) deed (with_contents (locked_after deed s.seen) now) s (stays deed s.seen on held.1) held
    | Err reason ↦ up (is_own d deed) s held
  ]

  pub call_holds : (d : Dialect) (call : Call) (s : Session) → HoldsOn stamp.who call → BothHeld s → BothHeld (called d call s)
  call_holds d Begin s on held = held
  call_holds d Commit s on held = (held.1, held.1)
  call_holds d Abort s on held = (held.0, held.0)
  call_holds d (Alone deeds room) s on held = absurd on
  call_holds d (Execute deed) s on held = executes d deed s on held

-- the calls of turns

regrouped : (w b i u n : List ℕ) → w ++ b ++ i ++ b ++ u ++ n ≡ w ++ (b ++ (i ++ (b ++ (u ++ n))))
regrouped w b i u n = append_assoc (w ++ b ++ i ++ b) u n ∙ append_assoc (w ++ b ++ i) b (u ++ n) ∙ append_assoc (w ++ b) i (b ++ (u ++ n)) ∙ append_assoc w b (i ++ (b ++ (u ++ n)))

module _ (d : Dialect) (who : List ℕ) where
  pub all_both : (calls more : List Call) → AllHoldOn who calls → AllHoldOn who more → AllHoldOn who (calls ++ more)
  all_both [] more all others = others
  all_both (call ∷ calls) more all others = (all.0, all_both calls more all.1 others)

  pub made_hold : (calls : List Call) (c : Contents) → AllHoldOn who calls → AllHoldOn who (made d calls c)
  made_hold [] c all = tt
  made_hold (Begin ∷ calls) c all = (tt, made_hold calls c all.1)
  made_hold (Commit ∷ calls) c all = (tt, made_hold calls c all.1)
  made_hold (Abort ∷ calls) c all = (tt, made_hold calls c all.1)
  made_hold (Alone deeds room ∷ calls) c all = absurd all.0
  made_hold (Execute deed ∷ calls) c all = (all.0, elim (contents_after d deed c) as (λ r. AllHoldOn who (made_on (made d calls) r)) [ Ok now ↦ made_hold calls now all.1 | Err reason ↦ (tt, tt) ])

  module _ (turn : Turn) where
    mark_named : (k : ℕ) → IsNameOf who (mark_text who turn k)
    mark_named k =
        let of = identity_text turn.identity in
        let undo = if turn.is_undo then codes "undo " else [] in
        inr (of ++ (codes "|" ++ (undo ++ whole_text (pos k))), regrouped who (codes "|") of undo (whole_text (pos k)))

    one_holds : (k : ℕ) (s : Statement) (own whole : Bool) (more : List Call) → AllHoldOn who more
        → AllHoldOn who ((if whole then (if own then mark who turn k ∷ Execute (Users s) ∷ [] else Execute (Users s) ∷ []) else apart who turn k s) ++ more)
    one_holds k s true true more all = (mark_named k, (tt, all))
    one_holds k s false true more all = (tt, all)
    one_holds k s own false more all = (tt, (mark_named k, (tt, (tt, all))))

    statements_hold : (k : ℕ) (ss : List Statement) (more : List Call) → AllHoldOn who more → AllHoldOn who (statement_calls d who turn k ss ++ more)
    statements_hold k [] more all = all
    statements_hold k (s ∷ ss) more all =
        subst (AllHoldOn who) (sym (append_assoc (if turn.in_transaction then (if commits_itself d s then mark who turn k ∷ Execute (Users s) ∷ [] else Execute (Users s) ∷ []) else apart who turn k s) (statement_calls d who turn (suc k) ss) more))
        (one_holds k s (commits_itself d s) turn.in_transaction (statement_calls d who turn (suc k) ss ++ more) (statements_hold (suc k) ss more all))

    row_holds : (flag : Bool) → AllHoldOn who ((if flag then Execute (Locks (Marked who)) ∷ [] else []) ++ Commit ∷ [])
    row_holds true = (inl refl, (tt, tt))
    row_holds false = (tt, tt)

    pub turn_holds : AllHoldOn who (turn_calls d who turn)
    turn_holds = by turn.in_transaction where
      by : (whole : Bool) → AllHoldOn who (if whole then Begin ∷ statement_calls d who turn 1 turn.statements ++ row_calls d who turn else statement_calls d who turn 1 turn.statements ++ Begin ∷ row_calls d who turn)
      by true = (tt, statements_hold 1 turn.statements (row_calls d who turn) (tt, row_holds (list_any (λ s. not turn.in_transaction || commits_itself d s) turn.statements)))
      by false = statements_hold 1 turn.statements (Begin ∷ row_calls d who turn) (tt, (tt, row_holds (list_any (λ s. not turn.in_transaction || commits_itself d s) turn.statements)))

  pub inserts_hold : (rows : List Tracked) → AllHoldOn who (map (λ r. Execute (Rows (Inserted r))) rows ++ Commit ∷ [])
  inserts_hold [] = (tt, tt)
  inserts_hold (row ∷ rows) = (tt, inserts_hold rows)

module _ {Key : Type 0} (d : Dialect) (m : Meaning Key) (stamp : Stamp) where
  set_holds : (o : Option Turn) (c : Contents) → AllHoldOn stamp.who (calls_of_turn d m stamp o c)
  set_holds None c = tt
  set_holds (Some turn) c = made_hold d stamp.who (turn_calls d stamp.who turn) c (turn_holds d stamp.who turn)

  unless_holds : (o : Option Stop) (calls : List Call) → AllHoldOn stamp.who calls → AllHoldOn stamp.who (calls_unless o calls)
  unless_holds None calls all = all
  unless_holds (Some stop) calls all = tt

  sets_hold : (xs : List (Set Key)) (c : Contents) → AllHoldOn stamp.who (sets_calls d m stamp xs c)
  sets_hold [] c = tt
  sets_hold (x ∷ xs) c = all_both d stamp.who (set_calls d m stamp x c) (calls_unless (settle d m stamp.reading x c).stop (sets_calls d m stamp xs (settle d m stamp.reading x c).contents)) (set_holds (turn_by d m stamp x c.rows (choice x c)) c)
      (unless_holds (settle d m stamp.reading x c).stop (sets_calls d m stamp xs (settle d m stamp.reading x c).contents) (sets_hold xs (settle d m stamp.reading x c).contents))

  goes_hold : (calls : List Call) (e : Ending) → AllHoldOn stamp.who calls → AllHoldOn stamp.who (calls_if_finished calls e)
  goes_hold calls (Finished c) all = all
  goes_hold calls (Refused c refusal) all = tt

  rows_hold : (turns : List Turn) (c : Contents) → AllHoldOn stamp.who (turns_made d stamp.who turns c)
  rows_hold [] c = tt
  rows_hold (turn ∷ turns) c = all_both d stamp.who (made d (turn_calls d stamp.who turn) c) (calls_if_finished (turns_made d stamp.who turns (contents_in (ending d turn c))) (ending d turn c)) (made_hold d stamp.who (turn_calls d stamp.who turn) c (turn_holds d stamp.who turn))
      (goes_hold (turns_made d stamp.who turns (contents_in (ending d turn c))) (ending d turn c) (rows_hold turns (contents_in (ending d turn c))))

  turns_hold : (turns : Turns Key) (c : Contents) → AllHoldOn stamp.who (turns_calls d m stamp turns c)
  turns_hold (OfSets xs) c = sets_hold xs c
  turns_hold (OfRows turns) c = rows_hold turns c
  turns_hold NoMore c = tt

  -- before its first turn, and with a turn in hand
  pub inside_keeps : (calls : List Call) (goes_on : Bool) (turns : Turns Key) (x : Both) → AllHoldOn stamp.who calls → KeepsLock stamp.who (rest d m stamp (Inside calls goes_on turns) x)
  inside_keeps calls goes_on turns x all =
      let left = turns_calls d m stamp (if_goes_on (are_accepted d calls x.1 || goes_on) turns) (went d calls x).0 in
      record {
        front = made d calls x.1 ++ left;
        is = refl;
        holds = all_both d stamp.who (made d calls x.1) left (made_hold d stamp.who calls x.1 all) (turns_hold (if_goes_on (are_accepted d calls x.1 || goes_on) turns) (went d calls x).0);
      }

  pub between_keeps : (turns : Turns Key) (x : Both) → KeepsLock stamp.who (rest d m stamp (between turns) x)
  between_keeps turns x = inside_keeps [] true turns x tt
