-- The entries of an update's turns in postgresql.
use Rattle.std.proofs.Common.{ap, inl, inr, subst, sym, ◌∙◌}
use Rattle.std.proofs.lemmas.List.{append-nil, append_assoc, append_cancel_left}
use Rattle.std.specs.List.{list_all, list_any}
use Rattle.std.specs.Prelude.{Bool, Err, List, None, Ok, Option, Some, [], false, if◌then◌else◌, map, refl, suc, true, ℕ, ◌++◌, ◌∷◌, ◌≡◌, ◌⊎◌}
use Rattle.lq_base.specs.declared.dialect.Dialect.TheVariants.{Postgresql}
use Rattle.lq_base.specs.declared.run.Did.{Did}
use Rattle.lq_base.specs.declared.run.Why.{Why}
use Rattle.lq_model.proofs.Lists.{all-append, and_left, and_right, or_left, or_right}
use Rattle.lq_model.specs.Script.{if_any}
use Rattle.lq_model.specs.Sound.{IsSound}
use Rattle.lq_model.specs.declared.statement.Statement.{Statement}
use Rattle.lq_turns.specs.Stops.{are_twins, is_twin, FrontsAreTurns, IsFront, IsIdle, all_at, runs_whole}
use Rattle.lq_turns.specs.Deed.{Contents, contents_of, with_contents, contents_after, if_accepted, locked_after}
use Rattle.lq_turns.specs.Session.{accepted_by, are_accepted, Session, accepted, all_called, executed_as}
use Rattle.lq_turns.specs.Script.{calls_of_turn, calls_unless, set_calls, sets_calls, turn_by}
use Rattle.lq_turns.specs.Set.{IsKept, Meaning, Set, not_fresh}
use Rattle.lq_turns.specs.Settle.{Settled, all_settled, choice, choice_of, did_of, fill_turn, followed, mark_turn, run_turn, settle, settled_as, settled_by, tested, what}
use Rattle.lq_turns.specs.declared.call.Call.TheVariants.{Begin, Commit, Execute}
use Rattle.lq_turns.specs.declared.choice.Choice.{Choice}
use Rattle.lq_turns.specs.declared.choice.Choice.TheVariants.{Fills, Halts, Marks, Passes, Runs, Skips}
use Rattle.lq_turns.specs.declared.choice.What.{What}
use Rattle.lq_turns.specs.declared.choice.What.TheVariants.{Again, Fill, New}
use Rattle.lq_turns.specs.declared.deed.Deed.{Deed}
use Rattle.lq_turns.specs.declared.deed.Deed.TheVariants.{Locks, Rows, Users}
use Rattle.lq_turns.specs.declared.deed.OnLock.TheVariants.{Marked}
use Rattle.lq_turns.specs.declared.stamp.Stamp.{Stamp}
use Rattle.lq_turns.specs.declared.stop.Stop.{Stop}
use Rattle.lq_turns.specs.declared.turn.Turn.{Turn}
use Rattle.lq_turns.specs.Turn.{Ending, Finished, Refused, ending, is_marked, made, made_on, row_calls, statement_calls, turn_calls}
use Rattle.lq_turns.proofs.FirstRuns.{tested_by}
use Rattle.lq_turns.proofs.GoesOn.{tests_kept}
use Rattle.lq_turns.proofs.Locked.{all_any, is_other, no_locks}
use Rattle.lq_turns.proofs.Made.{At, calls_both}
use Rattle.lq_turns.proofs.Entered.{accepted_is, is_finished}
use Rattle.lq_turns.proofs.TurnLeft.{twice}
use Rattle.lq_turns.proofs.Updates.{run_is, settled_is, sound_by, taken_by}

-- a transaction of some deeds

abbrev pub entry_if : Bool → List Deed → List Deed
entry_if true deeds = deeds
entry_if false deeds = []

pub record Wrote (s t : Session) (more : List (List Deed)) : Type 0 where
  pub entries : t.entries ≡ s.entries ++ more
  pub begun : t.begun ≡ []

plain : (deeds : List Deed) (c : Contents) (s : Session) → contents_of s.seen ≡ c
    → Wrote s (all_called Postgresql (made Postgresql (map Execute deeds ++ Commit ∷ []) c) s) (if_any (entry_if (are_accepted Postgresql (map Execute deeds ++ Commit ∷ []) c) (s.begun ++ deeds)))
plain [] c s at = record { entries = ap (λ ds. s.entries ++ if_any ds) (sym (append-nil s.begun)); begun = refl }
plain (deed ∷ deeds) c s at =
    subst (λ x. Wrote s (all_called Postgresql (made_on (made Postgresql (map Execute deeds ++ Commit ∷ [])) (contents_after Postgresql deed c)) (executed_as Postgresql deed s (if_accepted (with_contents (locked_after deed s.seen)) (contents_after Postgresql deed x))))
    (if_any (entry_if (accepted_by Postgresql (are_accepted Postgresql (map Execute deeds ++ Commit ∷ [])) (contents_after Postgresql deed c)) (s.begun ++ deed ∷ deeds)))) (sym at)
    (elim (contents_after Postgresql deed c) as (λ r. Wrote s (all_called Postgresql (made_on (made Postgresql (map Execute deeds ++ Commit ∷ [])) r) (executed_as Postgresql deed s (if_accepted (with_contents (locked_after deed s.seen)) r)))
    (if_any (entry_if (accepted_by Postgresql (are_accepted Postgresql (map Execute deeds ++ Commit ∷ [])) r) (s.begun ++ deed ∷ deeds)))) [
      | Ok now ↦
          let more = plain deeds now (accepted Postgresql deed (with_contents (locked_after deed s.seen) now) s) refl in
          let same = ap (λ ds. s.entries ++ if_any (entry_if (are_accepted Postgresql (map Execute deeds ++ Commit ∷ []) now) ds)) (append_assoc s.begun (deed ∷ []) deeds) in
          record { entries = more.entries ∙ same; begun = more.begun }
      | Err reason ↦ record { entries = sym (append-nil s.entries); begun = refl }
    ])

none_marked : (turn : Turn) (ss : List Statement) → list_any (is_marked Postgresql (record turn { in_transaction = true })) ss ≡ false
none_marked turn [] = refl
none_marked turn (s ∷ ss) = none_marked turn ss

module _ (who : List ℕ) (turn : Turn) where
  abbrev pub deeds_of : List Statement → List Deed
  deeds_of ss = map Users ss ++ Rows turn.row ∷ []

  pub others_of : (ss : List Statement) → list_all is_other (deeds_of ss) ≡ true
  others_of [] = refl
  others_of (s ∷ ss) = others_of ss

  plain_calls : (k : ℕ) (ss : List Statement) → statement_calls Postgresql who (record turn { in_transaction = true }) k ss ++ row_calls Postgresql who (record turn { in_transaction = true }) ≡ map Execute (deeds_of ss) ++ Commit ∷ []
  plain_calls k [] = ap (λ b. Execute (Rows turn.row) ∷ ((if b then Execute (Locks (Marked who)) ∷ [] else []) ++ Commit ∷ [])) (none_marked turn turn.statements)
  plain_calls k (s ∷ ss) = ap (λ calls. Execute (Users s) ∷ calls) (plain_calls (suc k) ss)

  pub turn_wrote : (c : Contents) (s : Session) → contents_of s.seen ≡ c → s.begun ≡ [] → (whole : Bool) → whole ≡ true
      → Wrote s (all_called Postgresql (made Postgresql (turn_calls Postgresql who (record turn { in_transaction = whole })) c) s) (if_any (entry_if (are_accepted Postgresql (turn_calls Postgresql who (record turn { in_transaction = whole })) c) (deeds_of turn.statements)))
  turn_wrote c s at idle false is = Prim.cc
  turn_wrote c s at idle true is =
      subst (λ calls. Wrote s (all_called Postgresql (made Postgresql (Begin ∷ calls) c) s) (if_any (entry_if (are_accepted Postgresql (Begin ∷ calls) c) (deeds_of turn.statements)))) (sym (plain_calls 1 turn.statements))
      (let one = plain (deeds_of turn.statements) c (record s { is_open = true }) at in
      record { entries = one.entries ∙ ap (λ b. s.entries ++ if_any (entry_if (are_accepted Postgresql (map Execute (deeds_of turn.statements) ++ Commit ∷ []) c) (b ++ deeds_of turn.statements))) idle; begun = one.begun })

-- one changeset

module _ {Key : Type 0} (m : Meaning Key) (keeps : IsKept m) (stamp : Stamp) where
  abbrev settled_one : Set Key → Contents → Settled
  settled_one x c = settle Postgresql m stamp.reading x c

  -- it wrote one entry or none, without a deed on the lock, and none where it stops the command
  abbrev WroteOne : Set Key → Contents → Session → Choice → Type 0
  WroteOne x c s q = (ds : List Deed) × Wrote s (all_called Postgresql (calls_of_turn Postgresql m stamp (turn_by Postgresql m stamp x c.rows q) c) s) (if_any ds) × (((settled_by Postgresql m stamp.reading x c q).stop ≡ None) ⊎ (ds ≡ [])) × (list_all is_other ds ≡ true)

  none_wrote : (s : Session) → s.begun ≡ [] → Wrote s s []
  none_wrote s idle = record { entries = sym (append-nil s.entries); begun = idle }

  stop_or_none : (x : Set Key) (what : Did) (why : Option Why) (n : ℕ) (e : Ending) (deeds : List Deed) → ((settled_as x what why n e).stop ≡ None) ⊎ (entry_if (is_finished e) deeds ≡ [])
  stop_or_none x what why n (Finished c) deeds = inl refl
  stop_or_none x what why n (Refused c refusal) deeds = inr refl

  turn_one : (turn : Turn) (c : Contents) (s : Session) → IsIdle s c → turn.in_transaction ≡ true
      → Wrote s (all_called Postgresql (made Postgresql (turn_calls Postgresql stamp.who turn) c) s) (if_any (entry_if (is_finished (ending Postgresql turn c)) (deeds_of stamp.who turn turn.statements)))
  turn_one turn c s idle whole =
      let one = turn_wrote stamp.who turn c s idle.seen idle.begun turn.in_transaction whole in
      record { entries = one.entries ∙ ap (λ b. s.entries ++ if_any (entry_if b (deeds_of stamp.who turn turn.statements))) (accepted_is Postgresql stamp.who turn c); begun = one.begun }

  abbrev its_deeds : Turn → Contents → List Deed
  its_deeds turn c = entry_if (is_finished (ending Postgresql turn c)) (deeds_of stamp.who turn turn.statements)

  others_if : (b : Bool) (deeds : List Deed) → list_all is_other deeds ≡ true → list_all is_other (entry_if b deeds) ≡ true
  others_if true deeds all = all
  others_if false deeds all = refl

  its_others : (turn : Turn) (c : Contents) → list_all is_other (its_deeds turn c) ≡ true
  its_others turn c = others_if (is_finished (ending Postgresql turn c)) (deeds_of stamp.who turn turn.statements) (others_of stamp.who turn turn.statements)

  -- what runs is one transaction
  abbrev IsWhole : Set Key → Choice → Type 0
  IsWhole x (Runs w why) = x.in_transaction ≡ true
  IsWhole x _ = Unit {0}

  tested_whole : (x : Set Key) (c : Contents) (w : What) → x.in_transaction ≡ true → IsWhole x (tested w x.condition (x.condition.told c))
  tested_whole x c w is = tested_by w (IsWhole x) (λ why. is) (λ why. tt) tt tt x.condition (x.condition.told c)

  whole_by : (x : Set Key) (c : Contents) (o : Option What) → runs_whole x o ≡ true → IsWhole x (choice_of x c o)
  whole_by x c None is = tt
  whole_by x c (Some Fill) is = tt
  whole_by x c (Some New) is = tested_whole x c New is
  whole_by x c (Some Again) is = tested_whole x c Again is

  one_wrote : (x : Set Key) (c : Contents) (s : Session) → IsIdle s c → list_all (m.is_for Postgresql) x.changes ≡ true → IsSound Postgresql c.users → (q : Choice) → IsWhole x q → WroteOne x c s q
  one_wrote x c s idle read sound Passes whole = ([], none_wrote s idle.begun, inr refl, refl)
  one_wrote x c s idle read sound Skips whole = ([], none_wrote s idle.begun, inr refl, refl)
  one_wrote x c s idle read sound (Halts why) whole = ([], none_wrote s idle.begun, inr refl, refl)
  one_wrote x c s idle read sound Fills whole = (its_deeds (fill_turn x) c, turn_one (fill_turn x) c s idle refl, inl refl, its_others (fill_turn x) c)
  one_wrote x c s idle read sound (Marks w) whole = (its_deeds (mark_turn stamp.reading w x c.rows) c, turn_one (mark_turn stamp.reading w x c.rows) c s idle refl, stop_or_none x _ None 0 (ending Postgresql (mark_turn stamp.reading w x c.rows) c) _, its_others (mark_turn stamp.reading w x c.rows) c)
  one_wrote x c s idle read sound (Runs w why) whole = (
    its_deeds (run_turn Postgresql m stamp.reading w x c.rows) c,
    turn_one (run_turn Postgresql m stamp.reading w x c.rows) c s idle whole,
    subst (λ e. ((settled_as x (did_of w) why (not_fresh Postgresql m x.changes c.users) e).stop ≡ None) ⊎ (its_deeds (run_turn Postgresql m stamp.reading w x c.rows) c ≡ []))
        (sym (run_is Postgresql m keeps stamp x (run_turn Postgresql m stamp.reading w x c.rows) c refl read sound)) (stop_or_none x (did_of w) why _ (ending Postgresql (run_turn Postgresql m stamp.reading w x c.rows) c) _),
    its_others (run_turn Postgresql m stamp.reading w x c.rows) c,
  )

  -- all of them

  abbrev after_one : Set Key → Contents → Session → Session
  after_one x c s = all_called Postgresql (set_calls Postgresql m stamp x c) s

  still_idle : (x : Set Key) (c : Contents) (s : Session) → IsIdle s c → list_all (m.is_for Postgresql) x.changes ≡ true → IsSound Postgresql c.users → (after_one x c s).begun ≡ [] → IsIdle (after_one x c s) (settled_one x c).contents
  still_idle x c s idle read sound begun =
      let at = subst (λ (e : Contents). At (after_one x c s) (twice e)) (sym (settled_is Postgresql m keeps stamp x c (choice x c) read sound)) (taken_by Postgresql m keeps stamp (turn_by Postgresql m stamp x c.rows (choice x c)) c s (record { committed = idle.committed; seen = idle.seen })) in
      record { committed = at.committed; seen = at.seen; begun = begun }

  pub record Fronts (xs : List (Set Key)) (c : Contents) (s : Session) : Type 0 where
    pub all : List (List Deed)
    pub others : no_locks all ≡ true
    pub wrote : (all_called Postgresql (sets_calls Postgresql m stamp xs c) s).entries ≡ s.entries ++ all
    pub idle : (all_called Postgresql (sets_calls Postgresql m stamp xs c) s).begun ≡ []
    pub fronts : (front rest : List (List Deed)) → all ≡ front ++ rest → IsFront m stamp xs c s front

  empty_front : (xs : List (Set Key)) (c : Contents) (s : Session) → IsFront m stamp xs c s []
  empty_front xs c s = record { turns = []; rest = xs; are = refl; goes_on = refl; entries = sym (append-nil s.entries) }

  no_front : (xs : List (Set Key)) (c : Contents) (s : Session) (front rest : List (List Deed)) → (let none : List (List Deed) = [] in none) ≡ front ++ rest → IsFront m stamp xs c s front
  no_front xs c s [] rest is = empty_front xs c s
  no_front xs c s (e ∷ front) rest is = Prim.cc

  -- a front of what comes after a changeset
  after_front : (x : Set Key) (xs : List (Set Key)) (c : Contents) (s : Session) (first : List (List Deed)) (front : List (List Deed)) → (settled_one x c).stop ≡ None → (after_one x c s).entries ≡ s.entries ++ first
      → IsFront m stamp xs (settled_one x c).contents (after_one x c s) front → IsFront m stamp (x ∷ xs) c s (first ++ front)
  after_front x xs c s first front stop wrote is = record {
    turns = x ∷ is.turns;
    rest = is.rest;
    are = ap (λ ys. x ∷ ys) is.are;
    goes_on = ap (λ o. (followed o (settled_one x c) (all_settled Postgresql m stamp.reading is.turns)).stop) stop ∙ is.goes_on;
    entries =
        ap (λ (t : Session). t.entries) (calls_both Postgresql (set_calls Postgresql m stamp x c) (calls_unless (settled_one x c).stop (sets_calls Postgresql m stamp is.turns (settled_one x c).contents)) s)
        ∙ ap (λ o. (all_called Postgresql (calls_unless o (sets_calls Postgresql m stamp is.turns (settled_one x c).contents)) (after_one x c s)).entries) stop
        ∙ is.entries ∙ ap (λ es. es ++ front) wrote ∙ append_assoc s.entries first front;
  }

  more_fronts : (x : Set Key) (xs : List (Set Key)) (c : Contents) (s : Session) (ds : List Deed) (all : List (List Deed)) → (settled_one x c).stop ≡ None → (after_one x c s).entries ≡ s.entries ++ if_any ds
      → ((front rest : List (List Deed)) → all ≡ front ++ rest → IsFront m stamp xs (settled_one x c).contents (after_one x c s) front)
      → (front rest : List (List Deed)) → if_any ds ++ all ≡ front ++ rest → IsFront m stamp (x ∷ xs) c s front
  more_fronts x xs c s ds all stop wrote more [] rest is = empty_front (x ∷ xs) c s
  more_fronts x xs c s [] all stop wrote more (e ∷ front) rest is = after_front x xs c s [] (e ∷ front) stop wrote (more (e ∷ front) rest is)
  more_fronts x xs c s (d ∷ ds) all stop wrote more (e ∷ front) rest is =
      let same : (d ∷ ds) ≡ e = Prim.cc in
      let others : all ≡ front ++ rest = Prim.cc in
      subst (λ o. IsFront m stamp (x ∷ xs) c s (o ∷ front)) same (after_front x xs c s ((d ∷ ds) ∷ []) front stop wrote (more front rest others))

  nothing_at : (o : Option Stop) (halt : Stop) (ds : List Deed) → o ≡ Some halt → ((o ≡ None) ⊎ (ds ≡ [])) → ds ≡ []
  nothing_at o halt ds stop (inl none) = Prim.cc
  nothing_at o halt ds stop (inr empty) = empty

  pub all_fronts : (xs : List (Set Key)) (c : Contents) (s : Session) → IsIdle s c → IsSound Postgresql c.users → list_all (λ (x : Set Key). list_all (m.is_for Postgresql) x.changes) xs ≡ true → are_twins xs ≡ false → all_at runs_whole xs c.rows ≡ true → Fronts xs c s
  all_fronts [] c s idle sound read apart whole = record { all = []; others = refl; wrote = sym (append-nil s.entries); idle = idle.begun; fronts = no_front [] c s }
  all_fronts (x ∷ xs) c s idle sound read apart whole =
      let first = and_left _ (list_all (λ (y : Set Key). list_all (m.is_for Postgresql) y.changes) xs) read in
      let one = one_wrote x c s idle first sound (choice x c) (whole_by x c (what x c.rows) (and_left _ (all_at runs_whole xs c.rows) whole)) in
      let kept = subst (λ (e : Contents). IsSound Postgresql e.users) (sym (settled_is Postgresql m keeps stamp x c (choice x c) first sound)) (sound_by Postgresql m keeps stamp x c (choice x c) first sound) in
      let more = all_fronts xs (settled_one x c).contents (after_one x c s) (still_idle x c s idle first sound one.1.begun) kept (and_right (list_all (m.is_for Postgresql) x.changes) _ read) (or_right (list_any (is_twin x) xs) _ apart)
      (tests_kept Postgresql m keeps stamp runs_whole x xs c first sound (or_left (list_any (is_twin x) xs) _ apart) ∙ and_right (runs_whole x (what x c.rows)) _ whole) in
      let split = calls_both Postgresql (set_calls Postgresql m stamp x c) (calls_unless (settled_one x c).stop (sets_calls Postgresql m stamp xs (settled_one x c).contents)) s in
      let both = ap (λ (t : Session). t.entries) split in
      let begun = ap (λ (t : Session). t.begun) split in
      (elim (settled_one x c).stop as (λ o. (settled_one x c).stop ≡ o → Fronts (x ∷ xs) c s) [
        | None ↦ λ stop. record {
          all = if_any one.0 ++ more.all;
          others = all-append (list_all is_other) (if_any one.0) more.all (all_any is_other one.0 one.3) more.others;
          wrote = both ∙ ap (λ o. (all_called Postgresql (calls_unless o (sets_calls Postgresql m stamp xs (settled_one x c).contents)) (after_one x c s)).entries) stop ∙ more.wrote ∙ ap (λ es. es ++ more.all) one.1.entries ∙ append_assoc s.entries (if_any one.0) more.all;
          idle = begun ∙ ap (λ o. (all_called Postgresql (calls_unless o (sets_calls Postgresql m stamp xs (settled_one x c).contents)) (after_one x c s)).begun) stop ∙ more.idle;
          fronts = more_fronts x xs c s one.0 more.all stop one.1.entries more.fronts;
        }
        | Some halt ↦ λ stop. record {
          all = [];
          others = refl;
          wrote = both ∙ ap (λ o. (all_called Postgresql (calls_unless o (sets_calls Postgresql m stamp xs (settled_one x c).contents)) (after_one x c s)).entries) stop ∙ one.1.entries ∙ ap (λ ds. s.entries ++ if_any ds) (nothing_at (settled_one x c).stop halt one.0 stop one.2);
          idle = begun ∙ ap (λ o. (all_called Postgresql (calls_unless o (sets_calls Postgresql m stamp xs (settled_one x c).contents)) (after_one x c s)).begun) stop ∙ one.1.begun;
          fronts = no_front (x ∷ xs) c s;
        }
      ]) refl

pub fronts_are_turns : {Key : Type 0} (m : Meaning Key) → IsKept m → FrontsAreTurns m
fronts_are_turns m keeps stamp xs c s front rest idle sound read apart whole is =
    let all = all_fronts m keeps stamp xs c s idle sound read apart whole in
    all.fronts front rest (append_cancel_left s.entries all.all (front ++ rest) (sym all.wrote ∙ is))
