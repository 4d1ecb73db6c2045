-- Trails of updates, repairs and releases in MySQL: at each stop whole turns stand, or a part that the mark names.
use Rattle.std.proofs.Common.{ap, arith, inl, inr, subst, sym, ◌∙◌}
use Rattle.std.proofs.lemmas.Bool.Decides.{nat_tests}
use Rattle.std.specs.List.{filter, last_or, list_all, list_any}
use Rattle.std.specs.Prelude.{Bool, List, None, Ok, Option, Result, Some, [], codes, false, if◌then◌else◌, is_none, is_some, length, nat_lt, not, pos, refl, suc, take, true, ℕ, ◌<◌, ◌==◌, ◌^◌, ◌&&◌, ◌++◌, ◌||◌, ◌∷◌, ◌≡◌, ◌⊎◌}
use Rattle.lq_base.specs.Name.{is_text, identity_text}
use Rattle.lq_base.specs.declared.dialect.Dialect.TheVariants.{Mysql}
use Rattle.lq_base.specs.declared.reason.Reason.{Reason}
use Rattle.lq_base.specs.declared.run.Did.{Did}
use Rattle.lq_base.specs.declared.run.Did.TheVariants as did
use Rattle.lq_base.specs.declared.run.Happened.{Happened}
use Rattle.lq_base.specs.declared.run.Why.{Why}
use Rattle.lq_base.specs.declared.tracking.Lock.{Lock}
use Rattle.lq_model.proofs.Lists.{all-append_right, and_left, and_right, and_true, any-append, named_itself, or_left, or_right}
use Rattle.lq_model.specs.Sound.{IsSound}
use Rattle.lq_model.specs.declared.statement.Statement.{Statement}
use Rattle.lq_reverse.specs.Back.{PartsBack}
use Rattle.lq_track.specs.Database.{Database}
use Rattle.lq_track.specs.Lock.{free, taken}
use Rattle.lq_turns.proofs.Marks.{last_or_both}
use Rattle.lq_turns.specs.Stops.{are_twins, has_own_sum, IsLeft, IsSteady, Journal, has_mark, is_mark, is_skip, joined}
use Rattle.lq_turns.specs.Deed.{Contents, contents_of, with_contents, all_done, lock_after}
use Rattle.lq_turns.specs.Set.{all_fresh, inverses, not_fresh, statements_of, Changelog, IsKept, Meaning, Set, has_row}
use Rattle.lq_turns.specs.Within.{holds_unless, keeps_nothing, keeps_nothing_by, IsBetween, IsWithin, UpdateFront, UpdateStands, gives_way, is_refused, is_turn_refused, marks_last, none_gives_way}
use Rattle.lq_turns.specs.Laws.{AreRead, IsAtRest}
use Rattle.lq_turns.specs.Script.{closing, has_work, release_calls, turn_by, update_calls}
use Rattle.lq_turns.specs.Session.{all_called, left_by, session_on}
use Rattle.lq_turns.specs.Settle.{Settled, all_settled, by_own, choice, choice_of, did_of, fill_turn, followed, is_halt, mark_turn, run_ending, run_turn, settle, settled_as, settled_by, tested, updated, what}
use Rattle.lq_turns.specs.Turn.{Ending, Finished, Refused, contents_in, course, ending}
use Rattle.lq_turns.specs.declared.choice.Choice.{Choice}
use Rattle.lq_turns.specs.declared.choice.Choice.TheVariants.{Fills, Halts, Marks, Passes, Runs, Skips}
use Rattle.lq_turns.specs.declared.choice.What.{What}
use Rattle.lq_turns.specs.declared.choice.What.TheVariants.{Again, Fill, New}
use Rattle.lq_turns.specs.declared.deed.Deed.{Deed}
use Rattle.lq_turns.specs.declared.deed.Deed.TheVariants.{Locks}
use Rattle.lq_turns.specs.declared.deed.OnLock.TheVariants.{Freed}
use Rattle.lq_turns.specs.declared.call.Call.{Call}
use Rattle.lq_turns.specs.declared.stamp.Stamp.{Stamp}
use Rattle.lq_turns.specs.declared.stop.Stop.{Stop}
use Rattle.lq_turns.specs.declared.turn.Turn.{Turn}
use Rattle.lq_turns.proofs.FirstRuns.{Unmoved, course_unmoved, new_at, tested_by}
use Rattle.lq_turns.proofs.GoesOn.{Same, skips, still}
use Rattle.lq_turns.proofs.Journal.{joined_both, same_ok}
use Rattle.lq_turns.proofs.Locked.{entries_leave, led_both}
use Rattle.lq_turns.proofs.Stands.{update_fronts}
use Rattle.lq_turns.proofs.Stays.{IsCalm, all_sound, stays_calm}
use Rattle.lq_turns.proofs.Updates.{rests_on, run_is, stopped_is, update_rests}
use Rattle.laws_repair.specs.Repair.{AreMended, Mark, MendsAt, UpdateMends, all_fit, by_of, fits, is_first_time, is_named_so, marked_set, the_only, IsPartly, IsWhole, RunsFirst, marked_text, repair_calls, standing}
use Rattle.laws_repair.proofs.Marked.{is_read, no_mark_plain, parts_told, text_of}
use Rattle.laws_repair.proofs.Repaired.{repair_leaves}
use Rattle.laws_repair.proofs.Through.{holds_through, idle, through_kept, through_rest}
use Rattle.laws_repair.proofs.Unlocked.{Waits, entries_as, locked_as, set_or_waits, work_frees}
use Rattle.laws_repair.proofs.Updates.{partly_by}

true_false : {A : Type 0} → true ≡ false → A
true_false is = Prim.cc

none_some : {A B : Type 0} {x : B} → (let o : Option B = None in o) ≡ Some x → A
none_some is = Prim.cc

some_same : {B : Type 0} {x y : B} → (let o : Option B = Some x in o) ≡ Some y → x ≡ y
some_same is = Prim.cc

some_of : {B : Type 0} (o : Option B) → is_some o ≡ true → (x : B) × (o ≡ Some x)
some_of None is = Prim.cc
some_of (Some x) is = (x, refl)

never : {A : Type 0} (lock : Lock) → lock.locked ≡ false → lock.locked ≡ true → A
never lock is held = true_false (sym held ∙ is)

and_none : (b : Bool) → (b && false) ≡ false
and_none true = refl
and_none false = refl

-- the last deed

last_anew : (deeds : List Deed) (o : Option Deed) (database now : Database) → database.lock.locked ≡ false → all_done Mysql deeds database ≡ Ok now → now.lock.locked ≡ true → last_or None deeds ≡ last_or o deeds
last_anew [] o database now unlocked led held = never database.lock unlocked (ap (λ (e : Database). e.lock.locked) (same_ok Mysql led) ∙ held)
last_anew (deed ∷ deeds) o database now unlocked led held = refl

-- places

place_below : (pre : List Statement) (s : Statement) (post : List Statement) → length pre < length (pre ++ s ∷ post)
place_below [] s post = grind (arith)
place_below (x ∷ pre) s post = grind (arith, place_below pre s post)

take_front : (first rest : List Statement) → take (length first) (first ++ rest) ≡ first
take_front [] rest = by rest where
  by : (rest : List Statement) → take 0 rest ≡ []
  by [] = refl
  by (s ∷ rest) = refl
take_front (s ∷ first) rest = ap (λ ss. s ∷ ss) (take_front first rest)

nothing_in : {A : Type 0} (before : List Statement) (s : Statement) (after : List Statement) → [] ≡ before ++ s ∷ after → A
nothing_in [] s after is = Prim.cc
nothing_in (x ∷ before) s after is = Prim.cc

-- the one changeset that passes a test

module _ {B : Type 0} (p : B → Bool) where
  abbrev pick : B → List B → Bool → List B
  pick y ys b = if b then y ∷ filter p ys else filter p ys

  found : {A : Type 0} (xs : List B) (x : B) (ys : List B) → p x ≡ true → filter p (xs ++ x ∷ ys) ≡ [] → A
  found [] x ys is none = empty (sym (ap (pick x ys) is) ∙ none) where
    empty : {A : Type 0} → x ∷ filter p ys ≡ [] → A
    empty q = Prim.cc
  found (y ∷ xs) x ys is none = by (p y) (λ q. found xs x ys is q) none where
    by : {A : Type 0} (b : Bool) → (filter p (xs ++ x ∷ ys) ≡ [] → A) → pick y (xs ++ x ∷ ys) b ≡ [] → A
    by true more q = Prim.cc
    by false more q = more q

only_one : {Key : Type 0} (p : Set Key → Bool) (xs : List (Set Key)) (x : Set Key) (ys : List (Set Key)) → p x ≡ true → is_some (the_only (filter p (xs ++ x ∷ ys))) ≡ true → the_only (filter p (xs ++ x ∷ ys)) ≡ Some x
only_one {Key} p [] x ys is some = by (filter p ys) (ap the_only (ap (pick p x ys) is)) some where
  by : (zs : List (Set Key)) → the_only (filter p (x ∷ ys)) ≡ the_only (x ∷ zs) → is_some (the_only (filter p (x ∷ ys))) ≡ true → the_only (filter p (x ∷ ys)) ≡ Some x
  by [] at some = at
  by (z ∷ zs) at some = true_false (sym some ∙ ap is_some at)
only_one {Key} p (y ∷ xs) x ys is some = by (p y) (only_one p xs x ys is) some where
  here : (zs : List (Set Key)) → filter p (xs ++ x ∷ ys) ≡ zs → is_some (the_only (y ∷ zs)) ≡ true → the_only (y ∷ zs) ≡ Some x
  here [] at some = found p xs x ys is at
  here (z ∷ zs) at some = Prim.cc

  by : (b : Bool) → (is_some (the_only (filter p (xs ++ x ∷ ys))) ≡ true → the_only (filter p (xs ++ x ∷ ys)) ≡ Some x) → is_some (the_only (pick p y (xs ++ x ∷ ys) b)) ≡ true → the_only (pick p y (xs ++ x ∷ ys) b) ≡ Some x
  by true more some = here (filter p (xs ++ x ∷ ys)) refl some
  by false more some = more some

module _ {Key : Type 0} (m : Meaning Key) (keeps : IsKept m) (stamp : Stamp) (sets : List (Set Key)) where
  abbrev after : List (Set Key) → Contents → Settled
  after xs c = all_settled Mysql m stamp.reading xs c

  abbrev test : Set Key → Contents → Bool
  test = fits m stamp sets

  abbrev others : Set Key → Contents → Bool
  others x c = is_none x.rollback && (is_some (inverses Mysql m x.changes) && (all_fresh Mysql m x.changes c.users && (keeps_nothing_by Mysql m stamp x c (choice x c) && (x.here && (is_some (marked_set (identity_text x.identity) c.rows sets) && nat_lt (length (statements_of Mysql m x.changes)) (2 ^ 64))))))

  test_none : (x : Set Key) (c : Contents) → what x c.rows ≡ None → test x c ≡ true
  test_none x c is = ap (λ w. is_first_time w && (not (is_some w) || others x c)) is

  test_others : (x : Set Key) (c : Contents) (w : What) → what x c.rows ≡ Some w → test x c ≡ true → others x c ≡ true
  test_others x c w is fit = sym (ap (λ w. not (is_some w) || others x c) is) ∙ and_right (is_first_time (what x c.rows)) _ fit

  fit_through : (xs : List (Set Key)) (c : Contents) → all_fit m stamp sets xs c ≡ holds_through Mysql m keeps stamp test xs c
  fit_through [] c = refl
  fit_through (x ∷ xs) c = ap (λ b. test x c && holds_unless (settle Mysql m stamp.reading x c).stop b) (fit_through xs (settle Mysql m stamp.reading x c).contents)

  -- none gives way where none is skipped

  one_end : (x : Set Key) (made : Did) (why : Option Why) (n : ℕ) (e : Ending) → skips (settled_as x made why n e) ≡ false → (not x.fail_on_error && is_refused e) ≡ false
  one_end x made why n (Finished c) skip = and_none (not x.fail_on_error)
  one_end x made why n (Refused c refusal) skip = by x.fail_on_error skip where
    by : (b : Bool) → skips (settled_as (record x { fail_on_error = b }) made why n (Refused c refusal)) ≡ false → (not b && true) ≡ false
    by true skip = refl
    by false skip = true_false skip

  one_gives : (x : Set Key) (c : Contents) (q : Choice) → list_all (m.is_for Mysql) x.changes ≡ true → IsSound Mysql c.users → skips (settled_by Mysql m stamp.reading x c q) ≡ false
      → (not x.fail_on_error && is_turn_refused Mysql (turn_by Mysql m stamp x c.rows q) c) ≡ false
  one_gives x c Passes read sound skip = and_none (not x.fail_on_error)
  one_gives x c Skips read sound skip = and_none (not x.fail_on_error)
  one_gives x c (Halts why) read sound skip = and_none (not x.fail_on_error)
  one_gives x c Fills read sound skip = and_none (not x.fail_on_error)
  one_gives x c (Marks w) read sound skip = one_end x did.Marked None 0 (ending Mysql (mark_turn stamp.reading w x c.rows) c) skip
  one_gives x c (Runs w why) read sound skip =
      subst (λ e. (not x.fail_on_error && is_refused e) ≡ false) (run_is Mysql m keeps stamp x (run_turn Mysql m stamp.reading w x c.rows) c refl read sound)
      (one_end x (did_of w) why (not_fresh Mysql m x.changes c.users) (run_ending Mysql m stamp.reading (run_turn Mysql m stamp.reading w x c.rows) x c) skip)

  none_gives : (xs : List (Set Key)) (c : Contents) → AreRead Mysql m xs → IsSound Mysql c.users → skips (after xs c) ≡ false → none_gives_way Mysql m stamp xs c ≡ true
  none_gives [] c read sound skip = refl
  none_gives (x ∷ xs) c read sound skip =
      let first = and_left (list_all (m.is_for Mysql) x.changes) _ read in
      let s = settle Mysql m stamp.reading x c in
      let more : AreRead Mysql m xs = and_right (list_all (m.is_for Mysql) x.changes) _ read in
      let both = (elim s.stop as (λ o. skips (followed o s (after xs)) ≡ false → (skips s ≡ false) × (holds_unless o (none_gives_way Mysql m stamp xs s.contents) ≡ true)) [
        | None ↦ λ q.
            let parts = sym (any-append (λ (h : Happened). is_skip h.what) s.happened (after xs s.contents).happened) ∙ q in
            (or_left (skips s) _ parts, none_gives xs s.contents more (still Mysql m keeps stamp x c first sound) (or_right (skips s) _ parts))
        | Some halt ↦ λ q. (q, refl)
      ]) skip in
      and_true (not (gives_way Mysql m stamp x c)) _ (ap not (one_gives x c (choice x c) first sound both.0)) both.1

  -- what stops an update changes nothing

  end_stays : (x : Set Key) (turn : Turn) (c : Contents) (halt : Stop) (made : Did) (why : Option Why) (n : ℕ) (e : Ending) → (settled_as x made why n e).stop ≡ Some halt → keeps_nothing e ≡ true → Unmoved Mysql turn c e → contents_in e ≡ c
  end_stays x turn c halt made why n (Finished z) stop kept moved = none_some stop
  end_stays x turn c halt made why n (Refused z refusal) stop kept moved = moved kept

  one_stays : (x : Set Key) (c : Contents) (halt : Stop) (q : Choice) → list_all (m.is_for Mysql) x.changes ≡ true → IsSound Mysql c.users → (settled_by Mysql m stamp.reading x c q).stop ≡ Some halt
      → keeps_nothing_by Mysql m stamp x c q ≡ true → (settled_by Mysql m stamp.reading x c q).contents ≡ c
  one_stays x c halt Passes read sound stop kept = refl
  one_stays x c halt Skips read sound stop kept = refl
  one_stays x c halt (Halts why) read sound stop kept = refl
  one_stays x c halt Fills read sound stop kept = none_some stop
  one_stays x c halt (Marks w) read sound stop kept =
      let turn = mark_turn stamp.reading w x c.rows in
      stopped_is Mysql m keeps stamp x did.Marked None 0 (ending Mysql turn c)
      ∙ end_stays x turn c halt did.Marked None 0 (ending Mysql turn c) stop kept (course_unmoved Mysql turn c (course Mysql turn.statements c.users))
  one_stays x c halt (Runs w why) read sound stop kept =
      let turn = run_turn Mysql m stamp.reading w x c.rows in
      let e = run_ending Mysql m stamp.reading turn x c in
      let n = not_fresh Mysql m x.changes c.users in
      stopped_is Mysql m keeps stamp x (did_of w) why n e
      ∙ end_stays x turn c halt (did_of w) why n e stop kept (subst (Unmoved Mysql turn c) (sym (run_is Mysql m keeps stamp x turn c refl read sound)) (course_unmoved Mysql turn c (course Mysql turn.statements c.users)))

  stop_stays : (x : Set Key) (c : Contents) (halt : Stop) (w : Option What) → what x c.rows ≡ w → list_all (m.is_for Mysql) x.changes ≡ true → IsSound Mysql c.users → (settle Mysql m stamp.reading x c).stop ≡ Some halt → test x c ≡ true → (settle Mysql m stamp.reading x c).contents ≡ c
  stop_stays x c halt None is read sound stop fit = ap (λ (s : Settled). s.contents) (idle Mysql m keeps stamp test x c is)
  stop_stays x c halt (Some w) is read sound stop fit =
      let all = test_others x c w is fit in
      let kept = and_left (keeps_nothing_by Mysql m stamp x c (choice x c)) _ (and_right (all_fresh Mysql m x.changes c.users) _ (and_right (is_some (inverses Mysql m x.changes)) _ (and_right (is_none x.rollback) _ all))) in
      one_stays x c halt (choice x c) read sound stop kept

  record IsWholly (xs : List (Set Key)) (c : Contents) : Type 0 where
    turns : List (Set Key)
    rest : List (Set Key)
    are : xs ≡ turns ++ rest
    goes_on : (after turns c).stop ≡ None
    same : (after turns c).contents ≡ (after xs c).contents

  abbrev one_settled : Set Key → Contents → Settled
  one_settled x c = settle Mysql m stamp.reading x c

  wholly_by : (x : Set Key) (xs : List (Set Key)) (c : Contents) (o : Option Stop) → list_all (m.is_for Mysql) x.changes ≡ true → IsSound Mysql c.users → test x c ≡ true → (one_settled x c).stop ≡ o
      → (o ≡ None → IsWholly xs (one_settled x c).contents) → IsWholly (x ∷ xs) c
  wholly_by x xs c None read sound fit at more =
      let next = more refl in
      let s = one_settled x c in
      record {
        turns = x ∷ next.turns;
        rest = next.rest;
        are = ap (λ ys. x ∷ ys) next.are;
        goes_on = ap (λ o. (followed o s (after next.turns)).stop) at ∙ next.goes_on;
        same = ap (λ o. (followed o s (after next.turns)).contents) at ∙ next.same ∙ sym (ap (λ o. (followed o s (after xs)).contents) at);
      }
  wholly_by x xs c (Some halt) read sound fit at more =
      let s = one_settled x c in
      record {
        turns = [];
        rest = x ∷ xs;
        are = refl;
        goes_on = refl;
        same = sym (ap (λ o. (followed o s (after xs)).contents) at ∙ stop_stays x c halt (what x c.rows) refl read sound at fit);
      }

  -- so it leaves whole turns
  wholly : (xs : List (Set Key)) (c : Contents) → AreRead Mysql m xs → IsSound Mysql c.users → all_fit m stamp sets xs c ≡ true → IsWholly xs c
  wholly [] c read sound fit = record { turns = []; rest = []; are = refl; goes_on = refl; same = refl }
  wholly (x ∷ xs) c read sound fit =
      let first = and_left (list_all (m.is_for Mysql) x.changes) _ read in
      let s = one_settled x c in
      wholly_by x xs c s.stop first sound (and_left (test x c) _ fit) refl
      (λ none. wholly xs s.contents (and_right (list_all (m.is_for Mysql) x.changes) _ read) (still Mysql m keeps stamp x c first sound) (sym (ap (λ o. holds_unless o (all_fit m stamp sets xs s.contents)) none) ∙ and_right (test x c) _ fit))

  -- the changeset whose turn was begun

  record IsBegun (x : Set Key) (c : Contents) (turn : Turn) : Type 0 where
    runs : RunsFirst Mysql m x c
    is : turn ≡ run_turn Mysql m stamp.reading New x c.rows
    new : what x c.rows ≡ Some New

  module _ (x : Set Key) (c : Contents) (turn : Turn) (before : List Statement) (marked : Statement) (next : List Statement) (are : turn.statements ≡ before ++ marked ∷ next) (fit : test x c ≡ true) where
    bare_turn : {A : Type 0} (other : Turn) → other.statements ≡ [] → (let o : Option Turn = Some other in o) ≡ Some turn → A
    bare_turn other none is = nothing_in before marked next (sym none ∙ ap (λ (t : Turn). t.statements) (some_same is) ∙ are)

    begun : (w : Option What) → what x c.rows ≡ w → turn_by Mysql m stamp x c.rows (choice_of x c w) ≡ Some turn → is_first_time w ≡ true → IsBegun x c turn
    begun None at is first = none_some is
    begun (Some Fill) at is first = bare_turn (fill_turn x) refl is
    begun (Some Again) at is first = true_false (sym first)
    begun (Some New) at is first =
        (tested_by New (λ q. choice_of x c (Some New) ≡ q → turn_by Mysql m stamp x c.rows q ≡ Some turn → IsBegun x c turn)
        (λ why told by. runs why told (sym (some_same by)))
        (λ why told by. none_some by)
        (λ told by. none_some by)
        (λ told by. bare_turn (mark_turn stamp.reading New x c.rows) refl by)
        x.condition (x.condition.told c)) refl is where
          runs : (why : Option Why) → choice_of x c (Some New) ≡ Runs New why → turn ≡ run_turn Mysql m stamp.reading New x c.rows → IsBegun x c turn
          runs why told same =
              let all = and_right (is_none x.rollback) _ (test_others x c New at fit) in
              let undoing = some_of (inverses Mysql m x.changes) (and_left (is_some (inverses Mysql m x.changes)) _ all) in
              record {
                runs = record {
                  why = why;
                  runs = ap (choice_of x c) at ∙ told;
                  undoing = undoing.0;
                  inverse = undoing.1;
                  fresh = and_left (all_fresh Mysql m x.changes c.users) _ (and_right (is_some (inverses Mysql m x.changes)) _ all);
                };
                is = same;
                new = at;
              }

    named : what x c.rows ≡ Some New → (turns more : List (Set Key)) → sets ≡ turns ++ x ∷ more → (marked_set (identity_text x.identity) c.rows sets ≡ Some x) × (length (statements_of Mysql m x.changes) < 2 ^ 64)
    named new turns more are =
        let all = and_right (keeps_nothing_by Mysql m stamp x c (choice x c)) _ (and_right (all_fresh Mysql m x.changes c.users) _ (and_right (is_some (inverses Mysql m x.changes)) _ (and_right (is_none x.rollback) _ (test_others x c New new fit)))) in
        let last = and_right x.here _ all in
        let name = identity_text x.identity in
        let p = is_named_so name c.rows in
        let named : p x ≡ true = and_true x.here _ (and_left x.here _ all) (and_true (not (has_row c.rows x.identity)) _ (ap not (new_at x c.rows new)) (named_itself name)) in
        let some = and_left (is_some (marked_set name c.rows sets)) _ last in
        let small = and_right (is_some (marked_set name c.rows sets)) _ last in
        (subst (λ xs. the_only (filter p xs) ≡ Some x) (sym are) (only_one p turns x more named (subst (λ xs. is_some (the_only (filter p xs)) ≡ true) are some)), below (length (statements_of Mysql m x.changes)) small) where
          below : (n : ℕ) → nat_lt n (2 ^ 64) ≡ true → n < 2 ^ 64
          below n is = grind (arith, nat_tests, is)

-- a trail

module _ {Key : Type 0} (m : Meaning Key) (keeps : IsKept m) (parts : PartsBack m.is_for m.gives m.fresh m.inverse) (stamp : Stamp) (g : Changelog Key) (start : Database)
    (read : AreRead Mysql m g.sets) (own : list_all has_own_sum g.sets ≡ true) (apart : are_twins g.sets ≡ false) where
  abbrev leaves : List (Set Key) → Contents → Settled
  leaves xs c = all_settled Mysql m stamp.reading xs c

  -- it can be run again, and leaves what it leaves from the first contents
  record IsSteadyOn (c : Contents) : Type 0 where
    calm : IsCalm Mysql m keeps stamp g.sets c
    same : Same Mysql m keeps stamp (leaves g.sets c) (leaves g.sets (contents_of start))
    fit : all_fit m stamp g.sets g.sets c ≡ true

  turns_keep : (turns rest : List (Set Key)) (c : Contents) → g.sets ≡ turns ++ rest → (leaves turns c).stop ≡ None → IsSteadyOn c → IsSteadyOn (leaves turns c).contents
  turns_keep turns rest c are stop steady =
      let now = (leaves turns c).contents in
      let read_so = subst (AreRead Mysql m) are read in
      let own_so = subst (λ xs. list_all has_own_sum xs ≡ true) are own in
      let apart_so = subst (λ xs. are_twins xs ≡ false) are apart in
      let calm = subst (λ xs. IsCalm Mysql m keeps stamp xs c) are steady.calm in
      let more = stays_calm Mysql m keeps stamp turns rest c read_so own_so apart_so stop calm in
      let same = subst (λ xs. Same Mysql m keeps stamp (leaves xs now) (leaves xs c)) (sym are) more.1 in
      let tests = test m keeps stamp g.sets in
      let fit = through_kept Mysql m keeps stamp tests (test_none m keeps stamp g.sets) turns rest c read_so own_so apart_so stop calm
      (subst (λ xs. holds_through Mysql m keeps stamp tests xs c ≡ true) are (sym (fit_through m keeps stamp g.sets g.sets c) ∙ steady.fit)) in
      record {
        calm = subst (λ xs. IsCalm Mysql m keeps stamp xs now) (sym are) more.0;
        same = (same.0 ∙ steady.same.0, same.1 ∙ steady.same.1);
        fit = fit_through m keeps stamp g.sets g.sets now ∙ subst (λ xs. holds_through Mysql m keeps stamp tests xs now ≡ true) (sym are) fit;
      }

  -- no lock is held; and it is free, or nothing was done, or there is work, so that the next update frees it
  record IsUnheld (now : Database) : Type 0 where
    lock : now.lock.locked ≡ false
    steady : IsSteadyOn (contents_of now)
    frees : (now.lock ≡ free) ⊎ ((now ≡ start) ⊎ (has_work g.sets now.rows ≡ true))

  at_free : (now : Database) → now.lock ≡ free → IsSteadyOn (contents_of now) → IsUnheld now
  at_free now lock steady = record { lock = ap (λ (l : Lock). l.locked) lock; steady = steady; frees = inl lock }

  record IsHeld (now : Database) : Type 0 where
    who : List ℕ
    plain : list_any (λ b. b == 124) who ≡ false
    lock : now.lock ≡ taken (pos stamp.reading) who
    steady : IsSteadyOn (contents_of now)

  record IsMarked (last : Option Deed) (now : Database) : Type 0 where
    who : List ℕ
    plain : list_any (λ b. b == 124) who ≡ false
    c : Contents
    steady : IsSteadyOn c
    x : Set Key
    only : marked_set (identity_text x.identity) c.rows g.sets ≡ Some x
    counted : length (statements_of Mysql m x.changes) < 2 ^ 64
    partly : IsPartly Mysql stamp.reading who x.identity (statements_of Mysql m x.changes) c last now

  abbrev Stands : Option Deed → Database → Type 0
  Stands last now = IsUnheld now ⊎ (IsHeld now ⊎ IsMarked last now)

  abbrev KeptBy : Journal → Type 0
  KeptBy journal = (now : Database) → all_done Mysql (joined journal) start ≡ Ok now → Stands (last_or None (joined journal)) now

  one_ok : {x y : Database} (r : Result Database Reason) → r ≡ Ok x → r ≡ Ok y → x ≡ y
  one_ok r p q = same_ok Mysql (sym p ∙ q)

  some_place : (last : Option Deed) (now : Database) (is : IsMarked last now) → 0 < is.partly.k
  some_place last now is = subst (λ k. 0 < k) (sym is.partly.place.4) (grind (arith))

  small_place : (last : Option Deed) (now : Database) (is : IsMarked last now) → is.partly.k < 2 ^ 64
  small_place last now is =
      let place = is.partly.place in
      let below = subst (λ ss. length place.0 < length ss) (sym place.3) (place_below place.0 place.1 place.2) in
      subst (λ k. k < 2 ^ 64) (sym place.4) (within (length place.0) (length (statements_of Mysql m is.x.changes)) below is.counted) where
        within : (n k : ℕ) → n < k → k < 2 ^ 64 → suc n < 2 ^ 64
        within n k first more = grind (arith, first, more)

  mark_of : (last : Option Deed) (now : Database) (is : IsMarked last now) → has_mark now.lock ≡ true
  mark_of last now is = ap has_mark is.partly.lock ∙ is_read is.partly.is_back is.who (identity_text is.x.identity) is.partly.k (some_place last now is) (small_place last now is)

  freed : (before now : Database) → all_done Mysql (Locks Freed ∷ []) before ≡ Ok now → IsSteadyOn (contents_of before) → IsUnheld now
  freed before now led steady = at_free now (sym (ap (λ (e : Database). e.lock) (same_ok Mysql led))) (subst IsSteadyOn (ap contents_of (same_ok Mysql led)) steady)

  -- what is left, where it is known what stands at the front
  left_stands : (calls : List Call) (database : Database) (before after : Journal) → all_done Mysql (joined before) start ≡ Ok database → (left : IsLeft Mysql calls database before after)
      → Stands (last_or (last_or None (joined before)) (joined left.front)) left.now → KeptBy after
  left_stands calls database before after at left stands now led = elim left.is as (λ _. Stands (last_or None (joined after)) now) [
    | inl same ↦
        let here = front_at now (subst (λ es. all_done Mysql (joined es) start ≡ Ok now) same led) in
        subst (λ es. Stands (last_or None (joined es)) now) (sym same)
        (subst (λ o. Stands o now) (sym (ap (last_or None) (joined_both before left.front) ∙ last_or_both None (joined before) (joined left.front)))
        (subst (λ e. Stands (last_or (last_or None (joined before)) (joined left.front)) e) here stands))
    | inr closed ↦
        let both = led_both Mysql (before ++ left.front) ((Locks Freed ∷ []) ∷ []) start now (subst (λ es. all_done Mysql (joined es) start ≡ Ok now) closed.0 led) in
        let here = front_at both.0 both.1 in
        inl (freed left.now now (subst (λ e. all_done Mysql (joined ((Locks Freed ∷ []) ∷ [])) e ≡ Ok now) (sym here) both.2) (unmarked closed.1 stands))
  ] where
    front_at : (now : Database) → all_done Mysql (joined (before ++ left.front)) start ≡ Ok now → left.now ≡ now
    front_at now is =
        let both = led_both Mysql before left.front start now is in
        let same = one_ok (all_done Mysql (joined before) start) at both.1 in
        one_ok (all_done Mysql (joined left.front) database) left.led (subst (λ e. all_done Mysql (joined left.front) e ≡ Ok now) (sym same) both.2)

    unmarked : has_mark left.now.lock ≡ false → Stands (last_or (last_or None (joined before)) (joined left.front)) left.now → IsSteadyOn (contents_of left.now)
    unmarked none (inl free_now) = free_now.steady
    unmarked none (inr (inl held)) = held.steady
    unmarked none (inr (inr marked)) = true_false (sym (mark_of (last_or (last_or None (joined before)) (joined left.front)) left.now marked) ∙ none)

  -- an update
  module _ (who : List ℕ) (plain : list_any (λ b. b == 124) who ≡ false) (database : Database) (here : IsUnheld database) (last : Option Deed) (front rest : Journal) (now : Database)
      (is : (all_called Mysql (update_calls Mysql m (record stamp { who = who }) g database) (session_on database)).entries ≡ front ++ rest) (led : all_done Mysql (joined front) database ≡ Ok now) where
    abbrev by : Stamp
    by = record stamp { who = who }

    abbrev first : Contents
    first = contents_of database

    at_turn : (turns others : List (Set Key)) → g.sets ≡ turns ++ others → (leaves turns first).stop ≡ None → now.lock.locked ≡ true → (x : Set Key) (more : List (Set Key)) (turn : Turn) → others ≡ x ∷ more
        → turn_by Mysql m by x (leaves turns first).contents.rows (choice x (leaves turns first).contents) ≡ Some turn → IsWithin Mysql by turn (leaves turns first).contents (last_or None (joined front)) now
        → IsMarked (last_or last (joined front)) now
    at_turn turns others are stop held x more turn is_next chosen within =
        let c = (leaves turns first).contents in
        let tests = test m keeps stamp g.sets in
        let sets_are : g.sets ≡ turns ++ x ∷ more = are ∙ ap (λ ys. turns ++ ys) is_next in
        let steady = turns_keep turns others first are stop here.steady in
        let through = through_rest Mysql m keeps stamp tests turns (x ∷ more) first stop (subst (λ xs. holds_through Mysql m keeps stamp tests xs first ≡ true) sets_are (sym (fit_through m keeps stamp g.sets g.sets first) ∙ here.steady.fit)) in
        let fit = and_left (tests x c) _ through in
        let all : AreRead Mysql m (x ∷ more) = all-append_right (λ (y : Set Key). list_all (m.is_for Mysql) y.changes) turns (x ∷ more) (subst (AreRead Mysql m) sets_are read) in
        let read_x = and_left (list_all (m.is_for Mysql) x.changes) _ all in
        let one = begun m keeps stamp g.sets x c turn within.before within.marked within.after within.are fit (what x c.rows) refl chosen (and_left (is_first_time (what x c.rows)) _ fit) in
        let names = named m keeps stamp g.sets x c turn within.before within.marked within.after within.are fit one.new turns more sets_are in
        record {
          who = who;
          plain = plain;
          c = c;
          steady = steady;
          x = x;
          only = names.0;
          counted = names.1;
          partly = subst (λ o. IsPartly Mysql stamp.reading who x.identity (statements_of Mysql m x.changes) c o now) (last_anew (joined front) last database now here.lock led held)
              (partly_by m keeps parts Mysql by x c (last_or None (joined front)) now read_x steady.calm.sound one.runs turn one.is within);
        }

    -- where nothing set the lock it is not held
    waiting : Waits Mysql m by g database now → IsUnheld now
    waiting waits = elim waits.1 as (λ _. IsUnheld now) [
      | inl same ↦ subst IsUnheld (sym same) here
      | inr same ↦ record { lock = waits.0 ∙ here.lock; steady = subst IsSteadyOn (sym same.0) here.steady; frees = inr (inr (ap (λ (c : Contents). has_work g.sets c.rows) same.0 ∙ same.1)) }
    ]

    setting : all_done Mysql (joined front) (locked_as free database) ≡ Ok now → Stands (last_or last (joined front)) now
    setting led_free =
        let none = none_gives m keeps stamp g.sets g.sets first read here.steady.calm.sound here.steady.calm.none_skipped in
        let fronts : UpdateFront Mysql m by g.sets first (last_or None (joined front)) now = update_fronts m keeps Mysql by g (locked_as free database) now front rest here.steady.calm.sound read refl none
        (entries_as Mysql (update_calls Mysql m by g database) database free ∙ is) led_free in
        elim fronts as (λ _. Stands (last_or last (joined front)) now) [
          | inl held ↦
              let s = held.1 in
              let steady = turns_keep s.turns s.rest first s.are s.goes_on here.steady in
              elim s.stands as (λ _. Stands (last_or last (joined front)) now) [
                | inl between ↦ inr (inl (record { who = who; plain = plain; lock = between.lock; steady = subst IsSteadyOn (sym between.contents) steady }))
                | inr within ↦ inr (inr (at_turn s.turns s.rest s.are s.goes_on held.0 within.0 within.1 within.2 within.3 within.4 within.5))
              ]
          | inr idle ↦ elim idle.1 as (λ _. Stands (last_or last (joined front)) now) [
            | inl same ↦ inl (at_free now idle.0 (subst IsSteadyOn (sym same) here.steady))
            | inr all ↦
                let w = wholly m keeps stamp g.sets g.sets first read here.steady.calm.sound here.steady.fit in
                inl (at_free now idle.0 (subst IsSteadyOn (w.same ∙ sym all) (turns_keep w.turns w.rest first w.are w.goes_on here.steady)))
          ]
        ]

    update_stands : Stands (last_or last (joined front)) now
    update_stands = elim (set_or_waits Mysql m by g database front rest now led is) as (λ _. Stands (last_or last (joined front)) now) [
      | inl sets ↦ setting sets
      | inr waits ↦ inl (waiting waits)
    ]

  -- a repair
  module _ (database : Database) (last : Option Deed) (here : IsMarked last database) where
    abbrev p : IsPartly Mysql stamp.reading here.who here.x.identity (statements_of Mysql m here.x.changes) here.c last database
    p = here.partly

    abbrev own_text : List ℕ
    own_text = marked_text p.is_back here.who here.x.identity p.k

    own_mark : Mark database.lock
    own_mark =
        let place = p.place in
        record {
          who = here.who;
          name = identity_text here.x.identity;
          is_back = p.is_back;
          k = length place.0;
          small = subst (λ n. n < 2 ^ 64) place.4 (small_place last database here);
          is = ap (λ (l : Lock). l.by) p.lock ∙ ap (λ n. Some (marked_text p.is_back here.who here.x.identity n)) place.4;
          plain = here.plain;
        }

    calls_same : (mark : Mark database.lock) (x : Set Key) → marked_set mark.name database.rows g.sets ≡ Some x
        → repair_calls Mysql mark.who x.identity (take (standing mark.is_back (marks_last (by_of database.lock) last) (suc mark.k)) (statements_of Mysql m x.changes)) database ≡ repair_calls Mysql here.who here.x.identity p.first database
    calls_same mark x only =
        let by_is : database.lock.by ≡ Some own_text = ap (λ (l : Lock). l.by) p.lock in
        let texts = some_same (sym by_is ∙ mark.is) in
        let told = parts_told p.is_back mark.is_back here.who mark.who (identity_text here.x.identity) mark.name p.k (suc mark.k) here.plain mark.plain (some_place last database here) (small_place last database here) (grind (arith)) mark.small texts in
        let set_is : here.x ≡ x = some_same (sym here.only ∙ ap (λ n. marked_set n here.c.rows g.sets) told.1 ∙ ap (λ rows. marked_set mark.name rows g.sets) (sym p.rows) ∙ only) in
        let text_is : by_of database.lock ≡ own_text = ap (λ o. elim o as (λ _. List ℕ) [ Some by ↦ by | None ↦ [] ]) by_is in
        let number : standing mark.is_back (marks_last (by_of database.lock) last) (suc mark.k) ≡ length p.first
        = ap (λ t. standing mark.is_back (marks_last t last) (suc mark.k)) text_is ∙ ap (λ b. standing b (marks_last own_text last) (suc mark.k)) (sym told.2) ∙ ap (λ n. standing p.is_back (marks_last own_text last) n) (sym told.3) ∙ sym p.number in
        ap (λ w. repair_calls Mysql w x.identity (take (standing mark.is_back (marks_last (by_of database.lock) last) (suc mark.k)) (statements_of Mysql m x.changes)) database) (sym told.0)
        ∙ ap (λ (y : Set Key). repair_calls Mysql here.who y.identity (take (standing mark.is_back (marks_last (by_of database.lock) last) (suc mark.k)) (statements_of Mysql m y.changes)) database) (sym set_is)
        ∙ ap (λ n. repair_calls Mysql here.who here.x.identity (take n (statements_of Mysql m here.x.changes)) database) number
        ∙ ap (λ ss. repair_calls Mysql here.who here.x.identity (take (length p.first) ss) database) p.are
        ∙ ap (λ ss. repair_calls Mysql here.who here.x.identity ss database) (take_front p.first p.rest)

    repair_stands : (front rest : Journal) (now : Database) → (all_called Mysql (repair_calls Mysql here.who here.x.identity p.first database) (session_on database)).entries ≡ front ++ rest → all_done Mysql (joined front) database ≡ Ok now
        → Stands (last_or last (joined front)) now
    repair_stands front rest now is led =
        elim ((repair_leaves Mysql stamp.reading here.who here.x.identity (statements_of Mysql m here.x.changes) here.c last database p).1 front rest now is led) as (λ _. Stands (last_or last (joined front)) now) [
          | inl whole ↦ inl (at_free now whole.lock (subst IsSteadyOn (sym whole.contents) here.steady))
          | inr part ↦ inr (inr (record { who = here.who; plain = here.plain; c = here.c; steady = here.steady; x = here.x; only = here.only; counted = here.counted; partly = part }))
        ]

  -- release-locks
  module _ (database : Database) (last : Option Deed) (here : IsHeld database) where
    release_stands : (front rest : Journal) (now : Database) → (all_called Mysql (closing ∷ []) (session_on database)).entries ≡ front ++ rest → all_done Mysql (joined front) database ≡ Ok now → Stands (last_or last (joined front)) now
    release_stands [] rest now is led = inr (inl (subst IsHeld (same_ok Mysql led) here))
    release_stands (e ∷ x ∷ front) rest now is led = Prim.cc
    release_stands (e ∷ []) rest now is led =
        inl (freed database now (ap (λ es. all_done Mysql (joined (es ∷ [])) database) (sym (one_entry e rest is)) ∙ led) here.steady) where
          one_entry : (e : List Deed) (rest : Journal) → (all_called Mysql (closing ∷ []) (session_on database)).entries ≡ e ∷ rest → e ≡ Locks Freed ∷ []
          one_entry e rest is = Prim.cc

  held_by : {A : Type 0} (lock : Lock) (who : List ℕ) → list_any (λ b. b == 124) who ≡ false → lock ≡ taken (pos stamp.reading) who → Mark lock → A
  held_by lock who plain is mark = no_mark_plain mark.is_back who mark.who mark.name (suc mark.k) plain (some_same (sym (ap (λ (l : Lock). l.by) is) ∙ mark.is))

  mends_by : (before after : Journal) (at : MendsAt m stamp g start before after) → Stands (last_or None (joined before)) at.0 → KeptBy after
  mends_by before after at stands =
      let database = at.0 in
      let last = last_or None (joined before) in
      elim at.2 as (λ _. KeptBy after) [
        | inl ran ↦
            let left = ran.1.2 in
            left_stands (update_calls Mysql m (record stamp { who = ran.1.0 }) g database) database before after at.1 left (elim stands as (λ _. Stands (last_or last (joined left.front)) left.now) [
              | inl here ↦ update_stands ran.1.0 ran.1.1 database here last left.front left.rest left.now left.entries left.led
              | inr more ↦ elim more as (λ _. Stands (last_or last (joined left.front)) left.now) [
                | inl held ↦ never database.lock ran.0 (ap (λ (l : Lock). l.locked) held.lock)
                | inr marked ↦ never database.lock ran.0 (ap (λ (l : Lock). l.locked) marked.partly.lock)
              ]
            ])
        | inr other ↦ elim other as (λ _. KeptBy after) [
          | inl repaired ↦ elim stands as (λ _. KeptBy after) [
            | inl here ↦ never database.lock here.lock repaired.0
            | inr more ↦ elim more as (λ _. KeptBy after) [
              | inl held ↦ held_by database.lock held.who held.plain held.lock repaired.1
              | inr marked ↦
                  let calls = repair_calls Mysql marked.who marked.x.identity marked.partly.first database in
                  let left : IsLeft Mysql calls database before after = subst (λ cs. IsLeft Mysql cs database before after) (calls_same database last marked repaired.1 repaired.2 repaired.3) repaired.4 in
                  left_stands calls database before after at.1 left (repair_stands database last marked left.front left.rest left.now left.entries left.led)
            ]
          ]
          | inr released ↦ elim stands as (λ _. KeptBy after) [
            | inl here ↦ never database.lock here.lock released.0
            | inr more ↦ elim more as (λ _. KeptBy after) [
              | inl held ↦
                  let left : IsLeft Mysql (closing ∷ []) database before after = subst (λ b. IsLeft Mysql (if b then closing ∷ [] else []) database before after) released.0 released.2 in
                  left_stands (closing ∷ []) database before after at.1 left (release_stands database last held left.front left.rest left.now left.entries left.led)
              | inr marked ↦ absurd (released.1 (own_mark database last marked))
            ]
          ]
        ]
      ]

  mends : (before after : Journal) → MendsAt m stamp g start before after → KeptBy before → KeptBy after
  mends before after at kept = mends_by before after at (kept at.0 at.1)

  trail_mends : (from : Journal) (stops : List Journal) (to : Journal) → AreMended m stamp g start from stops to → KeptBy from → KeptBy to
  trail_mends from [] to trail kept = subst KeptBy trail kept
  trail_mends from (next ∷ stops) to trail kept = trail_mends next stops to trail.1 (mends from next trail.0 kept)

  not_held : (last : Option Deed) (database : Database) → database.lock.locked ≡ false → Stands last database → IsUnheld database
  not_held last database unlocked (inl here) = here
  not_held last database unlocked (inr (inl held)) = never database.lock unlocked (ap (λ (l : Lock). l.locked) held.lock)
  not_held last database unlocked (inr (inr marked)) = never database.lock unlocked (ap (λ (l : Lock). l.locked) marked.partly.lock)

bare_is : {Key : Type 0} (m : Meaning Key) (stamp : Stamp) (g : Changelog Key) (c : Contents) → g.condition.told c ≡ Ok true → updated Mysql m stamp.reading g c ≡ all_settled Mysql m stamp.reading g.sets c
bare_is m stamp g c bare = ap (λ told. by_own (tested New g.condition told) c (all_settled Mysql m stamp.reading g.sets c)) bare

pub update_mends : {Key : Type 0} (m : Meaning Key) → IsKept m → UpdateMends m
update_mends m keeps parts stamp g start database stops last sound unlocked read own apart steady fit trail led end =
    let calm : IsCalm Mysql m keeps stamp g.sets (contents_of start) = record { sound = sound; none_skipped = ap skips (sym (bare_is m stamp g (contents_of start) (steady.bare _))) ∙ steady.none_skipped; once = steady.once; whole = steady.whole } in
    let kept = trail_mends m keeps parts stamp g start read own apart [] stops last trail
    (λ e is. inl (subst (λ (x : Database). IsUnheld m keeps parts stamp g start read own apart x) (same_ok Mysql is) (record { lock = unlocked; steady = record { calm = calm; same = (refl, refl); fit = fit }; frees = inr (inl refl) })))
    database led in
    let here = not_held m keeps parts stamp g start read own apart (last_or None (joined last)) database end kept in
    let so = here.steady in
    let now = left_by Mysql (update_calls Mysql m stamp g database) database in
    let contents = ap (λ (s : Settled). s.contents) (bare_is m stamp g (contents_of database) (steady.bare _)) ∙ so.same.0 ∙ ap (λ (s : Settled). s.contents) (sym (bare_is m stamp g (contents_of start) (steady.bare _))) in
    let stop = ap (λ (s : Settled). s.stop) (bare_is m stamp g (contents_of database) (steady.bare _)) ∙ so.same.1 ∙ ap (λ (s : Settled). s.stop) (sym (bare_is m stamp g (contents_of start) (steady.bare _))) in
    let rests = subst (λ c. IsAtRest database c now) contents (update_rests m keeps Mysql stamp g database so.calm.sound read) in
    let goes = ap (λ told. is_halt (tested New g.condition told)) (steady.bare (contents_of database)) in (
      elim here.frees as (λ _. IsAtRest start (updated Mysql m stamp.reading g (contents_of start)).contents now) [
        | inl lock ↦ rests_on start database now _ (inl lock) rests
        | inr more ↦ elim more as (λ _. IsAtRest start (updated Mysql m stamp.reading g (contents_of start)).contents now) [
          | inl same ↦ rests_on start database now _ (inr same) rests
          | inr work ↦ record { users = rests.users; rows = rests.rows; lock = inl (work_frees Mysql m stamp g database keeps so.calm.sound read work goes) }
        ]
      ],
      stop,
    )
