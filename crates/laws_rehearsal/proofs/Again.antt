-- An update, the rollback of the rows that came, and the update again.
use Rattle.std.proofs.Common.{ap, arith, subst, sym, ◌∙◌}
use Rattle.std.proofs.Math.Seq.{drop-append_seam}
use Rattle.std.proofs.lemmas.List.{length-append}
use Rattle.std.specs.Prelude.{List, None, Some, [], drop, false, length, refl, reverse, suc, ℕ, ◌+◌, ◌-◌, ◌∷◌, ◌≡◌}
use Rattle.lq_base.specs.declared.command.Target.TheVariants.{Count}
use Rattle.lq_base.specs.declared.dialect.Dialect.{Dialect}
use Rattle.lq_base.specs.declared.tracking.Tracked.{Tracked}
use Rattle.lq_model.specs.Sound.{IsSound}
use Rattle.lq_track.specs.Database.{Database, SameDatabase, has_twin_rows}
use Rattle.lq_turns.specs.Deed.{Contents, contents_of}
use Rattle.lq_turns.specs.Within.{runs_of}
use Rattle.lq_turns.specs.Laws.{at_rest, rollback_calls}
use Rattle.lq_turns.specs.Ran.{AreRowsOf, RanSince, Run}
use Rattle.lq_turns.specs.Script.{all_rolled, rolled_as, rows_kept, undo_turns}
use Rattle.lq_turns.specs.Session.{left_by}
use Rattle.lq_turns.specs.Set.{IsKept, Meaning}
use Rattle.lq_turns.specs.Settle.{Settled, all_settled, by_own, is_halt, own_choice, unless_stopped, updated}
use Rattle.lq_turns.specs.Trails.{rollback_to}
use Rattle.lq_turns.specs.Turn.{Ending}
use Rattle.lq_turns.specs.declared.call.Call.{Call}
use Rattle.lq_turns.specs.declared.choice.Choice.{Choice}
use Rattle.lq_turns.specs.declared.choice.Choice.TheVariants.{Fills, Halts, Marks, Passes, Runs, Skips}
use Rattle.lq_turns.specs.declared.turn.Turn.{Turn}
use Rattle.lq_turns.proofs.FirstRuns.{update_runs}
use Rattle.lq_turns.proofs.Made.{with_users}
use Rattle.lq_turns.proofs.Undone.{Undone, all_back, rollback_restores}
use Rattle.lq_turns.proofs.Updates.{update_leaves}
use Rattle.laws_rehearsal.specs.Rehearsed.{RehearsalReturns}

-- where it does not halt, the changelog's own condition is of no matter
own_passes : (q : Choice) (c : Contents) (s : Settled) → is_halt q ≡ false → (by_own q c s).contents ≡ s.contents
own_passes (Halts why) c s h = Prim.cc
own_passes (Runs by (Some why)) c s h = refl
own_passes (Runs by None) c s h = refl
own_passes (Marks by) c s h = refl
own_passes Passes c s h = refl
own_passes Fills c s h = refl
own_passes Skips c s h = refl

rows_counted : {Key : Type 0} (xs : List (Run Key)) (rows : List Tracked) → AreRowsOf xs rows → length rows ≡ length xs
rows_counted [] [] are = refl
rows_counted (x ∷ xs) (row ∷ rows) are = ap suc (rows_counted xs rows are.1)
rows_counted [] (row ∷ rows) are = absurd are
rows_counted (x ∷ xs) [] are = absurd are

more_only : (a b n : ℕ) → n ≡ a + b → n - a ≡ b
more_only a b n is = omega (arith, is)

minus_more : (a b : ℕ) → (a + b) - b ≡ a
minus_more a b = omega arith

same_contents : (a b : Database) → a.users ≡ b.users → a.rows ≡ b.rows → contents_of a ≡ contents_of b
same_contents a b users rows = ap (λ u. record (contents_of a) { users = u }) users ∙ ap (λ r. record (contents_of b) { rows = r }) rows

-- turns that all finish are none of them refused
none_stops : (d : Dialect) (turns : List Turn) (c e : Contents) → Undone d turns c e → (all_rolled d turns c).stop ≡ None
none_stops d [] c e is = refl
none_stops d (turn ∷ turns) c e is = ap (λ (q : Ending). (unless_stopped (rolled_as turn q) (all_rolled d turns)).stop) is.1 ∙ none_stops d turns is.0 e is.2

pub rehearsal_returns : {Key : Type 0} (m : Meaning Key) → IsKept m → RehearsalReturns m
rehearsal_returns {Key} m keeps d stamp g database one two three may is_one is_two is_three =
    let c = contents_of database in
    let xs = runs_of d m stamp g.sets c in
    let end = (all_settled d m stamp.reading g.sets c).contents in
    let left : SameDatabase one (at_rest database (updated d m stamp.reading g c).contents) = subst (λ (x : Database). SameDatabase x (at_rest database (updated d m stamp.reading g c).contents)) (sym is_one) (update_leaves m keeps d stamp g database may.sound may.unlocked may.read) in
    let passed : (updated d m stamp.reading g c).contents ≡ end = own_passes (own_choice g c) c (all_settled d m stamp.reading g.sets c) may.goes in
    let at : contents_of one ≡ end = same_contents one (at_rest database (updated d m stamp.reading g c).contents) left.users left.rows ∙ passed in
    let ran : RanSince d m c xs (contents_of one) = subst (RanSince d m c xs) (sym at) (update_runs m keeps d stamp g.sets c may.sound may.differ may.read may.first) in
    let count : length one.rows ≡ length database.rows + length xs = ap (λ rows. length rows) ran.rows ∙ length-append database.rows ran.added ∙ ap (λ n. length database.rows + n) (rows_counted xs ran.added ran.are_theirs) in
    let behind : length one.rows - length database.rows ≡ length xs = more_only (length database.rows) (length xs) (length one.rows) count in
    let stay : rows_kept (Count (length one.rows - length database.rows)) one.rows ≡ Some (length database.rows) =
    ap (λ n. Some n) (ap (λ n. length one.rows - n) behind ∙ ap (λ n. n - length xs) count ∙ minus_more (length database.rows) (length xs)) in
    let calls : rollback_to d m stamp g.sets (Count (length one.rows - length database.rows)) one ≡ rollback_calls d m stamp g.sets (length database.rows) one = ap (λ o. elim o as (λ _. List Call) [ Some n ↦ rollback_calls d m stamp g.sets n one | None ↦ [] ]) stay in
    let back : SameDatabase two (at_rest one c) = subst (λ (x : Database). SameDatabase x (at_rest one c)) (sym (is_two ∙ ap (λ cs. left_by d cs one) calls)) (rollback_restores m keeps d stamp g.sets c xs one left.lock ran may.reversible may.known) in
    let again : contents_of two ≡ c = same_contents two (at_rest one c) back.users back.rows in
    let fine = subst (λ (e : Contents). IsSound d e.users) (sym again) may.sound in
    let last : SameDatabase three (at_rest two (updated d m stamp.reading g (contents_of two)).contents) = subst (λ (x : Database). SameDatabase x (at_rest two (updated d m stamp.reading g (contents_of two)).contents)) (sym is_three) (update_leaves m keeps d stamp g two fine back.lock may.read) in
    let same : (updated d m stamp.reading g (contents_of two)).contents ≡ (updated d m stamp.reading g c).contents = ap (λ e. (updated d m stamp.reading g e).contents) again in
    let undone = ap reverse (ap (drop (length database.rows)) ran.rows ∙ drop-append_seam database.rows ran.added) in
    let all = all_back m keeps d g.sets xs ran.added database.rows database.users one.users ran.are_theirs may.known ran.sound may.reversible ran.users (sym (ap has_twin_rows ran.rows) ∙ ran.differ) in
    record {
      came = behind;
      turns = all.0;
      are = ap (undo_turns d m g.sets) undone ∙ all.1;
      none_refused = none_stops d all.0 (contents_of one) (with_users database.users database.rows) (subst (λ r. Undone d all.0 (with_users one.users r) (with_users database.users database.rows)) (sym ran.rows) all.2);
      back = record { users = back.users; rows = back.rows; lock = back.lock ∙ sym may.unlocked };
      ends = ap (λ e. (all_settled d m stamp.reading g.sets e).stop) again ∙ may.ends;
      again = record {
        users = last.users ∙ ap (λ (e : Contents). e.users) same ∙ sym left.users;
        rows = last.rows ∙ ap (λ (e : Contents). e.rows) same ∙ sym left.rows;
        lock = last.lock ∙ sym left.lock;
      };
    }
