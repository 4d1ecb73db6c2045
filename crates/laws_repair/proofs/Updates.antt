-- What of an update stands after a stop is what a repair takes back.
use Rattle.std.proofs.Common.{ap, inl, inr, subst, sym, ◌∙◌}
use Rattle.std.proofs.lemmas.List.{append_assoc}
use Rattle.std.specs.List.{last_or, list_all}
use Rattle.std.specs.Prelude.{Bool, List, None, Ok, Option, Some, [], false, length, pos, refl, suc, true, ℕ, ◌++◌, ◌∷◌, ◌≡◌, ◌⊎◌}
use Rattle.lq_base.specs.declared.dialect.Dialect.{Dialect}
use Rattle.lq_model.proofs.Lists.{all-append_left, all-append_right, and_left}
use Rattle.lq_model.specs.Sound.{IsSound}
use Rattle.lq_model.specs.Step.{run}
use Rattle.lq_model.specs.declared.caller.By.TheVariants.{User}
use Rattle.lq_model.specs.declared.statement.Statement.{Statement}
use Rattle.lq_reverse.specs.Back.{PartsBack, backs}
use Rattle.lq_track.specs.Database.{Database}
use Rattle.lq_track.specs.Lock.{free}
use Rattle.lq_turns.specs.Deed.{Contents, contents_of}
use Rattle.lq_turns.specs.Set.{statements_of, IsKept, Meaning, Set}
use Rattle.lq_turns.specs.Laws.{AreRead}
use Rattle.lq_turns.specs.Script.{turn_by, update_calls}
use Rattle.lq_turns.specs.Settle.{all_settled, choice, run_turn}
use Rattle.lq_turns.specs.Stops.{joined}
use Rattle.lq_turns.specs.Within.{IsBetween, IsWithin, UpdateStands, marks_last}
use Rattle.lq_turns.specs.declared.choice.What.TheVariants.{New}
use Rattle.lq_turns.specs.declared.deed.Deed.{Deed}
use Rattle.lq_turns.specs.declared.stamp.Stamp.{Stamp}
use Rattle.lq_turns.specs.declared.turn.Turn.{Turn}
use Rattle.lq_turns.specs.Turn.{mark_text}
use Rattle.lq_turns.proofs.Stands.{update_stops}
use Rattle.lq_turns.proofs.Stays.{all_sound}
use Rattle.laws_repair.specs.Repair.{IsPartly, PartsReturn, RunsFirst, UpdateRepairs, marked_text, standing}
use Rattle.laws_repair.proofs.Parts.{parts_return}
use Rattle.laws_repair.proofs.Unlocked.{entries_as, led_held, locked_as}

length_more : (first : List Statement) (s : Statement) → length (first ++ s ∷ []) ≡ suc (length first)
length_more [] s = refl
length_more (x ∷ first) s = ap suc (length_more first s)

some_turn : {a b : Turn} → (let o : Option Turn = Some a in o) ≡ Some b → a ≡ b
some_turn is = Prim.cc

module _ {Key : Type 0} (m : Meaning Key) (keeps : IsKept m) (parts : PartsBack m.is_for m.gives m.fresh m.inverse) (d : Dialect) (stamp : Stamp) (x : Set Key) (c : Contents) (last : Option Deed) (now : Database)
    (read : list_all (m.is_for d) x.changes ≡ true) (sound : IsSound d c.users) (first : RunsFirst d m x c) where
  abbrev statements : List Statement
  statements = statements_of d m x.changes

  returns : (front rest : List Statement) → statements ≡ front ++ rest → run User d front c.users ≡ Ok now.users → run User d (backs d front) now.users ≡ Ok c.users
  returns front rest are ran = parts_return m keeps parts d x.changes c.users now.users first.undoing front rest read sound first.fresh first.inverse are ran

  pub partly_by : (turn : Turn) → turn ≡ run_turn d m stamp.reading New x c.rows → IsWithin d stamp turn c last now → IsPartly d stamp.reading stamp.who x.identity statements c last now
  partly_by turn is within = by (subst (λ (t : Turn). IsWithin d stamp t c last now) is within) where
    by : IsWithin d stamp (run_turn d m stamp.reading New x c.rows) c last now → IsPartly d stamp.reading stamp.who x.identity statements c last now
    by w =
        let k = suc (length w.before) in
        let text = marked_text false stamp.who x.identity k in
        elim w.users as (λ _. IsPartly d stamp.reading stamp.who x.identity statements c last now) [
          | inl before ↦ record {
            is_back = false;
            k = k;
            first = w.before;
            rest = w.marked ∷ w.after;
            are = w.are;
            place = (w.before, w.marked, w.after, w.are, refl);
            number = sym (ap (λ b. standing false b k) before.0);
            lock = w.lock;
            returns = returns w.before (w.marked ∷ w.after) w.are before.1;
            rows = w.rows;
          }
          | inr after ↦
              let are = w.are ∙ sym (append_assoc w.before (w.marked ∷ []) w.after) in
              record {
                is_back = false;
                k = k;
                first = w.before ++ w.marked ∷ [];
                rest = w.after;
                are = are;
                place = (w.before, w.marked, w.after, w.are, refl);
                number = length_more w.before w.marked ∙ sym (ap (λ b. standing false b k) after.0);
                lock = w.lock;
                returns = returns (w.before ++ w.marked ∷ []) w.after are after.1;
                rows = w.rows;
              }
        ]

pub update_repairs : {Key : Type 0} (m : Meaning Key) → IsKept m → UpdateRepairs m
update_repairs {Key} m keeps parts d stamp g database now front rest sound read unlocked skip is led held =
    let s : UpdateStands d m stamp g.sets (contents_of database) (last_or None (joined front)) now = update_stops m keeps d stamp g (locked_as free database) now front rest sound read refl skip
    (entries_as d (update_calls d m stamp g database) database free ∙ is) (led_held d (joined front) database now free led unlocked held) held in
    let c = (all_settled d m stamp.reading s.turns (contents_of database)).contents in
    let all : AreRead d m (s.turns ++ s.rest) = subst (AreRead d m) s.are read in
    let test : Set Key → Bool = λ y. list_all (m.is_for d) y.changes in
    let fine : IsSound d c.users = all_sound d m keeps stamp s.turns (contents_of database) (all-append_left test s.turns s.rest all) sound in (
      s.turns,
      s.rest,
      s.are,
      s.goes_on,
      elim s.stands as (λ _. IsBetween stamp c now ⊎ ((x : Set Key) × (others : List (Set Key)) × (s.rest ≡ x ∷ others) × (RunsFirst d m x c → IsPartly d stamp.reading stamp.who x.identity (statements_of d m x.changes) c (last_or None (joined front)) now))) [
        | inl between ↦ inl between
        | inr within ↦ inr (
          within.0,
          within.1,
          within.3,
          λ runs.
              let more : AreRead d m (within.0 ∷ within.1) = subst (AreRead d m) within.3 (all-append_right test s.turns s.rest all) in
              let turn = some_turn (sym within.4 ∙ ap (turn_by d m stamp within.0 c.rows) runs.runs) in
              partly_by m keeps parts d stamp within.0 c (last_or None (joined front)) now (and_left (test within.0) _ more) fine runs within.2 turn within.5,
        )
      ],
    )
