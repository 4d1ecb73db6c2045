-- A rehearsal of first turns that can be taken back leaves what its update leaves.
use Rattle.std.proofs.Common.{ap, arith, refl, subst, sym, ◌∙◌}
use Rattle.std.specs.Option.{option_or}
use Rattle.std.specs.Prelude.{List, None, Option, Some, [], drop, false, if◌then◌else◌, length, reverse, suc, zero, ℕ, ◌++◌, ◌-◌, ◌∷◌, ◌≡◌}
use Rattle.laws_rehearsal.proofs.Again.{rehearsal_returns}
use Rattle.laws_rehearsal.specs.Rehearsed.{Returns}
use Rattle.lq_base.specs.declared.command.Target.TheVariants.{Count}
use Rattle.lq_base.specs.declared.dialect.Dialect.{Dialect}
use Rattle.lq_base.specs.declared.identity.Identity.{Identity}
use Rattle.lq_base.specs.declared.tracking.Lock.{Lock}
use Rattle.lq_base.specs.declared.tracking.Tracked.{Tracked}
use Rattle.lq_kinds.specs.ReadFor.{AreFor}
use Rattle.lq_model.specs.Sound.{IsSound}
use Rattle.lq_seen.specs.Telling.{Account, of_turns}
use Rattle.lq_seen.specs.View.{any_meaning}
use Rattle.lq_tell.specs.declared.status.Status.{Status}
use Rattle.lq_tell.specs.declared.status.Status.TheVariants.{Locked}
use Rattle.lq_track.specs.Database.{Database, SameDatabase, has_twin_rows}
use Rattle.lq_turns.proofs.Made.{calls_both}
use Rattle.lq_turns.specs.Deed.{Contents, contents_of}
use Rattle.lq_turns.specs.Script.{rows_undone, undo_turns, calls_unless}
use Rattle.lq_turns.specs.Session.{Session, all_called, left_by, session_on}
use Rattle.lq_turns.specs.Settle.{Settled, by_own, is_halt, own_choice}
use Rattle.lq_turns.specs.declared.call.Call.{Call}
use Rattle.lq_turns.specs.declared.choice.Choice.{Choice}
use Rattle.lq_turns.specs.declared.choice.Choice.TheVariants.{Fills, Halts, Marks, Passes, Runs, Skips}
use Rattle.lq_turns.specs.declared.fault.Fault.{Fault}
use Rattle.lq_turns.specs.declared.stop.Stop.{Stop}
use Rattle.lq_turns.specs.declared.turn.Turn.{Turn}
use Rattle.lq_commands.proofs.Planned.{kept, passed_script}
use Rattle.lq_commands.proofs.Sequenced.{IsOver, calls_behind}
use Rattle.lq_commands.proofs.ViewsRead.{views_are_read}
use Rattle.lq_commands.specs.Refusals.{if_halts, if_not, if_some, invalid, own_halt}
use Rattle.lq_commands.specs.Rehearsal.{Told, came, rehearsal_refusal, takes_back, told_unless, unrehearsed, updates, updates_again}
use Rattle.lq_commands.specs.Scripts.{log_in, nothing_told, rollback_script, sets_in, sets_script, update_script}
use Rattle.lq_commands.specs.declared.given.Given.{Given}
use Rattle.lq_rehearsal.proofs.Shut.{rollback_over, update_over}
use Rattle.lq_rehearsal.specs.Returns.{MayReturn, Returned}

-- the rows behind those that stay are those behind so many
same_point : (n : ℕ) (rows : List Tracked) → drop (length rows - (length rows - n)) rows ≡ drop n rows
same_point n [] = none (0 - (0 - n)) ∙ sym (none n) where
  none : (k : ℕ) → drop k (let rows : List Tracked = [] in rows) ≡ []
  none zero = refl
  none (suc k) = refl
same_point zero (row ∷ rows) = ap (λ (k : ℕ). drop k (row ∷ rows)) (nothing (suc (length rows))) where
  nothing : (l : ℕ) → l - (l - 0) ≡ 0
  nothing l = omega arith
same_point (suc n) (row ∷ rows) = ap (λ (k : ℕ). drop k (row ∷ rows)) (one_less (length rows) n) ∙ same_point n rows where
  one_less : (l m : ℕ) → suc l - (suc l - suc m) ≡ suc (l - (l - m))
  one_less l m = omega arith

-- where the changelog's own condition does not halt it stops nothing
own_stops : (q : Choice) (c : Contents) (s : Settled) → is_halt q ≡ false → (by_own q c s).stop ≡ s.stop
own_stops (Halts why) c s h = Prim.cc
own_stops (Runs by (Some why)) c s h = refl
own_stops (Runs by None) c s h = refl
own_stops (Marks by) c s h = refl
own_stops Passes c s h = refl
own_stops Fills c s h = refl
own_stops Skips c s h = refl

no_halt : (q : Choice) → is_halt q ≡ false → if_halts q ≡ None
no_halt (Halts why) h = Prim.cc
no_halt (Runs by why) h = refl
no_halt (Marks by) h = refl
no_halt Passes h = refl
no_halt Fills h = refl
no_halt Skips h = refl

same_contents : (a b : Database) → a.users ≡ b.users → a.rows ≡ b.rows → contents_of a ≡ contents_of b
same_contents a b users rows = ap (λ u. record (contents_of a) { users = u }) users ∙ ap (λ r. record (contents_of b) { rows = r }) rows

-- calls that leave nothing open, and others
left_both : (d : Dialect) (calls others : List Call) (database : Database) → IsOver d calls database → left_by d (calls ++ others) database ≡ left_by d others (left_by d calls database)
left_both d calls others database over =
    ap (λ (s : Session). s.committed) (calls_both d calls others (session_on database) ∙ ap (all_called d others) over.0 ∙ calls_behind d (all_called d calls (session_on database)).entries others (session_on (left_by d calls database)))

abbrev if_locked : Lock → Option Status
if_locked lock = if lock.locked then Some (Locked lock) else None

module _ (given : Given) (database : Database) (may : MayReturn given database) where
  abbrev d : Dialect
  d = given.options.dialect

  abbrev stay : ℕ
  stay = length database.rows

  abbrev first_calls : List Call
  first_calls = update_script given database

  abbrev one : Database
  one = left_by d first_calls database

  abbrev back_calls : List Call
  back_calls = rollback_script given (Count (came stay one)) one

  abbrev two : Database
  two = left_by d back_calls one

  abbrev last_calls : List Call
  last_calls = sets_script given two

  pub unrefused : rehearsal_refusal given database ≡ None
  unrefused =
      ap (λ (lock : Lock). option_or (option_or (if_locked lock) (invalid given database.rows)) (option_or (unrehearsed given database.rows) (own_halt given database))) may.unlocked
      ∙ ap (λ (faults : List Fault). option_or (if_some faults) (option_or (unrehearsed given database.rows) (own_halt given database))) may.faultless
      ∙ ap (λ (bound : Option Identity). option_or (if_not bound) (own_halt given database)) may.unbound
      ∙ no_halt (own_choice (log_in given) (contents_of database)) may.goes

  first_ends : ((updates given).told database).stop ≡ None
  first_ends = own_stops (own_choice (log_in given) (contents_of database)) (contents_of database) _ may.goes ∙ may.ends

  module _ (sound : IsSound d database.users) (differ : has_twin_rows database.rows ≡ false) (read : AreFor d given.changelog) where
    law : (three : Database) → three ≡ left_by d (update_script given two) two → Returns d any_meaning given.stamp (log_in given) database one two three
    law three is = rehearsal_returns any_meaning kept d given.stamp (log_in given) database one two three
        (record { sound = sound; unlocked = may.unlocked; differ = differ; read = views_are_read d given.options given.changelog read; goes = may.goes; ends = may.ends; first = may.first; reversible = may.reversible; known = may.known })
        refl refl is

    abbrev laws : Returns d any_meaning given.stamp (log_in given) database one two (left_by d (update_script given two) two)
    laws = law (left_by d (update_script given two) two) refl

    again : contents_of two ≡ contents_of database
    again = same_contents two database laws.back.users laws.back.rows

    last_is : last_calls ≡ update_script given two
    last_is = passed_script given two (ap (λ (c : Contents). is_halt (own_choice (log_in given) c)) again ∙ may.goes)

    back_ends : ((takes_back given stay).told one).stop ≡ None
    back_ends =
        let point : rows_undone (length one.rows - came stay one) one.rows ≡ rows_undone stay one.rows = ap (λ (rows : List Tracked). reverse rows) (same_point stay one.rows) in
        ap (λ (o : Option (List Turn)). (elim o as (λ _. Account) [ Some turns ↦ of_turns false d turns (contents_of one) | None ↦ nothing_told (contents_of one) ]).settled.stop) (ap (undo_turns d any_meaning (sets_in given)) point ∙ laws.are)
        ∙ laws.none_refused

    abbrev rest : Option Stop → List Call
    rest o = back_calls ++ calls_unless o last_calls

    abbrev all_calls : Option Stop → List Call
    all_calls o = first_calls ++ calls_unless o (rest ((takes_back given stay).told one).stop)

    left_is : left_by d (all_calls ((updates given).told database).stop) database ≡ left_by d (update_script given two) two
    left_is =
        ap (λ (o : Option Stop). left_by d (all_calls o) database) first_ends
        ∙ left_both d first_calls (rest ((takes_back given stay).told one).stop) database (update_over given database)
        ∙ ap (λ (o : Option Stop). left_by d (rest o) one) back_ends
        ∙ left_both d back_calls last_calls one (rollback_over given one (Count (came stay one)))
        ∙ ap (λ (calls : List Call). left_by d calls two) last_is

    abbrev told_rest : Option Stop → Told
    told_rest o = told_unless o ((takes_back given stay).told one) ((updates_again given).told two)

    abbrev told_all : Option Stop → Told
    told_all o = told_unless o ((updates given).told database) (told_rest ((takes_back given stay).told one).stop)

    pub returned : Returned given database
    returned = record {
      ends = ap (λ (o : Option Stop). (told_all o).stop) first_ends ∙ ap (λ (o : Option Stop). (told_rest o).stop) back_ends ∙ laws.ends;
      same = subst (λ (left : Database). SameDatabase left one) (sym left_is) laws.again;
    }
