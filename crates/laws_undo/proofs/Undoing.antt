-- What an update's stop left is taken back, however often undo-unrecorded was stopped too.
use Rattle.std.proofs.Common.{ap, arith, inl, inr, refl, subst, sym, ◌∙◌}
use Rattle.std.proofs.Math.Seq.{take-append_seam}
use Rattle.std.proofs.lemmas.Bool.{le-leb, lt-ltb}
use Rattle.std.proofs.lemmas.List.{append-nil, append_assoc, reverse-append}
use Rattle.std.specs.List.{flat_map, last_or, list_all, list_any}
use Rattle.std.specs.Option.{option_or, option_to_list}
use Rattle.std.specs.Prelude.{Bool, Err, List, None, Ok, Option, Result, Some, [], false, if◌then◌else◌, is_none, is_some, length, nat_le, nat_lt, not, option_and_then, reverse, suc, take, true, zero, ℕ, ◌<◌, ◌==◌, ◌^◌, ◌++◌, ◌∷◌, ◌≡◌, ◌≤◌, ◌⊎◌}
use Rattle.laws_repair.proofs.Repaired.{repair_leaves}
use Rattle.laws_repair.proofs.Updates.{partly_by}
use Rattle.laws_repair.specs.Repair.{LastTextTells, is_mark_text, Mark, by_of, marked_set, IsPartly, IsWhole, marked_text, repair_calls, standing}
use Rattle.laws_undo.proofs.Texts.{Since, front_held, more_since, nothing_since, told}
use Rattle.laws_undo.specs.Undone.{AreUndone, Gives, PartsAreTakenBack, StopsHeld, TakesBack, UpdateCut, calls_on, turns_on}
use Rattle.lq_base.specs.Kind.{plain_number}
use Rattle.lq_base.specs.Name.{identity_text}
use Rattle.lq_base.specs.declared.dialect.Dialect.{Dialect}
use Rattle.lq_base.specs.declared.reason.Reason.{Reason}
use Rattle.lq_base.specs.declared.tracking.Lock.{Lock}
use Rattle.lq_base.specs.declared.tracking.Tracked.{Tracked}
use Rattle.lq_beside.proofs.OtherFits.{release_fits}
use Rattle.lq_beside.proofs.UpdateFits.{update_fits}
use Rattle.lq_beside.specs.Replays.{calls_fit}
use Rattle.lq_db.specs.Db.{last_text}
use Rattle.lq_expr.specs.declared.options.Options.{Options}
use Rattle.lq_any.specs.AnyChange.{gives, inverse, is_for, is_fresh}
use Rattle.lq_any.specs.AnyChangeLaws.{does, restores, spelled}
use Rattle.lq_any.specs.declared.any_change.AnyChange.{AnyChange}
use Rattle.lq_kinds.specs.declared.change_set.Changelog.{Changelog}
use Rattle.lq_mending.proofs.Fitting.{repair_fits}
use Rattle.lq_mending.proofs.Marking.{undo_leaves}
use Rattle.lq_mending.specs.Comes.{back_refused, refused_by, refused_from, refused_in}
use Rattle.lq_mending.specs.Undoes.{Standing, can_undo, first_of, if_faults, made_in, refusal, refusal_at, set_marked, sets_in, standing_by, standing_in, undo_script, unless_undone, unrecorded}
use Rattle.lq_mending.specs.declared.outcome.RepairFault.{RepairFault}
use Rattle.lq_mending.specs.declared.outcome.RepairFault.TheVariants as fault
use Rattle.lq_model.proofs.Lists.{all-append_left, all-append_right, and_left, and_true}
use Rattle.lq_model.specs.Catalogue.{Catalogue}
use Rattle.lq_model.specs.Sound.{IsSound}
use Rattle.lq_model.specs.Step.{is_statement, run, step}
use Rattle.lq_model.specs.declared.caller.By.TheVariants.{User}
use Rattle.lq_model.specs.declared.statement.Statement.{Statement}
use Rattle.lq_reverse.specs.Back.{PartsBack, back, backs}
use Rattle.lq_seen.proofs.Spelled.{statements_spelled}
use Rattle.lq_seen.specs.View.{any_meaning}
use Rattle.lq_stand.specs.Stays.{IsClean}
use Rattle.lq_statement.specs.Laws.{StatementsReadBack}
use Rattle.lq_store.specs.Journal.{Entry}
use Rattle.lq_track.specs.Database.{Database, has_twin_rows}
use Rattle.lq_turns.proofs.Stays.{all_sound}
use Rattle.lq_turns.specs.Deed.{Contents, contents_of}
use Rattle.lq_turns.specs.Set.{inverses, statements_of, Changelog as Log, IsKept, Set}
use Rattle.lq_turns.specs.Faults.{faults}
use Rattle.lq_turns.specs.Schedule.{StandsFor}
use Rattle.lq_turns.specs.Laws.{AreRead}
use Rattle.lq_turns.specs.Script.{closing, turn_by, update_calls}
use Rattle.lq_turns.specs.Session.{all_called, left_by, session_on}
use Rattle.lq_turns.specs.Settle.{run_turn}
use Rattle.lq_turns.specs.Stops.{joined}
use Rattle.lq_turns.specs.Within.{marks_last}
use Rattle.lq_turns.specs.declared.call.Call.{Call}
use Rattle.lq_turns.specs.declared.choice.What.TheVariants.{New}
use Rattle.lq_turns.specs.declared.deed.Deed.{Deed}
use Rattle.lq_turns.specs.declared.fault.Fault.{Fault}
use Rattle.lq_turns.specs.declared.stamp.Stamp.{Stamp}
use Rattle.lq_turns.specs.declared.turn.Turn.{Turn}
use Rattle.lq_unrecorded.proofs.MarkParts.{parts}
use Rattle.lq_unrecorded.specs.Part.{counts_in, is_back, number_in}

false_true : {A : Type 0} → false ≡ true → A
false_true h = absurd (clash h) where
  clash : false ≡ true → ⊥
  clash e = Prim.cc

pub kept : IsKept any_meaning
kept = record { spelled = spelled; does = does; restores = restores }

some_turn : {a b : Turn} → (let o : Option Turn = Some a in o) ≡ Some b → a ≡ b
some_turn is = Prim.cc

long : (pre : List Statement) (s : Statement) (post : List Statement) → suc (length pre) ≤ length (pre ++ s ∷ post)
long [] s post = omega arith
long (p ∷ pre) s post =
    let more = long pre s post in
    omega (arith, more)

below : (a b n : ℕ) → a ≤ b → b < n → a < n
below a b n le lt = omega (arith, le, lt)

-- a held lock has its row
pub row_there : (d : Dialect) (c : Catalogue) (database : Database) → StandsFor d c database → database.lock.locked ≡ true → database.has_lock_row ≡ true
row_there d c database stands held =
    let one : calls_fit d (closing ∷ []) (session_on database) ≡ true =
    subst (λ (b : Bool). calls_fit d (if b then closing ∷ [] else []) (session_on database) ≡ true) held (release_fits d c database stands) in
    and_left database.has_lock_row _ (and_left _ _ one)

-- a clean database has no two rows of one identity

pub rows_apart : (d : Dialect) (database : Database) → IsClean d database → has_twin_rows database.rows ≡ false
rows_apart d database clean = by (has_twin_rows database.rows) (and_left (not (has_twin_rows database.rows)) _ clean) where
  by : (b : Bool) → not b ≡ true → b ≡ false
  by false is = refl
  by true is = false_true is

-- statements of changes for the dialect
first_spelled : (d : Dialect) (x : Set AnyChange) (first rest : List Statement) → list_all (is_for d) x.changes ≡ true → statements_of d any_meaning x.changes ≡ first ++ rest → list_all (is_statement d) first ≡ true
first_spelled d x first rest read are = all-append_left (is_statement d) first rest (subst (λ (ss : List Statement). list_all (is_statement d) ss ≡ true) are (statements_spelled d x.changes read))

-- where what takes statements back leads on, none of it is refused

abbrev undoing_of : Dialect → List Statement → List Statement
undoing_of d statements = flat_map (λ (s : Statement). option_to_list (back d s)) statements

undoing_both : (d : Dialect) (xs ys : List Statement) → undoing_of d (xs ++ ys) ≡ undoing_of d xs ++ undoing_of d ys
undoing_both d [] ys = refl
undoing_both d (x ∷ xs) ys = ap (λ (z : List Statement). option_to_list (back d x) ++ z) (undoing_both d xs ys) ∙ sym (append_assoc (option_to_list (back d x)) (undoing_of d xs) (undoing_of d ys))

backs_are : (d : Dialect) (statements : List Statement) → backs d statements ≡ undoing_of d (reverse statements)
backs_are d [] = refl
backs_are d (s ∷ ss) =
    ap (λ (z : List Statement). z ++ option_to_list (back d s)) (backs_are d ss)
    ∙ (ap (λ (z : List Statement). undoing_of d (reverse ss) ++ z) (sym (append-nil (option_to_list (back d s))))
    ∙ (sym (undoing_both d (reverse ss) (s ∷ []))
    ∙ ap (undoing_of d) (sym (reverse-append (s ∷ []) ss))))

none_refused : (d : Dialect) (statements : List Statement) (u v : Catalogue) → run User d (undoing_of d statements) u ≡ Ok v → refused_in d statements u ≡ None
none_refused d [] u v ran = refl
none_refused d (s ∷ before) u v ran = by (λ e more. none_refused d before e v more) (back d s) ran where
  by_step : ((e : Catalogue) → run User d (undoing_of d before) e ≡ Ok v → refused_in d before e ≡ None) → (n : ℕ) (r : Result (Catalogue × ℕ) Reason)
      → elim r as (λ _. Result Catalogue Reason) [ Ok x ↦ run User d (undoing_of d before) x.0 | Err reason ↦ Err reason ] ≡ Ok v → refused_by (refused_in d before) n r ≡ None
  by_step again n (Ok x) more = again x.0 more
  by_step again n (Err reason) more = absurd Prim.cc

  by : ((e : Catalogue) → run User d (undoing_of d before) e ≡ Ok v → refused_in d before e ≡ None) → (o : Option Statement) → run User d (option_to_list o ++ undoing_of d before) u ≡ Ok v
      → refused_from d (refused_in d before) (suc (length before)) o u ≡ None
  by again None more = again u more
  by again (Some undoing) more = by_step again (suc (length before)) (step User d undoing u) more

back_accepted : (d : Dialect) (first : List Statement) (u v : Catalogue) → run User d (backs d first) u ≡ Ok v → back_refused d first u ≡ None
back_accepted d first u v ran = none_refused d (reverse first) u v (subst (λ (ss : List Statement). run User d ss u ≡ Ok v) (backs_are d first) ran)

-- the mark's number is that of a statement
counts : (p : Option ℕ) (k many : ℕ) → number_in p ≡ suc k → suc k ≤ many → counts_in many p ≡ true
counts None k many is within = absurd (none is) where
  none : zero ≡ suc k → ⊥
  none h = Prim.cc
counts (Some n) k many is within = and_true (nat_lt 0 n) (nat_le n many) (lt-ltb 0 n (omega (arith, is))) (le-leb n many (omega (arith, is, within)))

no_faults : (found : List Fault) → found ≡ [] → if_faults found ≡ None
no_faults found none = ap if_faults none

module _ (o : Options) (g : Changelog) (at : ℕ) (who : List ℕ) (x : Set AnyChange) (c : Contents) (plain : list_any (λ b. b == 124) who ≡ false) (small : length (made_in o x) < 2 ^ 64)
    (named : marked_set (identity_text x.identity) c.rows (sets_in o g) ≡ Some x) (read : list_all (is_for o.dialect) x.changes ≡ true) (can : is_some (inverses o.dialect any_meaning x.changes) ≡ true) where
  abbrev Partly : Option Deed → Database → Type 0
  Partly last database = IsPartly o.dialect at who x.identity (made_in o x) c last database

  within : (last : Option Deed) (database : Database) (partly : Partly last database) → suc (length partly.place.0) ≤ length (made_in o x)
  within last database partly =
      let place = partly.place in
      subst (λ (ss : List Statement). suc (length place.0) ≤ length ss) (sym place.3) (long place.0 place.1 place.2)

  -- the mark's number is that of one of its statements
  few : (last : Option Deed) (database : Database) (partly : Partly last database) → partly.k < 2 ^ 64
  few last database partly = subst (λ n. n < 2 ^ 64) (sym partly.place.4) (below (suc (length partly.place.0)) (length (made_in o x)) (2 ^ 64) (within last database partly) small)

  named_there : (last : Option Deed) (database : Database) → Partly last database → marked_set (identity_text x.identity) database.rows (sets_in o g) ≡ Some x
  named_there last database partly = subst (λ (rows : List Tracked). marked_set (identity_text x.identity) rows (sets_in o g) ≡ Some x) (sym partly.rows) named

  leaves : (text : Option (List ℕ)) (last : Option Deed) (database : Database) (partly : Partly last database)
      → is_mark_text o.dialect (by_of database.lock) text ≡ marks_last (by_of database.lock) last
      → (undo_script o g text database ≡ repair_calls o.dialect who x.identity partly.first database) × IsWhole c (left_by o.dialect (undo_script o g text database) database)
  leaves text last database partly told =
      undo_leaves o g text at who x c last database partly plain (few last database partly) (named_there last database partly) told

  -- its mark, read
  mark_of : (last : Option Deed) (database : Database) → Partly last database → Mark database.lock
  mark_of last database partly =
      let at_k : partly.k ≡ suc (length partly.place.0) = partly.place.4 in
      let by : database.lock.by ≡ Some (marked_text partly.is_back who x.identity partly.k) = ap (λ (l : Lock). l.by) partly.lock in
      record {
        who = who;
        name = identity_text x.identity;
        is_back = partly.is_back;
        k = length partly.place.0;
        small = subst (λ n. n < 2 ^ 64) at_k (few last database partly);
        is = by ∙ ap (λ n. Some (marked_text partly.is_back who x.identity n)) at_k;
        plain = plain;
      }

  -- no check refuses it
  passes : (last : Option Deed) (database : Database) → Partly last database → database.lock.locked ≡ true → faults (sets_in o g) database.rows ≡ [] → x.rollback ≡ None → refusal o g database.lock database.rows ≡ None
  unfolding mark_of
  passes last database partly held none no_block =
      let mark = mark_of last database partly in
      let it = parts database.lock mark held in
      let number = plain_number it.digits in
      let many = length (made_in o x) in
      let can_it : can_undo o x it.digits ≡ true =
      and_true (is_none x.rollback) _ (ap is_none no_block) (and_true (is_some (inverses o.dialect any_meaning x.changes)) (counts_in many number) can (counts number mark.k many it.number (within last database partly))) in
      ap (refusal_at o g database.rows) it.part
      ∙ (ap (λ (e : Option RepairFault). option_or e (unless_undone o (mark.name, it.form, it.digits) (set_marked o g database.rows (mark.name, it.form, it.digits)))) (no_faults (faults (sets_in o g) database.rows) none)
      ∙ (ap (unless_undone o (mark.name, it.form, it.digits)) (named_there last database partly)
      ∙ ap (λ (b : Bool). if b then None else Some (fault.NotReversible x.identity)) can_it))

  -- and no statement is refused that takes one back
  accepts : (text : Option (List ℕ)) (last : Option Deed) (database : Database) → Partly last database → database.lock.locked ≡ true → is_mark_text o.dialect (by_of database.lock) text ≡ marks_last (by_of database.lock) last
      → (part : Standing) × (unrecorded o g text database.lock database.rows ≡ Some part) × (back_refused o.dialect (first_of o part) database.users ≡ None)
  unfolding mark_of
  accepts text last database partly held set_so =
      let mark = mark_of last database partly in
      let it = parts database.lock mark held in
      let set = is_mark_text o.dialect (by_of database.lock) text in
      let by : by_of database.lock ≡ marked_text partly.is_back who x.identity partly.k = ap (λ (l : Lock). by_of l) partly.lock in
      let count : standing_by o.dialect text database.lock (mark.name, it.form, it.digits) ≡ length partly.first =
      ap (λ (b : Bool). standing b set (number_in (plain_number it.digits))) it.back
      ∙ (ap (standing mark.is_back set) it.number
      ∙ (ap (λ (b : Bool). standing partly.is_back b (suc mark.k)) (set_so ∙ ap (λ text. marks_last text last) by)
      ∙ (ap (standing partly.is_back (marks_last (marked_text partly.is_back who x.identity partly.k) last)) (sym partly.place.4) ∙ sym partly.number))) in
      let there : unrecorded o g text database.lock database.rows ≡ Some (x, length partly.first) =
      ap (option_and_then (λ k. standing_in o.dialect text database.lock k (set_marked o g database.rows k))) it.part
      ∙ (ap (standing_in o.dialect text database.lock (mark.name, it.form, it.digits)) (named_there last database partly)
      ∙ ap (λ n. Some (x, n)) count) in
      let first : take (length partly.first) (made_in o x) ≡ partly.first = ap (take (length partly.first)) partly.are ∙ take-append_seam partly.first partly.rest in
      ((x, length partly.first), there, ap (λ (ss : List Statement). back_refused o.dialect ss database.users) first ∙ back_accepted o.dialect partly.first database.users c.users partly.returns)

  -- where the lock is held after a stop, a part stands still
  stands : (last : Option Deed) (next : Database) → next.lock.locked ≡ true → IsWhole c next ⊎ Partly last next → Partly last next
  stands last next held (inl whole) = false_true (sym (ap (λ (l : Lock). l.locked) whole.lock) ∙ held)
  stands last next held (inr partly) = partly

  module _ (tells : LastTextTells) (read_back : StatementsReadBack) (before : List Entry) (start : Database) (unlocked : start.lock.locked ≡ false) where
    -- a part stands, with what stops have written since the start
    record Part (entries : List Entry) (database : Database) : Type 0 where
      since : Since o.dialect before start entries database
      held : database.lock.locked ≡ true
      partly : Partly (last_or None (joined since.written)) database

    told_of : (entries : List Entry) (database : Database) (part : Part entries database) → is_mark_text o.dialect (by_of database.lock) (last_text entries) ≡ marks_last (by_of database.lock) (last_or None (joined part.since.written))
    told_of entries database part =
        let since = part.since in
        ap (λ (es : List Entry). is_mark_text o.dialect (by_of database.lock) (last_text es)) since.are
        ∙ told o.dialect tells read_back before start since.written database unlocked part.held since.led since.read

    -- a stop leaves one again
    next_part : (entries after : List Entry) (database : Database) (part : Part entries database) (catalogue : Catalogue) → StandsFor o.dialect catalogue database → (stop : StopsHeld o.dialect (calls_on o g entries database) database entries after) → Part after stop.now
    next_part entries after database part catalogue found stop =
        let d = o.dialect in
        let since = part.since in
        let last = last_or None (joined since.written) in
        let partly = part.partly in
        let same = (leaves (last_text entries) last database partly (told_of entries database part)).0 in
        let fit : calls_fit d (calls_on o g entries database) (session_on database) ≡ true =
        subst (λ (calls : List Call). calls_fit d calls (session_on database) ≡ true) (sym same)
        (repair_fits d who x.identity partly.first database (first_spelled d x partly.first partly.rest read partly.are) (row_there d catalogue database found part.held)) in
        let front = front_held d (calls_on o g entries database) database stop.now stop.written stop.left stop.led stop.held in
        let writes = ap (λ (calls : List Call). (all_called d calls (session_on database)).entries) (sym same) ∙ front.1 in
        let left = stands (last_or last (joined stop.written)) stop.now stop.held ((repair_leaves d at who x.identity (made_in o x) c last database partly).1 stop.written front.0 stop.now writes stop.led) in
        let more = more_since d read_back before start entries after database stop.now (calls_on o g entries database) stop.written since fit stop.left stop.entries stop.led in
        record { since = more.0; held = stop.held; partly = subst (λ l. Partly l stop.now) (sym more.1) left }

    all_parts : (stops : List (List Entry)) (entries : List Entry) (database : Database) (catalogue : Catalogue) (end : List Entry) (now : Database) → Part entries database → StandsFor o.dialect catalogue database
        → AreUndone o g entries database stops end now → Part end now
    all_parts [] entries database catalogue end now part found same =
        subst (λ (es : List Entry). Part es now) (sym same.0) (subst (λ (e : Database). Part entries e) (sym same.1) part)
    all_parts (next ∷ stops) entries database catalogue end now part found more =
        all_parts stops next more.0.now more.0.found.catalogue end now (next_part entries next database part catalogue found more.0) more.0.found.stands more.1

    takes_back : (entries : List Entry) (database : Database) → Part entries database → TakesBack o g c x entries database
    takes_back entries database part =
        let last = last_or None (joined part.since.written) in
        let told_is = told_of entries database part in
        record {
          leaves = (leaves (last_text entries) last database part.partly told_is).1;
          passes = passes last database part.partly part.held;
          accepted = accepts (last_text entries) last database part.partly part.held told_is;
        }

-- the part that an update's stop left

module _ (partly_back : PartsBack is_for gives is_fresh inverse) (o : Options) (stamp : Stamp) (log : Log AnyChange) (start : Database) (before after : List Entry) (cut : UpdateCut o.dialect stamp log start before after) where
  abbrev d : Dialect
  d = o.dialect

  abbrev point : Contents
  point = (turns_on d stamp cut.turns start).contents

  test : Set AnyChange → Bool
  test y = list_all (is_for d) y.changes

  all_read : AreRead d any_meaning (cut.turns ++ cut.set ∷ cut.others)
  all_read = subst (AreRead d any_meaning) cut.are cut.read

  set_read : list_all (is_for d) cut.set.changes ≡ true
  set_read =
      let more : AreRead d any_meaning (cut.set ∷ cut.others) = all-append_right (λ (y : Set AnyChange). list_all (is_for d) y.changes) cut.turns (cut.set ∷ cut.others) all_read in
      and_left (list_all (is_for d) cut.set.changes) _ more

  point_sound : IsSound d point.users
  point_sound = all_sound d any_meaning kept stamp cut.turns (contents_of start) (all-append_left (λ (y : Set AnyChange). list_all (is_for d) y.changes) cut.turns (cut.set ∷ cut.others) all_read) cut.found.stands.sound

  pub cut_partly : IsPartly d stamp.reading stamp.who cut.set.identity (statements_of d any_meaning cut.set.changes) point (last_or None (joined cut.stop.written)) cut.stop.now
  cut_partly =
      let runs = cut.first in
      let turn : cut.turn ≡ run_turn d any_meaning stamp.reading New cut.set point.rows = some_turn (sym cut.turn_is ∙ ap (turn_by d any_meaning stamp cut.set point.rows) runs.runs) in
      partly_by any_meaning kept partly_back d stamp cut.set point (last_or None (joined cut.stop.written)) cut.stop.now set_read point_sound runs cut.turn turn cut.within

  -- and what it wrote since the start
  pub cut_since : StatementsReadBack → (since : Since d before start after cut.stop.now) × (last_or None (joined since.written) ≡ last_or None (joined cut.stop.written))
  cut_since read_back =
      let fit = update_fits any_meaning kept d stamp log start cut.found.stands.sound (rows_apart d start cut.found.clean) cut.time cut.read cut.texts in
      more_since d read_back before start before after start cut.stop.now (update_calls d any_meaning stamp log start) cut.stop.written (nothing_since d before start) fit cut.stop.left cut.stop.entries cut.stop.led

pub parts_are_taken_back : PartsBack is_for gives is_fresh inverse → LastTextTells → StatementsReadBack → PartsAreTakenBack
parts_are_taken_back back_again tells read_back o g stamp log start before first cut given stops entries database since_then =
    let d = o.dialect in
    let x = given.set in
    let c = (turns_on d stamp cut.turns start).contents in
    let named : marked_set (identity_text x.identity) c.rows (sets_in o g) ≡ Some x = ap (λ of. marked_set (identity_text of) c.rows (sets_in o g)) given.identity ∙ given.found in
    let read : list_all (is_for d) x.changes ≡ true = ap (list_all (is_for d)) given.changes ∙ set_read back_again o stamp log start before first cut in
    let can : is_some (inverses d any_meaning x.changes) ≡ true = ap (λ changes. is_some (inverses d any_meaning changes)) given.changes ∙ ap is_some cut.first.inverse in
    let since = cut_since back_again o stamp log start before first cut read_back in
    let partly : IsPartly d stamp.reading stamp.who x.identity (made_in o x) c (last_or None (joined since.0.written)) cut.stop.now =
    subst (λ l. IsPartly d stamp.reading stamp.who x.identity (made_in o x) c l cut.stop.now) (sym since.1)
    (subst (λ of. IsPartly d stamp.reading stamp.who of (made_in o x) c (last_or None (joined cut.stop.written)) cut.stop.now) (sym given.identity)
    (subst (λ changes. IsPartly d stamp.reading stamp.who cut.set.identity (statements_of d any_meaning changes) c (last_or None (joined cut.stop.written)) cut.stop.now) (sym given.changes) (cut_partly back_again o stamp log start before first cut))) in
    let part = all_parts o g stamp.reading stamp.who x c cut.who given.few named read can tells read_back before start cut.unlocked stops first cut.stop.now cut.stop.found.catalogue entries database
    (record { since = since.0; held = cut.stop.held; partly = partly }) cut.stop.found.stands since_then in
    takes_back o g stamp.reading stamp.who x c cut.who given.few named read can tells read_back before start cut.unlocked entries database part
