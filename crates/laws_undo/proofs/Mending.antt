-- Between the stops of an update, undo-unrecorded's own calls are those of which laws_repair speaks.
use Rattle.std.proofs.Common.{ap, arith, inl, inr, refl, subst, sym, ◌∙◌}
use Rattle.std.proofs.lemmas.List.{append-nil}
use Rattle.std.specs.List.{All, filter, last_or, list_all, list_any}
use Rattle.std.specs.Prelude.{Bool, List, None, Ok, Option, Result, Some, [], false, if◌then◌else◌, option_and_then, suc, take, true, ℕ, ◌==◌, ◌++◌, ◌∷◌, ◌≡◌, ◌⊎◌}
use Rattle.laws_repair.proofs.Marked.{is_read}
use Rattle.laws_repair.specs.Repair.{AreReadBack, LastTextTells, is_mark_text, AreMended, Mark, MendsAt, UpdateMends, by_of, is_named_so, marked_set, the_only, repair_calls, standing}
use Rattle.laws_undo.proofs.Texts.{joins_read, left_on, told}
use Rattle.laws_undo.proofs.Undoing.{kept, row_there, rows_apart}
use Rattle.laws_undo.specs.Undone.{AreStopped, Found, StopsAt, UndoMends, calls_on, journal_on}
use Rattle.lq_base.specs.declared.dialect.Dialect.{Dialect}
use Rattle.lq_base.specs.declared.dialect.Dialect.TheVariants.{Mysql}
use Rattle.lq_base.specs.declared.tracking.Lock.{Lock}
use Rattle.lq_beside.proofs.OtherFits.{release_fits}
use Rattle.lq_beside.proofs.UpdateFits.{update_fits}
use Rattle.lq_beside.specs.Replays.{HasTexts, IsTime, calls_fit}
use Rattle.lq_db.specs.Db.{last_text}
use Rattle.lq_expr.specs.declared.options.Options.{Options}
use Rattle.lq_any.specs.AnyChange.{gives, inverse, is_for, is_fresh}
use Rattle.lq_any.specs.declared.any_change.AnyChange.{AnyChange}
use Rattle.lq_kinds.specs.declared.change_set.Changelog.{Changelog}
use Rattle.lq_mending.proofs.Fitting.{repair_fits}
use Rattle.lq_mending.proofs.Marking.{calls_repair}
use Rattle.lq_mending.proofs.Undone.{all_first}
use Rattle.lq_mending.specs.Undoes.{calls_of, made_in, set_marked, sets_in, standing_in, undo_script}
use Rattle.lq_model.proofs.Lists.{and_left, and_right, and_true}
use Rattle.lq_model.specs.Step.{is_statement}
use Rattle.lq_model.specs.declared.statement.Statement.{Statement}
use Rattle.lq_reverse.specs.Back.{PartsBack}
use Rattle.lq_seen.proofs.Spelled.{statements_spelled}
use Rattle.lq_seen.specs.View.{any_meaning, view_log}
use Rattle.lq_statement.specs.Laws.{StatementsReadBack}
use Rattle.lq_store.specs.Journal.{Entry}
use Rattle.lq_track.specs.Database.{Database}
use Rattle.lq_turns.proofs.Journal.{same_ok}
use Rattle.lq_turns.specs.Deed.{all_done}
use Rattle.lq_turns.specs.Set.{statements_of, Set}
use Rattle.lq_turns.specs.Laws.{AreRead}
use Rattle.lq_turns.specs.Script.{release_calls, update_calls}
use Rattle.lq_turns.specs.Session.{all_called, session_on}
use Rattle.lq_turns.specs.Stops.{IsLeft, Journal, has_mark, is_mark, joined}
use Rattle.lq_turns.specs.Within.{marks_last}
use Rattle.lq_turns.specs.declared.call.Call.{Call}
use Rattle.lq_turns.specs.declared.deed.Deed.TheVariants.{Locks}
use Rattle.lq_turns.specs.declared.deed.OnLock.TheVariants.{Freed}
use Rattle.lq_turns.specs.declared.stamp.Stamp.{Stamp}
use Rattle.lq_unrecorded.proofs.MarkParts.{parts}

true_false : true ≡ false → ⊥
true_false h = Prim.cc

-- a mark is one
mark_is : (lock : Lock) (mark : Mark lock) → has_mark lock ≡ true
mark_is lock mark =
    ap (λ (o : Option (List ℕ)). elim o as (λ _. Bool) [ Some by ↦ is_mark by | None ↦ false ]) mark.is ∙ is_read mark.is_back mark.who mark.name (suc mark.k) (omega arith) mark.small

-- the only one that passes a test is one of the list

some_same : {A : Type 0} {x y : A} → (let o : Option A = Some x in o) ≡ Some y → x ≡ y
some_same h = Prim.cc

none_some : {A B : Type 0} {y : A} → (let o : Option A = None in o) ≡ Some y → B
none_some h = Prim.cc

module _ {A : Type 0} (p q : A → Bool) where
  all_filtered : (xs : List A) → list_all p xs ≡ true → list_all p (filter q xs) ≡ true
  all_filtered [] all = refl
  all_filtered (x ∷ xs) all = elim (q x) as (λ b. list_all p (if b then x ∷ filter q xs else filter q xs) ≡ true) [
    | true ↦ and_true (p x) (list_all p (filter q xs)) (and_left (p x) _ all) (all_filtered xs (and_right (p x) _ all))
    | false ↦ all_filtered xs (and_right (p x) _ all)
  ]

only_passes : (p : Set AnyChange → Bool) (xs : List (Set AnyChange)) (x : Set AnyChange) → list_all p xs ≡ true → the_only xs ≡ Some x → p x ≡ true
only_passes p [] x all is = none_some is
only_passes p (y ∷ []) x all is = ap p (sym (some_same is)) ∙ and_left (p y) true all
only_passes p (y ∷ z ∷ xs) x all is = none_some is

module _ (o : Options) (g : Changelog) (mysql : o.dialect ≡ Mysql) (read : AreRead Mysql any_meaning (sets_in o g)) (tells : LastTextTells) (read_back : StatementsReadBack) (stamp : Stamp) (begin : List Entry) (start : Database)
    (unlocked : start.lock.locked ≡ false) (time : IsTime stamp.reading) (texts : All HasTexts (sets_in o g)) where
  abbrev last_on : Journal → Option (List ℕ)
  last_on written = last_text (journal_on o g stamp begin start written)

  abbrev undone_on : Journal → Database → List Call
  undone_on written database = calls_on o g (journal_on o g stamp begin start written) database

  spelled_in : (name : List ℕ) (database : Database) (x : Set AnyChange) → marked_set name database.rows (sets_in o g) ≡ Some x → list_all (is_statement o.dialect) (made_in o x) ≡ true
  spelled_in name database x found =
      let test : Set AnyChange → Bool = λ y. list_all (is_for Mysql) y.changes in
      let named : Set AnyChange → Bool = is_named_so name database.rows in
      let mine : list_all (is_for Mysql) x.changes ≡ true = only_passes test (filter named (sets_in o g)) x (all_filtered test named (sets_in o g) read) found in
      statements_spelled o.dialect x.changes (subst (λ (d : Dialect). list_all (is_for d) x.changes ≡ true) (sym mysql) mine)

  -- undo-unrecorded's calls, where the mark's changeset is found
  module _ (from : Journal) (database : Database) (held : database.lock.locked ≡ true) (mark : Mark database.lock) where
    found_calls : (x : Set AnyChange) → marked_set mark.name database.rows (sets_in o g) ≡ Some x
        → undone_on from database ≡ repair_calls o.dialect mark.who x.identity (take (standing mark.is_back (is_mark_text o.dialect (by_of database.lock) (last_on from)) (suc mark.k)) (made_in o x)) database
    found_calls x found = calls_repair o g (last_on from) database mark x held found

    found_fits : (x : Set AnyChange) → marked_set mark.name database.rows (sets_in o g) ≡ Some x → database.has_lock_row ≡ true → calls_fit Mysql (undone_on from database) (session_on database) ≡ true
    found_fits x found row =
        let first = take (standing mark.is_back (is_mark_text o.dialect (by_of database.lock) (last_on from)) (suc mark.k)) (made_in o x) in
        let all = all_first (is_statement o.dialect) (standing mark.is_back (is_mark_text o.dialect (by_of database.lock) (last_on from)) (suc mark.k)) (made_in o x) (spelled_in mark.name database x found) in
        subst (λ (d : Dialect). calls_fit d (undone_on from database) (session_on database) ≡ true) mysql
        (subst (λ (calls : List Call). calls_fit o.dialect calls (session_on database) ≡ true) (sym (found_calls x found)) (repair_fits o.dialect mark.who x.identity first database all row))

    -- it has none where no changeset is found
    no_calls : marked_set mark.name database.rows (sets_in o g) ≡ None → undone_on from database ≡ []
    no_calls none =
        let it = parts database.lock mark held in
        ap (λ m. calls_of o database (option_and_then (λ k. standing_in o.dialect (last_on from) database.lock k (set_marked o g database.rows k)) m)) it.part
        ∙ ap (λ s. calls_of o database (standing_in o.dialect (last_on from) database.lock (mark.name, it.form, it.digits) s)) none

    nothing_front : (front rest : Journal) → (let none : Journal = [] in none) ≡ front ++ rest → front ≡ []
    nothing_front [] rest is = refl
    nothing_front (entry ∷ front) rest is = Prim.cc

    -- so a stop leaves the journal as it is
    same_journal : marked_set mark.name database.rows (sets_in o g) ≡ None → (to : Journal) → IsLeft Mysql (undone_on from database) database from to → to ≡ from
    same_journal none to left = by (subst (λ (calls : List Call). IsLeft Mysql calls database from to) (no_calls none) left) where
      by : IsLeft Mysql [] database from to → to ≡ from
      by it = elim it.is as (λ _. to ≡ from) [
        | inl same ↦ same ∙ (ap (λ (es : Journal). from ++ es) (nothing_front it.front it.rest it.entries) ∙ append-nil from)
        | inr closed ↦ absurd (never (subst (λ (es : Journal). all_done Mysql (joined es) database ≡ Ok it.now) (nothing_front it.front it.rest it.entries) it.led) closed.1)
      ] where
        never : all_done Mysql [] database ≡ Ok it.now → has_mark it.now.lock ≡ false → ⊥
        never led free =
            let marked = mark_is database.lock mark in
            true_false (sym marked ∙ ap (λ (e : Database). has_mark e.lock) (same_ok Mysql led) ∙ free)

  abbrev Mends : Journal → Journal → Type 0
  Mends from to = (stops : List Journal) × AreMended any_meaning stamp (view_log o g) start from stops to

  -- a stop is one of those of laws_repair, or leaves the journal as it is
  module _ (from to : Journal) (database : Database) (led : all_done Mysql (joined from) start ≡ Ok database) (found : Found Mysql (journal_on o g stamp begin start from) database) (are : AreReadBack Mysql (joined from)) where
    abbrev Stopped : Type 0
    Stopped = (AreReadBack Mysql (joined to)) × (MendsAt any_meaning stamp (view_log o g) start from to ⊎ (to ≡ from))

    undone_as : database.lock.locked ≡ true → (mark : Mark database.lock) → IsLeft Mysql (undone_on from database) database from to → (r : Option (Set AnyChange)) → marked_set mark.name database.rows (sets_in o g) ≡ r → Stopped
    undone_as held mark left None none =
        let same = same_journal from database held mark none to left in
        (subst (λ (es : Journal). AreReadBack Mysql (joined es)) (sym same) are, inr same)
    undone_as held mark left (Some x) is =
        let fit = found_fits from database held mark x is (row_there Mysql found.catalogue database found.stands held) in
        let set : is_mark_text o.dialect (by_of database.lock) (last_on from) ≡ marks_last (by_of database.lock) (last_or None (joined from)) =
        ap (λ (d : Dialect). is_mark_text d (by_of database.lock) (last_on from)) mysql ∙ told Mysql tells read_back begin start from database unlocked held led are in
        let calls : undone_on from database
        ≡ repair_calls Mysql mark.who x.identity (take (standing mark.is_back (marks_last (by_of database.lock) (last_or None (joined from))) (suc mark.k)) (statements_of Mysql any_meaning x.changes)) database =
        found_calls from database held mark x is
        ∙ (ap (λ (b : Bool). repair_calls o.dialect mark.who x.identity (take (standing mark.is_back b (suc mark.k)) (made_in o x)) database) set
        ∙ ap (λ (d : Dialect). repair_calls d mark.who x.identity (take (standing mark.is_back (marks_last (by_of database.lock) (last_or None (joined from))) (suc mark.k)) (statements_of d any_meaning x.changes)) database) mysql) in (
          joins_read Mysql read_back (undone_on from database) database from to fit left are,
          inl (database, led, inr (inl (held, mark, x, is, subst (λ (calls : List Call). IsLeft Mysql calls database from to) calls left))),
        )

    stopped : StopsAt o g stamp begin start database from to → Stopped
    stopped (inl (rests, (who, plain, left))) =
        let fit = update_fits any_meaning kept Mysql (record stamp { who = who }) (view_log o g) database found.stands.sound (rows_apart Mysql database found.clean) time read texts in
        (joins_read Mysql read_back (update_calls Mysql any_meaning (record stamp { who = who }) (view_log o g) database) database from to fit left are, inl (database, led, inl (rests, (who, plain, left))))
    stopped (inr (inl (held, mark, left))) = undone_as held mark left (marked_set mark.name database.rows (sets_in o g)) refl
    stopped (inr (inr (held, none, left))) =
        let fit = release_fits Mysql found.catalogue database found.stands in
        (joins_read Mysql read_back (release_calls database) database from to fit left are, inl (database, led, inr (inr (held, none, left))))

  all_mended : (from : Journal) (stops : List Journal) (to : Journal) → AreReadBack Mysql (joined from) → AreStopped o g stamp begin start from stops to → Mends from to
  all_mended from [] to are same = ([], same)
  all_mended from (next ∷ stops) to are trail =
      let it = stopped from next trail.0.0 trail.0.1 trail.0.2 are trail.0.3 in
      let more = all_mended next stops to it.0 trail.1 in
      elim it.1 as (λ _. Mends from to) [
        | inl mends ↦ (next ∷ more.0, (mends, more.1))
        | inr same ↦ subst (λ (es : Journal). Mends es to) same more
      ]

pub undo_mends : UpdateMends any_meaning → PartsBack is_for gives is_fresh inverse → LastTextTells → StatementsReadBack → UndoMends
undo_mends mends parts_back tells read_back o g stamp begin start database stops last mysql sound unlocked time texts read own apart steady fit trail led end =
    let it = all_mended o g mysql read tells read_back stamp begin start unlocked time texts [] stops last tt trail in
    mends parts_back stamp (view_log o g) start database it.0 last sound unlocked read own apart steady fit it.1 led end
