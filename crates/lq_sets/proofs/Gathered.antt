-- The rows that conditions ask for tell them as much as all rows.
use Rattle.std.proofs.Common.{ap, arith, drop, get_or, length, refl, subst, suc, sym, ◌∙◌}
use Rattle.std.proofs.Math.Seq.{drop-cons}
use Rattle.std.specs.List.{filter, list_any}
use Rattle.std.specs.Prelude.{Bool, List, Ok, Result, [], cond, false, map, not, true, ℕ, ◌+◌, ◌++◌, ◌<◌, ◌∷◌, ◌≡◌, ◌||◌}
use Rattle.lq_base.specs.declared.dialect.Dialect.{Dialect}
use Rattle.lq_base.specs.declared.reason.Reason.{Reason}
use Rattle.lq_base.specs.declared.tracking.Tracked.{Tracked}
use Rattle.lq_base.specs.Name.{is_named}
use Rattle.lq_cond.proofs.ToldLemmas.{and_told, is_told, not_told, or_told}
use Rattle.lq_cond.specs.Told.{tells, told, tracks}
use Rattle.lq_cond.specs.declared.cond.Cond.{And, Cond, Is, Not, Or}
use Rattle.lq_cond.specs.declared.condition.Condition.{Condition}
use Rattle.lq_cond.specs.declared.condition.Condition.TheVariants.{ChangeSetExecuted, ColumnExists, Dbms, ForeignKeyConstraintExists, IndexExists, PrimaryKeyExists, RowCount, SequenceExists, SqlCheck, TableExists, TableIsEmpty, UniqueConstraintExists, ViewExists}
use Rattle.lq_model.proofs.Lists.{and_left, and_right, and_true, any-append, named_itself, same_name, true_false}
use Rattle.lq_model.specs.Catalogue.{Catalogue}
use Rattle.lq_track.specs.Database.{Database}
use Rattle.lq_turns.specs.Deed.{is_of, theirs}
use Rattle.lq_sets.specs.Counting.{Added, AreAmong, Gathered, GatheredEach, Suffice, rows_for}
use Rattle.lq_verdicts.specs.Verdict.{all_hold, each_told, map_told, one_holds}

-- rows among rows

left_of : (a b : Bool) → a ≡ true → (a || b) ≡ true
left_of a b h = ap (λ x. x || b) h

right_of : (a b : Bool) → b ≡ true → (a || b) ≡ true
right_of true b h = refl
right_of false b h = h

either : (a b c : Bool) → (a ≡ true → c ≡ true) → (b ≡ true → c ≡ true) → (a || b) ≡ true → c ≡ true
either true b c one other h = one refl
either false b c one other h = other h

filter_among : (q : Tracked → Bool) (all : List Tracked) → AreAmong (filter q all) all
filter_among q [] p h = h
filter_among q (r ∷ all) p h = at (q r) (filter_among q all p) h where
  at : (b : Bool) → (list_any p (filter q all) ≡ true → list_any p all ≡ true) → list_any p (cond b (r ∷ filter q all) (filter q all)) ≡ true → (p r || list_any p all) ≡ true
  at true less k = either (p r) (list_any p (filter q all)) _ (left_of (p r) (list_any p all)) (λ more. right_of (p r) (list_any p all) (less more)) k
  at false less k = right_of (p r) (list_any p all) (less k)

-- a filter keeps what passes a narrower test
wider : (p q : Tracked → Bool) → ((r : Tracked) → p r ≡ true → q r ≡ true) → (all : List Tracked) → list_any p all ≡ true → list_any p (filter q all) ≡ true
wider p q less [] h = h
wider p q less (r ∷ all) h = either (p r) (list_any p all) _ here (λ more. skip (q r) (wider p q less all more)) h where
  here : p r ≡ true → list_any p (cond (q r) (r ∷ filter q all) (filter q all)) ≡ true
  here is = ap (λ b. list_any p (cond b (r ∷ filter q all) (filter q all))) (less r is) ∙ left_of (p r) (list_any p (filter q all)) is

  skip : (b : Bool) → list_any p (filter q all) ≡ true → list_any p (cond b (r ∷ filter q all) (filter q all)) ≡ true
  skip true k = right_of (p r) (list_any p (filter q all)) k
  skip false k = k

-- rows that are added

pub none_added : (all rows : List Tracked) → Added all rows rows
none_added all rows = record { kept = λ p h. h; among = λ from. from }

pub added_both : {all old now new : List Tracked} → Added all old now → Added all now new → Added all old new
added_both one more = record { kept = λ p h. more.kept p (one.kept p h); among = λ from. more.among (one.among from) }

none_among : (all : List Tracked) → AreAmong [] all
none_among all p h = true_false h refl

for_among : (one : Condition) (all : List Tracked) → AreAmong (rows_for one all) all
for_among (ChangeSetExecuted id author file) all = filter_among (is_of (record { file = file; id = id; author = author })) all
for_among (Dbms names) all = none_among all
for_among (TableExists t) all = none_among all
for_among (ViewExists v) all = none_among all
for_among (ColumnExists t n) all = none_among all
for_among (SequenceExists s) all = none_among all
for_among (IndexExists t n) all = none_among all
for_among (UniqueConstraintExists t n) all = none_among all
for_among (ForeignKeyConstraintExists t n) all = none_among all
for_among (PrimaryKeyExists t n) all = none_among all
for_among (SqlCheck text query) all = none_among all
for_among (RowCount t expected) all = none_among all
for_among (TableIsEmpty t) all = none_among all

for_added : (all rows : List Tracked) (one : Condition) → Added all rows (rows ++ rows_for one all)
for_added all rows one = record {
  kept = λ p h. any-append p rows (rows_for one all) ∙ left_of (list_any p rows) (list_any p (rows_for one all)) h;
  among = λ from p h. either (list_any p rows) (list_any p (rows_for one all)) _ (from p) (for_among one all p) (sym (any-append p rows (rows_for one all)) ∙ h);
}

-- a condition of one kind

tracked_is_of : (id author file : List ℕ) (r : Tracked) → tracks id author file r ≡ true → is_of (record { file = file; id = id; author = author }) r ≡ true
tracked_is_of id author file r h =
    let ids : id ≡ r.id = same_name id r.id (and_left _ _ h) in
    let authors : author ≡ r.author = same_name author r.author (and_left _ _ (and_right _ _ h)) in
    let files : file ≡ r.filename = same_name file r.filename (and_right _ _ (and_right _ _ h)) in
    and_true _ _ (ap (is_named r.filename) files ∙ named_itself r.filename)
    (and_true _ _ (ap (is_named r.id) ids ∙ named_itself r.id) (ap (is_named r.author) authors ∙ named_itself r.author))

two_ways : (a b : Bool) → (a ≡ true → b ≡ true) → (b ≡ true → a ≡ true) → a ≡ b
two_ways true b to from = sym (to refl)
two_ways false true to from = from refl
two_ways false false to from = refl

abbrev as_told : Bool → Result Bool Reason
as_told b = Ok b

tells_as : (all rows : List Tracked) (one : Condition) (d : Dialect) (c : Catalogue) (more : List Tracked) → AreAmong (rows ++ rows_for one all) more → AreAmong more all → tells d c all one ≡ tells d c more one
tells_as all rows (ChangeSetExecuted id author file) d c more has among = ap as_told (two_ways _ _
    (λ h. has (tracks id author file) (any-append (tracks id author file) rows (theirs (record { file = file; id = id; author = author }) all) ∙ right_of (list_any (tracks id author file) rows) _ (wider (tracks id author file) (is_of (record { file = file; id = id; author = author })) (tracked_is_of id author file) all h)))
    (among (tracks id author file)))
tells_as all rows (Dbms names) d c more has among = refl
tells_as all rows (TableExists t) d c more has among = refl
tells_as all rows (ViewExists v) d c more has among = refl
tells_as all rows (ColumnExists t n) d c more has among = refl
tells_as all rows (SequenceExists s) d c more has among = refl
tells_as all rows (IndexExists t n) d c more has among = refl
tells_as all rows (UniqueConstraintExists t n) d c more has among = refl
tells_as all rows (ForeignKeyConstraintExists t n) d c more has among = refl
tells_as all rows (PrimaryKeyExists t n) d c more has among = refl
tells_as all rows (SqlCheck text query) d c more has among = refl
tells_as all rows (RowCount t expected) d c more has among = refl
tells_as all rows (TableIsEmpty t) d c more has among = refl

-- one of each kind

one_gathered : (all rows : List Tracked) (one : Condition) → Gathered all rows (rows ++ rows_for one all) (Is one)
one_gathered all rows one = record {
  added = for_added all rows one;
  tell = λ d c more has among. is_told d c all one ∙ tells_as all rows one d c more has among ∙ sym (is_told d c more one);
}

pub gathered_by : (all rows new : List Tracked) (one : Condition) (asked : Cond) → asked ≡ Is one → new ≡ rows ++ rows_for one all → Gathered all rows new asked
gathered_by all rows new one asked is added = subst (Gathered all rows new) (sym is) (subst (λ xs. Gathered all rows xs (Is one)) (sym added) (one_gathered all rows one))

module _ {all old new : List Tracked} {conds : List Cond} (each : GatheredEach all old new conds) where
  pub and_gathered : Gathered all old new (And conds)
  and_gathered = record {
    added = each.added;
    tell = λ d c more has among. and_told d c all conds ∙ ap (λ xs. map_told all_hold (each_told xs)) (each.tell d c more has among) ∙ sym (and_told d c more conds);
  }

  pub or_gathered : Gathered all old new (Or conds)
  or_gathered = record {
    added = each.added;
    tell = λ d c more has among. or_told d c all conds ∙ ap (λ xs. map_told one_holds (each_told xs)) (each.tell d c more has among) ∙ sym (or_told d c more conds);
  }

  pub not_gathered : Gathered all old new (Not conds)
  not_gathered = record {
    added = each.added;
    tell = λ d c more has among. not_told d c all conds ∙ ap (λ xs. map_told not (map_told one_holds (each_told xs))) (each.tell d c more has among) ∙ sym (not_told d c more conds);
  }

-- a loop over them

abbrev told_each : Dialect → Catalogue → List Tracked → List Cond → List (Result Bool Reason)
told_each d c rows conds = map (λ cond. told d cond c rows) conds

-- Rows were added, and whatever rows come to them tell all the conditions what all rows tell where they tell it those that are left.
pub record IsGathering (all old now : List Tracked) (conds left : List Cond) : Type 0 where
  pub added : Added all old now
  pub tell : (d : Dialect) (c : Catalogue) (more : List Tracked) → AreAmong now more → AreAmong more all → told_each d c all left ≡ told_each d c more left → told_each d c all conds ≡ told_each d c more conds

pub gathering : (all rows : List Tracked) (conds : List Cond) → IsGathering all rows rows conds conds
gathering all rows conds = record { added = none_added all rows; tell = λ d c more has among same. same }

module _ {all old now new : List Tracked} {conds : List Cond} where
  one_more : (asked : Cond) (left : List Cond) → IsGathering all old now conds (asked ∷ left) → Gathered all now new asked → IsGathering all old new conds left
  one_more asked left so_far one = record {
    added = added_both so_far.added one.added;
    tell = λ d c more has among same. so_far.tell d c more (λ p h. has p (one.added.kept p h)) among
        (ap (λ x. x ∷ told_each d c all left) (one.tell d c more has among) ∙ ap (λ xs. told d asked c more ∷ xs) same);
  }

  -- a turn of it
  pub gathered_next : (i : ℕ) (d asked : Cond) → i < length conds → asked ≡ get_or conds i d → IsGathering all old now conds (drop i conds) → Gathered all now new asked → IsGathering all old new conds (drop (i + 1) conds)
  gathered_next i d asked within is so_far one =
      let next : suc i ≡ i + 1 = omega arith in
      let here : drop i conds ≡ asked ∷ drop (suc i) conds = drop-cons conds i d within ∙ ap (λ x. x ∷ drop (suc i) conds) (sym is) in
      subst (λ n. IsGathering all old new conds (drop n conds)) next (one_more asked (drop (suc i) conds) (subst (IsGathering all old now conds) here so_far) one)

-- its end
pub gathered_each : {all old new : List Tracked} {conds : List Cond} → IsGathering all old new conds [] → GatheredEach all old new conds
gathered_each done = record { added = done.added; tell = λ d c more has among. done.tell d c more has among refl }

-- from no row on, what was gathered suffices
pub suffices : (d : Dialect) (asked : Cond) (database : Database) (rows : List Tracked) → Gathered database.rows [] rows asked → Suffice d asked database rows
suffices d asked database rows it = it.tell d database.users rows (λ p h. h) (it.added.among (none_among database.rows))
