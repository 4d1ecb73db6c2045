-- The last text of a journal tells whether the last deed set a mark.
use Rattle.std.specs.List.{last_or}
use Rattle.std.proofs.Common.{ap, sym, ◌∙◌}
use Rattle.std.specs.Option.{option_map}
use Rattle.std.specs.Prelude.{Bool, Err, List, None, Ok, Option, Result, Some, [], false, length, map, refl, true, ℕ, ◌++◌, ◌∷◌, ◌≡◌}
use Rattle.lq_base.specs.Name.{is_text}
use Rattle.lq_base.specs.declared.dialect.Dialect.{Dialect}
use Rattle.lq_base.specs.declared.literal.Literal.{Literal}
use Rattle.lq_base.specs.declared.literal.Literal.TheVariants as literal
use Rattle.lq_base.specs.declared.name.Name.{Name}
use Rattle.lq_base.specs.declared.reason.Reason.{Reason}
use Rattle.lq_model.proofs.Lists.{named_itself, same_name}
use Rattle.lq_model.specs.Plan.{decide}
use Rattle.lq_model.specs.SqlText.{statement_in}
use Rattle.lq_model.specs.declared.statement.Statement.{Statement}
use Rattle.lq_model.specs.declared.statement.Statement.TheVariants.{Update}
use Rattle.lq_track.specs.Database.{Database}
use Rattle.lq_track.specs.Lock.{lock_table}
use Rattle.lq_track.specs.Log.{log_table}
use Rattle.lq_track.specs.Statements.{lock_marked}
use Rattle.lq_turns.specs.Deed.{Contents, contents_of, with_contents, all_done, contents_after, if_accepted, lock_statement, locked_after, made_of, row_statement}
use Rattle.lq_turns.specs.Stops.{Journal, joined}
use Rattle.lq_turns.specs.Within.{marks_last}
use Rattle.lq_turns.specs.declared.deed.Deed.{Deed}
use Rattle.lq_turns.specs.declared.deed.Deed.TheVariants.{Locks, Rows, Users}
use Rattle.lq_turns.specs.declared.deed.OnLock.{OnLock}
use Rattle.lq_turns.specs.declared.deed.OnLock.TheVariants as on_lock
use Rattle.lq_turns.specs.declared.deed.OnRows.{OnRows}
use Rattle.lq_turns.specs.declared.deed.OnRows.TheVariants.{Cleared, Deleted, Filled, Inserted, Renewed, Tagged}
use Rattle.lq_turns.proofs.Marks.{last_or_both}
use Rattle.laws_repair.specs.Repair.{AreReadBack, IsReadBack, LastTextTells, is_mark_text, last_text, text_by}

abbrev table_in : Statement → Name
table_in (Update t sets test) = t
table_in _ = []

abbrev sets_in : Statement → List (Name × Literal)
sets_in (Update t sets test) = sets
sets_in _ = []

abbrev first_in : List (Name × Literal) → Literal
first_in [] = literal.Null
first_in (s ∷ sets) = s.1

some_statement : {s t : Statement} → (let o : Option Statement = Some s in o) ≡ Some t → s ≡ t
some_statement is = Prim.cc

text_same : {a b : List ℕ} → literal.Text a ≡ literal.Text b → a ≡ b
text_same is = Prim.cc

-- a user's statement does not set a mark: the lock's table is reserved
user_refused : {A : Type 0} (d : Dialect) (by : List ℕ) (c now : Contents) → contents_after d (Users (lock_marked by)) c ≡ Ok now → A
unfolding lock_table decide
user_refused d by c now went = Prim.cc

-- nor does one of a row
other_table : {A : Type 0} → log_table ≡ lock_table → A
unfolding log_table lock_table
other_table is = by (ap length is) where
  by : {A : Type 0} → length log_table ≡ length lock_table → A
  by is = Prim.cc

row_not_mark : {A : Type 0} (w : OnRows) (by : List ℕ) → row_statement w ≡ lock_marked by → A
row_not_mark (Inserted row) by is = Prim.cc
row_not_mark (Renewed row) by is = other_table (ap table_in is)
row_not_mark (Deleted of) by is = Prim.cc
row_not_mark (Filled of sum) by is = other_table (ap table_in is)
row_not_mark (Tagged of tag) by is = other_table (ap table_in is)
row_not_mark Cleared by is = other_table (ap table_in is)

three_one : {A : Type 0} → (let n : ℕ = 3 in n) ≡ 1 → A
three_one is = Prim.cc

lock_not_mark : {A : Type 0} (d : Dialect) (w : OnLock) (by : List ℕ) → lock_statement d w ≡ lock_marked by → ((other : List ℕ) → w ≡ on_lock.Marked other → other ≡ by → A) → A
lock_not_mark d on_lock.LogMade by is same = Prim.cc
lock_not_mark d on_lock.LockMade by is same = Prim.cc
lock_not_mark d on_lock.LockRowMade by is same = Prim.cc
lock_not_mark d (on_lock.Taken at other) by is same = three_one (ap (λ s. length (sets_in s)) is)
lock_not_mark d on_lock.Freed by is same = three_one (ap (λ s. length (sets_in s)) is)
lock_not_mark d (on_lock.Marked other) by is same = same other refl (text_same (ap (λ s. first_in (sets_in s)) is))

true_false : {A : Type 0} → true ≡ false → A
true_false is = Prim.cc

module _ (d : Dialect) (by : List ℕ) (mark_read : IsReadBack d (Locks (on_lock.Marked by))) where
  abbrev told : Deed → Bool
  told deed = is_text (text_by d (Locks (on_lock.Marked by))) (text_by d deed)

  -- texts that are one text are of one statement
  one_statement : (deed : Deed) → IsReadBack d deed → told deed ≡ true → (made_of d deed).1 ≡ lock_marked by
  one_statement deed read same = some_statement (sym read ∙ ap (statement_in d) (sym (same_name (text_by d (Locks (on_lock.Marked by))) (text_by d deed) same)) ∙ mark_read)

  not_told : (deed : Deed) → (told deed ≡ true → ⊥) → told deed ≡ false
  not_told deed never = by_it (told deed) never where
    by_it : (b : Bool) → (b ≡ true → ⊥) → b ≡ false
    by_it true never = absurd (never refl)
    by_it false never = refl

  one_tells : (deed : Deed) (c now : Contents) → contents_after d deed c ≡ Ok now → IsReadBack d deed → told deed ≡ marks_last by (Some deed)
  one_tells (Users s) c now went read = not_told (Users s) (λ same. user_refused d by c now (sym (ap (λ t. contents_after d (Users t) c) (one_statement (Users s) read same)) ∙ went))
  one_tells (Rows w) c now went read = not_told (Rows w) (λ same. row_not_mark w by (one_statement (Rows w) read same))
  one_tells (Locks on_lock.LogMade) c now went read = not_told (Locks on_lock.LogMade) (λ same. lock_not_mark d on_lock.LogMade by (one_statement (Locks on_lock.LogMade) read same) (λ other is also. Prim.cc))
  one_tells (Locks on_lock.LockMade) c now went read = not_told (Locks on_lock.LockMade) (λ same. lock_not_mark d on_lock.LockMade by (one_statement (Locks on_lock.LockMade) read same) (λ other is also. Prim.cc))
  one_tells (Locks on_lock.LockRowMade) c now went read = not_told (Locks on_lock.LockRowMade) (λ same. lock_not_mark d on_lock.LockRowMade by (one_statement (Locks on_lock.LockRowMade) read same) (λ other is also. Prim.cc))
  one_tells (Locks (on_lock.Taken at who)) c now went read = not_told (Locks (on_lock.Taken at who)) (λ same. lock_not_mark d (on_lock.Taken at who) by (one_statement (Locks (on_lock.Taken at who)) read same) (λ other is also. Prim.cc))
  one_tells (Locks on_lock.Freed) c now went read = not_told (Locks on_lock.Freed) (λ same. lock_not_mark d on_lock.Freed by (one_statement (Locks on_lock.Freed) read same) (λ other is also. Prim.cc))
  one_tells (Locks (on_lock.Marked to)) c now went read = alike (told (Locks (on_lock.Marked to))) (is_text by to) refl refl where
    alike : (a b : Bool) → told (Locks (on_lock.Marked to)) ≡ a → is_text by to ≡ b → a ≡ b
    alike true true p q = refl
    alike false false p q = refl
    alike true false p q = true_false (sym (named_itself by) ∙ ap (is_text by) (sym (text_same (ap (λ s. first_in (sets_in s)) (one_statement (Locks (on_lock.Marked to)) read p)))) ∙ q)
    alike false true p q = true_false (sym (named_itself (text_by d (Locks (on_lock.Marked by)))) ∙ ap (λ t. is_text (text_by d (Locks (on_lock.Marked by))) (text_by d (Locks (on_lock.Marked t)))) (same_name by to q) ∙ p)

  -- the last of them was accepted
  abbrev Accepted : Option Deed → Type 0
  Accepted None = Unit {0}
  Accepted (Some deed) = (c : Contents) × (now : Contents) × (contents_after d deed c ≡ Ok now) × IsReadBack d deed

  all_accepted : (deeds : List Deed) (o : Option Deed) (database now : Database) → all_done d deeds database ≡ Ok now → AreReadBack d deeds → Accepted o → Accepted (last_or o deeds)
  all_accepted [] o database now led read before = before
  all_accepted (deed ∷ deeds) o database now led read before =
      (elim (contents_after d deed (contents_of database)) as (λ r. contents_after d deed (contents_of database) ≡ r → elim (if_accepted (with_contents (locked_after deed database)) r) as (λ _. Result Database Reason) [ Ok e ↦ all_done d deeds e | Err reason ↦ Err reason ] ≡ Ok now → Accepted (last_or (Some deed) deeds)) [
        | Ok e ↦ λ at on. all_accepted deeds (Some deed) (with_contents (locked_after deed database) e) now on read.1 (contents_of database, e, at, read.0)
        | Err reason ↦ λ at on. Prim.cc
      ]) refl led

  tells : (o : Option Deed) → Accepted o → is_mark_text d by (option_map (text_by d) o) ≡ marks_last by o
  tells None is = refl
  tells (Some deed) is = one_tells deed is.0 is.1 is.2 is.3

-- the texts of deeds in entries

last_of_entry : (d : Dialect) (deeds : List Deed) (o : Option Deed) → last_or (option_map (text_by d) o) (map (text_by d) deeds) ≡ option_map (text_by d) (last_or o deeds)
last_of_entry d [] o = refl
last_of_entry d (deed ∷ deeds) o = last_of_entry d deeds (Some deed)

last_of_entries : (d : Dialect) (entries : Journal) (o : Option Deed) → last_text (option_map (text_by d) o) (map (map (text_by d)) entries) ≡ option_map (text_by d) (last_or o (joined entries))
last_of_entries d [] o = refl
last_of_entries d (entry ∷ entries) o =
    ap (λ t. last_text t (map (map (text_by d)) entries)) (last_of_entry d entry o)
    ∙ last_of_entries d entries (last_or o entry)
    ∙ ap (option_map (text_by d)) (sym (last_or_both o entry (joined entries)))

pub last_text_tells : LastTextTells
last_text_tells d by database now entries led read mark =
    ap (is_mark_text d by) (last_of_entries d entries None) ∙ tells d by mark (last_or None (joined entries)) (all_accepted d by mark (joined entries) None database now led read tt)
