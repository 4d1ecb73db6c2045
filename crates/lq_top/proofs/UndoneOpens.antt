-- undo-unrecorded puts in no row, so that what it leaves, or a stop of it, is opened again.
use Rattle.std.proofs.Common.{refl}
use Rattle.std.specs.List.{list_all}
use Rattle.std.specs.Prelude.{Bool, Err, List, None, Ok, Option, Result, Some, [], false, suc, true, ℕ, ◌++◌, ◌∷◌, ◌≡◌}
use Rattle.laws_repair.specs.Repair.{back_calls, undo_calls as calls_back}
use Rattle.lq_base.specs.declared.dialect.Dialect.{Dialect}
use Rattle.lq_base.specs.declared.identity.Identity.{Identity}
use Rattle.lq_base.specs.declared.reason.Reason.{Reason}
use Rattle.lq_expr.specs.declared.options.Options.{Options}
use Rattle.lq_kinds.specs.declared.change_set.Changelog.{Changelog}
use Rattle.lq_mending.specs.Undoes.{Standing, calls_of, first_of, undo_script, unrecorded}
use Rattle.lq_model.proofs.Lists.{all-append, and_left, and_right, and_true}
use Rattle.lq_model.specs.declared.statement.Statement.{Statement}
use Rattle.lq_reverse.specs.Back.{back}
use Rattle.lq_stand.specs.Stays.{call_is_first, calls_are_first, deed_is_first, deeds_are_first}
use Rattle.lq_jobs.proofs.OpensAgain.{opens_behind, opens_stopped}
use Rattle.lq_jobs.specs.Asks.{Asks, Files}
use Rattle.lq_jobs.specs.Bytes.{Becomes, IsLeftOn, Opens}
use Rattle.lq_jobs.specs.Undone.{UndoneOpens, undo_calls}
use Rattle.lq_track.specs.Database.{Database}
use Rattle.lq_turns.specs.Deed.{Contents, contents_of, contents_after, done}
use Rattle.lq_turns.specs.Script.{closing}
use Rattle.lq_turns.specs.Session.{Session, called, left_by, session_on}
use Rattle.lq_turns.specs.Turn.{made, made_on}
use Rattle.lq_turns.specs.declared.call.Call.{Call}
use Rattle.lq_turns.specs.declared.call.Call.TheVariants.{Abort, Alone, Begin, Commit, Execute}
use Rattle.lq_turns.specs.declared.deed.Deed.{Deed}
use Rattle.lq_turns.specs.declared.deed.Deed.TheVariants.{Locks, Rows, Users}

abbrev is_rowless : Deed → Bool
is_rowless (Users s) = true
is_rowless (Rows w) = false
is_rowless (Locks w) = true

abbrev puts_none : Call → Bool
puts_none (Execute deed) = is_rowless deed
puts_none (Alone deeds room) = list_all is_rowless deeds
puts_none Begin = true
puts_none Commit = true
puts_none Abort = true

module _ (d : Dialect) where
  deed_first : (deed : Deed) (database : Database) → is_rowless deed ≡ true → deed_is_first deed database ≡ true
  deed_first (Users s) database none = refl
  deed_first (Rows w) database none = Prim.cc
  deed_first (Locks w) database none = refl

  deeds_first : (deeds : List Deed) (database : Database) → list_all is_rowless deeds ≡ true → deeds_are_first d deeds database ≡ true
  deeds_first [] database none = refl
  deeds_first (deed ∷ deeds) database none =
      and_true (deed_is_first deed database) _ (deed_first deed database (and_left (is_rowless deed) _ none))
      (elim (done d deed database) as (λ q. elim q as (λ _. Bool) [ Ok now ↦ deeds_are_first d deeds now | Err reason ↦ true ] ≡ true) [
        | Ok now ↦ deeds_first deeds now (and_right (is_rowless deed) _ none)
        | Err reason ↦ refl
      ])

  call_first : (call : Call) (s : Session) → puts_none call ≡ true → call_is_first d call s ≡ true
  call_first (Execute deed) s none = deed_first deed s.seen none
  call_first (Alone deeds room) s none = deeds_first deeds s.seen none
  call_first Begin s none = refl
  call_first Commit s none = refl
  call_first Abort s none = refl

  calls_first : (calls : List Call) (s : Session) → list_all puts_none calls ≡ true → calls_are_first d calls s ≡ true
  calls_first [] s none = refl
  calls_first (call ∷ calls) s none =
      and_true (call_is_first d call s) (calls_are_first d calls (called d call s)) (call_first call s (and_left (puts_none call) _ none)) (calls_first calls (called d call s) (and_right (puts_none call) _ none))

  -- what is made of calls

  made_none : (calls : List Call) (c : Contents) → list_all puts_none calls ≡ true → list_all puts_none (made d calls c) ≡ true
  made_none [] c none = refl
  made_none (Begin ∷ calls) c none = made_none calls c none
  made_none (Commit ∷ calls) c none = made_none calls c none
  made_none (Abort ∷ calls) c none = made_none calls c none
  made_none (Alone deeds room ∷ calls) c none =
      and_true (list_all is_rowless deeds) (list_all puts_none (made d calls c)) (and_left (list_all is_rowless deeds) _ none) (made_none calls c (and_right (list_all is_rowless deeds) _ none))
  made_none (Execute deed ∷ calls) c none =
      and_true (is_rowless deed) (list_all puts_none (made_on (made d calls) (contents_after d deed c))) (and_left (is_rowless deed) _ none)
      (elim (contents_after d deed c) as (λ q. list_all puts_none (made_on (made d calls) q) ≡ true) [
        | Ok now ↦ made_none calls now (and_right (is_rowless deed) _ none)
        | Err reason ↦ refl
      ])

  back_none : (who : List ℕ) (of : Identity) (k : ℕ) (o : Option Statement) → list_all puts_none (back_calls who of k o) ≡ true
  back_none who of k None = refl
  back_none who of k (Some s) = refl

  undoing_none : (who : List ℕ) (of : Identity) (k : ℕ) (ss : List Statement) → list_all puts_none (calls_back d who of k ss) ≡ true
  undoing_none who of k [] = refl
  undoing_none who of k (s ∷ ss) = all-append puts_none (calls_back d who of (suc k) ss) (back_calls who of k (back d s)) (undoing_none who of (suc k) ss) (back_none who of k (back d s))

  repair_none : (who : List ℕ) (of : Identity) (ss : List Statement) (c : Contents) → list_all puts_none (made d (calls_back d who of 1 ss ++ closing ∷ []) c) ≡ true
  repair_none who of ss c = made_none (calls_back d who of 1 ss ++ closing ∷ []) c (all-append puts_none (calls_back d who of 1 ss) (closing ∷ []) (undoing_none who of 1 ss) refl)

part_none : (o : Options) (database : Database) (part : Option Standing) → list_all puts_none (calls_of o database part) ≡ true
part_none o database None = refl
part_none o database (Some part) = repair_none o.dialect _ part.0.identity (first_of o part) (contents_of database)

undo_first : (o : Options) (g : Changelog) (last : Option (List ℕ)) (database : Database) → calls_are_first o.dialect (undo_script o g last database) (session_on database) ≡ true
undo_first o g last database = calls_first o.dialect (undo_script o g last database) (session_on database) (part_none o database (unrecorded o g last database.lock database.rows))

module _ (o : Options) (g : Changelog) (told : Option (List ℕ)) (database : Database) (opens : Opens o.dialect told database) where
  pub undone_opens : (after : Option (List ℕ)) → Becomes o.dialect (undo_calls o g told database) database told after → Opens o.dialect after (left_by o.dialect (undo_calls o g told database) database)
  undone_opens after becomes = opens_behind o.dialect told database opens (undo_calls o g told database) (undo_first o g _ database) after becomes

  pub undone_cut : (after : Option (List ℕ)) (cut : IsLeftOn o.dialect (undo_calls o g told database) database told after) → Opens o.dialect after cut.now
  undone_cut after cut = opens_stopped o.dialect told database opens (undo_calls o g told database) (undo_first o g _ database) after cut

-- and what a crash left of it
pub undone_crash_opens : {words : List (List ℕ)} {files : Files} (asks : Asks words files) (told : Option (List ℕ)) (bytes : List ℕ) → UndoneOpens asks told bytes
undone_crash_opens asks told bytes = λ is database opens cut. undone_cut asks.line.options asks.changelog told database opens (Some bytes) cut
