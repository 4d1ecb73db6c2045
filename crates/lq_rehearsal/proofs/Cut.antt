-- A stop of calls, and of others behind them, that holds the lock is a stop of the first or one of the others.
use Rattle.std.proofs.Common.{ap, inl, inr, refl, subst, sym, ◌∙◌}
use Rattle.std.specs.List.{last_or}
use Rattle.std.specs.Prelude.{List, None, Ok, Option, Result, [], false, true, ◌++◌, ◌∷◌, ◌≡◌, ◌⊎◌}
use Rattle.lq_base.specs.declared.dialect.Dialect.{Dialect}
use Rattle.lq_base.specs.declared.reason.Reason.{Reason}
use Rattle.lq_base.specs.declared.tracking.Lock.{Lock}
use Rattle.lq_commands.proofs.Sequenced.{IsOver, both_entries}
use Rattle.lq_track.specs.Database.{Database}
use Rattle.lq_track.specs.Lock.{free}
use Rattle.lq_turns.proofs.Journal.{done_both, joined_both, journal_leads, next}
use Rattle.lq_turns.proofs.Marks.{last_or_both}
use Rattle.lq_turns.specs.Deed.{all_done}
use Rattle.lq_turns.specs.Session.{all_called, left_by, session_on}
use Rattle.lq_turns.specs.Stops.{Journal, joined}
use Rattle.lq_turns.specs.declared.call.Call.{Call}
use Rattle.lq_turns.specs.declared.deed.Deed.{Deed}

false_true : false ≡ true → ⊥
false_true h = Prim.cc

same_database : {x y : Database} → (let r : Result Database Reason = Ok x in r) ≡ Ok y → x ≡ y
same_database is = Prim.cc

same_head : {x y : List Deed} {xs ys : Journal} → x ∷ xs ≡ y ∷ ys → x ≡ y
same_head is = Prim.cc

same_tail : {x y : List Deed} {xs ys : Journal} → x ∷ xs ≡ y ∷ ys → xs ≡ ys
same_tail is = Prim.cc

not_none : (x : List Deed) (xs : Journal) → (let none : Journal = [] in none) ≡ x ∷ xs → ⊥
not_none x xs is = Prim.cc

-- a front of two journals is a front of the first, or the first and a front of the second
abbrev Cut : Journal → Journal → Journal → Journal → Type 0
Cut front rest first more = ((left : Journal) × (first ≡ front ++ left)) ⊎ ((behind : Journal) × (front ≡ first ++ behind) × (more ≡ behind ++ rest))

cut_more : (x y : List Deed) (front rest first more : Journal) → x ≡ y → Cut front rest first more → Cut (x ∷ front) rest (y ∷ first) more
cut_more x y front rest first more same (inl it) = inl (it.0, ap (λ (es : Journal). y ∷ es) it.1 ∙ ap (λ (e : List Deed). e ∷ (front ++ it.0)) (sym same))
cut_more x y front rest first more same (inr it) = inr (it.0, ap (λ (es : Journal). x ∷ es) it.1 ∙ ap (λ (e : List Deed). e ∷ (first ++ it.0)) same, it.2)

cut : (front rest first more : Journal) → front ++ rest ≡ first ++ more → Cut front rest first more
cut [] rest first more is = inl (first, refl)
cut (x ∷ front) rest [] more is = inr (x ∷ front, refl, sym is)
cut (x ∷ front) rest (y ∷ first) more is = cut_more x y front rest first more (same_head is) (cut front rest first more (same_tail is))

-- with a free lock nothing more holds it
module _ (d : Dialect) (database now : Database) (unlocked : database.lock ≡ free) (locked : now.lock.locked ≡ true) where
  pub none_holds : (let r : Result Database Reason = Ok database in r) ≡ Ok now → ⊥
  none_holds is = false_true (sym (ap (λ (lock : Lock). lock.locked) unlocked) ∙ ap (λ (e : Database). e.lock.locked) (same_database is) ∙ locked)

  pub none_written : (front rest : Journal) → (let none : Journal = [] in none) ≡ front ++ rest → all_done d (joined front) database ≡ Ok now → ⊥
  none_written [] rest is led = none_holds led
  none_written (entry ∷ front) rest is led = not_none entry (front ++ rest) is

  last_same : (o : Option Deed) (deeds : List Deed) → all_done d deeds database ≡ Ok now → last_or o deeds ≡ last_or None deeds
  last_same o [] led = absurd (none_holds led)
  last_same o (deed ∷ deeds) led = refl

module _ (d : Dialect) (calls others : List Call) (database now : Database) (over : IsOver d calls database) (unlocked : (left_by d calls database).lock ≡ free) (locked : now.lock.locked ≡ true) (P : Option Deed → Type 0) where
  abbrev between : Database
  between = left_by d calls database

  abbrev before : Journal
  before = (all_called d calls (session_on database)).entries

  behind_led : (behind : Journal) → all_done d (joined (before ++ behind)) database ≡ Ok now → all_done d (joined behind) between ≡ Ok now
  behind_led behind led =
      sym (ap (λ deeds. all_done d deeds database) (joined_both before behind) ∙ done_both d (joined before) (joined behind) database ∙ ap (next d (joined behind)) (journal_leads d calls database)) ∙ led

  pub in_one : (front rest : Journal) → (all_called d (calls ++ others) (session_on database)).entries ≡ front ++ rest → all_done d (joined front) database ≡ Ok now
      → ((left : Journal) → before ≡ front ++ left → P (last_or None (joined front)))
      → ((behind : Journal) → (all_called d others (session_on between)).entries ≡ behind ++ rest → all_done d (joined behind) between ≡ Ok now → P (last_or None (joined behind)))
      → P (last_or None (joined front))
  in_one front rest is led first second = by (cut front rest before (all_called d others (session_on between)).entries (sym is ∙ both_entries d calls others database over)) where
    by : Cut front rest before (all_called d others (session_on between)).entries → P (last_or None (joined front))
    by (inl it) = first it.0 it.1
    by (inr it) =
        let behind_it = behind_led it.0 (sym (ap (λ (es : Journal). all_done d (joined es) database) it.1) ∙ led) in
        let last : last_or None (joined front) ≡ last_or None (joined it.0) =
        ap (λ (es : Journal). last_or None (joined es)) it.1 ∙ ap (last_or None) (joined_both before it.0) ∙ last_or_both None (joined before) (joined it.0)
        ∙ last_same d between now unlocked locked (last_or None (joined before)) (joined it.0) behind_it in
        subst P (sym last) (second it.0 it.2 behind_it)
