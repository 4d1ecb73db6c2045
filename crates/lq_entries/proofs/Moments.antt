-- What a crash leaves of a journal while entries are added.
use Rattle.std.proofs.Common.{◌≡◌, ◌+◌, ◌<◌, ◌≤◌, ◌⊎◌, inl, inr, ℕ, true, List, [], ◌∷◌, ◌++◌, map, take, Ok, Err, Result, Option, None, Some, IfSome, IsTrue, refl, sym, ◌∙◌, ap, subst, arith}
use Rattle.std.specs.Option.{option_and_then, option_map}
use Rattle.std.proofs.lemmas.List.{append-nil, map-append}
use Rattle.lq_base.specs.declared.dialect.Dialect.{Dialect}
use Rattle.lq_outside.specs.Crash.{Crashes as DiskCrashes, IsSound, LeavesOnly, Settled}
use Rattle.lq_outside.proofs.Moments.{started, then, weaker}
use Rattle.lq_frames.specs.Body.{journal_of, with_last, StandsForSame, StandsForSameOrMore}
use Rattle.lq_frames.specs.declared.entry.Body.{Body}
use Rattle.lq_frames.specs.declared.entry.Entry.{Entry as Placed}
use Rattle.lq_store.specs.Journal.{Crashes, IsFront, Leaves, LeavesFront, Entry}
use Rattle.lq_entries.specs.Log.{as_entry, crashes_in, entries_in, if_undamaged, unplaced}

-- journals as their entries
fronts : (d : Dialect) (l : ℕ) (j : Result (List Placed) ℕ) (written : List Entry) (P : List ℕ → Type 0) (first last : DiskCrashes) → LeavesOnly first last P
    → ((entries : List Placed) (bytes : List ℕ) → j ≡ Ok entries → P bytes → IsFront (map unplaced entries) written (if_undamaged (journal_of d l bytes)))
    → LeavesFront (if_undamaged j) written (crashes_in d l first) (crashes_in d l last)
fronts d l (Err at) written P first last leaves is = tt
fronts d l (Ok entries) written P first last leaves is =
    let front : (bytes : List ℕ) (left : Option (List Entry)) → if_undamaged (journal_of d l bytes) ≡ left → P bytes → IsFront (map unplaced entries) written left
    = λ bytes left e p. subst (λ left. IsFront (map unplaced entries) written left) e (is entries bytes refl p) in
    record {
      honest = leaves.honest;
      later = leaves.later;
      each = λ honest left w. front w.0 left w.2 (leaves.each honest w.0 w.1);
      earlier = λ honest t left le w. elim (leaves.before honest t w.0 le w.1) [
        | inl before ↦ inl (w.0, before, w.2)
        | inr p ↦ inr (front w.0 left w.2 p)
      ];
    }

none_written : (d : Dialect) (l : ℕ) (written : List Entry) (entries : List Placed) (bytes : List ℕ) → journal_of d l bytes ≡ Ok entries
    → IsFront (map unplaced entries) written (if_undamaged (journal_of d l bytes))
none_written d l written entries bytes e = ([], (written, refl), ap if_undamaged e ∙ ap Some (sym (append-nil (map unplaced entries))))

one_written : (d : Dialect) (l at : ℕ) (t : Body) (entries : List Placed) (bytes : List ℕ) → journal_of d l bytes ≡ Ok (entries ++ record { at = at; body = t } ∷ [])
    → IsFront (map unplaced entries) (as_entry t ∷ []) (if_undamaged (journal_of d l bytes))
one_written d l at t entries bytes e = (as_entry t ∷ [], ([], refl), ap if_undamaged e ∙ ap Some (map-append unplaced entries (record { at = at; body = t } ∷ [])))

-- nothing is written
pub kept : (d e : Dialect) (l m : ℕ) (told : Option (List ℕ)) (written : List Entry) (first last : DiskCrashes) → e ≡ d → m ≡ l
    → IfSome told (λ before. LeavesOnly first last (StandsForSame d l (journal_of d l before)))
    → LeavesFront (entries_in d l told) written (crashes_in d l first) (crashes_in e m last)
kept d e l m None written first last p q leaves = tt
kept d e l m (Some before) written first last p q leaves =
    rw (p, q) (fronts d l (journal_of d l before) written (StandsForSame d l (journal_of d l before)) first last leaves
    (λ entries bytes is same. none_written d l written entries bytes (same ∙ is)))

at_most_one : (d : Dialect) (l at : ℕ) (t : Body) (before : List ℕ) (entries : List Placed) (bytes : List ℕ) → journal_of d l before ≡ Ok entries
    → StandsForSameOrMore d l at t (journal_of d l before) bytes → IsFront (map unplaced entries) (as_entry t ∷ []) (if_undamaged (journal_of d l bytes))
at_most_one d l at t before entries bytes is (inl same) = none_written d l (as_entry t ∷ []) entries bytes (same ∙ is)
at_most_one d l at t before entries bytes is (inr more) = one_written d l at t entries bytes (more ∙ ap (with_last at t) is)

-- the header is written, and then an entry
in_turn : (d : Dialect) (l at : ℕ) (t : Body) (told staged : Option (List ℕ)) (first middle last : DiskCrashes)
    → IfSome told (λ before. LeavesOnly first middle (StandsForSame d l (journal_of d l before)))
    → option_map (journal_of d l) staged ≡ option_map (journal_of d l) told
    → IfSome staged (λ before. LeavesOnly middle last (StandsForSameOrMore d l at t (journal_of d l before)))
    → LeavesFront (entries_in d l told) (as_entry t ∷ []) (crashes_in d l first) (crashes_in d l last)
in_turn d l at t None staged first middle last leaves same then_leaves = tt
in_turn d l at t (Some before) None first middle last leaves same then_leaves = cc
in_turn d l at t (Some before) (Some bytes) first middle last leaves same then_leaves =
    let j : journal_of d l bytes ≡ journal_of d l before = cc in
    let P = StandsForSameOrMore d l at t (journal_of d l before) in
    let start : LeavesOnly first middle P = weaker first middle (StandsForSame d l (journal_of d l before)) P leaves (λ honest c s. inl s) in
    let end : LeavesOnly middle last P = subst (λ j. LeavesOnly middle last (StandsForSameOrMore d l at t j)) j then_leaves in
    fronts d l (journal_of d l before) (as_entry t ∷ []) P first last (then first middle last P start end)
    (λ entries c is p. at_most_one d l at t before entries c is p)

pub added : (d e f : Dialect) (l m n at : ℕ) (t : Body) (told staged : Option (List ℕ)) (first middle last : DiskCrashes) → e ≡ d → m ≡ l → f ≡ e → n ≡ m
    → IfSome told (λ before. LeavesOnly first middle (StandsForSame d l (journal_of d l before)))
    → option_map (journal_of d l) staged ≡ option_map (journal_of d l) told
    → IfSome staged (λ before. LeavesOnly middle last (StandsForSameOrMore e m at t (journal_of e m before)))
    → LeavesFront (entries_in d l told) (as_entry t ∷ []) (crashes_in d l first) (crashes_in f n last)
added d e f l m n at t told staged first middle last p q r s leaves same then_leaves =
    rw (r ∙ p, s ∙ q) (in_turn d l at t told staged first middle last leaves same
    (subst (λ (x : Dialect). IfSome staged (λ before. LeavesOnly middle last (StandsForSameOrMore x l at t (journal_of x l before)))) p
    (subst (λ (x : ℕ). IfSome staged (λ before. LeavesOnly middle last (StandsForSameOrMore e x at t (journal_of e x before)))) q then_leaves)))

-- no call of the disk
pub stood : (d e : Dialect) (l m : ℕ) (told : Option (List ℕ)) (written : List Entry) (crashes : DiskCrashes) → IsSound told crashes → Settled told crashes → e ≡ d → m ≡ l
    → LeavesFront (entries_in d l told) written (crashes_in d l crashes) (crashes_in e m crashes)
stood d e l m told written crashes sound settled p q = kept d e l m told written crashes crashes p q (here told sound settled)
  where
    here : (told : Option (List ℕ)) → IsSound told crashes → Settled told crashes → IfSome told (λ before. LeavesOnly crashes crashes (StandsForSame d l (journal_of d l before)))
    here None sound settled = tt
    here (Some bytes) sound settled = started (Some bytes) crashes (StandsForSame d l (journal_of d l bytes)) sound (λ honest c left. ap (journal_of d l) (settled honest c left))
