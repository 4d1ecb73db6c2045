-- A database that was loaded.
use Rattle.std.proofs.Common.{◌≡◌, ◌∙◌, ℕ, true, List, Ok, Err, Result, Option, None, Some, IfSome, refl, sym, ap, subst}
use Rattle.lq_base.specs.declared.dialect.Dialect.{Dialect}
use Rattle.lq_base.specs.declared.tracking.Lock.{Lock}
use Rattle.lq_db.specs.Db.{IsHeld, IsLockOf}
use Rattle.lq_db.specs.Load.{IsDbFault}
use Rattle.lq_entries.proofs.Folded.{folded_runs, from_last_leads}
use Rattle.lq_entries.specs.Load.{catalogue_of, folded, if_clean, is_clean, read_entries}
use Rattle.lq_entries.specs.Log.{IsUndamaged, entries_in}
use Rattle.lq_frames.specs.declared.entry.Entry.{Entry as Placed}
use Rattle.lq_journal.specs.Reading.{IsRead}
use Rattle.lq_journal.specs.declared.fault.LoadFault.{LoadFault}
use Rattle.lq_journal.specs.declared.fault.LoadFault.TheVariants.{Disk, Damaged, OutOfMemory}
use Rattle.lq_loading.specs.Raise.{IsRaised, MayNotRaise}
use Rattle.lq_model.specs.Catalogue.{Catalogue, no_objects}
use Rattle.lq_model.specs.Sound.{IsSound}
use Rattle.lq_store.specs.Executor.{Held, kept}
use Rattle.lq_store.specs.Journal.{database}
use Rattle.lq_track.specs.Database.{lock_of}

-- a database that was loaded is as its calls leave it

all_lead : (d : Dialect) (l : ℕ) (bytes : List ℕ) (entries : List Placed) (used : ℕ) (read : IsRead d l bytes entries used) → folded d entries (Ok no_objects) ≡ folded d read.all (Ok no_objects)
all_lead d l bytes entries used read = ap (λ es. folded d es (Ok no_objects)) read.entries_are ∙ from_last_leads d read.all

loaded_held : (d e : Dialect) (l used : ℕ) (told : Option (List ℕ)) (entries : List Placed) (h : Held) (lock : Lock) → IfSome told (λ bytes. IsRead d l bytes entries used) → e ≡ d
    → IsRaised d (folded d entries (Ok no_objects)) h lock → IsHeld d h (entries_in e l told) lock None
loaded_held d e l used told entries h lock are p is = record {
  dialect_is = is.at.dialect_is;
  is_journal = rw p (there told are);
  sound = subst (IsSound d) (sym is.kept_is) is.at.sound;
  sound_now = subst (IsSound d) (sym is.at.now_is) is.at.sound;
  lock_is = subst (λ c. IsLockOf d c lock) (sym is.kept_is) (rw is.lock_is refl);
  begun_is = is.at.now_is ∙ sym is.kept_is;
}
  where
    there : (told : Option (List ℕ)) → IfSome told (λ bytes. IsRead d l bytes entries used) → IfSome (entries_in d l told) (λ there. database d there ≡ Some (kept h))
    there None are = tt
    there (Some bytes) are =
        rw are.journal_is (folded_runs d are.all is.catalogue (sym (all_lead d l bytes entries used are) ∙ is.meant_is) ∙ ap Some (sym is.kept_is))

pub undamaged : (d e : Dialect) (l m used : ℕ) (told now : Option (List ℕ)) (entries : List Placed) → IfSome told (λ bytes. IsRead d l bytes entries used) → now ≡ told → e ≡ d → m ≡ l → IsUndamaged e m now
undamaged d e l m used told now entries are p q r = rw (p, q, r) (there told are)
  where
    there : (told : Option (List ℕ)) → IfSome told (λ bytes. IsRead d l bytes entries used) → IsUndamaged d l told
    there None are = tt
    there (Some bytes) are = rw are.journal_is refl

catalogue_is : (d : Dialect) (l used : ℕ) (told : Option (List ℕ)) (entries : List Placed) (r : Result Catalogue ℕ) → IfSome told (λ bytes. IsRead d l bytes entries used) → if_clean d used (folded d entries (Ok no_objects)) ≡ r
    → IfSome told (λ bytes. catalogue_of d l bytes ≡ r)
catalogue_is d l used None entries r are is = tt
catalogue_is d l used (Some bytes) entries r are is =
    ap (read_entries d) are.journal_is
    ∙ (ap (λ n. if_clean d n (folded d are.all (Ok no_objects))) (sym are.used_is)
    ∙ (ap (if_clean d used) (sym (all_lead d l bytes entries used are)) ∙ is))

pub db_fault : (p d : Dialect) (l used from : ℕ) (told : Option (List ℕ)) (before now : ℕ) (entries seen : List Placed) (fault : LoadFault) → p ≡ d → seen ≡ entries → from ≡ used → IfSome told (λ bytes. IsRead d l bytes entries used)
    → MayNotRaise p from (folded p seen (Ok no_objects)) fault → IsDbFault d l told before now fault
db_fault p d l used from told before now entries seen (Damaged at) p_is seen_is used_is are raised = catalogue_is d l used told entries (Err at) are (rw (p_is, seen_is, used_is) at raised)
db_fault p d l used from told before now entries seen OutOfMemory p_is seen_is used_is are raised = tt
db_fault p d l used from told before now entries seen Disk p_is seen_is used_is are raised = absurd raised

pub raised_held : (p d e : Dialect) (l m used : ℕ) (told now : Option (List ℕ)) (entries seen : List Placed) (h : Held) (lock : Lock) → p ≡ d → e ≡ d → m ≡ l → now ≡ told → seen ≡ entries → IfSome told (λ bytes. IsRead d l bytes entries used)
    → IsRaised p (folded p seen (Ok no_objects)) h lock → IsHeld d h (entries_in e m now) lock None
raised_held p d e l m used told now entries seen h lock p_is e_is m_is now_is seen_is are is =
    let there : IsRaised d (folded d entries (Ok no_objects)) h lock = rw (p_is, seen_is) at is in
    rw (m_is, now_is) (loaded_held d e l used told entries h lock are e_is there)

pub raised_catalogue : (p d : Dialect) (l used : ℕ) (told : Option (List ℕ)) (entries seen : List Placed) (h : Held) (lock : Lock) → p ≡ d → seen ≡ entries → IfSome told (λ bytes. IsRead d l bytes entries used)
    → IsRaised p (folded p seen (Ok no_objects)) h lock → IfSome told (λ bytes. catalogue_of d l bytes ≡ Ok (kept h))
raised_catalogue p d l used told entries seen h lock p_is seen_is are is =
    let there : IsRaised d (folded d entries (Ok no_objects)) h lock = rw (p_is, seen_is) at is in
    catalogue_is d l used told entries (Ok (kept h)) are (rw (there.meant_is, there.clean) (ap Ok (sym there.kept_is)))

pub raised_clean : (p d : Dialect) (meant : Result Catalogue ℕ) (h : Held) (lock : Lock) → p ≡ d → IsRaised p meant h lock → is_clean d (kept h) ≡ true
raised_clean p d meant h lock p_is is =
    let there : IsRaised d meant h lock = rw p_is at is in ap (is_clean d) there.kept_is ∙ there.clean
