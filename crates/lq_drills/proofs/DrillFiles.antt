-- What reading the files of a drill comes to.
use Rattle.std.proofs.Common.{ap, inl, inr, refl, subst, sym, ◌∙◌}
use Rattle.std.proofs.lemmas.List.{append-nil, append_assoc}
use Rattle.std.proofs.lemmas.List.Elements.{All-head, All-nil, All-tail}
use Rattle.std.specs.List.{All, remove}
use Rattle.std.specs.Prelude.{Err, List, Ok, Option, Result, Some, [], length, slice_get, suc, ◌++◌, ◌∷◌, ◌≡◌}
use Rattle.lq_base.specs.declared.dialect.Dialect.{Dialect}
use Rattle.lq_cli.specs.declared.line.Line.{Line}
use Rattle.lq_sources.specs.Faults.{Finds, IsFree, IsTold, Source, map_ok, Loaded, ◌>>=◌}
use Rattle.lq_sources.specs.declared.fault.LoadFault.{LoadFault}
use Rattle.lq_sources.specs.declared.fault.LoadFault.TheVariants as load
use Rattle.lq_tell.specs.declared.status.Status.{Status}
use Rattle.lq_tell.specs.declared.status.Status.TheVariants as status
use Rattle.lq_jobs.specs.Asks.{Files, file_status}
use Rattle.lq_drills.specs.Drilled.{FindsDrill}
use Rattle.lq_jobs.specs.Drills.{entrant_of, entrants_of}
use Rattle.lq_jobs.specs.declared.entrants.Drilling.{Drilling}
use Rattle.lq_jobs.specs.declared.entrants.Entrant.{Entrant}

-- what is read is meant by another name too

pub finds_same : (files : Files) (meant other : Source → Loaded (Option Drilling)) → ((source : Source) → IsTold files source → other source ≡ meant source) → (r : Result Drilling Status) → FindsDrill files meant r → FindsDrill files other r
finds_same files meant other same (Ok drill) finds = λ source tells. same source tells ∙ finds source tells
finds_same files meant other same (Err status.Usage) finds = λ source tells. same source tells ∙ finds source tells
finds_same files meant other same (Err (status.Changelog fault)) finds = (finds.0, λ source tells. same source tells ∙ finds.1 source tells)
finds_same files meant other same (Err status.ReadFault) finds = tt
finds_same files meant other same (Err status.OutOfMemory) finds = tt
finds_same files meant other same (Err status.Done) finds = absurd finds
finds_same files meant other same (Err (status.Invalid faults)) finds = absurd finds
finds_same files meant other same (Err (status.Locked lock)) finds = absurd finds
finds_same files meant other same (Err (status.Halted place why)) finds = absurd finds
finds_same files meant other same (Err (status.Refused identity statement kept reason)) finds = absurd finds
finds_same files meant other same (Err status.NoTarget) finds = absurd finds
finds_same files meant other same (Err (status.NotReversible identity)) finds = absurd finds
finds_same files meant other same (Err status.NothingToUndo) finds = absurd finds
finds_same files meant other same (Err (status.NotWritable at)) finds = absurd finds
finds_same files meant other same (Err status.DiskFault) finds = absurd finds
finds_same files meant other same (Err (status.Damaged at)) finds = absurd finds
finds_same files meant other same (Err (status.Full used next)) finds = absurd finds
finds_same files meant other same (Err status.WriteFault) finds = absurd finds
finds_same files meant other same (Err (status.Busy session)) finds = absurd finds

-- a fault of its files is one of the drill

module _ {A : Type 0} (files : Files) (part : Source → Loaded A) (meant : Source → Loaded (Option Drilling)) (carries : (source : Source) (fault : LoadFault) → part source ≡ Err fault → meant source ≡ Err fault) where
  all_told : (fault : LoadFault) → (IsFree fault → ⊥) → Finds files part (Err fault) → (source : Source) → IsTold files source → meant source ≡ Err fault
  all_told fault bound (inl free) source tells = absurd (bound free)
  all_told fault bound (inr all) source tells = carries source fault (all source tells)

  pub finds_fault : (fault : LoadFault) → Finds files part (Err fault) → FindsDrill files meant (Err (file_status fault))
  finds_fault load.Read finds = tt
  finds_fault (load.NoFile text) finds = (refl, all_told (load.NoFile text) (λ free. elim free [ inl is ↦ Prim.cc | inr is ↦ Prim.cc ]) finds)
  finds_fault (load.Xml text) finds = (refl, all_told (load.Xml text) (λ free. elim free [ inl is ↦ Prim.cc | inr is ↦ Prim.cc ]) finds)
  finds_fault (load.Fault path what) finds = (refl, all_told (load.Fault path what) (λ free. elim free [ inl is ↦ Prim.cc | inr is ↦ Prim.cc ]) finds)
  finds_fault (load.TooDeep text) finds = (refl, all_told (load.TooDeep text) (λ free. elim free [ inl is ↦ Prim.cc | inr is ↦ Prim.cc ]) finds)
  finds_fault load.TooMany finds = (refl, all_told load.TooMany (λ free. elim free [ inl is ↦ Prim.cc | inr is ↦ Prim.cc ]) finds)
  finds_fault (load.TooLong text) finds = (refl, all_told (load.TooLong text) (λ free. elim free [ inl is ↦ Prim.cc | inr is ↦ Prim.cc ]) finds)
  finds_fault load.OutOfMemory finds = tt

pub then_fault : {A B : Type 0} (f : A → Loaded B) (r : Loaded A) (fault : LoadFault) → r ≡ Err fault → r >>= f ≡ Err fault
then_fault f r fault is = ap (λ r. r >>= f) is

pub then_ok : {A B : Type 0} (f : A → Loaded B) (r : Loaded A) (a : A) → r ≡ Ok a → r >>= f ≡ f a
then_ok f r a is = ap (λ r. r >>= f) is

pub mapped_fault : {A B : Type 0} (f : A → B) (r : Loaded A) (fault : LoadFault) → r ≡ Err fault → map_ok f r ≡ Err fault
mapped_fault f r fault is = ap (map_ok f) is

-- one line after another

-- behind those that were read
abbrev pub behind : List Entrant → Loaded (List Entrant) → Loaded (List Entrant)
behind front r = map_ok (λ (more : List Entrant). front ++ more) r

behind_both : (front : List Entrant) (e : Entrant) (r : Loaded (List Entrant)) → behind front (map_ok (λ (more : List Entrant). e ∷ more) r) ≡ behind (front ++ e ∷ []) r
behind_both front e (Ok more) = ap (λ (all : List Entrant). (let it : Loaded (List Entrant) = Ok all in it)) (sym (append_assoc front (e ∷ []) more))
behind_both front e (Err fault) = refl

module _ (source : Source) (d : Dialect) where
  first_read : (front : List Entrant) (line : Line) (lines : List Line) (e : Entrant) → entrant_of source d line ≡ Ok e → behind front (entrants_of source d (line ∷ lines)) ≡ behind (front ++ e ∷ []) (entrants_of source d lines)
  first_read front line lines e is = ap (behind front) (then_ok (λ e. map_ok (λ (more : List Entrant). e ∷ more) (entrants_of source d lines)) (entrant_of source d line) e is) ∙ behind_both front e (entrants_of source d lines)

  pub one_read : (front : List Entrant) (lines : List Line) (line : Line) (e : Entrant) → slice_get lines 0 ≡ Some line → entrant_of source d line ≡ Ok e → behind front (entrants_of source d lines) ≡ behind (front ++ e ∷ []) (entrants_of source d (remove lines 0))
  one_read front [] line e there is = Prim.cc
  one_read front (first ∷ lines) line e there is = first_read front first lines e (ap (entrant_of source d) (first_is there) ∙ is) where
    first_is : Some first ≡ Some line → first ≡ line
    first_is h = Prim.cc

  pub one_failed : (front : List Entrant) (lines : List Line) (line : Line) (fault : LoadFault) → slice_get lines 0 ≡ Some line → entrant_of source d line ≡ Err fault → behind front (entrants_of source d lines) ≡ Err fault
  one_failed front [] line fault there is = Prim.cc
  one_failed front (first ∷ lines) line fault there is =
      ap (behind front) (then_fault (λ e. map_ok (λ (more : List Entrant). e ∷ more) (entrants_of source d lines)) (entrant_of source d first) fault (ap (entrant_of source d) (first_is there) ∙ is)) where
        first_is : Some first ≡ Some line → first ≡ line
        first_is h = Prim.cc

pub all_behind : (front : List Entrant) → behind front (Ok []) ≡ Ok front
all_behind front = ap (λ (all : List Entrant). (let it : Loaded (List Entrant) = Ok all in it)) (append-nil front)

pub none_before : (r : Loaded (List Entrant)) → r ≡ behind [] r
none_before (Ok all) = refl
none_before (Err fault) = refl

-- the first of a list is taken out

pub all_removed : {A : Type 0} (P : A → Type 0) (xs : List A) → All P xs → All P (remove xs 0)
all_removed P [] all = All-nil P
all_removed P (x ∷ xs) all = All-tail P x xs all

pub head_has : {A : Type 0} (P : A → Type 0) (xs : List A) (x : A) → slice_get xs 0 ≡ Some x → All P xs → P x
head_has P [] x is all = Prim.cc
head_has P (first ∷ xs) x is all = subst P (first_is is) (All-head P first xs all) where
  first_is : Some first ≡ Some x → first ≡ x
  first_is h = Prim.cc

pub one_less : {A : Type 0} (xs : List A) (x : A) → slice_get xs 0 ≡ Some x → suc (length (remove xs 0)) ≡ length xs
one_less [] x is = Prim.cc
one_less (first ∷ xs) x is = refl

-- the files failed
pub read_is : (f : LoadFault) → (let r : Result Drilling Status = Err (file_status f) in r) ≡ Err status.ReadFault → f ≡ load.Read
read_is load.Read is = refl
read_is (load.NoFile text) is = Prim.cc
read_is (load.Xml text) is = Prim.cc
read_is (load.Fault path what) is = Prim.cc
read_is (load.TooDeep text) is = Prim.cc
read_is load.TooMany is = Prim.cc
read_is (load.TooLong text) is = Prim.cc
read_is load.OutOfMemory is = Prim.cc
