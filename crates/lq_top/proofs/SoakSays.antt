-- What a run says that is a soak.
use Rattle.std.proofs.Common.{ap, inl, inr, refl, subst, sym, ◌∙◌}
use Rattle.std.specs.Option.{option_map}
use Rattle.std.specs.Prelude.{Err, List, Ok, Option, Result, false, true, ℕ, ◌++◌, ◌≡◌, ◌⊎◌}
use Rattle.lq_base.specs.declared.dialect.Dialect.{Dialect}
use Rattle.lq_cli.specs.declared.line.Job.{Job}
use Rattle.lq_cli.specs.declared.line.Job.TheVariants.{Soak}
use Rattle.lq_outside.specs.Forms.{IsPart}
use Rattle.lq_sources.specs.declared.fault.LoadFault.{LoadFault}
use Rattle.lq_sources.specs.declared.fault.LoadFault.TheVariants as load
use Rattle.lq_tell.specs.Texts.{has_output, out_text, text_or_none}
use Rattle.lq_tell.specs.declared.done.Done.{Done}
use Rattle.lq_tell.specs.declared.status.Status.{Status}
use Rattle.lq_tell.specs.declared.status.Status.TheVariants as status
use Rattle.lq_turns.specs.declared.stamp.Stamp.{Stamp}
use Rattle.lq_jobs.proofs.Written.{IsWritten, failed_ends}
use Rattle.lq_jobs.specs.Asks.{file_status}
use Rattle.lq_jobs.specs.Jobs.{is_apart}
use Rattle.lq_jobs.specs.Kinds.{IsOfFiles, is_unwritten}
use Rattle.lq_soak.specs.Soaked.{FailsSoak, SaysSoak, TellsSoak, TellsSoakOf, is_done}

true_false : true ≡ false → ⊥
true_false h = Prim.cc

false_true : false ≡ true → ⊥
false_true h = Prim.cc

-- another job tells of none
pub no_soak : (job : Job) (d : Dialect) (stamp : Stamp) (done : Result Done Status) → is_apart job ≡ false → TellsSoakOf job d stamp done
no_soak job d stamp done other = λ number sets is. absurd (true_false (sym (ap is_apart is) ∙ other))

abbrev number_of : Job → ℕ
number_of (Soak number sets) = number
number_of job = 0

abbrev sets_of : Job → ℕ
sets_of (Soak number sets) = sets
sets_of job = 0

pub soak_tells : (job : Job) (a b : ℕ) (d : Dialect) (stamp : Stamp) (done : Result Done Status) → job ≡ Soak a b → TellsSoak d a b stamp done → TellsSoakOf job d stamp done
soak_tells job a b d stamp done so tells = λ number sets is.
    subst (λ (n : ℕ). TellsSoak d number n stamp done) (ap sets_of (sym so ∙ is)) (subst (λ (n : ℕ). TellsSoak d n b stamp done) (ap number_of (sym so ∙ is)) tells)

file_undone : (fault : LoadFault) → is_done (file_status fault) ≡ false
file_undone load.Read = refl
file_undone load.OutOfMemory = refl
file_undone fault = refl

file_fails : (d : Dialect) (number sets : ℕ) (stamp : Stamp) (fault : LoadFault) → IsOfFiles (Err (file_status fault)) ⊎ FailsSoak d number sets stamp (file_status fault)
file_fails d number sets stamp load.Read = inl tt
file_fails d number sets stamp load.OutOfMemory = inr (inl refl)
file_fails d number sets stamp fault = inl tt

-- nor does one whose files failed
pub failed_tells : (job : Job) (d : Dialect) (stamp : Stamp) (fault : LoadFault) (s : Status) → s ≡ file_status fault → TellsSoakOf job d stamp (Err s)
failed_tells job d stamp fault s is = λ number sets soak. (ap is_done is ∙ file_undone fault, subst (λ s. IsOfFiles (Err s) ⊎ FailsSoak d number sets stamp s) (sym is) (file_fails d number sets stamp fault))

pub refused_tells : (job : Job) (d : Dialect) (stamp : Stamp) (done : Result Done Status) → done ≡ Err status.OutOfMemory → TellsSoakOf job d stamp done
refused_tells job d stamp done is = λ number sets soak. subst (TellsSoak d number sets stamp) (sym is) (refl, inr (inl refl))

no_done : (x s : Status) → (s ≡ x) ⊎ (s ≡ status.OutOfMemory) → is_done x ≡ false → s ≡ status.Done → ⊥
no_done x s (inl same) undone is = true_false (sym (ap is_done (sym same ∙ is)) ∙ undone)
no_done x s (inr memory) undone is = true_false (sym (ap is_done is) ∙ ap is_done memory)

no_write : (x s : Status) → (s ≡ x) ⊎ (s ≡ status.OutOfMemory) → is_unwritten x ≡ true → s ≡ status.WriteFault → ⊥
no_write x s (inl same) unwritten is = true_false (sym unwritten ∙ ap is_unwritten (sym same ∙ is))
no_write x s (inr memory) unwritten is = true_false (sym (ap is_unwritten memory) ∙ ap is_unwritten is)

ends_done : (d : Dialect) (number sets : ℕ) (stamp : Stamp) (x s : Status) → x ≡ status.Done → (s ≡ x) ⊎ (s ≡ status.OutOfMemory) ⊎ (s ≡ status.WriteFault) → (s ≡ status.Done) ⊎ (s ≡ status.WriteFault) ⊎ IsOfFiles (Err s) ⊎ FailsSoak d number sets stamp s
ends_done d number sets stamp x s done (inl same) = inl (same ∙ done)
ends_done d number sets stamp x s done (inr (inl memory)) = inr (inr (inr (inl memory)))
ends_done d number sets stamp x s done (inr (inr write)) = inr (inl write)

ends_failed : (d : Dialect) (number sets : ℕ) (stamp : Stamp) (x s : Status) → IsOfFiles (Err x) ⊎ FailsSoak d number sets stamp x → (s ≡ x) ⊎ (s ≡ status.OutOfMemory) → (s ≡ status.Done) ⊎ (s ≡ status.WriteFault) ⊎ IsOfFiles (Err s) ⊎ FailsSoak d number sets stamp s
ends_failed d number sets stamp x s fails (inl same) = inr (inr (subst (λ s. IsOfFiles (Err s) ⊎ FailsSoak d number sets stamp s) (sym same) fails))
ends_failed d number sets stamp x s fails (inr memory) = inr (inr (inr (inl memory)))

pub says_soak : (d : Dialect) (number sets : ℕ) (stamp : Stamp) (done : Result Done Status) (s : Status) (before after : Option (List ℕ)) → IsWritten done s → TellsSoak d number sets stamp done
    → (has_output s ≡ true → after ≡ option_map (λ (out : List ℕ). out ++ out_text done) before) → IsPart (out_text done) before after → SaysSoak d number sets stamp s before after
says_soak d number sets stamp (Ok ended) s before after by tells whole part = record {
  whole = λ is. (tells.0, tells.2, whole (ap has_output is) ∙ ap (λ (text : List ℕ). option_map (λ (out : List ℕ). out ++ text) before) (ap text_or_none tells.1.out));
  part = λ is. (tells.0, tells.2, subst (λ (text : List ℕ). IsPart text before after) (ap text_or_none tells.1.out) part);
  ends = ends_done d number sets stamp ended.status s tells.1.status by.ended;
}
says_soak d number sets stamp (Err x) s before after by tells whole part = record {
  whole = λ is. absurd (no_done x s (failed_ends (Err x) x s by refl) tells.0 is);
  part = λ is. absurd (no_write x s (failed_ends (Err x) x s by refl) by.kind is);
  ends = ends_failed d number sets stamp x s tells.1 (failed_ends (Err x) x s by refl);
}
