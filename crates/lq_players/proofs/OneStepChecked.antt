-- What the checks of a command that ends with its first step come to.
use Rattle.std.proofs.Common.{ap, inl, inr, refl, subst, sym, ◌∙◌}
use Rattle.std.specs.Option.{option_map}
use Rattle.std.specs.Prelude.{Bool, List, None, Option, Some, [], false, if◌then◌else◌, length, map, true, ℕ, ◌++◌, ◌∷◌, ◌≡◌, ◌≤◌}
use Rattle.lq_base.specs.Number.{char_count}
use Rattle.lq_base.specs.declared.dialect.Dialect.{Dialect}
use Rattle.lq_base.specs.declared.identity.Identity.{Identity}
use Rattle.lq_base.specs.declared.tracking.Lock.{Lock}
use Rattle.lq_base.specs.declared.tracking.Tracked.{Tracked}
use Rattle.lq_beside.proofs.OtherFits.{release_fits, tag_fits}
use Rattle.lq_beside.specs.Replays.{calls_fit}
use Rattle.lq_players.specs.AtOnce.{OnceChecked, answer_to, call_of, command_of, freeing, listed_by, listing, once_ends, once_reports, once_way, only_looks, releasing, sets_of, tagging}
use Rattle.lq_players.specs.Syncing.{HasLock, HasRows}
use Rattle.lq_players.specs.Tasks.{if_some, untagged, work_of}
use Rattle.lq_players.specs.declared.at_once.AtOnce.{AtOnce}
use Rattle.lq_players.specs.declared.at_once.OneStep.TheVariants as step
use Rattle.lq_players.specs.declared.at_once.OneStep.{OneStep}
use Rattle.lq_model.proofs.Lists.{and_left}
use Rattle.lq_model.specs.Catalogue.{Catalogue}
use Rattle.lq_model.specs.declared.caller.Room.TheVariants.{Ordinary, Release}
use Rattle.lq_playing.specs.Answers.{is_failure, came, nothing, only}
use Rattle.lq_playing.specs.Checked.{AnswersAtOnce, Checked, MakesOne, Work}
use Rattle.lq_playing.specs.declared.came.Report.{Report}
use Rattle.lq_playing.specs.declared.checks.OneCall.{OneCall}
use Rattle.lq_playing.specs.declared.checks.Verdict.TheVariants as verdict
use Rattle.lq_playing.specs.declared.checks.Verdict.{Verdict}
use Rattle.lq_seen.specs.View.{any_meaning, view_log}
use Rattle.lq_track.specs.Database.{Database}
use Rattle.lq_track.specs.Lock.{free}
use Rattle.lq_track.specs.Log.{identity_of}
use Rattle.lq_turns.proofs.AtOnce.{release_leaves, tag_leaves}
use Rattle.lq_turns.specs.Deed.{tagged}
use Rattle.lq_turns.specs.Faults.{faults}
use Rattle.lq_turns.specs.Schedule.{StandsFor, all_fit}
use Rattle.lq_turns.specs.Printed.{pending}
use Rattle.lq_turns.specs.Rest.{NoMore}
use Rattle.lq_turns.specs.Script.{closing, last_row, release_calls, tag_calls, tag_of}
use Rattle.lq_turns.specs.Session.{left_by, session_on}
use Rattle.lq_turns.specs.declared.answer.Answer.TheVariants.{Done, Invalid, NoTarget}
use Rattle.lq_turns.specs.declared.answer.Answer.{Answer}
use Rattle.lq_turns.specs.declared.call.Call.TheVariants.{Alone}
use Rattle.lq_turns.specs.declared.deed.Deed.TheVariants.{Locks, Rows}
use Rattle.lq_turns.specs.declared.deed.OnLock.TheVariants.{Freed}
use Rattle.lq_turns.specs.declared.deed.OnRows.TheVariants.{Tagged}
use Rattle.lq_turns.specs.declared.fault.Fault.{Fault}
use Rattle.lq_turns.specs.declared.stamp.Stamp.{Stamp}

pub true_not : true ≡ false → ⊥
true_not h = Prim.cc

not_true : false ≡ true → ⊥
not_true h = Prim.cc

some_none : {A : Type 0} {a : A} → (let o : Option A = Some a in o) ≡ None → ⊥
some_none h = Prim.cc

none_some : {A : Type 0} {a : A} → (let o : Option A = None in o) ≡ Some a → ⊥
none_some h = Prim.cc

-- the answer to faults

pub some_invalid : (found : List Fault) → (found ≡ [] → ⊥) → Invalid found ≡ answer_to found
some_invalid [] some = absurd (some refl)
some_invalid (fault ∷ more) some = refl

no_failure : (found : List Fault) → is_failure (answer_to found) ≡ false
no_failure [] = refl
no_failure (fault ∷ more) = refl

faults_answered : (job : Work) (database : Database) (report : Report) (found : List Fault) → job.refuses database ≡ option_map only (if_some found) → job.script database ≡ [] → job.answer database ≡ came report Done → AnswersAtOnce job (came report (answer_to found)) database
faults_answered job database report [] refuses calls answers = inr (record { passes = refuses; script_is = calls; answer_is = answers })
faults_answered job database report (fault ∷ more) refuses calls answers = inl refuses

-- the last of rows

has_last : (row : Tracked) (more : List Tracked) → last_row (row ∷ more) ≡ None → ⊥
has_last row [] none = some_none none
has_last row (other ∷ more) none = has_last other more none

no_last : (rows : List Tracked) → last_row rows ≡ None → untagged rows ≡ Some NoTarget
no_last [] none = refl
no_last (row ∷ more) none = absurd (has_last row more none)

some_last : (rows : List Tracked) (row : Tracked) → last_row rows ≡ Some row → untagged rows ≡ None
some_last [] row is = absurd (none_some is)
some_last (first ∷ more) row is = refl

pub last_is : (front : List Tracked) (row : Tracked) → last_row (front ++ row ∷ []) ≡ Some row
last_is [] row = refl
last_is (first ∷ []) row = refl
last_is (first ∷ other ∷ more) row = last_is (other ∷ more) row

pub none_last : (rows : List Tracked) → length rows ≡ 0 → last_row rows ≡ None
none_last [] none = refl
none_last (row ∷ more) none = Prim.cc

module _ (d : Dialect) (stamp : Stamp) (it : AtOnce) (seen : Catalogue) where
  abbrev job_at : OneStep → Work
  job_at what = work_of false d (record { command = command_of what; changelog = view_log it.options it.changelog; stamp = stamp })

  abbrev CheckedAt : OneStep → Report → Verdict → Type 0
  CheckedAt what report v = Checked d any_meaning stamp once_way once_ends (job_at what) once_reports NoMore (record it { report = report }) seen v

  -- validate and status

  module _ (rows : List Tracked) (has : HasRows d seen rows) where
    module _ (found : List Fault) (found_is : found ≡ faults (sets_of it) rows) (pending_found : List Identity) where
      refused_so : (database : Database) → StandsFor d seen database → option_map only (if_some (faults (sets_of it) database.rows)) ≡ option_map only (if_some found)
      refused_so database stands = ap (λ rs. option_map only (if_some (faults (sets_of it) rs))) (has database stands) ∙ ap (λ fs. option_map only (if_some fs)) (sym found_is)

      compared : (database : Database) → StandsFor d seen database → (what : OneStep) → only_looks what ≡ true → pending_found ≡ listed_by what (sets_of it) rows → AnswersAtOnce (job_at what) (came (listing pending_found) (answer_to found)) database
      compared database stands step.Validate looks is = faults_answered (job_at step.Validate) database (listing pending_found) found (refused_so database stands) refl (ap (λ list. came (listing list) Done) (sym is))
      compared database stands step.Status looks is =
          faults_answered (job_at step.Status) database (listing pending_found) found (refused_so database stands) refl (ap (λ rs. came (listing (pending (sets_of it) rs)) Done) (has database stands) ∙ ap (λ list. came (listing list) Done) (sym is))
      compared database stands (step.Tag name) looks is = absurd (not_true looks)
      compared database stands step.Release looks is = absurd (not_true looks)

      pub compare_checked : only_looks it.command ≡ true → (a : Answer) → a ≡ answer_to found → (report : Report) → report ≡ listing pending_found → pending_found ≡ listed_by it.command (sets_of it) rows → OnceChecked d stamp it seen (record { verdict = verdict.Answer a; report = report })
      compare_checked looks a is report report_is listed =
          subst (λ r. CheckedAt it.command r (verdict.Answer a)) (sym report_is)
          (ap is_failure is ∙ no_failure found, λ database stands let_in. subst (λ b. AnswersAtOnce (job_at it.command) (came (listing pending_found) b) database) (sym is) (compared database stands it.command looks listed))

    -- a tag

    module _ (tag : List ℕ) (short : char_count tag ≤ 255) where
      abbrev tag_call : Tracked → OneCall
      tag_call row = call_of (Rows (Tagged (identity_of row) tag)) Ordinary

      tags : (row : Tracked) (database : Database) → StandsFor d seen database → last_row database.rows ≡ Some row → database.lock.locked ≡ false → MakesOne d (job_at (step.Tag tag)) nothing (tag_call row) database
      tags row database stands last shut =
          let calls_are : tag_calls tag database ≡ Alone (tag_call row).deeds Ordinary ∷ [] = ap (tag_of tag) last in
          record {
            passes = ap (option_map only) (some_last database.rows row last);
            script_is = calls_are;
            answer_is = refl;
            fits = and_left (all_fit d (tag_call row).deeds database) true (ap (λ calls. calls_fit d calls (session_on database)) (sym calls_are) ∙ tag_fits d tag seen database stands short);
            accepted = (record database { rows = map (tagged (identity_of row) tag) database.rows }, refl);
            free = ap (λ calls. (left_by d calls database).lock.locked) (sym calls_are) ∙ ap (λ (e : Database). e.lock.locked) (tag_leaves d tag row database last) ∙ shut;
            which = inl refl;
          }

      tagged_by : (o : Option Tracked) → last_row rows ≡ o → (v : Verdict) → v ≡ tagging tag o → CheckedAt (step.Tag tag) nothing v
      tagged_by None last v is = subst (CheckedAt (step.Tag tag) nothing) (sym is) (refl, λ database stands let_in. inl (ap (option_map only) (ap untagged (has database stands) ∙ no_last rows last)))
      tagged_by (Some row) last v is =
          subst (CheckedAt (step.Tag tag) nothing) (sym is) (refl, (tt, tt), tt, λ database stands let_in. tags row database stands (ap last_row (has database stands) ∙ last) let_in)

      pub tag_checked : it.command ≡ step.Tag tag → (v : Verdict) → v ≡ tagging tag (last_row rows) → (report : Report) → report ≡ nothing → OnceChecked d stamp it seen (record { verdict = v; report = report })
      tag_checked same v is report report_is = subst (λ r. CheckedAt it.command r v) (sym report_is) (subst (λ what. CheckedAt what nothing v) (sym same) (tagged_by (last_row rows) refl v is))

  -- a release-locks

  abbrev free_call : OneCall
  free_call = call_of (Locks Freed) Release

  module _ (lock : Lock) (has : HasLock d seen lock) where
    frees_it : (database : Database) → StandsFor d seen database → (job_at step.Release).answer database ≡ came (freeing lock) Done
    frees_it database stands = ap (λ l. came (freeing l) Done) (has database stands)

    frees : (database : Database) → StandsFor d seen database → database.lock.locked ≡ true → MakesOne d (job_at step.Release) (freeing lock) free_call database
    frees database stands held =
        let calls_are : release_calls database ≡ closing ∷ [] = ap (λ b. if b then closing ∷ [] else []) held in
        record {
          passes = refl;
          script_is = calls_are;
          answer_is = frees_it database stands;
          fits = and_left (all_fit d free_call.deeds database) true (ap (λ calls. calls_fit d calls (session_on database)) (sym calls_are) ∙ release_fits d seen database stands);
          accepted = (record database { lock = free }, refl);
          free = ap (λ calls. (left_by d calls database).lock.locked) (sym calls_are) ∙ ap (λ (e : Database). e.lock.locked) ((release_leaves d database).0 held);
          which = inr refl;
        }

    released_by : (b : Bool) → lock.locked ≡ b → (v : Verdict) → v ≡ releasing b → CheckedAt step.Release (freeing lock) v
    released_by true held v is =
        subst (CheckedAt step.Release (freeing lock)) (sym is) (refl, (tt, tt), refl, λ database stands let_in. frees database stands (ap (λ (l : Lock). l.locked) (has database stands) ∙ held))
    released_by false shut v is =
        subst (CheckedAt step.Release (freeing lock)) (sym is) (
          refl,
          λ database stands let_in. inr (record {
            passes = refl;
            script_is = ap (λ b. if b then closing ∷ [] else []) (ap (λ (l : Lock). l.locked) (has database stands) ∙ shut);
            answer_is = frees_it database stands;
          }),
        )

    pub release_checked : it.command ≡ step.Release → (v : Verdict) → v ≡ releasing lock.locked → (report : Report) → report ≡ freeing lock → OnceChecked d stamp it seen (record { verdict = v; report = report })
    release_checked same v is report report_is = subst (λ r. CheckedAt it.command r v) (sym report_is) (subst (λ what. CheckedAt what (freeing lock) v) (sym same) (released_by lock.locked refl v is))
