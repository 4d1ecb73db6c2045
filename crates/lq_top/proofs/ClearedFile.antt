-- What a clear-checksums that came to its end left on its file.
use Rattle.std.proofs.Common.{ap, subst}
use Rattle.std.specs.Prelude.{List, Option, ℕ}
use Rattle.lq_cli.specs.declared.line.Job.{Job}
use Rattle.lq_tell.specs.declared.status.Status.{Status}
use Rattle.lq_track.specs.Database.{Database}
use Rattle.lq_turns.proofs.AtOnce.{clear_leaves}
use Rattle.lq_turns.specs.Session.{left_by}
use Rattle.lq_turns.specs.declared.stamp.Stamp.{Stamp}
use Rattle.lq_jobs.specs.Asks.{Asks, Files}
use Rattle.lq_jobs.specs.Bytes.{Holds}
use Rattle.lq_jobs.specs.Headline.{HasCleared}
use Rattle.lq_jobs.specs.Jobs.{is_on_file, job_script}
use Rattle.lq_jobs.specs.Run.{Runs, given_by}

pub has_cleared : {words : List (List ℕ)} {files : Files} (asks : Asks words files) (stamp : Stamp) (before : Option (List ℕ)) (s : Status) (after : Option (List ℕ)) → Runs asks stamp before s after → HasCleared asks stamp before s after
has_cleared asks stamp before s after runs is database opens over =
    let d = asks.line.options.dialect in
    let ran = runs (ap is_on_file is) database opens in
    subst (λ (database : Database). Holds d after database) (clear_leaves d database)
    (subst (λ (job : Job). Holds d after (left_by d (job_script job (given_by asks stamp) database) database)) is (ran.works over).holds)
