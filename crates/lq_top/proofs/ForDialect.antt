-- The changelog of which words ask is for the dialect that they name.
use Rattle.std.proofs.Common.{refl, subst}
use Rattle.std.specs.List.{position}
use Rattle.std.specs.Option.{option_map}
use Rattle.std.specs.Prelude.{Err, IfOk, IfSome, List, None, Ok, Option, Some, suc, ℕ, ◌≡◌}
use Rattle.lq_base.specs.declared.dialect.Dialect.{Dialect}
use Rattle.lq_changelog.specs.Gathers.{changelog}
use Rattle.lq_changelog.specs.Laws.{WhatIsGivenIsForTheDialect}
use Rattle.lq_cli.specs.declared.line.Job.{Job}
use Rattle.lq_cli.specs.declared.line.Job.TheVariants.{ClearSums, Drill, Generate, History, RollbackSql, Run, Snapshot, Soak, UndoUnrecorded, UpdateCount, UpdateSql, UpdateTestingRollback, UpdateTo}
use Rattle.lq_cli.specs.declared.line.Line.{Line}
use Rattle.lq_commands.specs.Rehearsal.{part_for}
use Rattle.lq_kinds.specs.ReadFor.{AreFor, is_read_for}
use Rattle.lq_kinds.specs.declared.change_set.Changelog.{Changelog}
use Rattle.lq_portion.proofs.Parts.{all_first}
use Rattle.lq_portion.specs.Portion.{sets_tag, through}
use Rattle.lq_sources.specs.Faults.{Source, map_ok, Loaded}
use Rattle.lq_jobs.specs.Asks.{Asks, Files, given_for, given_to, loaded, no_changelog}
use Rattle.lq_jobs.specs.Drills.{drill_of}

given_for_it : (law : WhatIsGivenIsForTheDialect) (source : Source) (d : Dialect) (given : List (List ℕ × List ℕ)) (root : List ℕ) (r : Loaded Changelog) → changelog source root d given ≡ r → IfOk r (AreFor d)
given_for_it law source d given root (Ok g) is = law d source root given g is
given_for_it law source d given root (Err fault) is = tt

loaded_for : (law : WhatIsGivenIsForTheDialect) (source : Source) (d : Dialect) (given : List (List ℕ × List ℕ)) (root : Option (List ℕ)) → IfOk (loaded source d given root) (AreFor d)
loaded_for law source d given None = refl
loaded_for law source d given (Some root) = given_for_it law source d given root (changelog source root d given) refl

none_for : {A : Type 0} (d : Dialect) (r : Loaded A) → IfOk (map_ok (λ drill. no_changelog) r) (AreFor d)
none_for d (Ok drill) = refl
none_for d (Err fault) = tt

whole_for : (law : WhatIsGivenIsForTheDialect) (job : Job) (source : Source) (line : Line) → IfOk (given_for job source line) (AreFor line.options.dialect)
whole_for law (Run c) source line = loaded_for law source line.options.dialect line.given line.root
whole_for law UpdateSql source line = loaded_for law source line.options.dialect line.given line.root
whole_for law (UpdateCount count) source line = loaded_for law source line.options.dialect line.given line.root
whole_for law (UpdateTo tag) source line = loaded_for law source line.options.dialect line.given line.root
whole_for law (RollbackSql target) source line = loaded_for law source line.options.dialect line.given line.root
whole_for law UpdateTestingRollback source line = loaded_for law source line.options.dialect line.given line.root
whole_for law ClearSums source line = loaded_for law source line.options.dialect line.given line.root
whole_for law History source line = loaded_for law source line.options.dialect line.given line.root
whole_for law (Generate author) source line = loaded_for law source line.options.dialect line.given line.root
whole_for law (Drill runs) source line = none_for line.options.dialect (drill_of source line.options.dialect line.path runs)
whole_for law (Soak number sets) source line = loaded_for law source line.options.dialect line.given line.root
whole_for law UndoUnrecorded source line = loaded_for law source line.options.dialect line.given line.root
whole_for law Snapshot source line = loaded_for law source line.options.dialect line.given line.root

-- the first changesets are for the dialect that all are for
first_for : (d : Dialect) (g : Changelog) (place : Option ℕ) → AreFor d g → IfSome (option_map (through g) place) (AreFor d)
first_for d g None all = tt
first_for d g (Some i) all = all_first (is_read_for d) (suc i) g.sets all

part_of : (job : Job) (d : Dialect) (g : Changelog) → AreFor d g → IfSome (part_for job g) (AreFor d)
part_of (Run c) d g all = all
part_of UpdateSql d g all = all
part_of (UpdateCount count) d g all = all
part_of (UpdateTo tag) d g all = first_for d g (position (sets_tag tag) g.sets) all
part_of (RollbackSql target) d g all = all
part_of UpdateTestingRollback d g all = all
part_of ClearSums d g all = all
part_of History d g all = all
part_of (Generate author) d g all = all
part_of (Drill runs) d g all = all
part_of (Soak number sets) d g all = all
part_of UndoUnrecorded d g all = all
part_of Snapshot d g all = all

pub asked_for : WhatIsGivenIsForTheDialect → {words : List (List ℕ)} {files : Files} (asks : Asks words files) → AreFor asks.line.options.dialect asks.changelog
asked_for law asks =
    let d = asks.line.options.dialect in
    let whole = subst (λ (r : Loaded Changelog). IfOk r (AreFor d)) asks.gives (whole_for law asks.line.job asks.source asks.line) in
    subst (λ (o : Option Changelog). IfSome o (AreFor d)) asks.is_part (part_of asks.line.job d asks.whole whole)
