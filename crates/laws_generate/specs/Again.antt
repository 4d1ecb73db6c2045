-- A generated changelog, as it is read.
use Rattle.std.specs.List.{flat_map}
use Rattle.std.specs.Prelude.{List, None, Ok, Option, Some, [], codes, false, if◌then◌else◌, length, map, true, ℕ, ◌∷◌, ◌≡◌, ◌≤◌}
use Rattle.std.specs.Str.{bytes_eq}
use Rattle.laws_made.specs.CreatedAs.{of_aims, of_filling, of_sequence, of_table, of_view}
use Rattle.laws_stages.specs.Making.{full, with_tables_as}
use Rattle.lq_base.specs.declared.dialect.Dialect.{Dialect}
use Rattle.lq_base.specs.declared.run.Did.TheVariants.{Ran}
use Rattle.lq_base.specs.declared.run.OnFail.TheVariants.{Halt}
use Rattle.lq_changelog.specs.Gathers.{changelog}
use Rattle.lq_cond.specs.declared.cond.Cond.TheVariants.{And}
use Rattle.lq_expr.specs.declared.options.Options.{Options}
use Rattle.lq_generate.specs.Faults.{first_fault}
use Rattle.lq_generate.specs.Generated.{generated_tree}
use Rattle.lq_generate.specs.Types.{Row}
use Rattle.lq_jsontext.specs.JsonText.{IsWritable}
use Rattle.lq_kinds.specs.ChangeSets.{is_label, old_sum_of, sum_of}
use Rattle.lq_any.specs.declared.any_change.AnyChange.{AnyChange}
use Rattle.lq_kinds.specs.declared.change_set.ChangeSet.{ChangeSet}
use Rattle.lq_kinds.specs.declared.change_set.Changelog.{Changelog}
use Rattle.lq_model.specs.Catalogue.{Catalogue, no_objects}
use Rattle.lq_model.specs.Sound.{IsSound}
use Rattle.lq_model.specs.declared.statement.Statement.{Statement}
use Rattle.lq_named.specs.Named.{HasNames}
use Rattle.lq_paths.specs.Paths.{format_of, is_xml}
use Rattle.lq_paths.specs.declared.path.Format.TheVariants.{Json}
use Rattle.lq_seen.specs.View.{any_meaning, view_log, views}
use Rattle.lq_sources.specs.Source.{Source}
use Rattle.lq_store.specs.Journal.{is_apart}
use Rattle.lq_tree.specs.Items.{is_empty}
use Rattle.lq_tree.specs.Json.{json_tree}
use Rattle.lq_tree.specs.declared.node.Node.{Node}
use Rattle.lq_turns.specs.Deed.{Contents}
use Rattle.lq_turns.specs.Set.{Set, effects, inverses, not_fresh}
use Rattle.lq_turns.specs.Settle.{Settled, happens, updated}

abbrev pub generated_set : List ℕ → List ℕ → List ℕ → List AnyChange → ChangeSet
generated_set path id author changes = record {
  identity = record { file = path; id = id; author = author };
  here = true;
  changes = changes;
  rollback = None;
  context = None;
  labels = [];
  context_text = [];
  labels_text = [];
  comment = [];
  run_always = false;
  run_on_change = false;
  fail_on_error = true;
  in_transaction = true;
  valid_sums = [];
  cond = And [];
  on_fail = Halt;
  on_error = Halt;
  sum = sum_of changes;
  old_sum = old_sum_of changes;
}

-- each changeset's id and its changes
abbrev pub five_changes : Dialect → Catalogue → List (List ℕ × List AnyChange)
five_changes d c =
    (codes "1", map of_sequence c.sequences)
    ∷ (codes "2", map (of_table d) c.tables)
    ∷ (codes "3", flat_map (of_filling d) c.tables)
    ∷ (codes "4", flat_map of_aims c.tables)
    ∷ (codes "5", map (of_view d) c.views)
    ∷ []

-- those that have changes, in the file at a path
abbrev pub change_sets : List ℕ → List ℕ → List (List ℕ × List AnyChange) → List ChangeSet
change_sets path author [] = []
change_sets path author (s ∷ ss) = if is_empty s.1 then change_sets path author ss else generated_set path s.0 author s.1 ∷ change_sets path author ss

abbrev pub generated_changelog : Dialect → List ℕ → List ℕ → Catalogue → Changelog
generated_changelog d path author c = record { cond = And []; on_fail = Halt; on_error = Halt; sets = change_sets path author (five_changes d c) }

-- the catalogue without its rows, each next number 1
abbrev pub without_rows : Catalogue → Catalogue
without_rows c = with_tables_as full c c.views

-- What a generated changelog is read as, and what it does.

-- the users' catalogue of a database, of which nothing is in the way
pub record MayGenerate (d : Dialect) (c : Catalogue) : Type 0 where
  pub sound : IsSound d c
  pub apart : is_apart d c ≡ true
  pub names : HasNames c
  pub fine : first_fault c ≡ None

-- a `.json` file of these bytes, whose tree is that of the catalogue
pub record IsFileOf (d : Dialect) (author : List ℕ) (c : Catalogue) (source : Source) (path bytes : List ℕ) : Type 0 where
  pub named : is_label path ≡ true
  pub json : format_of path ≡ Some Json
  pub other : is_xml path ≡ false
  pub content : source.content path ≡ Some bytes
  pub fits : length bytes ≤ 16777216
  pub tree : json_tree bytes ≡ Ok (generated_tree d author c)

-- each changeset runs on what the one before left, with nothing that is not fresh
abbrev pub SetsRun : Dialect → List ChangeSet → Catalogue → Catalogue → Type 0
SetsRun d [] c g = c ≡ g
SetsRun d (x ∷ xs) c g = (m : Catalogue) × ((effects d any_meaning x.changes c ≡ Ok m) × ((not_fresh d any_meaning x.changes c ≡ 0) × SetsRun d xs m g))

-- a database without objects and rows
abbrev pub new_database : Contents
new_database = record { users = no_objects; rows = [] }

abbrev pub updated_new : Options → ℕ → Changelog → Settled
updated_new options reading g = updated options.dialect any_meaning reading (view_log options g) new_database

-- an update of it by this changelog: each changeset runs, nothing is warned of, nothing is not fresh, nothing stops it, and these objects are there without rows
pub record UpdatesNew (options : Options) (reading : ℕ) (g : Changelog) (c : Catalogue) : Type 0 where
  pub users : (updated_new options reading g).contents.users ≡ without_rows c
  pub happened : (updated_new options reading g).happened ≡ map (λ (x : Set AnyChange). happens x Ran) (views options g.sets)
  pub warned : (updated_new options reading g).warned ≡ []
  pub fresh : (updated_new options reading g).not_fresh ≡ 0
  pub stop : (updated_new options reading g).stop ≡ None

-- what these files give at the path is a changelog that makes these objects again, with any filters, and each change of it has an inverse
pub record ComesAgain (d : Dialect) (c : Catalogue) (source : Source) (path : List ℕ) : Type 0 where
  pub again : Changelog
  pub read : changelog source path d [] ≡ Ok again
  pub updates : (options : Options) → options.dialect ≡ d → (reading : ℕ) → UpdatesNew options reading again c
  pub undone : List Statement
  pub inverse : inverses d any_meaning (flat_map (λ (x : ChangeSet). x.changes) again.sets) ≡ Some undone

-- a `.json` file of this text does
abbrev pub TextComesAgain : Dialect → Catalogue → List ℕ → Type 0
TextComesAgain d c text = (source : Source) (path : List ℕ) → is_label path ≡ true → format_of path ≡ Some Json → source.content path ≡ Some text → ComesAgain d c source path

-- its text is read as the tree that it was made from
abbrev pub IsWrittenWhole : Type 0
IsWrittenWhole = (d : Dialect) (author : List ℕ) (c : Catalogue) → MayGenerate d c → IsWritable (generated_tree d author c)

-- and that as this changelog
abbrev pub IsReadWhole : Type 0
IsReadWhole = (d : Dialect) (author : List ℕ) (c : Catalogue) → MayGenerate d c → is_label author ≡ true
    → (source : Source) (path bytes : List ℕ) → IsFileOf d author c source path bytes
    → changelog source path d [] ≡ Ok (generated_changelog d path author c)

-- whose changesets, one after another, make the catalogue without its rows, each change fresh at its place
abbrev pub MakesAgain : Type 0
MakesAgain = (d : Dialect) (path author : List ℕ) (c : Catalogue) → MayGenerate d c → SetsRun d (generated_changelog d path author c).sets no_objects (without_rows c)

-- and each change of it has an inverse
abbrev pub CanBeUndone : Type 0
CanBeUndone = (d : Dialect) (path author : List ℕ) (c : Catalogue) → MayGenerate d c
    → (us : List Statement) × (inverses d any_meaning (flat_map (λ (x : ChangeSet). x.changes) (generated_changelog d path author c).sets) ≡ Some us)

-- so what is generated makes the objects again
abbrev pub AllComesAgain : Type 0
AllComesAgain = (d : Dialect) (author : List ℕ) (c : Catalogue) → MayGenerate d c → is_label author ≡ true
    → (text : List ℕ) → length text ≤ 16777216 → json_tree text ≡ Ok (generated_tree d author c) → TextComesAgain d c text

-- Rows of a map, by their keys.

-- what stands at a key
abbrev pub row_at : List ℕ → List Row → Option Node
row_at key [] = None
row_at key (r ∷ rs) = if bytes_eq key r.0 then r.1 else row_at key rs
