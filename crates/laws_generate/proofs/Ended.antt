-- The laws, from what can be written and what may be made.
use Rattle.std.proofs.Common.{ap, subst, sym, ◌∙◌}
use Rattle.std.specs.List.{AllByRecursion, flat_map}
use Rattle.std.specs.Prelude.{List, Ok, Some, [], length, true, ℕ, ◌≡◌, ◌≤◌}
use Rattle.lq_base.specs.declared.dialect.Dialect.{Dialect}
use Rattle.lq_base.specs.declared.name.Name.{Name}
use Rattle.lq_changelog.specs.Gathers.{changelog}
use Rattle.lq_generate.specs.Generated.{generated_tree}
use Rattle.lq_jsontext.specs.JsonText.{IsWritable}
use Rattle.lq_kinds.specs.ChangeSets.{is_label}
use Rattle.lq_kinds.specs.declared.change_set.ChangeSet.{ChangeSet}
use Rattle.lq_kinds.specs.declared.change_set.Changelog.{Changelog}
use Rattle.lq_model.specs.Catalogue.{Catalogue, View, no_objects}
use Rattle.lq_model.specs.SqlText.{query_in}
use Rattle.lq_model.specs.Step.{is_query}
use Rattle.lq_model.specs.TestText.{query_text}
use Rattle.lq_model.specs.declared.query.Query.{Query}
use Rattle.lq_model.specs.declared.statement.Statement.{Statement}
use Rattle.lq_seen.specs.View.{any_meaning}
use Rattle.lq_sources.specs.Source.{Source}
use Rattle.lq_tree.specs.Json.{json_tree}
use Rattle.lq_turns.specs.Set.{inverses}
use Rattle.laws_made.proofs.Apart.{may_make}
use Rattle.laws_made.proofs.Whole.{MayMake}
use Rattle.laws_generate.proofs.CanWrite.{Can, can_write, defaults_written, queries_spelled, sequences_fit, tables_fit}
use Rattle.laws_generate.proofs.Generated.{generated_read, generated_same, generated_undone}
use Rattle.laws_generate.proofs.SetsRun.{generated_sets_run}
use Rattle.laws_generate.proofs.JsonPaths.{not_xml}
use Rattle.laws_generate.proofs.Unfilled.{unfilled}
use Rattle.laws_generate.proofs.Updates.{updates_new}
use Rattle.laws_generate.proofs.Writable.{generated_writable}
use Rattle.laws_generate.specs.Again.{IsFileOf, MayGenerate, SetsRun, TextComesAgain, UpdatesNew, generated_changelog, without_rows}

abbrev pub ReadBack : Dialect → Type 0
ReadBack d = (q : Query) → is_query d q ≡ true → query_in d (query_text d q) ≡ Some q

pub is_written : (d : Dialect) (author : List ℕ) (c : Catalogue) → MayGenerate d c → IsWritable (generated_tree d author c)
is_written d author c may = generated_writable d author c (tables_fit d c may.sound may.names may.fine) (sequences_fit d c may.sound may.names may.fine)

module _ (d : Dialect) (back : ReadBack d) (author : List ℕ) (c : Catalogue) (may : MayGenerate d c) where
  can : Can d c
  can = can_write d c may.sound may.names may.fine (queries_spelled d back c may.sound may.names may.fine)

  made : MayMake d c
  made = may_make d c may.apart (defaults_written d c may.sound may.names may.fine) (queries_spelled d back c may.sound may.names may.fine)

  pub is_read : is_label author ≡ true → (source : Source) (path bytes : List ℕ) → IsFileOf d author c source path bytes → changelog source path d [] ≡ Ok (generated_changelog d path author c)
  is_read signed source path bytes file =
      generated_read d c may.sound can made path author source bytes file.named signed file.other file.json unfilled file.content file.fits file.tree
      ∙ ap (λ (g : Changelog). Ok g) (generated_same d path author c)

  pub makes_again : (path : List ℕ) → SetsRun d (generated_changelog d path author c).sets no_objects (without_rows c)
  makes_again path = subst (λ (g : Changelog). SetsRun d g.sets no_objects (without_rows c)) (generated_same d path author c) (generated_sets_run d c may.sound can made path author)

  pub can_be_undone : (path : List ℕ) → (us : List Statement) × (inverses d any_meaning (flat_map (λ (x : ChangeSet). x.changes) (generated_changelog d path author c).sets) ≡ Some us)
  can_be_undone path =
      subst (λ (g : Changelog). (us : List Statement) × (inverses d any_meaning (flat_map (λ (x : ChangeSet). x.changes) g.sets) ≡ Some us)) (generated_same d path author c)
      (generated_undone d c may.sound can made path author)

pub comes_again : (d : Dialect) → ((e : Dialect) → ReadBack e) → (author : List ℕ) (c : Catalogue) → MayGenerate d c → is_label author ≡ true
    → (text : List ℕ) → length text ≤ 16777216 → json_tree text ≡ Ok (generated_tree d author c) → TextComesAgain d c text
comes_again d back author c may signed text fits tree = λ source path named json content.
    let undone = can_be_undone d (back d) author c may path in
    record {
      again = generated_changelog d path author c;
      read = is_read d (back d) author c may signed source path text (record { named = named; json = json; other = not_xml path json; content = content; fits = fits; tree = tree });
      updates = λ options same reading.
          subst (λ e. UpdatesNew options reading (generated_changelog e path author c) c) same
          (updates_new options reading path author c (makes_again options.dialect (back options.dialect) author c (subst (λ e. MayGenerate e c) (sym same) may) path));
      undone = undone.0;
      inverse = undone.1;
    }
