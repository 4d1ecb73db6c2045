-- A generated changeset is read as what it is.
use Rattle.std.proofs.Common.{ap, ◌∙◌}
use Rattle.std.specs.List.{position}
use Rattle.std.specs.Prelude.{Bool, List, None, Ok, Option, Some, [], codes, false, refl, true, ℕ, ◌∷◌, ◌≡◌}
use Rattle.lq_base.specs.declared.dialect.Dialect.{Dialect}
use Rattle.lq_kinds.specs.ChangeSets.{heading, notes, only_known, path_at, running, selection, set_of, set_with, context_at, a_label, is_label}
use Rattle.lq_kinds.specs.Changes.{changes_at, changes_of, here_at, is_read, is_tagging, rollback_at, changes_from}
use Rattle.lq_any.specs.declared.any_change.AnyChange.{AnyChange}
use Rattle.lq_tree.specs.declared.node.Node.{Node, Text as TextNode}
use Rattle.lq_generate.specs.Generated.{set_rows}
use Rattle.lq_generate.specs.Types.{map_node}
use Rattle.laws_generate.specs.Again.{generated_set}
use Rattle.laws_generate.proofs.NodesRead.{list_is, printed_text}
use Rattle.laws_generate.proofs.RowsRead.{all_known, row_found}

label_read : (t : List ℕ) → is_label t ≡ true → a_label (TextNode t) ≡ Ok t
label_read t h = rw (printed_text t, h) refl

-- without a tag
changes_read : (d : Dialect) (ns : List Node) (xs : List AnyChange) → changes_from d 0 [] ns ≡ Ok xs → position is_tagging xs ≡ None → changes_of d [] (Some ns) ≡ Ok xs
changes_read d ns xs h none = rw (h, none) refl

pub set_read : (d : Dialect) (path id author : List ℕ) (ns : List Node) (xs : List AnyChange) → is_label id ≡ true → is_label author ≡ true → changes_from d 0 [] ns ≡ Ok xs → position is_tagging xs ≡ None
    → set_of d path [] (map_node (set_rows id author ns)) ≡ Ok (Some (generated_set path id author xs))
unfolding set_of only_known heading selection running path_at notes changes_at here_at rollback_at context_at set_with
set_read d path id author ns xs id_fits author_fits changes untagged =
    let rs = set_rows id author ns in
    rw (
      all_known (codes "id" ∷ codes "author" ∷ codes "changes" ∷ codes "context" ∷ codes "contextFilter" ∷ codes "labels" ∷ codes "dbms" ∷ codes "runAlways" ∷ codes "runOnChange" ∷ codes "failOnError" ∷ codes "runInTransaction" ∷ codes "ignore" ∷ codes "logicalFilePath" ∷ codes "objectQuotingStrategy" ∷ codes "validCheckSum" ∷ codes "comment" ∷ codes "preConditions" ∷ codes "rollback" ∷ []) rs refl,
      row_found (codes "id") rs refl,
      row_found (codes "author") rs refl,
      row_found (codes "changes") rs refl,
      row_found (codes "context") rs refl,
      row_found (codes "contextFilter") rs refl,
      row_found (codes "labels") rs refl,
      row_found (codes "dbms") rs refl,
      row_found (codes "runAlways") rs refl,
      row_found (codes "runOnChange") rs refl,
      row_found (codes "failOnError") rs refl,
      row_found (codes "runInTransaction") rs refl,
      row_found (codes "ignore") rs refl,
      row_found (codes "logicalFilePath") rs refl,
      row_found (codes "objectQuotingStrategy") rs refl,
      row_found (codes "validCheckSum") rs refl,
      row_found (codes "comment") rs refl,
      row_found (codes "preConditions") rs refl,
      row_found (codes "rollback") rs refl,
      label_read id id_fits,
      label_read author author_fits,
      list_is ns,
      changes_read d ns xs changes untagged,
    ) refl
