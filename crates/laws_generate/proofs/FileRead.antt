-- One .json file whose tree is a generated changelog is that changelog.
use Rattle.std.proofs.Common.{ap, arith, sym, ◌∙◌, append_assoc}
use Rattle.std.specs.List.{AllByRecursion, position}
use Rattle.std.specs.Prelude.{Bool, List, None, Ok, Option, Some, [], codes, cond, false, length, map, nat_le, nat_lt, refl, suc, true, ℕ, ◌+◌, ◌++◌, ◌∷◌, ◌≡◌, ◌≤◌}
use Rattle.lq_base.specs.declared.dialect.Dialect.{Dialect}
use Rattle.lq_base.specs.declared.run.OnFail.TheVariants.{Halt}
use Rattle.lq_changelog.specs.Gathers.{changelog, changelog_of, nothing, Contents, gathers, meaning, set_in, tree_set}
use Rattle.lq_cond.specs.declared.cond.Cond.TheVariants.{And}
use Rattle.lq_contents.specs.Trees.{file_tree}
use Rattle.lq_any.specs.AnyChange.{any_change}
use Rattle.lq_kinds.specs.ChangeSets.{set_of, is_label}
use Rattle.lq_kinds.specs.Changes.{is_tagging, changes_from}
use Rattle.lq_any.specs.declared.any_change.AnyChange.{AnyChange}
use Rattle.lq_kinds.specs.declared.change_set.ChangeSet.{ChangeSet}
use Rattle.lq_kinds.specs.declared.change_set.Changelog.{Changelog}
use Rattle.lq_sources.specs.Faults.{Loaded, ◌>>=◌}
use Rattle.lq_sources.specs.Items.{entry_of, item_at, items_of, SoFar, nothing_yet, with_set, Values, filled, value_in, with_file}
use Rattle.lq_paths.specs.Paths.{format_of, is_xml}
use Rattle.lq_sources.specs.Source.{Source}
use Rattle.lq_sources.specs.Walk.{Held, bytes_read, each_from, entry_at, file, item_gathered, item_read, item_with_files, items_read, root_file, take_item, walked, written}
use Rattle.lq_paths.specs.declared.path.Format.TheVariants.{Json}
use Rattle.std.proofs.lemmas.Bool.Decides.{nat_tests}
use Rattle.lq_tree.specs.Items.{items_from}
use Rattle.lq_tree.specs.Json.{json_tree}
use Rattle.laws_stages.proofs.Loops.{append_none}
use Rattle.lq_tree.specs.declared.node.Node.{List as ListNode, Node}
use Rattle.lq_generate.specs.Types.{Row, map_node, under}
use Rattle.lq_generate.specs.Generated.{set_rows, set_tree}
use Rattle.laws_generate.specs.Again.{generated_set}
use Rattle.laws_generate.proofs.NodesRead.{list_is, map_is}
use Rattle.laws_generate.proofs.RowsRead.{all_known, row_found}
use Rattle.laws_generate.proofs.SetRead.{set_read}

abbrev pub no_value : List ℕ → Option (List ℕ)
no_value name = None

abbrev pub no_values : Values
no_values scope name = None

-- a changeset: its id, and the trees of its changes with what they are
pub record Made : Type 0 where
  pub id : List ℕ
  pub nodes : List Node
  pub changes : List AnyChange

pub record IsMade (d : Dialect) (m : Made) : Type 0 where
  pub id : is_label m.id ≡ true
  pub read : changes_from d 0 [] m.nodes ≡ Ok m.changes
  pub untagged : position is_tagging m.changes ≡ None

module _ (author : List ℕ) where
  abbrev pub item_of : Made → Node
  item_of m = set_tree m.id author m.nodes

  abbrev pub root_rows : List Made → List Row
  root_rows ms = (codes "databaseChangeLog", Some (ListNode (map item_of ms))) ∷ []

  abbrev pub root_tree : List Made → Node
  root_tree ms = map_node (root_rows ms)

  abbrev pub set_made : List ℕ → Made → ChangeSet
  set_made path m = generated_set path m.id author m.changes

abbrev pub whole : List ℕ → List ℕ → List Made → Changelog
whole path author ms = record { cond = And []; on_fail = Halt; on_error = Halt; sets = map (set_made author path) ms }

module _ (d : Dialect) (source : Source) (path author : List ℕ) (named : is_label path ≡ true) (signed : is_label author ≡ true) (json : format_of path ≡ Some Json)
    (same : (n : Node) → filled no_value n ≡ n)
    (include : List ℕ → Held Contents → Loaded (Held Contents)) where
  abbrev one_more : Made → Contents → Contents
  one_more m g = record g { sets = g.sets ++ set_made author path m ∷ [] }

  gathered : (m : Made) (g : Contents) → IsMade d m → gathers d [] true path (codes "changeSet") (map_node (set_rows m.id author m.nodes)) g ≡ Ok (one_more m g)
  unfolding set_in tree_set
  gathered m g h = rw (named, json, set_read d path m.id author m.nodes m.changes h.id signed h.read h.untagged) refl

  entered : (k : List ℕ) (n : Node) → entry_of (under k n) ≡ Some (k, n)
  entered k n = rw (entry_of, map_is ((k, n) ∷ [])) refl

  item_taken : (m : Made) (i : ℕ) (k : SoFar) (g : Contents) → IsMade d m → k.values ≡ no_values → nat_le 10000 k.sets ≡ false
      → take_item (meaning d) source include true path i (item_of author m) (record { counts = k; gathered = g }) ≡ Ok (record { counts = with_set k; gathered = one_more m g })
  unfolding entry_at item_read item_gathered item_with_files item_at
  item_taken m i k g h none few =
      rw (none, same (item_of author m), entry_at, entered (codes "changeSet") (map_node (set_rows m.id author m.nodes)), few, gathered m g h) refl

  -- each item, one after another

  few_sets : (a b : ℕ) → a + suc b ≤ 10000 → nat_le 10000 a ≡ false
  few_sets a b h = grind (arith, nat_tests, h)

  all_taken : (ms : List Made) (i : ℕ) (k : SoFar) (g : Contents) → AllByRecursion (IsMade d) ms → k.values ≡ no_values → k.sets + length ms ≤ 10000
      → (after : SoFar) × (each_from (take_item (meaning d) source include true path) i (map (item_of author) ms) (record { counts = k; gathered = g }) ≡ Ok (record { counts = after; gathered = record g { sets = g.sets ++ map (set_made author path) ms } }))
  all_taken [] i k g h none few = (k, ap (λ xs. Ok (record { counts = k; gathered = record g { sets = xs } })) (sym (append_none g.sets)))
  all_taken (m ∷ ms) i k g h none few =
      let rest = all_taken ms (suc i) (with_set k) (one_more m g) h.1 none (omega (arith, few)) in (
        rest.0,
        ap (λ r. r >>= each_from (take_item (meaning d) source include true path) (suc i) (map (item_of author) ms)) (item_taken m i k g h.0 none (few_sets k.sets (length ms) few))
            ∙ rest.1
            ∙ ap (λ xs. Ok (record { counts = rest.0; gathered = record g { sets = xs } })) (append_assoc g.sets (set_made author path m ∷ []) (map (set_made author path) ms)),
      )

module _ (d : Dialect) (author : List ℕ) where
  root_read : (ms : List Made) → items_of (root_tree author ms) ≡ Ok (map (item_of author) ms)
  unfolding items_of
  root_read ms =
      let rs = root_rows author ms in
      rw (all_known (codes "databaseChangeLog" ∷ []) rs refl, row_found (codes "databaseChangeLog") rs refl, list_is (map (item_of author) ms)) refl

  pub whole_read : (source : Source) (path bytes : List ℕ) (ms : List Made) → is_label path ≡ true → is_label author ≡ true → is_xml path ≡ false → format_of path ≡ Some Json → ((n : Node) → filled no_value n ≡ n)
      → source.content path ≡ Some bytes → length bytes ≤ 16777216 → json_tree bytes ≡ Ok (root_tree author ms) → AllByRecursion (IsMade d) ms → length ms ≤ 10000
      → changelog source path d [] ≡ Ok (whole path author ms)
  unfolding changelog walked root_file written bytes_read
  whole_read source path bytes ms named signed other json same content fits tree made few =
      let short : nat_lt 16777216 (length bytes) ≡ false = grind (arith, nat_tests, fits) in
      let all : nat_lt 67108864 (0 + length bytes) ≡ false = grind (arith, nat_tests, fits) in
      let taken = all_taken d source path author named signed json same (file (meaning d) source 32 false) ms 0 (with_file (length bytes) (nothing_yet [])) nothing made refl (omega (arith, few)) in
      rw (named, other, json, content, short, all, tree, root_read ms, taken.1) refl
