-- What the files below a root give is for the dialect.
use Rattle.std.proofs.Common.{subst, ◌∙◌}
use Rattle.std.proofs.lemmas.Bool.{and_from, and_parts}
use Rattle.std.proofs.lemmas.List.Folds.{list_all-append}
use Rattle.std.specs.List.{list_all}
use Rattle.std.specs.Prelude.{Bool, Err, IfOk, IfSome, List, None, Ok, Option, Result, Some, [], codes, cond, if◌then◌else◌, refl, true, false, ℕ, ◌&&◌, ◌++◌, ◌∷◌, ◌≡◌}
use Rattle.std.specs.Str.{bytes_eq}
use Rattle.lq_base.proofs.NumberSpelled.{number_of-spells}
use Rattle.lq_base.specs.Number.{if_there}
use Rattle.lq_base.specs.declared.dialect.Dialect.{Dialect}
use Rattle.lq_base.specs.declared.fault.KindFault.TheVariants.{Unknown}
use Rattle.lq_cond.specs.declared.cond.Reaction.{Reaction}
use Rattle.lq_contents.specs.Trees.{file_tree, in_json, in_sql, in_yaml}
use Rattle.lq_any.proofs.Right.{IsSpelled}
use Rattle.lq_kinds.proofs.Right.{set_right}
use Rattle.lq_any.specs.AnyChange.{is_for}
use Rattle.lq_kinds.specs.ReadFor.{AreFor, is_block_for, is_read_for}
use Rattle.lq_kinds.specs.ChangeSets.{old_sum_of, set_of, sum_of, is_label}
use Rattle.lq_kinds.specs.declared.change_set.ChangeSet.{ChangeSet}
use Rattle.lq_kinds.specs.declared.change_set.Changelog.{Changelog}
use Rattle.lq_kinds.specs.declared.fault.SetFault.{SetFault}
use Rattle.lq_kinds.specs.declared.fault.SetFault.TheVariants as set
use Rattle.lq_parse.proofs.CanWrite.{queries_can, tests_can}
use Rattle.lq_paths.specs.Paths.{format_of}
use Rattle.lq_paths.specs.declared.path.Format.{Format}
use Rattle.lq_paths.specs.declared.path.Format.TheVariants.{Json, Sql, Yaml}
use Rattle.lq_sources.proofs.Keeps.{bind_so, entry_small, walked_so}
use Rattle.lq_sources.specs.Faults.{Loaded}
use Rattle.lq_sources.specs.Items.{entry_of}
use Rattle.lq_sources.specs.Source.{Source}
use Rattle.lq_sources.specs.Walk.{walked}
use Rattle.lq_sources.specs.declared.fault.Lack.{Lack}
use Rattle.lq_sources.specs.declared.fault.Lack.TheVariants.{Wrong}
use Rattle.lq_sources.specs.declared.fault.What.{What}
use Rattle.lq_sources.specs.declared.fault.What.TheVariants.{BadPath, Key}
use Rattle.lq_sqltree.proofs.Small.{sql_tree_small}
use Rattle.lq_sqltree.specs.SqlTree.{sql_tree}
use Rattle.lq_sqltree.specs.declared.fault.SqlTreeFault.{SqlTreeFault}
use Rattle.lq_statement.proofs.StatementMakes.{statements_can}
use Rattle.lq_tree.proofs.Says.{IsSo}
use Rattle.lq_tree.proofs.Small.{is_small, value_small}
use Rattle.lq_tree.proofs.SmallJson.{json_small}
use Rattle.lq_tree.specs.Json.{json_tree}
use Rattle.lq_tree.specs.Look.{value_at}
use Rattle.lq_tree.specs.declared.node.Node.{Node}
use Rattle.lq_tree.specs.declared.node.TreeFault.{TreeFault}
use Rattle.lq_yaml.proofs.Small.{yaml_tree_small}
use Rattle.lq_yaml.specs.Yaml.{yaml_tree}
use Rattle.lq_yaml.specs.declared.fault.YamlFault.{YamlFault}
use Rattle.lq_changelog.specs.Gathers.{changelog, changelog_of, nothing, Contents, at_home, at_line, away, gathers, in_tree, is_idle, is_there, line_of, map_made, map_set, meaning, no_line, part_in, parts_set, reaction_in, set_by, set_in, sql_set, then_set, tree_set, under_line, with_reaction, with_set, without_idle, wrongly}
use Rattle.lq_changelog.specs.Laws.{WhatIsGivenIsForTheDialect}

-- what is read of each dialect's texts can be written
texts_spelled : (d : Dialect) → IsSpelled d
texts_spelled d = record { statements = statements_can number_of-spells d; queries = queries_can number_of-spells d; tests = tests_can number_of-spells d }

-- ---- the tree of a file

json_so : (r : Result Node TreeFault) → IfOk r (IsSo is_small) → IfOk (in_json r) (IsSo is_small)
json_so (Ok n) small = small
json_so (Err fault) small = tt

yaml_so : (r : Result Node YamlFault) → IfOk r (IsSo is_small) → IfOk (in_yaml r) (IsSo is_small)
yaml_so (Ok n) small = small
yaml_so (Err fault) small = tt

sql_so : (r : Result Node SqlTreeFault) → IfOk r (IsSo is_small) → IfOk (in_sql r) (IsSo is_small)
sql_so (Ok n) small = small
sql_so (Err fault) small = tt

tree_small : (format : Format) (bytes : List ℕ) → IfOk (file_tree format bytes) (IsSo is_small)
tree_small Json bytes = json_so (json_tree bytes) (json_small bytes)
tree_small Yaml bytes = yaml_so (yaml_tree bytes) (yaml_tree_small bytes)
tree_small Sql bytes = sql_so (sql_tree bytes) (sql_tree_small bytes)

module _ (d : Dialect) where
  abbrev IsRight : Option ChangeSet → Type 0
  IsRight found = if_there (is_read_for d) found ≡ true

  read_right : (path : List ℕ) (given : List (List ℕ)) (n : Node) → is_small n ≡ true → IfOk (set_of d path given n) IsRight
  read_right path given n small = set_right d (texts_spelled d) path given n small

  -- ---- a changeset of a tree

  in_tree_so : (r : Result (Option ChangeSet) SetFault) → IfOk r IsRight → IfOk (in_tree r) IsRight
  in_tree_so (Ok found) right = right
  in_tree_so (Err (set.InKeys fault)) right = tt
  in_tree_so (Err set.BadPath) right = tt
  in_tree_so (Err (set.Wants file relative)) right = tt

  tree_right : (given : List (List ℕ)) (path : List ℕ) (n : Node) → is_small n ≡ true → IfOk (tree_set d given path n) IsRight
  unfolding tree_set
  tree_right given path n small = in_tree_so (set_of d path given n) (read_right path given n small)

  -- ---- a changeset of formatted SQL

  part_right : (path : List ℕ) (part : Option Node) → IfSome part (IsSo is_small) → IfOk (part_in d path part) IsRight
  part_right path None small = tt
  part_right path (Some n) small = read_right path [] n small

  then_so : (first next : Result (Option ChangeSet) SetFault) → IfOk next IsRight → IfOk (then_set first next) IsRight
  then_so (Ok found) next right = right
  then_so (Err fault) next right = tt

  idle_right : (found : Option ChangeSet) → IsRight found → IsRight (without_idle d found)
  idle_right None right = refl
  idle_right (Some x) right = by (is_idle d x.changes) where
    by : (idle : Bool) → IsRight (if idle then Some (record x { changes = []; sum = sum_of []; old_sum = old_sum_of [] }) else Some x)
    by true = (and_parts (list_all (is_for d) x.changes) (is_block_for d x.rollback) right).1
    by false = right

  map_so : (r : Result (Option ChangeSet) SetFault) → IfOk r IsRight → IfOk (map_set (without_idle d) r) IsRight
  map_so (Ok found) right = idle_right found right
  map_so (Err fault) right = tt

  away_right : (path : List ℕ) (n : Node) → is_small n ≡ true → IfOk (away d path n) IsRight
  unfolding away
  away_right path n small = part_right path (value_at (codes "elsewhere") n) (value_small (codes "elsewhere") n small)

  home_right : (path : List ℕ) (n : Node) → is_small n ≡ true → IfOk (at_home d path n) IsRight
  unfolding at_home
  home_right path n small =
      then_so (away d path n) (map_set (without_idle d) (part_in d path (value_at (codes "here") n))) (map_so (part_in d path (value_at (codes "here") n)) (part_right path (value_at (codes "here") n) (value_small (codes "here") n small)))

  parts_right : (path : List ℕ) (n : Node) → is_small n ≡ true → IfOk (parts_set d path n) IsRight
  unfolding parts_set
  parts_right path n small = then_so (part_in d path (value_at (codes "heading") n)) (cond (is_there d (value_at (codes "elsewhere") n)) (at_home d path n) (away d path n)) (by (is_there d (value_at (codes "elsewhere") n))) where
    by : (there : Bool) → IfOk (cond there (at_home d path n) (away d path n)) IsRight
    by true = home_right path n small
    by false = away_right path n small

  line_so : (line : ℕ) (r : Result (Option ChangeSet) SetFault) → IfOk r IsRight → IfOk (at_line line r) IsRight
  line_so line (Ok found) right = right
  line_so line (Err fault) right = tt

  under_right : (path : List ℕ) (e : Option (List ℕ × Node)) → IfSome e (λ e. is_small e.1 ≡ true) → IfOk (under_line d path e) IsRight
  under_right path None small = tt
  under_right path (Some e) small = by (line_of e.0) where
    by : (line : Option ℕ) → IfOk (elim line [ None ↦ no_line | Some line ↦ at_line line (parts_set d path e.1) ]) IsRight
    by None = tt
    by (Some line) = line_so line (parts_set d path e.1) (parts_right path e.1 small)

  sql_right : (path : List ℕ) (n : Node) → is_small n ≡ true → IfOk (sql_set d path n) IsRight
  unfolding sql_set
  sql_right path n small = under_right path (entry_of n) (entry_small n small)

  -- ---- an item

  wrongly_so : {A : Type 0} (P : A → Type 0) (r : Result A What) → IfOk r P → IfOk (wrongly r) P
  wrongly_so P (Ok a) so = so
  wrongly_so P (Err what) so = tt

  by_right : (format : Option Format) (given : List (List ℕ)) (path : List ℕ) (n : Node) → is_small n ≡ true → IfOk (set_by format d given path n) IsRight
  by_right (Some Sql) given path n small = wrongly_so IsRight (sql_set d path n) (sql_right path n small)
  by_right (Some Json) given path n small = tree_right given path n small
  by_right (Some Yaml) given path n small = tree_right given path n small
  by_right None given path n small = tree_right given path n small

  in_right : (given : List (List ℕ)) (path : List ℕ) (n : Node) → is_small n ≡ true → IfOk (set_in d given path n) IsRight
  unfolding set_in
  in_right given path n small = by (is_label path) where
    by : (label : Bool) → IfOk (cond label (set_by (format_of path) d given path n) (Err (Wrong BadPath))) IsRight
    by true = by_right (format_of path) given path n small
    by false = tt

  -- its changesets are right
  abbrev AreRight : Contents → Type 0
  AreRight g = list_all (is_read_for d) g.sets ≡ true

  with_right : (found : Option ChangeSet) (g : Contents) → IsRight found → AreRight g → AreRight (with_set found g)
  with_right None g right all = all
  with_right (Some x) g right all = list_all-append (is_read_for d) g.sets (x ∷ []) ∙ and_from (list_all (is_read_for d) g.sets) (is_read_for d x && true) all (and_from (is_read_for d x) true right refl)

  reaction_right : (is_root : Bool) (r : Reaction) (g : Contents) → AreRight g → AreRight (with_reaction is_root r g)
  reaction_right true r g all = all
  reaction_right false r g all = all

  made_so : {A B : Type 0} (P : A → Type 0) (Q : B → Type 0) (f : A → B) (r : Result A Lack) → IfOk r P → ((a : A) → P a → Q (f a)) → IfOk (map_made f r) Q
  made_so P Q f (Ok a) so next = next a so
  made_so P Q f (Err lack) so next = tt

  any_made : {A : Type 0} (r : Result A Lack) → IfOk r (λ a. Unit {0})
  any_made (Ok a) = tt
  any_made (Err lack) = tt

  keeps : (given : List (List ℕ)) (is_root : Bool) (path key : List ℕ) (n : Node) (g : Contents) → is_small n ≡ true → AreRight g → IfOk (gathers d given is_root path key n g) AreRight
  keeps given is_root path key n g small all = by (bytes_eq key (codes "changeSet")) (bytes_eq key (codes "preConditions")) where
    by : (set asked : Bool) → IfOk (if set then map_made (λ found. with_set found g) (set_in d given path n)
        else if asked then map_made (λ found. with_reaction is_root found g) (wrongly (reaction_in d n))
        else Err (Wrong (Key (Unknown key)))) AreRight
    by true asked = made_so IsRight AreRight (λ found. with_set found g) (set_in d given path n) (in_right given path n small) (λ found right. with_right found g right all)
    by false true = made_so (λ _. Unit {0}) AreRight (λ found. with_reaction is_root found g) (wrongly (reaction_in d n)) (any_made (wrongly (reaction_in d n))) (λ found _. reaction_right is_root found g all)
    by false false = tt

  pub given_right : (source : Source) (root : List ℕ) (given : List (List ℕ × List ℕ)) → IfOk (changelog source root d given) (AreFor d)
  unfolding changelog
  given_right source root given =
      bind_so AreRight (AreFor d) (walked (meaning d) source root given nothing) (λ g. Ok (changelog_of g)) (walked_so (meaning d) AreRight tree_small keeps source root given nothing refl) (λ g all. all)

loaded_so : (d : Dialect) (r : Loaded Changelog) (g : Changelog) → r ≡ Ok g → IfOk r (AreFor d) → AreFor d g
loaded_so d r g is right = subst (λ (r : Loaded Changelog). IfOk r (AreFor d)) is right

pub what_is_given_is_for : WhatIsGivenIsForTheDialect
what_is_given_is_for d source root given g is = loaded_so d (changelog source root d given) g is (given_right d source root given)
