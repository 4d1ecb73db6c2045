-- What is read of a tree is for the dialect: changesets.
use Rattle.std.proofs.Common.{subst, sym, ◌∙◌}
use Rattle.std.proofs.lemmas.Bool.{and_from, and_parts}
use Rattle.std.specs.List.{list_all}
use Rattle.std.specs.Prelude.{Bool, Err, IfOk, IfSome, List, None, Ok, Option, Result, Some, [], codes, cond, refl, true, false, ℕ, ◌+◌, ◌∷◌, ◌≡◌}
use Rattle.lq_base.specs.Number.{if_there}
use Rattle.lq_base.specs.declared.dialect.Dialect.{Dialect}
use Rattle.lq_tree.proofs.Says.{IsSo, Says, all_found, anything, given, given_at, map_so, start, then_so, within_so}
use Rattle.lq_tree.proofs.Small.{are_small, is_small, items_small, map_is, text_small, value_small}
use Rattle.lq_tree.specs.Look.{Found, map_found, within, is_null, list_of, printed_of, value_at}
use Rattle.lq_tree.specs.Items.{item_path, items_from}
use Rattle.lq_tree.specs.Keys.{fields, optional, required, ◌⊛◌}
use Rattle.lq_tree.specs.Given.{a_text}
use Rattle.lq_tree.specs.declared.node.Node.{Map as MapNode, Node, Text as TextNode}
use Rattle.lq_load.proofs.Right.{load_right}
use Rattle.lq_load.specs.LoadData.{load_data}
use Rattle.lq_load.specs.LoadKeys.{load_keys}
use Rattle.lq_any.proofs.Right.{IsSpelled, any_right}
use Rattle.lq_any.specs.AnyChange.{any_change, is_for}
use Rattle.lq_kinds.specs.ReadFor.{is_block_for, is_read_for}
use Rattle.lq_kinds.specs.ChangeSets.{by_path, defaulted, heading, heading_keys, if_taken, no_reaction, notes, only_known, path_at, reaction_keys, running, selection, set_of, set_with, sums_keys, a_quoting, a_label}
use Rattle.lq_kinds.specs.Changes.{as_bad, block, block_in, changes_at, changes_in, changes_of, if_tagged, is_read, once_tagged, rollback_at, rollback_keys, second_tag, sql_change, sql_node, undoing, undoing_by, undoing_list, undoing_scalar, undoing_text, Files, a_load, change_at, change_of, changes_from, left_by, load_of, by_keys, by_set, map_set}
use Rattle.lq_any.specs.declared.any_change.AnyChange.{AnyChange}
use Rattle.lq_any.specs.declared.any_change.AnyChange.TheVariants.{LoadData}
use Rattle.lq_kinds.specs.declared.change_set.ChangeSet.{ChangeSet}
use Rattle.lq_kinds.specs.declared.fault.SetFault.{SetFault}
use Rattle.lq_kinds.specs.declared.heading.Heading.{Heading}
use Rattle.lq_kinds.specs.declared.heading.Notes.{Notes}
use Rattle.lq_kinds.specs.declared.heading.Running.{Running}
use Rattle.lq_kinds.specs.declared.heading.Selection.{Selection}

module _ (d : Dialect) (spelled : IsSpelled d) where
  -- ---- readings of a changeset that follow each other

  by_keys_so : {A B : Type 0} (P : A → Type 0) (Q : B → Type 0) (r : Found A) (f : A → Result B SetFault) → IfOk r P → ((a : A) → P a → IfOk (f a) Q) → IfOk (by_keys r f) Q
  by_keys_so P Q (Ok a) f so next = next a so
  by_keys_so P Q (Err fault) f so next = tt

  by_set_so : {A B : Type 0} (P : A → Type 0) (Q : B → Type 0) (r : Result A SetFault) (f : A → Result B SetFault) → IfOk r P → ((a : A) → P a → IfOk (f a) Q) → IfOk (by_set r f) Q
  by_set_so P Q (Ok a) f so next = next a so
  by_set_so P Q (Err fault) f so next = tt

  map_set_so : {A B : Type 0} (P : A → Type 0) (Q : B → Type 0) (f : A → B) (r : Result A SetFault) → IfOk r P → ((a : A) → P a → Q (f a)) → IfOk (map_set f r) Q
  map_set_so P Q f (Ok a) so next = next a so
  map_set_so P Q f (Err fault) so next = tt

  -- ---- changes

  abbrev AreRight : List AnyChange → Type 0
  AreRight changes = list_all (is_for d) changes ≡ true

  load_so : (path : List ℕ) (given : Files) (n : Node) → IfOk (a_load path given n) (IsSo (is_for d))
  load_so path [] n = by_keys_so (λ _. Unit {0}) (IsSo (is_for d)) (within path (within (codes "loadData") (load_keys n))) _ (all_found (within path (within (codes "loadData") (load_keys n)))) (λ keys _. tt)
  load_so path (bytes ∷ more) n =
      by_keys_so (λ x. is_for d (LoadData x) ≡ true) (IsSo (is_for d)) (within path (within (codes "loadData") (load_data bytes n))) (λ x. Ok (LoadData x))
      (within_so (λ x. is_for d (LoadData x) ≡ true) path (within (codes "loadData") (load_data bytes n)) (within_so (λ x. is_for d (LoadData x) ≡ true) (codes "loadData") (load_data bytes n) ((load_right d bytes).of n))) (λ x so. so)

  change_right : (path : List ℕ) (given : Files) (n : Node) → is_small n ≡ true → IfOk (change_at d path given n) (IsSo (is_for d))
  change_right path given n small = by (load_of n) where
    by : (load : Option Node) → IfOk (change_of d path given n load) (IsSo (is_for d))
    by None = by_keys_so (IsSo (is_for d)) (IsSo (is_for d)) (within path (any_change d n)) (λ x. Ok x) (within_so (IsSo (is_for d)) path (any_change d n) (any_right d spelled n small)) (λ x so. so)
    by (Some load) = load_so path given load

  from_right : (i : ℕ) (given : Files) (ns : List Node) → are_small ns ≡ true → IfOk (changes_from d i given ns) AreRight
  from_right i given [] small = refl
  from_right i given (n ∷ ns) small =
      let parts = and_parts (is_small n) (are_small ns) small in
      by_set_so (IsSo (is_for d)) AreRight (change_at d (item_path (codes "changes") i) given n) (λ x. map_set (λ more. x ∷ more) (changes_from d (i + 1) (left_by given n) ns)) (change_right (item_path (codes "changes") i) given n parts.0) (λ x so.
      map_set_so AreRight AreRight (λ more. x ∷ more) (changes_from d (i + 1) (left_by given n) ns) (from_right (i + 1) (left_by given n) ns parts.1) (λ more are. and_from (is_for d x) (list_all (is_for d) more) so are))

  tagged_right : (changes : List AnyChange) → AreRight changes → IfOk (once_tagged changes) AreRight
  tagged_right changes are = by (second_tag changes) where
    by : (second : Option ℕ) → IfOk (if_tagged changes second) AreRight
    by None = are
    by (Some i) = tt

  of_right : (given : Files) (ns : Option (List Node)) → IfSome ns (IsSo are_small) → IfOk (changes_of d given ns) AreRight
  of_right given None small = tt
  of_right given (Some ns) small =
      by_set_so AreRight AreRight (changes_from d 0 given ns) (λ changes. by_keys (once_tagged changes) (λ kept. Ok kept)) (from_right 0 given ns small) (λ changes are.
      by_keys_so AreRight AreRight (once_tagged changes) (λ kept. Ok kept) (tagged_right changes are) (λ kept so. so))

  in_right : (given : Files) (value : Option Node) → IfSome value (IsSo is_small) → IfOk (changes_in d given value) AreRight
  in_right given None small = refl
  in_right given (Some value) small = of_right given (list_of value) (items_small value small)

  changes_right : (given : Files) (n : Node) → is_small n ≡ true → IfOk (changes_at d given n) AreRight
  unfolding changes_at
  changes_right given n small = by (is_read d n) (in_right given (value_at (codes "changes") n) (value_small (codes "changes") n small)) where
    by : (read : Bool) → IfOk (changes_in d given (value_at (codes "changes") n)) AreRight → IfOk (cond read (changes_in d given (value_at (codes "changes") n)) (Ok [])) AreRight
    by true so = so
    by false so = refl

  -- ---- what takes it back

  sql_small : (text : List ℕ) → is_small (sql_node text) ≡ true
  sql_small text = one (codes "sql") (MapNode ((codes "sql", TextNode text) ∷ [])) (one (codes "sql") (TextNode text) (text_small text)) where
    one : (key : List ℕ) (value : Node) → is_small value ≡ true → is_small (MapNode ((key, value) ∷ [])) ≡ true
    one key value small = map_is ((key, value) ∷ []) ∙ and_from (is_small value) true small refl

  bad_so : {A : Type 0} (P : A → Type 0) (r : Found A) → IfOk r P → IfOk (as_bad r) P
  bad_so P (Ok a) so = so
  bad_so P (Err fault) so = tt

  sql_so : (text : List ℕ) → IfOk (sql_change d text) (IsSo (is_for d))
  sql_so text = bad_so (IsSo (is_for d)) (any_change d (sql_node text)) (any_right d spelled (sql_node text) (sql_small text))

  undoing_right : (n : Node) → is_small n ≡ true → IfOk (undoing d n) (IsSo (is_for d))
  undoing_right n small = by (printed_of n) where
    by : (text : Option (List ℕ)) → IfOk (undoing_by d n text) (IsSo (is_for d))
    by None = any_right d spelled n small
    by (Some text) = sql_so text

  undoings_right : (i : ℕ) (ns : List Node) → are_small ns ≡ true → IfOk (items_from (codes "rollback") i (undoing d) ns) AreRight
  undoings_right i [] small = refl
  undoings_right i (n ∷ ns) small =
      let parts = and_parts (is_small n) (are_small ns) small in
      then_so (IsSo (is_for d)) AreRight (within (item_path (codes "rollback") i) (undoing d n)) (λ x. map_found (λ more. x ∷ more) (items_from (codes "rollback") (i + 1) (undoing d) ns)) (within_so (IsSo (is_for d)) (item_path (codes "rollback") i) (undoing d n) (undoing_right n parts.0)) (λ x so.
      map_so AreRight AreRight (items_from (codes "rollback") (i + 1) (undoing d) ns) (λ more. x ∷ more) (undoings_right (i + 1) ns parts.1) (λ more are. and_from (is_for d x) (list_all (is_for d) more) so are))

  text_right : (text : List ℕ) → IfOk (undoing_text d text) AreRight
  text_right [] = refl
  text_right (b ∷ bs) =
      map_so (IsSo (is_for d)) AreRight (within (codes "rollback") (sql_change d (b ∷ bs))) (λ change. change ∷ []) (within_so (IsSo (is_for d)) (codes "rollback") (sql_change d (b ∷ bs)) (sql_so (b ∷ bs))) (λ change so. and_from (is_for d change) true so refl)

  block_right : (n : Node) → is_small n ≡ true → IfOk (block d n) AreRight
  block_right n small = by (is_null n) where
    listed : (ns : Option (List Node)) → IfSome ns (IsSo are_small) → IfOk (undoing_list d ns) AreRight
    listed None so = tt
    listed (Some ns) so = undoings_right 0 ns so

    scalar : (text : Option (List ℕ)) → IfOk (undoing_scalar d n text) AreRight
    scalar None = listed (list_of n) (items_small n small)
    scalar (Some text) = text_right text

    by : (null : Bool) → IfOk (cond null (Ok []) (undoing_scalar d n (printed_of n))) AreRight
    by true = refl
    by false = scalar (printed_of n)

  abbrev IsRightBlock : Option (List AnyChange) → Type 0
  IsRightBlock found = is_block_for d found ≡ true

  in_block_right : (value : Option Node) → IfSome value (IsSo is_small) → IfOk (block_in d value) IsRightBlock
  in_block_right None small = refl
  in_block_right (Some value) small = map_so AreRight IsRightBlock (block d value) (λ changes. Some changes) (block_right value small) (λ changes are. are)

  rollback_right : (n : Node) → is_small n ≡ true → IfOk (rollback_at d n) IsRightBlock
  unfolding rollback_at
  rollback_right n small = by (is_read d n) (in_block_right (value_at (codes "rollback") n) (value_small (codes "rollback") n small)) where
    by : (read : Bool) → IfOk (block_in d (value_at (codes "rollback") n)) IsRightBlock → IfOk (cond read (block_in d (value_at (codes "rollback") n)) (Ok None)) IsRightBlock
    by true so = so
    by false so = refl

  -- ---- a changeset

  with_changes : Says (λ (with : List AnyChange → Heading). (changes : List AnyChange) → (with changes).changes ≡ changes) heading_keys
  with_changes = given {k = required (codes "author") a_label} anything (given {k = required (codes "id") a_label} anything (start (λ id _ author _ changes. refl)))

  heading_right : (given : Files) (n : Node) → is_small n ≡ true → IfOk (heading d given n) (λ h. AreRight h.changes)
  unfolding heading
  heading_right given n small =
      by_keys_so (λ (with : List AnyChange → Heading). (changes : List AnyChange) → (with changes).changes ≡ changes) (λ h. AreRight h.changes) (heading_keys.says n) (λ with. map_set with (changes_at d given n)) (with_changes.of n) (λ with same.
      map_set_so AreRight (λ h. AreRight h.changes) with (changes_at d given n) (changes_right given n small) (λ changes are. subst AreRight (sym (same changes)) are))

  notes_right : (n : Node) → is_small n ≡ true → IfOk (notes d n) (λ a. IsRightBlock a.rollback)
  unfolding notes
  notes_right n small =
      let before = fields (λ quoting sums comment stated rollback. record { valid_sums = sums; comment = comment; reaction = stated; rollback = rollback }) ⊛ optional (codes "objectQuotingStrategy") a_quoting ⊛ sums_keys ⊛ defaulted [] (optional (codes "comment") a_text) ⊛ defaulted no_reaction (reaction_keys d) in
      given_at IsRightBlock (λ a. IsRightBlock a.rollback) n before (rollback_keys d) (rollback_right n small) (without.of n)
    where
      without : Says (λ (g : Option (List AnyChange) → Notes). (rollback : Option (List AnyChange)) → IsRightBlock rollback → IsRightBlock (g rollback).rollback)
          (fields (λ quoting sums comment stated rollback. record { valid_sums = sums; comment = comment; reaction = stated; rollback = rollback }) ⊛ optional (codes "objectQuotingStrategy") a_quoting ⊛ sums_keys ⊛ defaulted [] (optional (codes "comment") a_text) ⊛ defaulted no_reaction (reaction_keys d))
      without = given {k = defaulted no_reaction (reaction_keys d)} anything (given {k = defaulted [] (optional (codes "comment") a_text)} anything (given {k = sums_keys} anything (given {k = optional (codes "objectQuotingStrategy") a_quoting} anything (start (λ quoting _ sums _ comment _ stated _ rollback so. so)))))

  set_so : (h : Heading) (s : Selection) (r : Running) (path : List ℕ) (a : Notes) → AreRight h.changes → IsRightBlock a.rollback → if_there (is_read_for d) (if_taken r (set_with h s r path a)) ≡ true
  unfolding set_with
  set_so h s r path a are block = by r.ignored where
    by : (ignored : Bool) → if_there (is_read_for d) (cond ignored None (Some (set_with h s r path a))) ≡ true
    by true = refl
    by false = and_from _ _ are block

  by_path_so : {B : Type 0} (Q : B → Type 0) (r : Result (List ℕ) SetFault) (f : List ℕ → Result B SetFault) → ((path : List ℕ) → IfOk (f path) Q) → IfOk (by_path r f) Q
  by_path_so Q (Ok path) f next = next path
  by_path_so Q (Err fault) f next = tt

  pub set_right : (path : List ℕ) (given : Files) (n : Node) → is_small n ≡ true → IfOk (set_of d path given n) (λ found. if_there (is_read_for d) found ≡ true)
  unfolding set_of
  set_right path given n small =
      let P : Option ChangeSet → Type 0 = λ found. if_there (is_read_for d) found ≡ true in
      by_keys_so (λ _. Unit {0}) P (only_known d n) _ (all_found (only_known d n)) (λ _ _.
      by_set_so (λ h. AreRight h.changes) P (heading d given n) _ (heading_right given n small) (λ h are.
      by_keys_so (λ _. Unit {0}) P (selection d n) _ (all_found (selection d n)) (λ s _.
      by_keys_so (λ _. Unit {0}) P (running n) _ (all_found (running n)) (λ r _.
      by_path_so P (path_at path n) _ (λ p.
      by_keys_so (λ a. IsRightBlock a.rollback) P (notes d n) _ (notes_right n small) (λ a block. set_so h s r p a are block))))))
