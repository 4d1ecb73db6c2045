-- The tree of a file of formatted SQL has no number.
use Rattle.std.proofs.Common.{ap, sym, ◌∙◌}
use Rattle.std.proofs.lemmas.Bool.{and_from, and_parts}
use Rattle.std.proofs.lemmas.List.Folds.{list_all-append}
use Rattle.std.specs.List.{filter, list_all}
use Rattle.std.specs.Prelude.{Bool, Err, IfOk, List, None, Ok, Option, Result, Some, [], codes, if◌then◌else◌, map, refl, true, false, ℕ, ◌++◌, ◌∷◌, ◌≡◌}
use Rattle.std.specs.Fmt.{decimal}
use Rattle.std.specs.Str.Lines.{lines}
use Rattle.lq_sqlfile.specs.File.{file_of}
use Rattle.lq_sqlfile.specs.declared.fault.SqlFault.{SqlFault}
use Rattle.lq_sqlfile.specs.declared.file.SqlFile.{SqlFile}
use Rattle.lq_sqlfile.specs.declared.file.SqlSet.{SqlSet}
use Rattle.lq_tree.proofs.Says.{IsSo}
use Rattle.lq_tree.proofs.Small.{are_small, have_small, is_small, list_is, map_is, text_small}
use Rattle.lq_tree.specs.declared.node.Node.{List as ListNode, Map as MapNode, Node, Text as TextNode}
use Rattle.lq_sqltree.specs.SqlTree.{change_set, changes, check, conditions, elsewhere, heading, here, is_empty_block, is_key, item, keys_of, names_path, own_keys, path_key, placed_keys, reaction, reactions, rollback_key, sql_change, sql_tree, text_keys, tree_of, tree_or_fault, under, undoing}
use Rattle.lq_sqltree.specs.declared.attributes.Keys.{Keys}
use Rattle.lq_sqltree.specs.declared.attributes.Keys.TheVariants.{OfHeading, OfSet, OfSql}

all_small : (xs ys : List Node) → are_small xs ≡ true → are_small ys ≡ true → are_small (xs ++ ys) ≡ true
all_small xs ys one two = list_all-append is_small xs ys ∙ and_from (are_small xs) (are_small ys) one two

both_small : (xs ys : List (List ℕ × Node)) → have_small xs ≡ true → have_small ys ≡ true → have_small (xs ++ ys) ≡ true
both_small xs ys one two = list_all-append (λ (e : List ℕ × Node). is_small e.1) xs ys ∙ and_from (have_small xs) (have_small ys) one two

map_of_small : (es : List (List ℕ × Node)) → have_small es ≡ true → is_small (MapNode es) ≡ true
map_of_small es small = map_is es ∙ small

list_of_small : (ns : List Node) → are_small ns ≡ true → is_small (ListNode ns) ≡ true
list_of_small ns small = list_is ns ∙ small

first_small : (key : List ℕ) (n : Node) (es : List (List ℕ × Node)) → is_small n ≡ true → have_small es ≡ true → have_small ((key, n) ∷ es) ≡ true
first_small key n es one more = and_from (is_small n) (have_small es) one more

under_small : (key : List ℕ) (n : Node) → is_small n ≡ true → is_small (under key n) ≡ true
under_small key n small = map_of_small ((key, n) ∷ []) (first_small key n [] small refl)

texts_small : (pairs : List (List ℕ × List ℕ)) → have_small (text_keys pairs) ≡ true
texts_small [] = refl
texts_small (p ∷ pairs) = first_small p.0 (TextNode p.1) (text_keys pairs) (text_small p.1) (texts_small pairs)

path_small : (logical : Option (List ℕ)) (attributes : List (List ℕ × List ℕ)) → have_small (path_key logical attributes) ≡ true
path_small None attributes = refl
path_small (Some path) attributes = by (names_path attributes) where
  by : (named : Bool) → have_small (if named then [] else (codes "logicalFilePath", TextNode path) ∷ []) ≡ true
  by true = refl
  by false = first_small (codes "logicalFilePath") (TextNode path) [] (text_small path) refl

reaction_small : (key : List ℕ) (text : Option (List ℕ)) → are_small (reaction key text) ≡ true
reaction_small key None = refl
reaction_small key (Some text) = and_from (is_small (under key (TextNode text))) true (under_small key (TextNode text) (text_small text)) refl

reactions_small : (s : SqlSet) → are_small (reactions s) ≡ true
reactions_small s = all_small (reaction (codes "onFail") s.on_fail) (reaction (codes "onError") s.on_error) (reaction_small (codes "onFail") s.on_fail) (reaction_small (codes "onError") s.on_error)

check_small : (p : List ℕ × List ℕ) → is_small (check p) ≡ true
check_small p =
    let es = (codes "expectedResult", TextNode p.0) ∷ (codes "sql", TextNode p.1) ∷ [] in
    under_small (codes "sqlCheck") (MapNode es) (map_of_small es (first_small (codes "expectedResult") (TextNode p.0) ((codes "sql", TextNode p.1) ∷ []) (text_small p.0) (first_small (codes "sql") (TextNode p.1) [] (text_small p.1) refl)))

checks_small : (checks : List (List ℕ × List ℕ)) → are_small (map check checks) ≡ true
checks_small [] = refl
checks_small (p ∷ checks) = and_from (is_small (check p)) (are_small (map check checks)) (check_small p) (checks_small checks)

conditions_small : (s : SqlSet) → are_small (conditions s) ≡ true
conditions_small s = all_small (reactions s) (map check s.checks) (reactions_small s) (checks_small s.checks)

sql_small : (body : List ℕ) (of_sql : List (List ℕ × Node)) → have_small of_sql ≡ true → is_small (sql_change body of_sql) ≡ true
sql_small body of_sql small =
    let es = (codes "sql", TextNode body) ∷ of_sql in
    under_small (codes "sql") (MapNode es) (map_of_small es (first_small (codes "sql") (TextNode body) of_sql (text_small body) small))

changes_small : (body : List ℕ) (of_sql : List (List ℕ × Node)) → have_small of_sql ≡ true → are_small (changes body of_sql) ≡ true
changes_small [] of_sql small = refl
changes_small (b ∷ body) of_sql small = and_from (is_small (sql_change (b ∷ body) of_sql)) true (sql_small (b ∷ body) of_sql small) refl

undoing_small : (text : List ℕ) → are_small (undoing text) ≡ true
undoing_small text = by (is_empty_block text) where
  by : (empty : Bool) → are_small (if empty then [] else TextNode text ∷ []) ≡ true
  by true = refl
  by false = and_from (is_small (TextNode text)) true (text_small text) refl

rollback_small : (text : Option (List ℕ)) → have_small (rollback_key text) ≡ true
rollback_small None = refl
rollback_small (Some text) = first_small (codes "rollback") (ListNode (undoing text)) [] (list_of_small (undoing text) (undoing_small text)) refl

own_small : (s : SqlSet) (asked made : List Node) → are_small asked ≡ true → are_small made ≡ true → have_small (own_keys s asked made) ≡ true
own_small s asked made one two =
    let after_asked : List (List ℕ × Node) = (codes "changes", ListNode made) ∷ [] in
    let after_comment : List (List ℕ × Node) = (codes "preConditions", ListNode asked) ∷ after_asked in
    let after_author : List (List ℕ × Node) = (codes "comment", TextNode s.comment) ∷ after_comment in
    let after_id : List (List ℕ × Node) = (codes "author", TextNode s.author) ∷ after_author in
    first_small (codes "id") (TextNode s.id) after_id (text_small s.id) (
    first_small (codes "author") (TextNode s.author) after_author (text_small s.author) (
    first_small (codes "comment") (TextNode s.comment) after_comment (text_small s.comment) (
    first_small (codes "preConditions") (ListNode asked) after_asked (list_of_small asked one) (
    first_small (codes "changes") (ListNode made) [] (list_of_small made two) refl))))

of_small : (which : Keys) (attributes : List (List ℕ × List ℕ)) → have_small (keys_of which attributes) ≡ true
of_small which attributes = texts_small (filter (λ p. is_key which p.0) attributes)

placed_small : (logical : Option (List ℕ)) (s : SqlSet) → have_small (placed_keys logical s) ≡ true
placed_small logical s = both_small (keys_of OfSet s.attributes) (path_key logical s.attributes) (of_small OfSet s.attributes) (path_small logical s.attributes)

heading_small : (s : SqlSet) → is_small (heading s) ≡ true
unfolding heading
heading_small s =
    let change = sql_change [] (keys_of OfSql s.attributes) in
    let own = own_keys s (reactions s) (change ∷ []) in
    map_of_small (own ++ keys_of OfHeading s.attributes) (both_small own (keys_of OfHeading s.attributes)
    (own_small s (reactions s) (change ∷ []) (reactions_small s) (and_from (is_small change) true (sql_small [] (keys_of OfSql s.attributes) (of_small OfSql s.attributes)) refl)) (of_small OfHeading s.attributes))

elsewhere_small : (logical : Option (List ℕ)) (s : SqlSet) → is_small (elsewhere logical s) ≡ true
unfolding elsewhere
elsewhere_small logical s =
    let own = own_keys s (reactions s) [] in
    map_of_small (own ++ placed_keys logical s) (both_small own (placed_keys logical s) (own_small s (reactions s) [] (reactions_small s) refl) (placed_small logical s))

here_small : (logical : Option (List ℕ)) (s : SqlSet) → is_small (here logical s) ≡ true
unfolding here
here_small logical s =
    let own = own_keys s (conditions s) (changes s.body (keys_of OfSql s.attributes)) in
    map_of_small (own ++ placed_keys logical s ++ rollback_key s.rollback) (both_small own (placed_keys logical s ++ rollback_key s.rollback)
    (own_small s (conditions s) (changes s.body (keys_of OfSql s.attributes)) (conditions_small s) (changes_small s.body (keys_of OfSql s.attributes) (of_small OfSql s.attributes)))
    (both_small (placed_keys logical s) (rollback_key s.rollback) (placed_small logical s) (rollback_small s.rollback)))

set_small : (logical : Option (List ℕ)) (s : SqlSet) → is_small (change_set logical s) ≡ true
unfolding change_set
set_small logical s =
    let last : List (List ℕ × Node) = (codes "here", here logical s) ∷ [] in
    let more : List (List ℕ × Node) = (codes "elsewhere", elsewhere logical s) ∷ last in
    map_of_small ((codes "heading", heading s) ∷ more) (first_small (codes "heading") (heading s) more (heading_small s) (first_small (codes "elsewhere") (elsewhere logical s) last (elsewhere_small logical s) (first_small (codes "here") (here logical s) [] (here_small logical s) refl)))

item_small : (logical : Option (List ℕ)) (s : SqlSet) → is_small (item logical s) ≡ true
unfolding item
item_small logical s = under_small (codes "changeSet") (under (decimal s.line) (change_set logical s)) (under_small (decimal s.line) (change_set logical s) (set_small logical s))

items_small : (logical : Option (List ℕ)) (sets : List SqlSet) → are_small (map (item logical) sets) ≡ true
items_small logical [] = refl
items_small logical (s ∷ sets) = and_from (is_small (item logical s)) (are_small (map (item logical) sets)) (item_small logical s) (items_small logical sets)

tree_small : (file : SqlFile) → is_small (tree_of file) ≡ true
unfolding tree_of
tree_small file = under_small (codes "databaseChangeLog") (ListNode (map (item file.logical) file.sets)) (list_of_small (map (item file.logical) file.sets) (items_small file.logical file.sets))

pub sql_tree_small : (bytes : List ℕ) → IfOk (sql_tree bytes) (IsSo is_small)
unfolding sql_tree
sql_tree_small bytes = by (file_of (lines bytes)) where
  by : (file : Result SqlFile SqlFault) → IfOk (tree_or_fault file) (IsSo is_small)
  by (Ok file) = tree_small file
  by (Err fault) = tt
