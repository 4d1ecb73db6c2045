-- The changelog that is generated: one file with its tree is that changelog, and its changes make the catalogue without rows, all fresh and with inverses.
use Rattle.std.proofs.Common.{arith, ap, sym, ◌∙◌, append_assoc}
use Rattle.std.specs.List.{AllByRecursion, flat_map, list_any}
use Rattle.std.specs.Prelude.{Bool, List, None, Ok, Option, Some, [], codes, cond, false, if◌then◌else◌, length, map, refl, true, ℕ, ◌+◌, ◌++◌, ◌∷◌, ◌≡◌, ◌≤◌}
use Rattle.lq_base.specs.declared.dialect.Dialect.{Dialect}
use Rattle.lq_base.specs.declared.dialect.Dialect.TheVariants.{Mysql, Postgresql}
use Rattle.lq_base.specs.declared.name.Name.{Name}
use Rattle.lq_changelog.specs.Gathers.{changelog}
use Rattle.lq_kinds.specs.ChangeSets.{is_label}
use Rattle.lq_any.specs.declared.any_change.AnyChange.{AnyChange}
use Rattle.lq_kinds.specs.declared.change_set.ChangeSet.{ChangeSet}
use Rattle.lq_kinds.specs.declared.change_set.Changelog.{Changelog}
use Rattle.lq_model.specs.Catalogue.{Catalogue, Sequence, Table, View, no_objects}
use Rattle.lq_model.specs.Sound.{IsSound, may_have}
use Rattle.lq_model.specs.declared.column.Column.{Column}
use Rattle.lq_model.specs.declared.constraint.Key.{Key}
use Rattle.lq_model.specs.declared.statement.Statement.{Statement}
use Rattle.lq_seen.specs.View.{any_meaning}
use Rattle.lq_paths.specs.Paths.{format_of, is_xml}
use Rattle.lq_sources.specs.Source.{Source}
use Rattle.lq_sources.specs.Items.{filled}
use Rattle.lq_paths.specs.declared.path.Format.TheVariants.{Json}
use Rattle.lq_tree.specs.Items.{is_empty}
use Rattle.lq_tree.specs.Json.{json_tree}
use Rattle.lq_tree.specs.declared.node.Node.{Node}
use Rattle.lq_turns.specs.Set.{all_fresh, effects, inverses}
use Rattle.std.specs.Str.{chars}
use Rattle.laws_made.specs.CreatedAs.{all_changes, of_aims, of_filling, of_foreign, of_index, of_key, of_own_key, of_sequence, of_table, of_unique, of_view}
use Rattle.laws_made.proofs.Effects.{all_plain, all_undone, whole_effects}
use Rattle.laws_generate.proofs.CanWrite.{Can, CanSequence}
use Rattle.lq_generate.specs.Generated.{generated_tree}
use Rattle.lq_base.specs.declared.run.OnFail.TheVariants.{Halt}
use Rattle.lq_cond.specs.declared.cond.Cond.TheVariants.{And}
use Rattle.laws_generate.specs.Again.{change_sets, five_changes, generated_changelog, generated_set, without_rows}
use Rattle.laws_generate.proofs.TreesSame.{tree_same}
use Rattle.laws_generate.proofs.FileRead.{IsMade, Made, no_value, root_tree, set_made, whole, whole_read}
use Rattle.laws_made.proofs.Fresh.{whole_fresh}
use Rattle.laws_stages.proofs.Loops.{append_none}
use Rattle.laws_generate.proofs.SetsRead.{IsRead, Pair, aims_are_read, fillings_are_read, five, made_of, pair_of_foreign, pair_of_index, pair_of_sequence, pair_of_table, pair_of_unique, pair_of_view, pairs_of_aims, pairs_of_filling, pairs_of_key, pairs_of_own_key, sequences_are_read, sets_made, sets_of, tables_are_read, views_are_read}
use Rattle.laws_made.proofs.Whole.{MayMake}
use Rattle.laws_stages.specs.Making.{full, with_tables_as}

-- under MySQL there are no sequences
sequences_in : (d : Dialect) (ss : List (Name × Sequence)) → may_have d ss ≡ true → AllByRecursion CanSequence ss → AllByRecursion (IsRead d) (map pair_of_sequence ss)
sequences_in Postgresql ss may h = sequences_are_read ss h
sequences_in Mysql [] may h = tt
sequences_in Mysql (s ∷ ss) may h = absurd Prim.cc

abbrev IsFive : Dialect → List ℕ × List Pair → Type 0
IsFive d s = (is_label s.0 ≡ true) × AllByRecursion (IsRead d) s.1

label_fits : (is_label (codes "1") ≡ true) × ((is_label (codes "2") ≡ true) × ((is_label (codes "3") ≡ true) × ((is_label (codes "4") ≡ true) × (is_label (codes "5") ≡ true))))
unfolding chars
label_fits = (refl, (refl, (refl, (refl, refl))))

five_read : (d : Dialect) (c : Catalogue) → IsSound d c → Can d c → AllByRecursion (IsFive d) (five d c)
five_read d c sound can = (
  (label_fits.0, sequences_in d c.sequences sound.sequences can.sequences),
  (
    (label_fits.1.0, tables_are_read d c.tables can.tables),
    (
      (label_fits.1.1.0, fillings_are_read d c.tables can.fillings),
      (
        (label_fits.1.1.1.0, aims_are_read d c.tables can.fillings),
        ((label_fits.1.1.1.1, views_are_read d c.views can.views), tt),
      ),
    ),
  ),
)

no_more : (ss : List (List ℕ × List Pair)) → length (sets_of ss) ≤ length ss
no_more [] = omega arith
no_more (s ∷ ss) = by (is_empty s.1) (no_more ss) where
  by : (b : Bool) → length (sets_of ss) ≤ length ss → length (if b then sets_of ss else made_of s.0 s.1 ∷ sets_of ss) ≤ length (s ∷ ss)
  by true h = omega (arith, h)
  by false h = omega (arith, h)

-- the changes of all changesets are all changes

abbrev second : Pair → AnyChange
second p = p.1

map_both : (xs ys : List Pair) → map second (xs ++ ys) ≡ map second xs ++ map second ys
map_both [] ys = refl
map_both (x ∷ xs) ys = ap (λ zs. second x ∷ zs) (map_both xs ys)

of_pairs : {A : Type 0} (pair : A → Pair) (xs : List A) → map second (map pair xs) ≡ map (λ x. second (pair x)) xs
of_pairs pair [] = refl
of_pairs pair (x ∷ xs) = ap (λ zs. second (pair x) ∷ zs) (of_pairs pair xs)

of_lists : {A : Type 0} (pairs : A → List Pair) (changes : A → List AnyChange) → ((x : A) → map second (pairs x) ≡ changes x) → (xs : List A) → map second (flat_map pairs xs) ≡ flat_map changes xs
of_lists pairs changes same [] = refl
of_lists pairs changes same (x ∷ xs) = map_both (pairs x) (flat_map pairs xs) ∙ ap (λ zs. zs ++ map second (flat_map pairs xs)) (same x) ∙ ap (λ zs. changes x ++ zs) (of_lists pairs changes same xs)

own_keys_same : (d : Dialect) (e : Name × Table) → map second (pairs_of_own_key d e) ≡ of_own_key d e
own_keys_same d e = by (list_any (λ (c : Column). c.numbered) e.1.columns) e.1.key where
  by : (b : Bool) (key : Option Key) → map second (cond b [] (pairs_of_key d e.0 key)) ≡ cond b [] (of_key d e.0 key)
  by true key = refl
  by false None = refl
  by false (Some k) = refl

fillings_same : (d : Dialect) (e : Name × Table) → map second (pairs_of_filling d e) ≡ of_filling d e
fillings_same d e =
    map_both (pairs_of_own_key d e) (map (pair_of_unique e.0) e.1.uniques ++ map (pair_of_index e.0) e.1.indexes)
    ∙ ap (λ zs. zs ++ map second (map (pair_of_unique e.0) e.1.uniques ++ map (pair_of_index e.0) e.1.indexes)) (own_keys_same d e)
    ∙ ap (λ zs. of_own_key d e ++ zs) (map_both (map (pair_of_unique e.0) e.1.uniques) (map (pair_of_index e.0) e.1.indexes)
    ∙ ap (λ zs. zs ++ map second (map (pair_of_index e.0) e.1.indexes)) (of_pairs (pair_of_unique e.0) e.1.uniques)
    ∙ ap (λ zs. map (of_unique e.0) e.1.uniques ++ zs) (of_pairs (pair_of_index e.0) e.1.indexes))

abbrev changes_in : List (List ℕ × List Pair) → List AnyChange
changes_in ss = flat_map (λ (s : List ℕ × List Pair). map second s.1) ss

abbrev pub changes_of : Changelog → List AnyChange
changes_of g = flat_map (λ (x : ChangeSet). x.changes) g.sets

-- an empty changeset has none
sets_same : (path author : List ℕ) (ss : List (List ℕ × List Pair)) → flat_map (λ (x : ChangeSet). x.changes) (map (set_made author path) (sets_of ss)) ≡ changes_in ss
sets_same path author [] = refl
sets_same path author (s ∷ ss) = by s.1 (sets_same path author ss) where
  by : (ps : List Pair) → flat_map (λ (x : ChangeSet). x.changes) (map (set_made author path) (sets_of ss)) ≡ changes_in ss
      → flat_map (λ (x : ChangeSet). x.changes) (map (set_made author path) (if is_empty ps then sets_of ss else made_of s.0 ps ∷ sets_of ss)) ≡ map second ps ++ changes_in ss
  by [] rest = rest
  by (p ∷ ps) rest = ap (λ zs. map second (p ∷ ps) ++ zs) rest

five_same : (d : Dialect) (c : Catalogue) → changes_in (five d c) ≡ all_changes d c
five_same d c =
    ap (λ zs. zs ++ (map second (map (pair_of_table d) c.tables) ++ (map second (flat_map (pairs_of_filling d) c.tables) ++ (map second (flat_map pairs_of_aims c.tables) ++ (map second (map (pair_of_view d) c.views) ++ []))))) (of_pairs pair_of_sequence c.sequences)
    ∙ ap (λ zs. map of_sequence c.sequences ++ (zs ++ (map second (flat_map (pairs_of_filling d) c.tables) ++ (map second (flat_map pairs_of_aims c.tables) ++ (map second (map (pair_of_view d) c.views) ++ []))))) (of_pairs (pair_of_table d) c.tables)
    ∙ ap (λ zs. map of_sequence c.sequences ++ (map (of_table d) c.tables ++ (zs ++ (map second (flat_map pairs_of_aims c.tables) ++ (map second (map (pair_of_view d) c.views) ++ []))))) (of_lists (pairs_of_filling d) (of_filling d) (fillings_same d) c.tables)
    ∙ ap (λ zs. map of_sequence c.sequences ++ (map (of_table d) c.tables ++ (flat_map (of_filling d) c.tables ++ (zs ++ (map second (map (pair_of_view d) c.views) ++ []))))) (of_lists pairs_of_aims of_aims (λ e. of_pairs (pair_of_foreign e.0) e.1.foreign) c.tables)
    ∙ ap (λ zs. map of_sequence c.sequences ++ (map (of_table d) c.tables ++ (flat_map (of_filling d) c.tables ++ (flat_map of_aims c.tables ++ zs)))) (append_none (map second (map (pair_of_view d) c.views)) ∙ of_pairs (pair_of_view d) c.views)

-- ---- what is generated

abbrev pub generated : Dialect → List ℕ → List ℕ → Catalogue → Changelog
generated d path author c = whole path author (sets_of (five d c))

abbrev changes_named : List (List ℕ × List Pair) → List (List ℕ × List AnyChange)
changes_named ss = map (λ (s : List ℕ × List Pair). (s.0, map second s.1)) ss

sets_as : (path author : List ℕ) (ss : List (List ℕ × List Pair)) → map (set_made author path) (sets_of ss) ≡ change_sets path author (changes_named ss)
sets_as path author [] = refl
sets_as path author (s ∷ ss) = by s.1 (sets_as path author ss) where
  by : (ps : List Pair) → map (set_made author path) (sets_of ss) ≡ change_sets path author (changes_named ss)
      → map (set_made author path) (if is_empty ps then sets_of ss else made_of s.0 ps ∷ sets_of ss) ≡ (if is_empty (map second ps) then change_sets path author (changes_named ss) else generated_set path s.0 author (map second ps) ∷ change_sets path author (changes_named ss))
  by [] rest = rest
  by (p ∷ ps) rest = ap (λ xs. generated_set path s.0 author (map second (p ∷ ps)) ∷ xs) rest

abbrev sets_with : List AnyChange → List AnyChange → List AnyChange → List AnyChange → List AnyChange → List (List ℕ × List AnyChange)
sets_with a b c d e = (codes "1", a) ∷ (codes "2", b) ∷ (codes "3", c) ∷ (codes "4", d) ∷ (codes "5", e) ∷ []

five_as : (d : Dialect) (c : Catalogue) → changes_named (five d c) ≡ five_changes d c
five_as d c =
    let b = map second (map (pair_of_table d) c.tables) in
    let e = map second (flat_map (pairs_of_filling d) c.tables) in
    let f = map second (flat_map pairs_of_aims c.tables) in
    let g = map second (map (pair_of_view d) c.views) in
    ap (λ x. sets_with x b e f g) (of_pairs pair_of_sequence c.sequences)
    ∙ ap (λ x. sets_with (map of_sequence c.sequences) x e f g) (of_pairs (pair_of_table d) c.tables)
    ∙ ap (λ x. sets_with (map of_sequence c.sequences) (map (of_table d) c.tables) x f g) (of_lists (pairs_of_filling d) (of_filling d) (fillings_same d) c.tables)
    ∙ ap (λ x. sets_with (map of_sequence c.sequences) (map (of_table d) c.tables) (flat_map (of_filling d) c.tables) x g) (of_lists pairs_of_aims of_aims (λ e. of_pairs (pair_of_foreign e.0) e.1.foreign) c.tables)
    ∙ ap (λ x. sets_with (map of_sequence c.sequences) (map (of_table d) c.tables) (flat_map (of_filling d) c.tables) (flat_map of_aims c.tables) x) (of_pairs (pair_of_view d) c.views)

pub generated_same : (d : Dialect) (path author : List ℕ) (c : Catalogue) → generated d path author c ≡ generated_changelog d path author c
generated_same d path author c = ap (λ (xs : List ChangeSet). log_of xs) (sets_as path author (five d c) ∙ ap (change_sets path author) (five_as d c)) where
  log_of : List ChangeSet → Changelog
  log_of xs = record { cond = And []; on_fail = Halt; on_error = Halt; sets = xs }

module _ (d : Dialect) (c : Catalogue) (sound : IsSound d c) (can : Can d c) (may : MayMake d c) (path author : List ℕ) where
  -- one file with that tree is that changelog
  pub generated_read : (source : Source) (bytes : List ℕ) → is_label path ≡ true → is_label author ≡ true → is_xml path ≡ false → format_of path ≡ Some Json → ((n : Node) → filled no_value n ≡ n)
      → source.content path ≡ Some bytes → length bytes ≤ 16777216 → json_tree bytes ≡ Ok (generated_tree d author c) → changelog source path d [] ≡ Ok (generated d path author c)
  generated_read source bytes named signed other json same content fits tree =
      let few = no_more (five d c) in
      whole_read d author source path bytes (sets_of (five d c)) named signed other json same content fits (tree ∙ ap (λ n. Ok n) (tree_same d author c)) (sets_made d (five d c) (five_read d c sound can)) (omega (arith, few))

  changes_are : changes_of (generated d path author c) ≡ all_changes d c
  changes_are = sets_same path author (five d c) ∙ five_same d c

  -- its changes make the catalogue without its rows
  pub generated_effects : effects d any_meaning (changes_of (generated d path author c)) no_objects ≡ Ok (without_rows c)
  generated_effects = ap (λ xs. effects d any_meaning xs no_objects) changes_are ∙ whole_effects d c sound may

  -- each is fresh at its place
  pub generated_fresh : all_fresh d any_meaning (changes_of (generated d path author c)) no_objects ≡ true
  generated_fresh = ap (λ xs. all_fresh d any_meaning xs no_objects) changes_are ∙ whole_fresh d c sound may

  -- each has an inverse
  pub generated_undone : (us : List Statement) × (inverses d any_meaning (changes_of (generated d path author c)) ≡ Some us)
  generated_undone = let all = all_undone d (all_changes d c) (all_plain d c) in (all.0, ap (λ xs. inverses d any_meaning xs) changes_are ∙ all.1)
