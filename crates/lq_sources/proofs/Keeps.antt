-- What gathering an item keeps holds of all that the files below a root bring.
use Rattle.std.proofs.lemmas.Bool.{and_parts}
use Rattle.std.specs.List.{list_all}
use Rattle.std.specs.Prelude.{Bool, Err, IfOk, IfSome, List, None, Ok, Option, Result, Some, [], codes, cond, if◌then◌else◌, length, nat_le, refl, suc, true, false, zero, ℕ, ◌&&◌, ◌++◌, ◌-◌, ◌∷◌, ◌≡◌}
use Rattle.lq_paths.specs.Paths.{joined}
use Rattle.lq_paths.specs.declared.path.Format.{Format}
use Rattle.lq_tree.proofs.Says.{IsSo, all_found, then_so, within_so}
use Rattle.lq_tree.proofs.Small.{are_small, have_small, is_small, items_small, map_small, value_small}
use Rattle.lq_tree.specs.Look.{Found, list_of, map_of, value_at}
use Rattle.lq_tree.specs.Keys.{at_required, known}
use Rattle.lq_tree.specs.declared.node.Node.{Node}
use Rattle.lq_sources.proofs.StillSmall.{filled_small}
use Rattle.lq_sources.specs.Faults.{Loaded, by_keys, fault_in, in_file, placed_what, ◌>>=◌}
use Rattle.lq_sources.specs.Items.{entry_in, entry_of, items_of, listed, place, Meaning, SoFar, nothing_yet, with_file, with_property, with_set, filled, value_in}
use Rattle.lq_sources.specs.Source.{Source}
use Rattle.lq_sources.specs.Walk.{Held, bring, bytes_read, contents, each, each_from, entry_at, file, gathered_in, is_set, item_gathered, item_read, item_with_files, items_read, may_open, named, on_wanted, root_file, take_entry, take_folder, take_item, take_path, taken_under, target, tried, walked, wanted_bytes}
use Rattle.lq_sources.specs.declared.fault.Lack.{Lack}
use Rattle.lq_sources.specs.declared.fault.Lack.TheVariants.{File, Wrong}
use Rattle.lq_sources.specs.declared.fault.LoadFault.TheVariants.{Fault, TooMany}
use Rattle.lq_sources.specs.declared.fault.What.{What}
use Rattle.lq_sources.specs.declared.fault.What.TheVariants.{Key}
use Rattle.lq_sources.specs.declared.item.Included.{Included}
use Rattle.lq_sources.specs.declared.item.Item.{Item}
use Rattle.lq_sources.specs.declared.item.Item.TheVariants.{Include, IncludeAll, Other, Property}
use Rattle.lq_base.specs.declared.fault.KindFault.TheVariants.{Bad}

-- ---- readings that follow each other

pub bind_so : {A B : Type 0} (P : A → Type 0) (Q : B → Type 0) (r : Loaded A) (f : A → Loaded B) → IfOk r P → ((a : A) → P a → IfOk (f a) Q) → IfOk (r >>= f) Q
bind_so P Q (Ok a) f so next = next a so
bind_so P Q (Err fault) f so next = tt

any_loaded : {A : Type 0} (r : Loaded A) → IfOk r (λ a. Unit {0})
any_loaded (Ok a) = tt
any_loaded (Err fault) = tt

in_file_so : {A : Type 0} (P : A → Type 0) (path : List ℕ) (r : Result A What) → IfOk r P → IfOk (in_file path r) P
in_file_so P path (Ok a) so = so
in_file_so P path (Err what) so = tt

by_keys_so : {A : Type 0} (P : A → Type 0) (r : Found A) → IfOk r P → IfOk (by_keys r) P
by_keys_so P (Ok a) so = so
by_keys_so P (Err fault) so = tt

each_so : {A S : Type 0} (K : S → Type 0) (fits : A → Bool) (take : ℕ → A → S → Loaded S) → ((i : ℕ) (x : A) (s : S) → fits x ≡ true → K s → IfOk (take i x s) K)
    → (i : ℕ) (xs : List A) (s : S) → list_all fits xs ≡ true → K s → IfOk (each_from take i xs s) K
each_so K fits take keeps i [] s all so = so
each_so K fits take keeps i (x ∷ xs) s all so =
    let parts = and_parts (fits x) (list_all fits xs) all in
    bind_so K K (take i x s) (each_from take (suc i) xs) (keeps i x s parts.0 so) (λ t more. each_so K fits take keeps (suc i) xs t parts.1 more)

-- ---- items

items_of_small : (tree : Node) → is_small tree ≡ true → IfOk (items_of tree) (IsSo are_small)
unfolding items_of
items_of_small tree small = then_so (λ _. Unit {0}) (IsSo are_small) (known (codes "databaseChangeLog" ∷ []) tree) _ (all_found (known (codes "databaseChangeLog" ∷ []) tree)) (λ _ _. at (value_at (codes "databaseChangeLog") tree) (value_small (codes "databaseChangeLog") tree small)) where
  listed_small : (ns : Option (List Node)) → IfSome ns (IsSo are_small) → IfOk (listed ns) (IsSo are_small)
  listed_small None so = tt
  listed_small (Some ns) so = so

  at : (value : Option Node) → IfSome value (IsSo is_small) → IfOk (at_required (codes "databaseChangeLog") (λ n. listed (list_of n)) value) (IsSo are_small)
  at None so = tt
  at (Some n) so = within_so (IsSo are_small) (codes "databaseChangeLog") (listed (list_of n)) (listed_small (list_of n) (items_small n so))

pub entry_small : (n : Node) → is_small n ≡ true → IfSome (entry_of n) (λ e. is_small e.1 ≡ true)
entry_small n small = at (map_of n) (map_small n small) where
  at : (es : Option (List (List ℕ × Node))) → IfSome es (IsSo have_small) → IfSome (entry_in es) (λ e. is_small e.1 ≡ true)
  at None so = tt
  at (Some []) so = tt
  at (Some (e ∷ [])) so = (and_parts (is_small e.1) true so).0
  at (Some (e ∷ f ∷ es)) so = tt

entry_at_small : (path : List ℕ) (i : ℕ) (n : Node) → is_small n ≡ true → IfOk (entry_at path i n) (λ e. is_small e.1 ≡ true)
unfolding entry_at
entry_at_small path i n small = at (entry_of n) (entry_small n small) where
  at : (e : Option (List ℕ × Node)) → IfSome e (λ e. is_small e.1 ≡ true) → IfOk (elim e [ None ↦ Err (Fault path (Key (Bad (place i)))) | Some f ↦ Ok f ]) (λ e. is_small e.1 ≡ true)
  at None so = tt
  at (Some e) so = so

-- ---- the walk

module _ {G : Type 0} (m : Meaning G) (K : G → Type 0)
    (trees : (format : Format) (bytes : List ℕ) → IfOk (m.tree format bytes) (IsSo is_small))
    (keeps : (given : List (List ℕ)) (is_root : Bool) (path key : List ℕ) (n : Node) (g : G) → is_small n ≡ true → K g → IfOk (m.gathers given is_root path key n g) K)
  where
    abbrev IsKept : Held G → Type 0
    IsKept s = K s.gathered

    tried_so : (path : List ℕ) (i : ℕ) (g : G) (r : Result G Lack) → K g → IfOk r K → IfOk (tried m path i g r) (λ made. K made.1)
    tried_so path i g (Ok found) so made = made
    tried_so path i g (Err (Wrong what)) so made = tt
    tried_so path i g (Err (File it)) so made = so

    module _ (source : Source) where
      module _ (is_root : Bool) (path : List ℕ) (i : ℕ) (key : List ℕ) (n : Node) (small : is_small n ≡ true) where
        wanted_so : (next : List (List ℕ) → Held G → Loaded (Held G)) → ((given : List (List ℕ)) (s : Held G) → IsKept s → IfOk (next given s) IsKept)
            → (given : List (List ℕ)) (counts : SoFar) (g : G) (wanted : Option Included) → K g → IfOk (on_wanted m source is_root path i key n next given counts g wanted) IsKept
        wanted_so next each given counts g None so = so
        wanted_so next each given counts g (Some it) so =
            bind_so (λ _. Unit {0}) IsKept (wanted_bytes source path it counts) _ (any_loaded (wanted_bytes source path it counts)) (λ bytes _.
            each (given ++ bytes ∷ []) (record { counts = with_file (length bytes) counts; gathered = g }) so)

        turns_so : (turns : ℕ) (given : List (List ℕ)) (s : Held G) → IsKept s → IfOk (gathered_in m source is_root path i key n turns given s) IsKept
        turns_so zero given s so = tt
        turns_so (suc turns) given s so =
            bind_so (λ made. K made.1) IsKept (tried m path i s.gathered (m.gathers given is_root path key n s.gathered)) _
            (tried_so path i s.gathered (m.gathers given is_root path key n s.gathered) so (keeps given is_root path key n s.gathered small so)) (λ made kept.
            wanted_so (gathered_in m source is_root path i key n turns) (turns_so turns) given s.counts made.1 made.0 kept)

        files_so : (s : Held G) → IsKept s → IfOk (item_with_files m source is_root path i key n s) IsKept
        unfolding item_with_files
        files_so s so = turns_so (suc (10000 - s.counts.files)) [] s so

        item_so : (s : Held G) → IsKept s → IfOk (item_gathered m source is_root path i key n s) IsKept
        unfolding item_gathered
        item_so s so = by (is_set key && nat_le 10000 s.counts.sets) where
          counted : Held G → Loaded (Held G)
          counted t = Ok (record { counts = cond (is_set key) (with_set t.counts) t.counts; gathered = t.gathered })

          by : (full : Bool) → IfOk (if full then Err TooMany else (item_with_files m source is_root path i key n s >>= (λ t. Ok (record { counts = cond (is_set key) (with_set t.counts) t.counts; gathered = t.gathered })))) IsKept
          by true = tt
          by false = bind_so IsKept IsKept (item_with_files m source is_root path i key n s) _ (files_so s so) (λ t kept. kept)

      module _ (include : List ℕ → Held G → Loaded (Held G)) (included : (path : List ℕ) (s : Held G) → IsKept s → IfOk (include path s) IsKept) where
        path_so : (path : List ℕ) (s : Held G) → IsKept s → IfOk (take_path include path s) IsKept
        path_so path s so = bind_so (λ _. Unit {0}) IsKept (named path) (λ p. include p s) (any_loaded (named path)) (λ p _. included p s so)

        folder_so : (folder : List ℕ) (s : Held G) → IsKept s → IfOk (take_folder include source folder s) IsKept
        folder_so folder s so =
            bind_so (λ _. Unit {0}) IsKept (taken_under source folder) (λ paths. each (take_path include) paths s) (any_loaded (taken_under source folder)) (λ paths _.
            each_so IsKept (λ _. true) (λ i. take_path include) (λ i path s _ so. path_so path s so) 0 paths s (all_true paths) so)
          where
            all_true : (paths : List (List ℕ)) → list_all (λ (_ : List ℕ). true) paths ≡ true
            all_true [] = refl
            all_true (p ∷ ps) = all_true ps

        bring_so : (is_root : Bool) (path : List ℕ) (i : ℕ) (key : List ℕ) (n : Node) (item : Item) (s : Held G) → is_small n ≡ true → IsKept s → IfOk (bring m source include is_root path i key n item s) IsKept
        bring_so is_root path i key n (Include it) s small so =
            bind_so (λ _. Unit {0}) IsKept (target (joined path it.relative it.path)) (λ p. take_path include p s) (any_loaded (target (joined path it.relative it.path))) (λ p _. path_so p s so)
        bring_so is_root path i key n (IncludeAll it) s small so =
            bind_so (λ _. Unit {0}) IsKept (target (joined path it.relative it.path)) (λ folder. take_folder include source folder s) (any_loaded (target (joined path it.relative it.path))) (λ folder _. folder_so folder s so)
        bring_so is_root path i key n (Property it) s small so = so
        bring_so is_root path i key n Other s small so = item_so is_root path i key n small s so

        take_so : (is_root : Bool) (path : List ℕ) (i : ℕ) (n : Node) (s : Held G) → is_small n ≡ true → IsKept s → IfOk (take_item m source include is_root path i n s) IsKept
        take_so is_root path i n s small so =
            bind_so (λ e. is_small e.1 ≡ true) IsKept (entry_at path i (filled (value_in s.counts.values path) n)) (λ e. take_entry m source include is_root path i e.0 e.1 s)
            (entry_at_small path i (filled (value_in s.counts.values path) n) (filled_small (value_in s.counts.values path) n small)) (λ e entry.
            bind_so (λ _. Unit {0}) IsKept (item_read m path i e.0 e.1) (λ item. bring m source include is_root path i e.0 e.1 item s) (any_loaded (item_read m path i e.0 e.1)) (λ item _.
            bring_so is_root path i e.0 e.1 item s entry so))

        contents_so : (is_root : Bool) (path : List ℕ) (format : Format) (s : Held G) → IsKept s → IfOk (contents m source include is_root path format s) IsKept
        contents_so is_root path format s so =
            bind_so (λ _. Unit {0}) IsKept (bytes_read path (source.content path) s.counts) _ (any_loaded (bytes_read path (source.content path) s.counts)) (λ bytes _.
            bind_so (IsSo are_small) IsKept (items_read m path format bytes) _
            (bind_so (IsSo is_small) (IsSo are_small) (in_file path (m.tree format bytes)) (λ tree. in_file path (by_keys (items_of tree))) (in_file_so (IsSo is_small) path (m.tree format bytes) (trees format bytes)) (λ tree small.
            in_file_so (IsSo are_small) path (by_keys (items_of tree)) (by_keys_so (IsSo are_small) (items_of tree) (items_of_small tree small)))) (λ items small.
            each_so IsKept is_small (take_item m source include is_root path) (λ i n s fits kept. take_so is_root path i n s fits kept) 0 items (record { counts = with_file (length bytes) s.counts; gathered = s.gathered }) small so))

      file_so : (levels : ℕ) (is_root : Bool) (path : List ℕ) (s : Held G) → IsKept s → IfOk (file m source levels is_root path s) IsKept
      file_so zero is_root path s so = bind_so (λ _. Unit {0}) IsKept (may_open path 0 s.counts) _ (any_loaded (may_open path 0 s.counts)) (λ format _. tt)
      file_so (suc levels) is_root path s so =
          bind_so (λ _. Unit {0}) IsKept (may_open path (suc levels) s.counts) _ (any_loaded (may_open path (suc levels) s.counts)) (λ format _.
          contents_so (file m source levels false) (λ p t kept. file_so levels false p t kept) is_root path format s so)

      root_so : (path : List ℕ) (s : Held G) → IsKept s → IfOk (root_file m source path s) IsKept
      unfolding root_file
      root_so path s so = file_so 33 true path s so

      pub walked_so : (root : List ℕ) (given : List (List ℕ × List ℕ)) (g : G) → K g → IfOk (walked m source root given g) K
      unfolding walked
      walked_so root given g so =
          bind_so (λ _. Unit {0}) K (named root) _ (any_loaded (named root)) (λ path _.
          bind_so IsKept K (root_file m source path (record { counts = nothing_yet given; gathered = g })) _ (root_so path (record { counts = nothing_yet given; gathered = g }) so) (λ s kept. kept))
