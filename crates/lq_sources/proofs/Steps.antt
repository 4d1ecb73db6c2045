-- What the files of a loading mean, step by step.
use Rattle.std.proofs.Common.{◌≡◌, ◌⊎◌, ◌<◌, ◌≤◌, ◌+◌, ◌-◌, ◌++◌, ◌∷◌, [], zero, suc, List, ℕ, ◌∙◌, refl, sym, ap, subst, drop, length, inl, inr, Option, Some, Ok, Err, Bool, false, arith}
use Rattle.std.specs.Prelude.{cond, if◌then◌else◌, nat_le, slice_index_or, ◌&&◌}
use Rattle.std.proofs.Math.Nat.{le_trans}
use Rattle.std.proofs.Math.Seq.{drop-cons}
use Rattle.lq_tree.specs.declared.node.Node.{Node}
use Rattle.lq_sources.specs.Faults.{Answers, IsFree, Loaded, by_keys, in_file, ◌>>=◌}
use Rattle.lq_sources.specs.Items.{items_of, Meaning, SoFar, nothing_yet, with_file, with_set}
use Rattle.lq_sources.specs.Source.{IsTold, Source}
use Rattle.lq_sources.specs.Walk.{Held, bytes_read, contents, each, each_from, file, gathered_in, is_set, item_gathered, item_with_files, may_open, named, on_wanted, root_file, take_folder, take_item, take_path, taken_under, tried, walked, wanted_bytes, written}
use Rattle.lq_sources.specs.declared.fault.LoadFault.{LoadFault}
use Rattle.lq_sources.specs.declared.fault.LoadFault.TheVariants.{OutOfMemory, TooDeep, TooMany}
use Rattle.lq_sources.specs.declared.item.Included.{Included}
use Rattle.lq_paths.specs.declared.path.Format.{Format}

module _ {G : Type 0} where
  -- how far a loop over items is
  pub record Gone (whole rest : Source → Loaded (Held G)) (told_first told : Option (List ℕ → Option (List ℕ))) (first now : ℕ) : Type 0 where
    pub same : told ≡ told_first
    pub later : first ≤ now
    pub reads : (source : Source) → IsTold told_first source → whole source ≡ rest source

  -- what is meant so is meant by what is the same
  same_meaning : {B : Type 0} (told : Option (List ℕ → Option (List ℕ))) (m n : Source → Loaded (Held G)) (r : Loaded B) (new : Held G)
      → ((source : Source) → IsTold told source → m source ≡ n source) → Answers told n r new → Answers told m r new
  same_meaning told m n (Ok b) new same h = λ source is. same source is ∙ h source is
  same_meaning told m n (Err fault) new same (inl free) = inl free
  same_meaning told m n (Err fault) new same (inr h) = inr (λ source is. same source is ∙ h source is)

  module _ (m : Meaning G) where
    -- what the file at a path means, on whatever level
    file_is : (source : Source) (levels : ℕ) (is_root : Bool) (path : List ℕ) (s : Held G)
        → file m source levels is_root path s ≡ (may_open path levels s.counts >>= (λ format. contents m source (file m source (levels - 1) false) is_root path format s))
    file_is source zero is_root path s = opened (written path)
      where
        shut : Format → Loaded Format
        shut format = Err (TooDeep path)

        last : Format → Loaded (Held G)
        last format = Err (TooDeep path)

        opened : (r : Loaded Format) → ((r >>= shut) >>= last) ≡ ((r >>= shut) >>= (λ format. contents m source (file m source 0 false) is_root path format s))
        opened (Ok format) = refl
        opened (Err fault) = refl
    file_is source (suc levels) is_root path s =
        ap (λ n. may_open path (suc levels) s.counts >>= (λ format. contents m source (file m source n false) is_root path format s)) less
      where
        less : levels ≡ suc levels - 1
        less = omega arith

    module _ (told : Option (List ℕ → Option (List ℕ))) (levels : ℕ) (is_root : Bool) (path : List ℕ) (s : Held G) where
      pub not_opened : {B : Type 0} (r : Loaded B) (fault : LoadFault) (new : Held G) → r ≡ Err fault
          → (fault ≡ OutOfMemory) ⊎ (may_open path levels s.counts ≡ Err fault)
          → Answers told (λ source. file m source levels is_root path s) r new
      not_opened r fault new is blames = subst (λ q. Answers told (λ source. file m source levels is_root path s) q new) (sym is) (by blames)
        where
          by : (fault ≡ OutOfMemory) ⊎ (may_open path levels s.counts ≡ Err fault) → IsFree fault ⊎ ((source : Source) → IsTold told source → file m source levels is_root path s ≡ Err fault)
          by (inl memory) = inl (inl memory)
          by (inr so) = inr (λ source known. file_is source levels is_root path s ∙ ap (λ f. f >>= (λ format. contents m source (file m source (levels - 1) false) is_root path format s)) so)

      pub opened : {B : Type 0} (r : Loaded B) (new : Held G) (format : Format) → may_open path levels s.counts ≡ Ok format
          → Answers told (λ source. contents m source (file m source (levels - 1) false) is_root path format s) r new
          → Answers told (λ source. file m source levels is_root path s) r new
      opened r new format so h = same_meaning told _ (λ source. contents m source (file m source (levels - 1) false) is_root path format s) r new
          (λ source known. file_is source levels is_root path s ∙ ap (λ f. f >>= (λ format. contents m source (file m source (levels - 1) false) is_root path format s)) so) h

    pub contents_answer : {B : Type 0} (told after : Option (List ℕ → Option (List ℕ))) (include : Source → List ℕ → Held G → Loaded (Held G)) (is_root : Bool) (path : List ℕ) (format : Format) (s : Held G) (counts : SoFar)
        (bytes : List ℕ) (tree : Node) (items : List Node) (r : Loaded B) (new : Held G)
        → after ≡ told → counts ≡ with_file (length bytes) s.counts
        → ((source : Source) → IsTold told source → bytes_read path (source.content path) s.counts ≡ Ok bytes)
        → in_file path (m.tree format bytes) ≡ Ok tree → in_file path (by_keys (items_of tree)) ≡ Ok items
        → Answers after (λ source. each_from (take_item m source (include source) is_root path) 0 items (record { counts = counts; gathered = s.gathered })) r new
        → Answers told (λ source. contents m source (include source) is_root path format s) r new
    contents_answer told after include is_root path format s counts bytes tree items r new same is read tree_is keys_are h =
        same_meaning told _ (λ source. each_from (take_item m source (include source) is_root path) 0 items (record { counts = counts; gathered = s.gathered })) r new
        (λ source known. rw (read source known, tree_is, keys_are, is) refl)
        (subst (λ t. Answers t (λ source. each_from (take_item m source (include source) is_root path) 0 items (record { counts = counts; gathered = s.gathered })) r new) same h)

    pub folder_answer : {B : Type 0} (told after : Option (List ℕ → Option (List ℕ))) (include : Source → List ℕ → Held G → Loaded (Held G)) (folder : List ℕ) (s : Held G) (paths given : List (List ℕ)) (r : Loaded B) (new : Held G)
        → after ≡ told → given ≡ paths → ((source : Source) → IsTold told source → taken_under source folder ≡ Ok paths)
        → Answers after (λ source. each (take_path (include source)) given s) r new
        → Answers told (λ source. take_folder (include source) source folder s) r new
    folder_answer told after include folder s paths given r new same are found h =
        same_meaning told (λ source. take_folder (include source) source folder s) (λ source. each (take_path (include source)) given s) r new
        (λ source known. ap (λ f. f >>= (λ ps. each (take_path (include source)) ps s)) (found source known) ∙ ap (λ ps. each (take_path (include source)) ps s) (sym are))
        (subst (λ t. Answers t (λ source. each (take_path (include source)) given s) r new) same h)

    pub path_answer : {B : Type 0} (told : Option (List ℕ → Option (List ℕ))) (include : Source → List ℕ → Held G → Loaded (Held G)) (path : List ℕ) (s : Held G) (r : Loaded B) (new : Held G)
        → named path ≡ Ok path → Answers told (λ source. include source path s) r new → Answers told (λ source. take_path (include source) path s) r new
    path_answer told include path s r new is h =
        same_meaning told (λ source. take_path (include source) path s) (λ source. include source path s) r new (λ source known. ap (λ f. f >>= (λ p. include source p s)) is) h

    -- ---- an item that is gathered, with the files that it wants

    module _ (is_root : Bool) (path : List ℕ) (i : ℕ) (key : List ℕ) (n : Node) where
      -- what is left to do behind a turn
      abbrev pub Wanted : Source → List (List ℕ) → SoFar → G → Option Included → Loaded (Held G)
      Wanted source given counts g wants = on_wanted m source is_root path i key n (gathered_in m source is_root path i key n (10000 - counts.files)) given counts g wants

      -- what a turn comes to
      abbrev pub Turn : List (List ℕ) → G → Loaded (Option Included × G)
      Turn given g = tried m path i g (m.gathers given is_root path key n g)

      taken_first : (source : Source) (s : Held G) (r : Loaded (Option Included × G)) → Turn [] s.gathered ≡ r
          → item_with_files m source is_root path i key n s ≡ (r >>= (λ made. Wanted source [] s.counts made.1 made.0))
      unfolding item_with_files
      taken_first source s r is = ap (λ q. q >>= (λ made. Wanted source [] s.counts made.1 made.0)) is

      -- one file more is read, and the item gathered once more
      taken_next : (source : Source) (given : List (List ℕ)) (counts later : SoFar) (g : G) (it : Included) (bytes : List ℕ) (r : Loaded (Option Included × G))
          → counts.files < 10000 → later ≡ with_file (length bytes) counts → wanted_bytes source path it counts ≡ Ok bytes → Turn (given ++ bytes ∷ []) g ≡ r
          → Wanted source given counts g (Some it) ≡ (r >>= (λ made. Wanted source (given ++ bytes ∷ []) later made.1 made.0))
      taken_next source given counts later g it bytes r few is read made =
          ap (λ turns. on_wanted m source is_root path i key n (gathered_in m source is_root path i key n turns) given counts g (Some it)) less
          ∙ (ap (λ q. q >>= (λ bs. gathered_in m source is_root path i key n (suc left) (given ++ bs ∷ []) (record { counts = with_file (length bs) counts; gathered = g }))) read
          ∙ (ap (λ q. q >>= (λ x. on_wanted m source is_root path i key n (gathered_in m source is_root path i key n left) (given ++ bytes ∷ []) (with_file (length bytes) counts) x.1 x.0)) made
          ∙ ap (λ c. r >>= (λ x. Wanted source (given ++ bytes ∷ []) c x.1 x.0)) (sym is)))
        where
          left : ℕ
          left = 10000 - (counts.files + 1)

          less : 10000 - counts.files ≡ suc left
          less = omega (arith, few)

      -- a file that cannot be read is told
      taken_not : (source : Source) (given : List (List ℕ)) (counts : SoFar) (g : G) (it : Included) (fault : LoadFault) → wanted_bytes source path it counts ≡ Err fault
          → Wanted source given counts g (Some it) ≡ Err fault
      taken_not source given counts g it fault is =
          ap (λ q. q >>= (λ bs. gathered_in m source is_root path i key n (10000 - counts.files) (given ++ bs ∷ []) (record { counts = with_file (length bs) counts; gathered = g }))) is

      module _ (first_told told : Option (List ℕ → Option (List ℕ))) (first now : ℕ) (s : Held G) (given : List (List ℕ)) (counts : SoFar) (g : G) where
        abbrev pub AtWanted : Option Included → Type 0
        AtWanted wants = Gone (λ source. item_with_files m source is_root path i key n s) (λ source. Wanted source given counts g wants) first_told told first now

      pub wanted_init : (told : Option (List ℕ → Option (List ℕ))) (first : ℕ) (s : Held G) (given : List (List ℕ)) (wants : Option Included) (g : G) → given ≡ [] → Turn given s.gathered ≡ Ok (wants, g)
          → AtWanted told told first first s given s.counts g wants
      wanted_init told first s given wants g none made = record {
        same = refl;
        later = omega arith;
        reads = λ source known. taken_first source s (Ok (wants, g)) (ap (λ bs. Turn bs s.gathered) (sym none) ∙ made) ∙ ap (λ bs. Wanted source bs s.counts g wants) (sym none);
      }

      pub wanted_init_failed : {B : Type 0} (told : Option (List ℕ → Option (List ℕ))) (s : Held G) (given : List (List ℕ)) (r : Loaded B) (fault : LoadFault) (new : Held G) → r ≡ Err fault → given ≡ []
          → (fault ≡ OutOfMemory) ⊎ (Turn given s.gathered ≡ Err fault) → Answers told (λ source. item_with_files m source is_root path i key n s) r new
      wanted_init_failed told s given r fault new so none blames = subst (λ q. Answers told (λ source. item_with_files m source is_root path i key n s) q new) (sym so) (by blames)
        where
          by : (fault ≡ OutOfMemory) ⊎ (Turn given s.gathered ≡ Err fault) → IsFree fault ⊎ ((source : Source) → IsTold told source → item_with_files m source is_root path i key n s ≡ Err fault)
          by (inl memory) = inl (inl memory)
          by (inr is) = inr (λ source known. taken_first source s (Err fault) (ap (λ bs. Turn bs s.gathered) (sym none) ∙ is))

      pub wanted_next : (first_told told after : Option (List ℕ → Option (List ℕ))) (first now later : ℕ) (s : Held G) (given more : List (List ℕ)) (counts next : SoFar) (g : G) (it : Included) (bytes : List ℕ) (wants : Option Included) (h : G)
          → AtWanted first_told told first now s given counts g (Some it) → after ≡ told → now ≤ later → counts.files < 10000 → next ≡ with_file (length bytes) counts → more ≡ given ++ bytes ∷ []
          → ((source : Source) → IsTold told source → wanted_bytes source path it counts ≡ Ok bytes) → Turn more g ≡ Ok (wants, h)
          → AtWanted first_told after first later s more next h wants
      wanted_next first_told told after first now later s given more counts next g it bytes wants h gone same rises few is pushed read made = record {
        same = same ∙ gone.same;
        later = le_trans gone.later rises;
        reads = λ source known. gone.reads source known
            ∙ (taken_next source given counts next g it bytes (Ok (wants, h)) few is (read source (subst (λ t. IsTold t source) (sym gone.same) known)) (ap (λ bs. Turn bs g) (sym pushed) ∙ made)
            ∙ ap (λ bs. Wanted source bs next h wants) (sym pushed));
      }

      pub wanted_not_read : {B : Type 0} (first_told told : Option (List ℕ → Option (List ℕ))) (first now : ℕ) (s : Held G) (given : List (List ℕ)) (counts : SoFar) (g : G) (it : Included) (r : Loaded B) (fault : LoadFault) (new : Held G) → r ≡ Err fault
          → AtWanted first_told told first now s given counts g (Some it) → IsFree fault ⊎ ((source : Source) → IsTold told source → wanted_bytes source path it counts ≡ Err fault)
          → Answers first_told (λ source. item_with_files m source is_root path i key n s) r new
      wanted_not_read first_told told first now s given counts g it r fault new so gone blames = subst (λ q. Answers first_told (λ source. item_with_files m source is_root path i key n s) q new) (sym so) (by blames)
        where
          by : IsFree fault ⊎ ((source : Source) → IsTold told source → wanted_bytes source path it counts ≡ Err fault) → IsFree fault ⊎ ((source : Source) → IsTold first_told source → item_with_files m source is_root path i key n s ≡ Err fault)
          by (inl free) = inl free
          by (inr h) = inr (λ source known. gone.reads source known ∙ taken_not source given counts g it fault (h source (subst (λ t. IsTold t source) (sym gone.same) known)))

      pub wanted_not_taken : {B : Type 0} (first_told told : Option (List ℕ → Option (List ℕ))) (first now : ℕ) (s : Held G) (given more : List (List ℕ)) (counts : SoFar) (g : G) (it : Included) (bytes : List ℕ) (r : Loaded B) (fault : LoadFault) (new : Held G) → r ≡ Err fault
          → AtWanted first_told told first now s given counts g (Some it) → counts.files < 10000 → more ≡ given ++ bytes ∷ []
          → ((source : Source) → IsTold told source → wanted_bytes source path it counts ≡ Ok bytes) → (fault ≡ OutOfMemory) ⊎ (Turn more g ≡ Err fault)
          → Answers first_told (λ source. item_with_files m source is_root path i key n s) r new
      wanted_not_taken first_told told first now s given more counts g it bytes r fault new so gone few pushed read blames = subst (λ q. Answers first_told (λ source. item_with_files m source is_root path i key n s) q new) (sym so) (by blames)
        where
          by : (fault ≡ OutOfMemory) ⊎ (Turn more g ≡ Err fault) → IsFree fault ⊎ ((source : Source) → IsTold first_told source → item_with_files m source is_root path i key n s ≡ Err fault)
          by (inl memory) = inl (inl memory)
          by (inr is) = inr (λ source known. gone.reads source known
              ∙ taken_next source given counts (with_file (length bytes) counts) g it bytes (Err fault) few refl (read source (subst (λ t. IsTold t source) (sym gone.same) known)) (ap (λ bs. Turn bs g) (sym pushed) ∙ is))

      -- and counted
      abbrev full : Bool → Loaded (Held G) → Loaded (Held G)
      full so rest = if so then Err TooMany else rest

      abbrev counted : Held G → Loaded (Held G)
      counted t = Ok (record { counts = cond (is_set key) (with_set t.counts) t.counts; gathered = t.gathered })

      pub gathered_answer : (told : Option (List ℕ → Option (List ℕ))) (s t : Held G) (counts : SoFar) → (is_set key && nat_le 10000 s.counts.sets) ≡ false
          → counts ≡ cond (is_set key) (with_set t.counts) t.counts → ((source : Source) → IsTold told source → item_with_files m source is_root path i key n s ≡ Ok t)
          → (source : Source) → IsTold told source → item_gathered m source is_root path i key n s ≡ Ok (record { counts = counts; gathered = t.gathered })
      unfolding item_gathered
      gathered_answer told s t counts room is taken source known =
          ap (λ so. full so (item_with_files m source is_root path i key n s >>= counted)) room
          ∙ (ap (λ q. q >>= counted) (taken source known) ∙ ap (λ (c : SoFar). Ok (record { counts = c; gathered = t.gathered })) (sym is))

      pub not_gathered : {B : Type 0} (told : Option (List ℕ → Option (List ℕ))) (s : Held G) (r : Loaded B) (fault : LoadFault) (new : Held G) → r ≡ Err fault → (is_set key && nat_le 10000 s.counts.sets) ≡ false
          → IsFree fault ⊎ ((source : Source) → IsTold told source → item_with_files m source is_root path i key n s ≡ Err fault)
          → Answers told (λ source. item_gathered m source is_root path i key n s) r new
      unfolding item_gathered
      not_gathered told s r fault new so room blames = subst (λ q. Answers told (λ source. item_gathered m source is_root path i key n s) q new) (sym so) (by blames)
        where
          by : IsFree fault ⊎ ((source : Source) → IsTold told source → item_with_files m source is_root path i key n s ≡ Err fault) → IsFree fault ⊎ ((source : Source) → IsTold told source → item_gathered m source is_root path i key n s ≡ Err fault)
          by (inl free) = inl free
          by (inr h) = inr (λ source known. ap (λ so. full so (item_with_files m source is_root path i key n s >>= counted)) room ∙ ap (λ q. q >>= counted) (h source known))

    pub walked_ok : (source : Source) (root : List ℕ) (given : List (List ℕ × List ℕ)) (g : G) (counts : SoFar) (new : Held G) → named root ≡ Ok root → counts ≡ nothing_yet given
        → root_file m source root (record { counts = counts; gathered = g }) ≡ Ok new → walked m source root given g ≡ Ok new.gathered
    unfolding walked
    walked_ok source root given g counts new path begun read = rw (path, sym begun, read) refl

    walked_err : (source : Source) (root : List ℕ) (given : List (List ℕ × List ℕ)) (g : G) (counts : SoFar) (fault : LoadFault) → named root ≡ Ok root → counts ≡ nothing_yet given
        → root_file m source root (record { counts = counts; gathered = g }) ≡ Err fault → walked m source root given g ≡ Err fault
    unfolding walked
    walked_err source root given g counts fault path begun read = rw (path, sym begun, read) refl

    pub not_walked : (told : Option (List ℕ → Option (List ℕ))) (root : List ℕ) (given : List (List ℕ × List ℕ)) (g : G) (counts : SoFar) (fault : LoadFault) → named root ≡ Ok root → counts ≡ nothing_yet given
        → IsFree fault ⊎ ((source : Source) → IsTold told source → root_file m source root (record { counts = counts; gathered = g }) ≡ Err fault)
        → IsFree fault ⊎ ((source : Source) → IsTold told source → walked m source root given g ≡ Err fault)
    not_walked told root given g counts fault path begun (inl free) = inl free
    not_walked told root given g counts fault path begun (inr h) = inr (λ source known. walked_err source root given g counts fault path begun (h source known))

  -- ---- the loop over items

  module _ {A : Type 0} (whole : Source → Loaded (Held G)) (first_told told : Option (List ℕ → Option (List ℕ))) (first now : ℕ) (f : Source → ℕ → A → Held G → Loaded (Held G)) (xs : List A) (i : ℕ) (x d : A) (s : Held G) where
    abbrev pub AtItem : Type 0
    AtItem = Gone whole (λ source. each_from (f source) i (drop i xs) s) first_told told first now

    stepped : (source : Source) (r : Loaded (Held G)) → i < length xs → x ≡ slice_index_or xs i d → f source i x s ≡ r
        → each_from (f source) i (drop i xs) s ≡ (r >>= each_from (f source) (suc i) (drop (suc i) xs))
    stepped source r lt is so =
        ap (λ l. each_from (f source) i l s) (drop-cons xs i d lt) ∙ (ap (λ y. f source i y s >>= each_from (f source) (suc i) (drop (suc i) xs)) (sym is) ∙ ap (λ q. q >>= each_from (f source) (suc i) (drop (suc i) xs)) so)

    pub item_taken : (after : Option (List ℕ → Option (List ℕ))) (later : ℕ) (new : Held G) → i < length xs → x ≡ slice_index_or xs i d → AtItem → after ≡ told → now ≤ later
        → ((source : Source) → IsTold told source → f source i x s ≡ Ok new)
        → Gone whole (λ source. each_from (f source) (i + 1) (drop (i + 1) xs) new) first_told after first later
    item_taken after later new lt is gone same rises took = record {
      same = same ∙ gone.same;
      later = le_trans gone.later rises;
      reads = λ source known. gone.reads source known ∙ (stepped source (Ok new) lt is (took source (subst (λ t. IsTold t source) (sym gone.same) known)) ∙ ap (λ n. each_from (f source) n (drop n xs) new) next);
    }
      where
        next : suc i ≡ i + 1
        next = omega arith

    pub item_failed : {B : Type 0} (r : Loaded B) (fault : LoadFault) (new : Held G) → r ≡ Err fault → i < length xs → x ≡ slice_index_or xs i d → AtItem
        → IsFree fault ⊎ ((source : Source) → IsTold told source → f source i x s ≡ Err fault)
        → Answers first_told whole r new
    item_failed r fault new so lt is gone blames = subst (λ q. Answers first_told whole q new) (sym so) (by blames)
      where
        by : IsFree fault ⊎ ((source : Source) → IsTold told source → f source i x s ≡ Err fault) → IsFree fault ⊎ ((source : Source) → IsTold first_told source → whole source ≡ Err fault)
        by (inl free) = inl free
        by (inr h) = inr (λ source known. gone.reads source known ∙ stepped source (Err fault) lt is (h source (subst (λ t. IsTold t source) (sym gone.same) known)))
