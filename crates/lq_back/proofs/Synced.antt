-- The rows of a changelog-sync are made one after another.
use Rattle.std.proofs.Common.{ap, arith, sym, refl, subst, ◌≡◌, ◌∙◌, ◌+◌, ◌++◌, ◌&&◌, ◌||◌, not, max, Bool, true, false, cond, List, [], ◌∷◌, Option, Some, None, is_some, length, option_map, ℕ, ◌≤◌}
use Rattle.std.proofs.lemmas.Int.{ints}
use Rattle.std.proofs.lemmas.List.{append-nil, append_assoc}
use Rattle.std.specs.BTreeMap.{is_at}
use Rattle.std.specs.BTreeSet.{BTreeSet, Updates, contains}
use Rattle.std.specs.List.{find, list_any}
use Rattle.std.specs.Prelude.{if◌then◌else◌, pos}
use Rattle.lq_base.specs.Moment.{IsMoment}
use Rattle.lq_base.specs.Name.{text_cmp}
use Rattle.lq_base.specs.declared.identity.Identity.{Identity}
use Rattle.lq_base.specs.declared.tracking.Exec.TheVariants.{Executed}
use Rattle.lq_base.specs.declared.tracking.Tracked.{Tracked}
use Rattle.lq_expr.specs.declared.options.Options.{Options}
use Rattle.lq_any.specs.declared.any_change.AnyChange.{AnyChange}
use Rattle.lq_kinds.specs.declared.change_set.ChangeSet.{ChangeSet}
use Rattle.lq_model.proofs.Lists.{any-append}
use Rattle.lq_plan.proofs.Indexed.{all_equal, its_key}
use Rattle.lq_plan.specs.Told.{IdentityKey, key_cmp, keyed}
use Rattle.lq_seen.specs.View.{is_selected, view, views}
use Rattle.lq_back.specs.Reversal.{AreDated, Adds, HasIdentities, IsAt, Keeps, has_no_row}
use Rattle.lq_back.specs.declared.sync_rows.Made.{Made}
use Rattle.lq_track.specs.Log.{identity_of}
use Rattle.lq_turns.specs.Deed.{is_of}
use Rattle.lq_turns.specs.Script.{rows_to_sync}
use Rattle.lq_turns.specs.Set.{Set, has_row, row_at}
use Rattle.lq_turns.specs.Settle.{greatest, row_for}
use denote.Ref.{Bor}

-- whether a changeset has a row

some_one : {A : Type 0} (p : A → Bool) (xs : List A) → is_some (find p xs) ≡ list_any p xs
some_one p [] = refl
some_one p (x ∷ xs) = elim (p x) as (λ b. is_some (cond b (Some x) (find p xs)) ≡ (b || list_any p xs)) [
  | true ↦ refl
  | false ↦ some_one p xs
]

some_now : (found : Option (Bor Tracked)) → is_some found ≡ is_some (option_map (λ (row : Bor Tracked). row.now) found)
some_now None = refl
some_now (Some row) = refl

other_way : (a b : Bool) → a ≡ not b → b ≡ not a
other_way a true is = ap not (sym is)
other_way a false is = ap not (sym is)

pub missing : (of : Identity) (rows : List Tracked) (found : Option (Bor Tracked)) (none : Bool) → is_some found ≡ not none → option_map (λ (row : Bor Tracked). row.now) found ≡ row_at of rows → none ≡ not (has_row rows of)
missing of rows found none told is = other_way (has_row rows of) none (sym (some_now found ∙ (ap is_some is ∙ some_one (is_of of) rows)) ∙ told)

pub chosen : (selected without : Bool) {told : Bool} → selected ≡ true → told ≡ without → told ≡ (selected && without)
chosen true without is same = same
chosen false without is same = Prim.cc

pub not_chosen : (selected without : Bool) → selected ≡ false → false ≡ (selected && without)
not_chosen true without is = Prim.cc
not_chosen false without is = refl

-- identities in a set

as_or : (a b : Bool) → cond a true b ≡ (a || b)
as_or true b = refl
as_or false b = refl

or_other : (a b : Bool) → (a || b) ≡ (b || (a || false))
or_other true true = refl
or_other true false = refl
or_other false true = refl
or_other false false = refl

at_row : (k key : IdentityKey) (of : Identity) (row : Tracked) → k.2.now ≡ of.file → k.0.now ≡ of.id → k.1.now ≡ of.author → identity_of row ≡ of → is_at (key_cmp k) key ≡ is_of (keyed key) row
at_row k key of row file id author is =
    all_equal (text_cmp k.0.now key.0.now) (text_cmp k.1.now key.1.now) (text_cmp k.2.now key.2.now)
    ∙ rw (file, id, author, ← is) refl

no_other : (b : Bool) → not b ≡ false → b ≡ true
no_other true is = refl
no_other false is = Prim.cc

no_one_yet : (b : Bool) → not b ≡ true → b ≡ false
no_one_yet true is = Prim.cc
no_one_yet false is = refl

module _ (rows : List Tracked) (of : Identity) (old new : BTreeSet IdentityKey) (k : IdentityKey) (file : k.2.now ≡ of.file) (id : k.0.now ≡ of.id) (author : k.1.now ≡ of.author) (has : HasIdentities rows old) where
  one_more : Updates key_cmp old new k true → (row : Tracked) → identity_of row ≡ of → HasIdentities (rows ++ row ∷ []) new
  one_more up row is = record {
    members = λ key.
        up.0 key ∙ (as_or (is_at (key_cmp k) key) (contains key_cmp old key)
        ∙ (ap (λ b. b || contains key_cmp old key) (at_row k key of row file id author is)
        ∙ (ap (λ b. is_of (keyed key) row || b) (has.members key)
        ∙ (or_other (is_of (keyed key) row) (has_row rows (keyed key)) ∙ sym (any-append (is_of (keyed key)) rows (row ∷ []))))));
  }

  pub keeps : (is_new : Bool) → is_new ≡ not (contains key_cmp old k) → Updates key_cmp old new k true → (is_new ≡ false → HasIdentities rows new) → Keeps rows of is_new new
  keeps is_new told up same = record {
    told = told ∙ ap not (has.members k ∙ ap (has_row rows) (its_key of k file id author));
    more = λ so. one_more up;
    same = same;
  }

pub same_kept : (rows : List Tracked) (old new : BTreeSet IdentityKey) → new.keys ≡ old.keys → HasIdentities rows old → HasIdentities rows new
same_kept rows old new same has = record { members = λ key. rw same (has.members key) }

pub none_kept : (seen : BTreeSet IdentityKey) → seen.keys ≡ [] → HasIdentities [] seen
none_kept seen none = record { members = λ key. rw none refl }

-- the last place

greatest_after : (rows : List Tracked) (row : Tracked) → greatest (rows ++ row ∷ []) ≡ max (greatest rows) row.order
greatest_after [] row = omega arith
greatest_after (r ∷ rows) row = ap (max r.order) (greatest_after rows row) ∙ omega arith

next_greatest : (rows : List Tracked) (row : Tracked) → row.order ≡ greatest rows + 1 → greatest (rows ++ row ∷ []) ≡ greatest rows + 1
next_greatest rows row is = greatest_after rows row ∙ omega (arith, is)

pub at_first : (rows : List Tracked) (made : Made) → made.rows ≡ [] → made.seen.keys ≡ [] → made.last ≡ greatest rows → IsAt rows made
at_first rows made none empty last = record {
  last = last ∙ (ap greatest (sym (append-nil rows)) ∙ ap (λ rs. greatest (rows ++ rs)) (sym none));
  seen = subst (λ rs. HasIdentities rs made.seen) (sym none) (none_kept made.seen empty);
}

-- one changeset

passed : (s a b : Bool) → (s && not a) ≡ false → (s && not (a || b)) ≡ false
passed false a b is = refl
passed true true b is = refl
passed true false b is = Prim.cc

seen_so : (s a b : Bool) → b ≡ true → (s && not (a || b)) ≡ false
seen_so false a b is = refl
seen_so true true b is = refl
seen_so true false true is = refl
seen_so true false false is = Prim.cc

is_new_so : (s a b : Bool) → (s && not a) ≡ true → b ≡ false → (s && not (a || b)) ≡ true
is_new_so true false false so none = refl
is_new_so true false true so none = Prim.cc
is_new_so true true b so none = Prim.cc
is_new_so false a b so none = Prim.cc

module _ (options : Options) (reading : ℕ) (rows : List Tracked) (x : ChangeSet) (old : Made) where
  abbrev all_there : List Tracked
  all_there = rows ++ old.rows

  abbrev is_to_make : Bool
  is_to_make = is_selected options x && not (has_row all_there x.identity)

  as_both : is_to_make ≡ (is_selected options x && not (has_row rows x.identity || has_row old.rows x.identity))
  as_both = ap (λ b. is_selected options x && not b) (any-append (is_of x.identity) rows old.rows)

  abbrev its_row : Tracked
  its_row = row_for reading (greatest all_there + 1) Executed (view options x)

  made_so : (b : Bool) (xs : List (Set AnyChange)) → is_to_make ≡ b
      → (if b then its_row ∷ rows_to_sync reading xs (all_there ++ its_row ∷ []) else rows_to_sync reading xs all_there) ≡ rows_to_sync reading (view options x ∷ xs) all_there
  made_so b xs is = ap (λ c. if c then its_row ∷ rows_to_sync reading xs (all_there ++ its_row ∷ []) else rows_to_sync reading xs all_there) (sym is)

  -- it is not selected, or has a row
  pub passes : has_no_row options rows x ≡ false → IsAt rows old → Adds options reading rows x old old
  passes not_so at = record {
    at = at;
    same = λ xs. ap (λ ys. old.rows ++ ys) (made_so false xs (as_both ∙ passed (is_selected options x) (has_row rows x.identity) (has_row old.rows x.identity) not_so));
  }

  module _ (seen : BTreeSet IdentityKey) (is_new : Bool) (its : Keeps old.rows x.identity is_new seen) (at : IsAt rows old) where
    -- a row of its identity is made
    pub seen_before : is_new ≡ false → Adds options reading rows x old (record old { seen = seen })
    seen_before not_new =
        let there = no_other (has_row old.rows x.identity) (sym its.told ∙ not_new) in
        record {
          at = record { last = at.last; seen = its.same not_new };
          same = λ xs. ap (λ ys. old.rows ++ ys) (made_so false xs (as_both ∙ seen_so (is_selected options x) (has_row rows x.identity) (has_row old.rows x.identity) there));
        }

    pub row_made : (new : Made) → is_new ≡ true → has_no_row options rows x ≡ true → new.rows ≡ old.rows ++ row_for reading (old.last + 1) Executed (view options x) ∷ [] → new.last ≡ old.last + 1 → new.seen ≡ seen → Adds options reading rows x old new
    row_made new so none made last kept =
        let not_there = no_one_yet (has_row old.rows x.identity) (sym its.told ∙ so) in
        let grown : new.rows ≡ old.rows ++ its_row ∷ [] = made ∙ ap (λ n. old.rows ++ row_for reading (n + 1) Executed (view options x) ∷ []) at.last in
        let there : rows ++ new.rows ≡ all_there ++ its_row ∷ [] = ap (λ rs. rows ++ rs) grown ∙ sym (append_assoc rows old.rows (its_row ∷ [])) in
        record {
          at = record {
            last = last ∙ (ap (λ n. n + 1) at.last ∙ (sym (next_greatest all_there its_row refl) ∙ ap greatest (sym there)));
            seen = subst (λ rs. HasIdentities rs new.seen) (sym grown) (subst (HasIdentities (old.rows ++ its_row ∷ [])) (sym kept) (its.more so its_row refl));
          };
          same = λ xs.
              ap (λ rs. rs ++ rows_to_sync reading xs (rows ++ new.rows)) grown
              ∙ (ap (λ rs. (old.rows ++ its_row ∷ []) ++ rows_to_sync reading xs rs) there
              ∙ (append_assoc old.rows (its_row ∷ []) (rows_to_sync reading xs (all_there ++ its_row ∷ []))
              ∙ ap (λ ys. old.rows ++ ys) (made_so true xs (as_both ∙ is_new_so (is_selected options x) (has_row rows x.identity) (has_row old.rows x.identity) none not_there))));
        }

-- changeset after changeset

-- with the rows of the changesets to come, those that are made are all
pub record Syncs (options : Options) (reading : ℕ) (rows : List Tracked) (all rest : List ChangeSet) (made : Made) : Type 0 where
  pub at : IsAt rows made
  pub left : made.rows ++ rows_to_sync reading (views options rest) (rows ++ made.rows) ≡ rows_to_sync reading (views options all) rows

module _ (options : Options) (reading : ℕ) (rows : List Tracked) (all : List ChangeSet) where
  pub starts : (made : Made) → made.rows ≡ [] → IsAt rows made → Syncs options reading rows all all made
  starts made none at = record {
    at = at;
    left = ap (λ rs. rs ++ rows_to_sync reading (views options all) (rows ++ rs)) none ∙ ap (rows_to_sync reading (views options all)) (append-nil rows);
  }

  pub adds_on : (rest after : List ChangeSet) (x : ChangeSet) (old new : Made) → rest ≡ x ∷ after → Syncs options reading rows all rest old → Adds options reading rows x old new → Syncs options reading rows all after new
  adds_on rest after x old new is so its = record {
    at = its.at;
    left = its.same (views options after) ∙ (ap (λ ys. old.rows ++ rows_to_sync reading (views options ys) (rows ++ old.rows)) (sym is) ∙ so.left);
  }

  pub all_made : (rest : List ChangeSet) (made : Made) → length rest ≡ 0 → Syncs options reading rows all rest made → made.rows ≡ rows_to_sync reading (views options all) rows
  all_made [] made none so = sym (append-nil made.rows) ∙ so.left
  all_made (x ∷ rest) made none so = Prim.cc

-- their dates

is_moment : (reading : ℕ) → reading ≤ 253402300799999 → IsMoment (pos reading)
is_moment reading small = (omega (arith, ints), omega (arith, ints))

dated_if : (b : Bool) (row : Tracked) (more other : List Tracked) → IsMoment row.date → AreDated more → AreDated other → AreDated (if b then row ∷ more else other)
dated_if true row more other own later without = (own, later)
dated_if false row more other own later without = without

all_dated : (reading : ℕ) → reading ≤ 253402300799999 → (xs : List (Set AnyChange)) (rows : List Tracked) → AreDated (rows_to_sync reading xs rows)
all_dated reading small [] rows = tt
all_dated reading small (x ∷ xs) rows =
    let row = row_for reading (greatest rows + 1) Executed x in
    dated_if (x.selected && not (has_row rows x.identity)) row (rows_to_sync reading xs (rows ++ row ∷ [])) (rows_to_sync reading xs rows)
    (is_moment reading small) (all_dated reading small xs (rows ++ row ∷ [])) (all_dated reading small xs rows)

pub are_dated : (options : Options) (reading : ℕ) (rows : List Tracked) (all : List ChangeSet) (made : List Tracked) → reading ≤ 253402300799999 → made ≡ rows_to_sync reading (views options all) rows → AreDated made
are_dated options reading rows all made small is = subst AreDated (sym is) (all_dated reading small (views options all) rows)
