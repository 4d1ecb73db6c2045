-- Rows of which two have one identity or one order, found by sets.
use Rattle.std.proofs.Common.{◌≡◌, ◌∙◌, ◌||◌, ◌&&◌, not, ℕ, Bool, true, false, List, [], ◌∷◌, ◌++◌, Ok, cond, nat_eq, nat_lt, arith, refl, sym, ap, subst, eq-eqb, eqb-true}
use Rattle.std.proofs.lemmas.List.{append_assoc}
use Rattle.std.proofs.lemmas.Bool.{ltb-true}
use Rattle.std.specs.BTreeMap.{is_at}
use Rattle.std.specs.BTreeSet.{BTreeSet, UpdatesBy, contains}
use Rattle.std.specs.List.{list_any}
use Rattle.std.specs.Ordering.{is_eq, nat_cmp, ordering_then}
use Rattle.std.specs.declared.cmp.Ordering.{Ordering}
use Rattle.std.specs.declared.cmp.Ordering.TheVariants.{Equal, Greater, Less}
use Rattle.lq_base.specs.Name.{is_named, text_cmp}
use Rattle.lq_base.specs.declared.identity.Identity.{Identity}
use Rattle.lq_base.specs.declared.tracking.Tracked.{Tracked}
use Rattle.lq_loading.specs.Raise.{IdentityKey, IsSeen, Sees, identity_at, is_twin, key_cmp}
use Rattle.lq_loading.specs.declared.twins.Seen.{Seen}
use Rattle.lq_model.proofs.Lists.{named_itself, same_name, true_false}
use Rattle.lq_track.specs.Database.{has_twin_rows, same_identity}
use Rattle.lq_track.specs.Log.{identity_of}

-- rows to the left, and rows behind them of which no two are twins
pub record Left (rows left : List Tracked) (seen : Seen) : Type 0 where
  pub behind : List Tracked
  pub are : rows ≡ left ++ behind
  pub differ : has_twin_rows behind ≡ false
  pub are_seen : IsSeen behind seen

named_flip : (a b : List ℕ) → is_named a b ≡ is_named b a
named_flip a b = by (is_named a b) refl (is_named b a) refl
  where
    by : (p : Bool) → is_named a b ≡ p → (q : Bool) → is_named b a ≡ q → p ≡ q
    by true p true q = refl
    by false p false q = refl
    by true p false q = absurd (true_false (subst (λ n. is_named n a ≡ true) (same_name a b p) (named_itself a)) q)
    by false p true q = absurd (true_false (subst (λ n. is_named n b ≡ true) (same_name b a q) (named_itself b)) p)

identity_flip : (a b : Identity) → same_identity a b ≡ same_identity b a
identity_flip a b = rw (named_flip a.file b.file, named_flip a.id b.id, named_flip a.author b.author) refl

order_flip : (a b : ℕ) → nat_eq a b ≡ nat_eq b a
order_flip a b = by (nat_eq a b) refl (nat_eq b a) refl
  where
    by : (p : Bool) → nat_eq a b ≡ p → (q : Bool) → nat_eq b a ≡ q → p ≡ q
    by true p true q = refl
    by false p false q = refl
    by true p false q = absurd (true_false (eq-eqb b a (sym (eqb-true a b p))) q)
    by false p true q = absurd (true_false (eq-eqb a b (sym (eqb-true b a q))) p)

or_split : (a b p q : Bool) → ((a || b) || (p || q)) ≡ ((a || p) || (b || q))
or_split true b p q = refl
or_split false true true q = refl
or_split false true false q = refl
or_split false false p q = refl

-- one of two tests, over a list
any_either : (r : Tracked) (rows : List Tracked)
    → list_any (is_twin r) rows ≡ (list_any (λ s. same_identity (identity_of s) (identity_of r)) rows || list_any (λ s. nat_eq s.order r.order) rows)
any_either r [] = refl
any_either r (s ∷ rows) =
    rw (identity_flip (identity_of r) (identity_of s), order_flip r.order s.order, any_either r rows) (or_split (same_identity (identity_of s) (identity_of r)) (nat_eq s.order r.order) (list_any (λ s. same_identity (identity_of s) (identity_of r)) rows) (list_any (λ s. nat_eq s.order r.order) rows))

and_false : (b : Bool) → false ≡ (b && false)
and_false true = refl
and_false false = refl

and_true : (b : Bool) → b ≡ (b && true)
and_true true = refl
and_true false = refl

-- what is compared last may as well be compared first
all_equal : (o p q : Ordering) → is_eq (ordering_then (ordering_then o p) q) ≡ (is_eq q && (is_eq o && is_eq p))
all_equal Less p q = and_false (is_eq q)
all_equal Greater p q = and_false (is_eq q)
all_equal Equal Less q = and_false (is_eq q)
all_equal Equal Greater q = and_false (is_eq q)
all_equal Equal Equal q = and_true (is_eq q)

at_key : (p q : IdentityKey) → is_at (key_cmp p) q ≡ same_identity (identity_at p) (identity_at q)
at_key p q = all_equal (text_cmp p.0.now q.0.now) (text_cmp p.1.now q.1.now) (text_cmp p.2.now q.2.now)

pub its_identity : (key : IdentityKey) (row : Tracked) → key.0.now ≡ row.id → key.1.now ≡ row.author → key.2.now ≡ row.filename → identity_at key ≡ identity_of row
its_identity key row id author file = rw (id, author, file) refl

as_or : (a b : Bool) → cond a true b ≡ (a || b)
as_or true b = refl
as_or false b = refl

at_order : (n m : ℕ) → is_at (nat_cmp n) m ≡ nat_eq n m
at_order n m = by (nat_lt n m) refl (nat_eq n m) refl
  where
    by : (l : Bool) → nat_lt n m ≡ l → (e : Bool) → nat_eq n m ≡ e → is_eq (cond l Less (cond e Equal Greater)) ≡ e
    by true less true same = absurd (omega (arith, ltb-true n m less, eqb-true n m same))
    by true less false same = refl
    by false less true same = refl
    by false less false same = refl

-- a row goes in

pub identity_in : (row : Tracked) (rows : List Tracked) (key : IdentityKey) (old new : BTreeSet IdentityKey) → identity_at key ≡ identity_of row → UpdatesBy key_cmp (key_cmp key) old new true
    → ((k : IdentityKey) → contains key_cmp old k ≡ list_any (λ (s : Tracked). same_identity (identity_of s) (identity_at k)) rows) → (k : IdentityKey) → contains key_cmp new k ≡ list_any (λ (s : Tracked). same_identity (identity_of s) (identity_at k)) (row ∷ rows)
identity_in row rows key old new is up has k =
    up.0 k
    ∙ as_or (is_at (key_cmp key) k) (contains key_cmp old k)
    ∙ ap (λ b. is_at (key_cmp key) k || b) (has k)
    ∙ ap (λ b. b || list_any (λ (s : Tracked). same_identity (identity_of s) (identity_at k)) rows) (at_key key k ∙ ap (λ (i : Identity). same_identity i (identity_at k)) is)

pub order_in : (row : Tracked) (rows : List Tracked) (old new : BTreeSet ℕ) → UpdatesBy nat_cmp (nat_cmp row.order) old new true
    → ((n : ℕ) → contains nat_cmp old n ≡ list_any (λ (s : Tracked). nat_eq s.order n) rows) → (n : ℕ) → contains nat_cmp new n ≡ list_any (λ (s : Tracked). nat_eq s.order n) (row ∷ rows)
order_in row rows old new up has n =
    up.0 n
    ∙ as_or (is_at (nat_cmp row.order) n) (contains nat_cmp old n)
    ∙ ap (λ b. is_at (nat_cmp row.order) n || b) (has n)
    ∙ ap (λ b. b || list_any (λ (s : Tracked). nat_eq s.order n) rows) (at_order row.order n)

pub sees : (E : Type 0) (row : Tracked) (rows : List Tracked) (key : IdentityKey) (old new : Seen) (p q : Bool) → identity_at key ≡ identity_of row → IsSeen rows old → p ≡ not (contains key_cmp old.identities key) → q ≡ not (contains nat_cmp old.orders row.order)
    → IsSeen (row ∷ rows) new → Sees {E = E} row rows (Ok (not (p && q))) new
sees E row rows key old new p q is seen p_is q_is now = rw (p_is, q_is) (by (contains key_cmp old.identities key) (contains nat_cmp old.orders row.order) twins)
  where
    twins : list_any (is_twin row) rows ≡ (contains key_cmp old.identities key || contains nat_cmp old.orders row.order)
    twins = any_either row rows ∙ sym (ap (λ b. b || contains nat_cmp old.orders row.order) (seen.identities key ∙ ap (λ (i : Identity). list_any (λ (s : Tracked). same_identity (identity_of s) i) rows) is) ∙ ap (λ b. list_any (λ (s : Tracked). same_identity (identity_of s) (identity_of row)) rows || b) (seen.orders row.order))

    by : (a b : Bool) → list_any (is_twin row) rows ≡ (a || b) → Sees {E = E} row rows (Ok (not (not a && not b))) new
    by true b twin = twin
    by false true twin = twin
    by false false twin = (twin, now)

-- going to the left

pub nothing_left : (rows left : List Tracked) (seen : Seen) → Left rows left seen → left ≡ [] → has_twin_rows rows ≡ false
nothing_left rows left seen is none = rw (is.are, none) is.differ

pub front_twins : (front rows : List Tracked) → has_twin_rows rows ≡ true → has_twin_rows (front ++ rows) ≡ true
front_twins [] rows twins = twins
front_twins (r ∷ front) rows twins = rw (front_twins front rows twins) (or_true (list_any (is_twin r) (front ++ rows)))
  where
    or_true : (b : Bool) → (b || true) ≡ true
    or_true true = refl
    or_true false = refl

pub further_left : (rows left before : List Tracked) (row : Tracked) (old new : Seen) (is : Left rows left old) → left ≡ before ++ row ∷ [] → (list_any (is_twin row) is.behind ≡ false) × IsSeen (row ∷ is.behind) new → Left rows before new
further_left rows left before row old new is left_is sees = record {
  behind = row ∷ is.behind;
  are = is.are ∙ (ap (λ (rs : List Tracked). rs ++ is.behind) left_is ∙ append_assoc before (row ∷ []) is.behind);
  differ = rw (sees.0, is.differ) refl;
  are_seen = sees.1;
}

pub twins_left : (rows left before : List Tracked) (row : Tracked) (old : Seen) (is : Left rows left old) → left ≡ before ++ row ∷ [] → list_any (is_twin row) is.behind ≡ true → has_twin_rows rows ≡ true
twins_left rows left before row old is left_is twin =
    ap has_twin_rows (is.are ∙ (ap (λ (rs : List Tracked). rs ++ is.behind) left_is ∙ append_assoc before (row ∷ []) is.behind))
    ∙ front_twins before (row ∷ is.behind) (rw twin refl)
