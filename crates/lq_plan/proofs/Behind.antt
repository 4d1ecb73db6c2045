-- The faults of changesets behind others.
use Rattle.std.proofs.Common.{add-one, ap, cond, drop, false, get_or, length, map, refl, suc, sym, true, ◌+◌, ◌++◌, ◌<◌, ◌≡◌, ◌∙◌, ◌||◌, [], ◌∷◌}
use Rattle.std.proofs.Math.Seq.{drop-cons}
use Rattle.std.proofs.lemmas.List.{append_assoc}
use Rattle.std.specs.BTreeMap.{is_at}
use Rattle.std.specs.BTreeSet.{BTreeSet, Updates, contains}
use Rattle.std.specs.List.{list_any}
use Rattle.std.specs.Prelude.{Bool, List, Option, if◌then◌else◌, ℕ}
use Rattle.std.specs.declared.cmp.Ordering.{Ordering}
use Rattle.lq_base.specs.Name.{is_text, text_cmp}
use Rattle.lq_base.specs.declared.identity.Identity.{Identity}
use Rattle.lq_base.specs.declared.tracking.Tracked.{Tracked}
use Rattle.lq_model.proofs.Lists.{named_itself, other_way, same_name}
use Rattle.lq_track.specs.Database.{same_identity}
use Rattle.lq_turns.specs.Faults.{changed_at, faults, faults_behind}
use Rattle.lq_turns.specs.Set.{row_at}
use Rattle.lq_turns.specs.declared.fault.Fault.{Fault}
use Rattle.lq_turns.specs.declared.fault.Fault.TheVariants.{Twice}
use Rattle.lq_plan.proofs.Indexed.{all_equal, its_key}
use Rattle.lq_plan.specs.Told.{headed, IdentityKey, key_cmp, keyed, HasAlso, HasSeen}
use Rattle.lq_plan.specs.declared.head.Head.{Head}

-- identities in a set

as_or : (a b : Bool) → cond a true b ≡ (a || b)
as_or true b = refl
as_or false b = refl

pub has_also : {K : Type 0} (cmp : K → K → Ordering) (old new : BTreeSet K) (k : K) → Updates cmp old new k true → HasAlso cmp old new k
has_also cmp old new k up = record { members = λ q. up.0 q ∙ as_or (is_at (cmp k) q) (contains cmp old q) }

-- texts are the same the other way round
text_same : (a b : List ℕ) → is_text a b ≡ is_text b a
text_same a b = elim (is_text a b) as (λ x. is_text a b ≡ x → x ≡ is_text b a) [
  | true ↦ λ same. sym (ap (is_text b) (same_name a b same) ∙ named_itself b)
  | false ↦ λ other. sym (other_way a b other)
] refl

pub at_key : (k key : IdentityKey) (of : Identity) → k.2.now ≡ of.file → k.0.now ≡ of.id → k.1.now ≡ of.author → is_at (key_cmp k) key ≡ same_identity (keyed key) of
at_key k key of file id author =
    all_equal (text_cmp k.0.now key.0.now) (text_cmp k.1.now key.1.now) (text_cmp k.2.now key.2.now)
    ∙ rw (file, id, author, text_same of.file key.2.now, text_same of.id key.0.now, text_same of.author key.1.now) refl

pub seen_before : (earlier : List Identity) (seen : BTreeSet IdentityKey) (k : IdentityKey) (of : Identity) (was : Bool) → k.2.now ≡ of.file → k.0.now ≡ of.id → k.1.now ≡ of.author
    → was ≡ contains key_cmp seen k → HasSeen earlier seen → was ≡ list_any (same_identity of) earlier
seen_before earlier seen k of was file id author is has = is ∙ (has.members k ∙ ap (λ i. list_any (same_identity i) earlier) (its_key of k file id author))

pub seen_after : (earlier : List Identity) (old new : BTreeSet IdentityKey) (k : IdentityKey) (of : Identity) → k.2.now ≡ of.file → k.0.now ≡ of.id → k.1.now ≡ of.author
    → HasAlso key_cmp old new k → HasSeen earlier old → HasSeen (of ∷ earlier) new
seen_after earlier old new k of file id author also has = record {
  members = λ key. also.members key ∙ (ap (λ b. b || contains key_cmp old key) (at_key k key of file id author) ∙ ap (λ b. same_identity (keyed key) of || b) (has.members key));
}

pub none_seen : (seen : BTreeSet IdentityKey) → seen.keys ≡ [] → HasSeen [] seen
none_seen seen none = record { members = λ key. rw none refl }

-- the faults that were found, and those that are to come
pub record IsBehind (heads : List Head) (rows : List Tracked) (i : ℕ) (seen : BTreeSet IdentityKey) (found : List Fault) : Type 0 where
  pub earlier : List Identity
  pub has : HasSeen earlier seen
  pub all : found ++ faults_behind earlier (map headed (drop i heads)) rows ≡ faults (map headed heads) rows

pub behind_none : (heads : List Head) (rows : List Tracked) (seen : BTreeSet IdentityKey) → seen.keys ≡ [] → IsBehind heads rows 0 seen []
behind_none heads rows seen none = record { earlier = []; has = none_seen seen none; all = refl }

module _ (heads : List Head) (rows : List Tracked) (i : ℕ) (d head : Head) (old : BTreeSet IdentityKey) (found : List Fault) (within : i < length heads) (is : head ≡ get_or heads i d) (so : IsBehind heads rows i old found) where
  split : found ++ faults_behind so.earlier (headed head ∷ map headed (drop (suc i) heads)) rows ≡ faults (map headed heads) rows
  split = rw (drop-cons heads i d, ← is) at so.all

  pub behind_other : head.here ≡ false → IsBehind heads rows (i + 1) old found
  behind_other other = record {
    earlier = so.earlier;
    has = so.has;
    all = rw add-one (ap (λ b. found ++ (if b then (if list_any (same_identity head.identity.now) so.earlier then Twice head.identity.now ∷ [] else []) ++ changed_at (headed head) (row_at head.identity.now rows) ++ faults_behind (head.identity.now ∷ so.earlier) (map headed (drop (suc i) heads)) rows else faults_behind so.earlier (map headed (drop (suc i) heads)) rows)) (sym other) ∙ split);
  }

  pub behind_here : (new : BTreeSet IdentityKey) (k : IdentityKey) (was : Bool) (row : Option Tracked) (first second : List Fault) → head.here ≡ true
      → k.2.now ≡ head.identity.now.file → k.0.now ≡ head.identity.now.id → k.1.now ≡ head.identity.now.author → was ≡ contains key_cmp old k → HasAlso key_cmp old new k
      → first ≡ found ++ (if was then Twice head.identity.now ∷ [] else []) → row ≡ row_at head.identity.now rows → second ≡ first ++ changed_at (headed head) row → IsBehind heads rows (i + 1) new second
  behind_here new k was row first second here file id author before after one at two =
      let of = head.identity.now in
      let seen = seen_before so.earlier old k of was file id author before so.has in
      let twice : List Fault = if list_any (same_identity of) so.earlier then Twice of ∷ [] else [] in
      let changed = changed_at (headed head) (row_at of rows) in
      let rest = faults_behind (of ∷ so.earlier) (map headed (drop (suc i) heads)) rows in
      record {
        earlier = of ∷ so.earlier;
        has = seen_after so.earlier old new k of file id author after so.has;
        all = rw (add-one, two, one, at, seen)
            (ap (λ (l : List Fault). l ++ rest) (append_assoc found twice changed) ∙ (append_assoc found (twice ++ changed) rest
            ∙ (ap (λ b. found ++ (if b then twice ++ changed ++ rest else faults_behind so.earlier (map headed (drop (suc i) heads)) rows)) (sym here) ∙ split)));
      }
