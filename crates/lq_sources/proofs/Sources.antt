-- Each list of files has a source, and files have no second one.
use Rattle.std.proofs.Common.{◌≡◌, ◌⊎◌, ◌∙◌, ◌++◌, ◌<◌, ℕ, List, [], ◌∷◌, length, Option, Some, None, IsSome, if◌then◌else◌, inl, inr, refl, sym, ap, subst, true, false, true≢false, Bool, arith}
use mathlib.Core.Path.{fun_ext}
use Rattle.std.specs.Cmp.Lexicographic.{nat_list_cmp_total, texts_ties}
use Rattle.std.specs.List.{AllByRecursion, IsDistinct}
use Rattle.std.specs.List.Sorted.{IsStrictlySortedBy}
use Rattle.std.specs.Ordering.{eq_by_cmp, is_eq, ordering_reverse}
use Rattle.std.specs.Str.{bytes_eq}
use Rattle.std.specs.declared.cmp.Ordering.{Ordering}
use Rattle.std.specs.declared.cmp.Ordering.TheVariants.{Less, Equal, Greater}
use Rattle.std.proofs.lemmas.Map.Keys.{IsDistinct-from_sorted, sorted_head, sorted_tail}
use Rattle.std.proofs.lemmas.Slice.Eq.{bytes_eq-Decides}
use Rattle.lq_base.specs.Name.{text_cmp}
use Rattle.lq_outside.specs.Forms.{IsListing, IsUnder, held_in}
use Rattle.lq_sources.proofs.Listings.{Member, contained, member, one_listing}
use Rattle.lq_sources.specs.Source.{FilesHaveSource, IsSourceOf, Source, SourceIsOne}

abbrev Ascends : List (List ℕ) → Type 0
Ascends ps = IsStrictlySortedBy text_cmp ps

abbrev AllAbove : List ℕ → List (List ℕ) → Type 0
AllAbove p ps = AllByRecursion (λ q. text_cmp p q ≡ Less) ps

ascends_nil : Ascends []
unfolding IsStrictlySortedBy
ascends_nil = tt

ascends_cons : (p : List ℕ) (ps : List (List ℕ)) → AllAbove p ps → Ascends ps → Ascends (p ∷ ps)
unfolding IsStrictlySortedBy
ascends_cons p ps all more = (all, more)

same_path : (p q : List ℕ) → text_cmp p q ≡ Equal → p ≡ q
same_path p q tied = (bytes_eq-Decides p q).0 (texts_ties p q ∙ ap is_eq tied)

-- ---- a path at its place

abbrev at_place : Ordering → List ℕ → List ℕ → List (List ℕ) → List (List ℕ) → List (List ℕ)
at_place Less p q qs more = p ∷ q ∷ qs
at_place Equal p q qs more = q ∷ qs
at_place Greater p q qs more = q ∷ more

abbrev with_path : List ℕ → List (List ℕ) → List (List ℕ)
with_path p [] = p ∷ []
with_path p (q ∷ qs) = at_place (text_cmp p q) p q qs (with_path p qs)

is_there : (p : List ℕ) (qs : List (List ℕ)) → Member p (with_path p qs)
is_there p [] = inl refl
is_there p (q ∷ qs) = by (is_there p qs) (text_cmp p q) refl
  where
    by : Member p (with_path p qs) → (r : Ordering) → text_cmp p q ≡ r → Member p (at_place r p q qs (with_path p qs))
    by more Less is = inl refl
    by more Equal is = inl (same_path p q is)
    by more Greater is = inr more

stays : (p : List ℕ) (qs : List (List ℕ)) (k : List ℕ) → Member k qs → Member k (with_path p qs)
stays p [] k none = absurd none
stays p (q ∷ qs) k m = by (stays p qs k) (text_cmp p q) m
  where
    by : (Member k qs → Member k (with_path p qs)) → (r : Ordering) → Member k (q ∷ qs) → Member k (at_place r p q qs (with_path p qs))
    by more Less m = inr m
    by more Equal m = m
    by more Greater (inl is) = inl is
    by more Greater (inr m) = inr (more m)

comes : (p : List ℕ) (qs : List (List ℕ)) (k : List ℕ) → Member k (with_path p qs) → (k ≡ p) ⊎ Member k qs
comes p [] k m = m
comes p (q ∷ qs) k m = by (comes p qs k) (text_cmp p q) m
  where
    by : (Member k (with_path p qs) → (k ≡ p) ⊎ Member k qs) → (r : Ordering) → Member k (at_place r p q qs (with_path p qs)) → (k ≡ p) ⊎ Member k (q ∷ qs)
    by more Less m = m
    by more Equal m = inr m
    by more Greater (inl is) = inr (inl is)
    by more Greater (inr m) = elim (more m) [ inl is ↦ inl is | inr old ↦ inr (inr old) ]

above_both : (x p : List ℕ) (qs : List (List ℕ)) → text_cmp x p ≡ Less → AllAbove x qs → AllAbove x (with_path p qs)
above_both x p [] less all = (less, tt)
above_both x p (q ∷ qs) less all = by (above_both x p qs less all.1) (text_cmp p q)
  where
    by : AllAbove x (with_path p qs) → (r : Ordering) → AllAbove x (at_place r p q qs (with_path p qs))
    by more Less = (less, all)
    by more Equal = all
    by more Greater = (all.0, more)

above_further : (p q : List ℕ) (qs : List (List ℕ)) → text_cmp p q ≡ Less → AllAbove q qs → AllAbove p qs
above_further p q [] less all = tt
above_further p q (r ∷ qs) less all = (nat_list_cmp_total.trans p q r less all.0, above_further p q qs less all.1)

ascends_with : (p : List ℕ) (qs : List (List ℕ)) → Ascends qs → Ascends (with_path p qs)
ascends_with p [] all = ascends_cons p [] tt ascends_nil
ascends_with p (q ∷ qs) all = by (ascends_with p qs (sorted_tail text_cmp q qs all)) (text_cmp p q) refl
  where
    over : AllAbove q qs
    over = sorted_head text_cmp q qs all

    by : Ascends (with_path p qs) → (r : Ordering) → text_cmp p q ≡ r → Ascends (at_place r p q qs (with_path p qs))
    by more Less is = ascends_cons p (q ∷ qs) (is, above_further p q qs is over) all
    by more Equal is = all
    by more Greater is = ascends_cons q (with_path p qs) (above_both q p qs (nat_list_cmp_total.antisymm q p ∙ ap ordering_reverse is) over) more

-- ---- a path lies under a folder, or it does not

abbrev Either : Type 0 → Type 0
Either P = P ⊎ (P → ⊥)

abbrev IsInside : List ℕ → List ℕ → Type 0
IsInside folder path = (rest : List ℕ) × (path ≡ folder ++ 47 ∷ rest)

same_byte : (a b : ℕ) → Either (a ≡ b)
same_byte a b = by (bytes_eq (a ∷ []) (b ∷ [])) refl
  where
    by : (t : Bool) → bytes_eq (a ∷ []) (b ∷ []) ≡ t → Either (a ≡ b)
    by true is = inl (cc ((bytes_eq-Decides (a ∷ []) (b ∷ [])).0 is))
    by false is = inr (λ so. true≢false (sym ((bytes_eq-Decides (a ∷ []) (b ∷ [])).1 (ap (λ x. x ∷ []) so)) ∙ is))

inside : (folder path : List ℕ) → Either (IsInside folder path)
inside [] [] = inr (λ found. absurd (cc found.1))
inside [] (b ∷ bs) = elim (same_byte b 47) [ inl is ↦ inl (bs, ap (λ x. x ∷ bs) is) | inr apart ↦ inr (λ found. apart (cc found.1)) ]
inside (x ∷ xs) [] = inr (λ found. absurd (cc found.1))
inside (x ∷ xs) (b ∷ bs) = by (same_byte b x) (inside xs bs)
  where
    by : Either (b ≡ x) → Either (IsInside xs bs) → Either (IsInside (x ∷ xs) (b ∷ bs))
    by (inl is) (inl found) = inl (found.0, cc (is, found.1))
    by (inl is) (inr none) = inr (λ found. none (found.0, cc found.1))
    by (inr apart) more = inr (λ found. apart (cc found.1))

under : (folder path : List ℕ) → Either (IsUnder folder path)
under [] [] = inl (λ first. absurd (cc first))
under [] (b ∷ bs) = elim (same_byte b 47) [ inl is ↦ inr (λ relative. relative (ap Some is)) | inr apart ↦ inl (λ first. apart (cc first)) ]
under (x ∷ xs) path = inside (x ∷ xs) path

-- ---- the listing of a list of files

record Listed (files : List (List ℕ × List ℕ)) (folder : List ℕ) : Type 0 where
  paths : List (List ℕ)
  listing : IsListing (held_in files) folder paths
  ordered : Ascends paths

apart_from_order : (ps : List (List ℕ)) → Ascends ps → IsDistinct bytes_eq ps
apart_from_order ps all = subst (λ e. IsDistinct e ps) (sym (fun_ext (λ a. fun_ext (λ b. texts_ties a b)))) (IsDistinct-from_sorted text_cmp ps all)

held_still : (b : Bool) (v : List ℕ) (o : Option (List ℕ)) → IsSome o → IsSome (if b then Some v else o)
held_still true v o some = refl
held_still false v o some = some

held_here : (b : Bool) (v : List ℕ) (o : Option (List ℕ)) → b ≡ true → IsSome (if b then Some v else o)
held_here true v o is = refl
held_here false v o is = absurd (true≢false (sym is))

held_where : (b : Bool) (v : List ℕ) (o : Option (List ℕ)) → IsSome (if b then Some v else o) → (b ≡ true) ⊎ IsSome o
held_where true v o some = inl refl
held_where false v o some = inr some

module _ (file : List ℕ × List ℕ) (files : List (List ℕ × List ℕ)) (folder : List ℕ) (l : Listed files folder) where
  here : (path : List ℕ) → IsSome (held_in (file ∷ files) path) → (path ≡ file.0) ⊎ Member path l.paths ⊎ (IsUnder folder path → ⊥)
  here path some = elim (held_where (bytes_eq file.0 path) file.1 (held_in files path) some) [
    | inl is ↦ inl (sym ((bytes_eq-Decides file.0 path).0 is))
    | inr old ↦ elim (under folder path) [ inl lies ↦ inr (inl (member l.paths path (l.listing.all path old lies))) | inr apart ↦ inr (inr apart) ]
  ]

  one_more : IsUnder folder file.0 → Listed (file ∷ files) folder
  one_more lies = record {
    paths = with_path file.0 l.paths;
    listing = record {
      each = λ path among. elim (comes file.0 l.paths path (member (with_path file.0 l.paths) path among)) [
        | inl is ↦ (held_here (bytes_eq file.0 path) file.1 (held_in files path) ((bytes_eq-Decides file.0 path).1 (sym is)), subst (λ p. IsUnder folder p) (sym is) lies)
        | inr old ↦ let before = l.listing.each path (contained l.paths path old) in (held_still (bytes_eq file.0 path) file.1 (held_in files path) before.0, before.1)
      ];
      all = λ path some found. elim (here path some) [
        | inl is ↦ contained (with_path file.0 l.paths) path (subst (λ p. Member p (with_path file.0 l.paths)) (sym is) (is_there file.0 l.paths))
        | inr (inl old) ↦ contained (with_path file.0 l.paths) path (stays file.0 l.paths path old)
        | inr (inr apart) ↦ absurd (apart found)
      ];
      once = apart_from_order (with_path file.0 l.paths) (ascends_with file.0 l.paths l.ordered);
    };
    ordered = ascends_with file.0 l.paths l.ordered;
  }

  no_more : (IsUnder folder file.0 → ⊥) → Listed (file ∷ files) folder
  no_more elsewhere = record {
    paths = l.paths;
    listing = record {
      each = λ path among. let before = l.listing.each path among in (held_still (bytes_eq file.0 path) file.1 (held_in files path) before.0, before.1);
      all = λ path some found. elim (here path some) [
        | inl is ↦ absurd (elsewhere (subst (λ p. IsUnder folder p) is found))
        | inr (inl old) ↦ contained l.paths path old
        | inr (inr apart) ↦ absurd (apart found)
      ];
      once = l.listing.once;
    };
    ordered = l.ordered;
  }

listed : (files : List (List ℕ × List ℕ)) (folder : List ℕ) → Listed files folder
listed [] folder = record {
  paths = [];
  listing = record {
    each = λ path among. absurd (member [] path among);
    all = λ path some found. absurd (cc some);
    once = apart_from_order [] ascends_nil;
  };
  ordered = ascends_nil;
}
listed (file ∷ files) folder = elim (under folder file.0) [ inl lies ↦ one_more file files folder (listed files folder) lies | inr elsewhere ↦ no_more file files folder (listed files folder) elsewhere ]

pub has_source : FilesHaveSource
has_source files = (
  record { content = held_in files; under = λ folder. (listed files folder).paths },
  record {
    content = refl;
    listing = λ folder. (listed files folder).listing;
    ordered = λ folder. (listed files folder).ordered;
  },
)

pub no_second : SourceIsOne
no_second files one other is so folder = one_listing files folder (one.under folder) (other.under folder) (is.listing folder) (so.listing folder) (is.ordered folder) (so.ordered folder)
