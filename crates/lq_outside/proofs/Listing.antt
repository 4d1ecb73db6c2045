-- The paths of files under a folder.
use Rattle.std.proofs.Common.{◌≡◌, ◌∙◌, ◌+◌, ◌<◌, ◌⊎◌, inl, inr, ℕ, Bool, true, false, zero, suc, List, [], ◌∷◌, ◌++◌, length, take, drop, Option, Some, None, IsTrue, IsSome, if◌then◌else◌, refl, sym, ap, subst, arith}
use Rattle.std.proofs.Math.Seq.{take-suc, take-append_seam, drop-append_seam}
use Rattle.std.proofs.lemmas.List.{take-append-drop}
use Rattle.std.proofs.lemmas.List.Elements.{Contains-append_left, Contains-append_right, Contains-append_cases}
use Rattle.std.proofs.lemmas.Slice.Eq.{bytes_eq-Decides}
use Rattle.std.specs.List.{slice_get, slice_index_or, Contains, IsDistinct, AllByRecursion}
use Rattle.std.specs.Str.{bytes_eq}
use Rattle.lq_outside.specs.Forms.{held_in, IsListing, IsUnder, Notes}

first : (back : List ℕ) → slice_get back 0 ≡ Some 47 → (rest : List ℕ) × (back ≡ 47 ∷ rest)
first [] e = absurd (cc e)
first (x ∷ rest) e = (rest, cc e)

pub inside : (folder path front back : List ℕ) → front ≡ take (length folder) path → back ≡ drop (length folder) path → bytes_eq front folder ≡ true
    → (b : Bool) → (IsTrue b → slice_get back 0 ≡ Some 47) × (slice_get back 0 ≡ Some 47 → IsTrue b)
    → (IsTrue b → (rest : List ℕ) × (path ≡ folder ++ 47 ∷ rest)) × (((rest : List ℕ) × (path ≡ folder ++ 47 ∷ rest)) → IsTrue b)
inside folder path front back front_is back_is same b rooted =
    let equal : front ≡ folder = (bytes_eq-Decides front folder).0 same in
    let whole : path ≡ folder ++ back = cc (take-append-drop (length folder) path, front_is, back_is, equal) in (
      λ holds. let rest = first back (rooted.0 holds) in (rest.0, whole ∙ ap (λ l. folder ++ l) rest.1),
      λ rest. rooted.1 (subst (λ l. slice_get l 0 ≡ Some 47) (sym (back_is ∙ (ap (drop (length folder)) rest.1 ∙ drop-append_seam folder (47 ∷ rest.0)))) refl),
    )

pub apart : (folder path front : List ℕ) → front ≡ take (length folder) path
    → (b : Bool) → b ≡ bytes_eq front folder → b ≡ false
    → (IsTrue b → (rest : List ℕ) × (path ≡ folder ++ 47 ∷ rest)) × (((rest : List ℕ) × (path ≡ folder ++ 47 ∷ rest)) → IsTrue b)
apart folder path front front_is b is not = (
  λ holds. absurd (cc (holds, not)),
  λ rest. let equal : front ≡ folder = front_is ∙ (ap (take (length folder)) rest.1 ∙ take-append_seam folder (47 ∷ rest.0)) in
      is ∙ (bytes_eq-Decides front folder).1 equal,
)

abbrev pub Exactly : Bool → List ℕ → List ℕ → Type 0
Exactly b folder path = (IsTrue b → (rest : List ℕ) × (path ≡ folder ++ 47 ∷ rest)) × (((rest : List ℕ) × (path ≡ folder ++ 47 ∷ rest)) → IsTrue b)

pub lies : (folder path f p : List ℕ) (b : Bool) → (folder ≡ [] → ⊥) → f ≡ folder → p ≡ path → Exactly b f p → (IsTrue b → IsUnder folder path) × (IsUnder folder path → IsTrue b)
lies [] path f p b named f_is p_is exactly = absurd (named refl)
lies (x ∷ xs) path f p b named f_is p_is exactly = subst (λ l. Exactly b l path) f_is (subst (λ l. Exactly b f l) p_is exactly)

some_grows : (b : Bool) (v : List ℕ) (o p : Option (List ℕ)) → (IsSome o → IsSome p) → IsSome (if b then Some v else o) → IsSome (if b then Some v else p)
some_grows true v o p grows some = some
some_grows false v o p grows some = grows some

some_shrinks : (b : Bool) (v : List ℕ) (o p : Option (List ℕ)) (Q : Type 0) → (IsSome p → IsSome o ⊎ Q) → IsSome (if b then Some v else p) → IsSome (if b then Some v else o) ⊎ Q
some_shrinks true v o p Q shrinks some = inl some
some_shrinks false v o p Q shrinks some = shrinks some

grow : (files : List (List ℕ × List ℕ)) (file : List ℕ × List ℕ) (path : List ℕ) → IsSome (held_in files path) → IsSome (held_in (files ++ file ∷ []) path)
grow [] file path some = absurd (cc some)
grow (f ∷ files) file path some = some_grows (bytes_eq f.0 path) f.1 _ _ (grow files file path) some

only_one : (b : Bool) (v : List ℕ) (Q : Type 0) → (b ≡ true → Q) → IsSome (if b then Some v else None) → IsSome {T = List ℕ} None ⊎ Q
only_one true v Q gives some = inr (gives refl)
only_one false v Q gives some = inl some

shrink : (files : List (List ℕ × List ℕ)) (file : List ℕ × List ℕ) (path : List ℕ) → IsSome (held_in (files ++ file ∷ []) path) → IsSome (held_in files path) ⊎ (file.0 ≡ path)
shrink [] file path some = only_one (bytes_eq file.0 path) file.1 (file.0 ≡ path) ((bytes_eq-Decides file.0 path).0) some
shrink (f ∷ files) file path some = some_shrinks (bytes_eq f.0 path) f.1 _ _ (file.0 ≡ path) (shrink files file path) some

always : (b : Bool) (v : List ℕ) (o : Option (List ℕ)) → IsSome o → IsSome (if b then Some v else o)
always true v o some = refl
always false v o some = some

there : (files : List (List ℕ × List ℕ)) (file : List ℕ × List ℕ) → IsSome (held_in (files ++ file ∷ []) file.0)
there [] file = rw ((bytes_eq-Decides file.0 file.0).1 refl) refl
there (f ∷ files) file = always (bytes_eq f.0 file.0) f.1 _ (there files file)

here : (x : List ℕ) (xs : List (List ℕ)) → Contains (x ∷ xs) x
here x xs = (0, omega arith, refl)

one : (x y : List ℕ) → Contains (x ∷ []) y → x ≡ y
one x y (zero, lt, is) = is
one x y (suc k, lt, is) = absurd (omega (arith, lt))

not_true : (b : Bool) → (b ≡ true → ⊥) → b ≡ false
not_true true not = absurd (not refl)
not_true false not = refl

all_snoc : (P : List ℕ → Type 0) (xs : List (List ℕ)) (x : List ℕ) → AllByRecursion P xs → P x → AllByRecursion P (xs ++ x ∷ [])
all_snoc P [] x all last = (last, tt)
all_snoc P (y ∷ ys) x all last = (all.0, all_snoc P ys x all.1 last)

distinct_snoc : (xs : List (List ℕ)) (x : List ℕ) → IsDistinct bytes_eq xs → (Contains xs x → ⊥) → IsDistinct bytes_eq (xs ++ x ∷ [])
unfolding IsDistinct
distinct_snoc [] x distinct fresh = (tt, tt)
distinct_snoc (y ∷ ys) x distinct fresh = (
  all_snoc (λ z. bytes_eq y z ≡ false) ys x distinct.0 (not_true (bytes_eq y x) (λ same. fresh (subst (λ z. Contains (y ∷ ys) z) ((bytes_eq-Decides y x).0 same) (here y ys)))),
  distinct_snoc ys x distinct.1 (λ among. fresh (Contains-append_right (y ∷ []) ys x among)),
)

pub listing_none : (folder : List ℕ) (paths : List (List ℕ)) → paths ≡ [] → IsListing (held_in []) folder paths
unfolding IsDistinct
listing_none folder paths is = subst (λ l. IsListing (held_in []) folder l) (sym is) record {
  each = λ path (k, lt, _). absurd (omega (arith, lt));
  all = λ path some _. absurd (cc some);
  once = tt;
}

more : (seen : List (List ℕ × List ℕ)) (file : List ℕ × List ℕ) (folder : List ℕ) (paths after : List (List ℕ))
    → IsListing (held_in seen) folder paths → Notes folder file.0 paths after → IsListing (held_in (seen ++ file ∷ [])) folder after
more seen file folder paths after listing (inl (inside_it, fresh, is)) = subst (λ l. IsListing (held_in (seen ++ file ∷ [])) folder l) (sym is) record {
  each = λ path among. elim (Contains-append_cases paths (file.0 ∷ []) path among) [
    | inl old ↦ (grow seen file path (listing.each path old).0, (listing.each path old).1)
    | inr new ↦ subst (λ p. IsSome (held_in (seen ++ file ∷ []) p) × IsUnder folder p) (one file.0 path new) (there seen file, inside_it)
  ];
  all = λ path some under. elim (shrink seen file path some) [
    | inl old ↦ Contains-append_left paths (file.0 ∷ []) path (listing.all path old under)
    | inr new ↦ Contains-append_right paths (file.0 ∷ []) path (subst (λ p. Contains (file.0 ∷ []) p) new (here file.0 []))
  ];
  once = distinct_snoc paths file.0 listing.once fresh;
}
more seen file folder paths after listing (inr (among, is)) = subst (λ l. IsListing (held_in (seen ++ file ∷ [])) folder l) (sym is) record {
  each = λ path old. (grow seen file path (listing.each path old).0, (listing.each path old).1);
  all = λ path some under. elim (shrink seen file path some) [
    | inl old ↦ listing.all path old under
    | inr new ↦ subst (λ p. Contains paths p) new (among (subst (λ p. IsUnder folder p) (sym new) under))
  ];
  once = listing.once;
}

pub listing_more : (files : List (List ℕ × List ℕ)) (i : ℕ) (file d : List ℕ × List ℕ) (folder : List ℕ) (paths after : List (List ℕ)) → i < length files → file ≡ slice_index_or files i d
    → IsListing (held_in (take i files)) folder paths → Notes folder file.0 paths after → IsListing (held_in (take (i + 1) files)) folder after
listing_more files i file d folder paths after lt is listing notes =
    let next : i + 1 ≡ suc i = omega arith in
    subst (λ l. IsListing (held_in l) folder after) (sym (ap (λ n. take n files) next ∙ (take-suc files i d lt ∙ ap (λ f. take i files ++ f ∷ []) (sym is)))) (more (take i files) file folder paths after listing notes)
