-- Lists, their tests, and lists of names.
use Rattle.std.proofs.Common.{ap, sym, ◌∙◌}
use Rattle.std.proofs.lemmas.Cmp.{tied_itself}
use Rattle.std.specs.Cmp.Lexicographic.{nat_list_cmp_total}
use Rattle.std.specs.FinMap.{nat_cmp-IsAntisymmetric, slice_cmp-IsAntisymmetric}
use Rattle.std.specs.List.{filter, list_all, list_any}
use Rattle.std.specs.Ordering.{is_eq}
use Rattle.std.specs.Prelude.{Bool, List, [], cond, false, map, not, refl, true, ◌&&◌, ◌++◌, ◌||◌, ◌∷◌, ◌≡◌}
use Rattle.std.specs.declared.cmp.Ordering.{Ordering}
use Rattle.std.specs.declared.cmp.Ordering.TheVariants.{Equal, Greater, Less}
use Rattle.lq_base.specs.Name.{is_named, name_cmp}
use Rattle.lq_base.specs.declared.name.Name.{Name}
use Rattle.lq_model.specs.Catalogue.{is_in}

pub true_false : {A : Type 0} {b : Bool} → b ≡ true → b ≡ false → A
true_false p q = absurd (clash (sym p ∙ q)) where
  clash : true ≡ false → ⊥
  clash e = Prim.cc

pub or_false : (a b : Bool) → a ≡ false → b ≡ false → (a || b) ≡ false
or_false a b p q = ap (λ x. x || b) p ∙ q

pub or_left : (a b : Bool) → (a || b) ≡ false → a ≡ false
or_left true b h = h
or_left false b h = refl

pub or_right : (a b : Bool) → (a || b) ≡ false → b ≡ false
or_right true b h = true_false refl h
or_right false b h = h

pub and_left : (a b : Bool) → (a && b) ≡ true → a ≡ true
and_left true b h = refl
and_left false b h = h

pub and_right : (a b : Bool) → (a && b) ≡ true → b ≡ true
and_right true b h = h
and_right false b h = true_false h refl

pub and_no_right : (a b : Bool) → b ≡ false → (a && b) ≡ false
and_no_right true b h = h
and_no_right false b h = refl

pub not_false : (b : Bool) → not b ≡ false → b ≡ true
not_false true h = refl
not_false false h = sym h

pub not_true : (b : Bool) → b ≡ true → not b ≡ false
not_true b h = ap not h

-- a test below a test that finds nothing
pub any_less : {A : Type 0} (p q : A → Bool) (xs : List A) → ((x : A) → q x ≡ false → p x ≡ false) → list_any q xs ≡ false → list_any p xs ≡ false
any_less p q [] h none = refl
any_less p q (x ∷ xs) h none = or_false _ _ (h x (or_left (q x) _ none)) (any_less p q xs h (or_right (q x) _ none))

-- a test that fails where one that all pass holds
pub any_none : {A : Type 0} (p q : A → Bool) (xs : List A) → ((x : A) → q x ≡ true → p x ≡ false) → list_all q xs ≡ true → list_any p xs ≡ false
any_none p q [] h all = refl
any_none p q (x ∷ xs) h all = or_false _ _ (h x (and_left (q x) _ all)) (any_none p q xs h (and_right (q x) _ all))

pub any-append : {A : Type 0} (p : A → Bool) (xs ys : List A) → list_any p (xs ++ ys) ≡ (list_any p xs || list_any p ys)
any-append p [] ys = refl
any-append p (x ∷ xs) ys =
    elim (p x) as (λ b. (b || list_any p (xs ++ ys)) ≡ ((b || list_any p xs) || list_any p ys)) [
      | true ↦ refl
      | false ↦ any-append p xs ys
    ]

pub any-map : {A B : Type 0} (p : B → Bool) (f : A → B) (xs : List A) → list_any p (map f xs) ≡ list_any (λ x. p (f x)) xs
any-map p f [] = refl
any-map p f (x ∷ xs) = ap (λ b. p (f x) || b) (any-map p f xs)

pub any_same : {A : Type 0} (p q : A → Bool) (xs : List A) → ((x : A) → p x ≡ q x) → list_any p xs ≡ list_any q xs
any_same p q [] h = refl
any_same p q (x ∷ xs) h = ap (λ b. b || list_any p xs) (h x) ∙ ap (λ b. q x || b) (any_same p q xs h)

pub map_same : {A B : Type 0} (f g : A → B) (xs : List A) → ((x : A) → f x ≡ g x) → map f xs ≡ map g xs
map_same f g [] h = refl
map_same f g (x ∷ xs) h = ap (λ y. y ∷ map f xs) (h x) ∙ ap (λ ys. g x ∷ ys) (map_same f g xs h)

pub map-map : {A B C : Type 0} (f : B → C) (g : A → B) (xs : List A) → map f (map g xs) ≡ map (λ x. f (g x)) xs
map-map f g [] = refl
map-map f g (x ∷ xs) = ap (λ ys. f (g x) ∷ ys) (map-map f g xs)

-- a map that changes nothing, where all pass a test
pub map_kept : {A : Type 0} (f : A → A) (q : A → Bool) (xs : List A) → ((x : A) → q x ≡ true → f x ≡ x) → list_all q xs ≡ true → map f xs ≡ xs
map_kept f q [] h all = refl
map_kept f q (x ∷ xs) h all = ap (λ y. y ∷ map f xs) (h x (and_left (q x) _ all)) ∙ ap (λ ys. x ∷ ys) (map_kept f q xs h (and_right (q x) _ all))

-- nothing of the list goes
pub filter_kept : {A : Type 0} (p : A → Bool) (xs : List A) → list_any (λ x. not (p x)) xs ≡ false → filter p xs ≡ xs
filter_kept p [] h = refl
filter_kept p (x ∷ xs) h =
    ap (λ b. cond b (x ∷ filter p xs) (filter p xs)) (not_false (p x) (or_left (not (p x)) _ h))
    ∙ ap (λ ys. x ∷ ys) (filter_kept p xs (or_right (not (p x)) _ h))

pub filter-append : {A : Type 0} (p : A → Bool) (xs ys : List A) → filter p (xs ++ ys) ≡ filter p xs ++ filter p ys
filter-append p [] ys = refl
filter-append p (x ∷ xs) ys =
    elim (p x) as (λ b. cond b (x ∷ filter p (xs ++ ys)) (filter p (xs ++ ys)) ≡ cond b (x ∷ filter p xs) (filter p xs) ++ filter p ys) [
      | true ↦ ap (λ zs. x ∷ zs) (filter-append p xs ys)
      | false ↦ filter-append p xs ys
    ]

pub append-nil : {A : Type 0} (xs : List A) → xs ++ [] ≡ xs
append-nil [] = refl
append-nil (x ∷ xs) = ap (λ ys. x ∷ ys) (append-nil xs)

-- names

pub named_itself : (n : Name) → is_named n n ≡ true
named_itself n = ap is_eq (tied_itself nat_list_cmp_total n)

tied : (r : Ordering) → is_eq r ≡ true → r ≡ Equal
tied Less h = true_false h refl
tied Equal h = refl
tied Greater h = true_false h refl

pub same_name : (a b : Name) → is_named a b ≡ true → a ≡ b
same_name a b h = slice_cmp-IsAntisymmetric nat_cmp-IsAntisymmetric a b (tied (name_cmp a b) h)

pub other_way : (a b : Name) → is_named a b ≡ false → is_named b a ≡ false
other_way a b h =
    elim (is_named b a) as (λ x. is_named b a ≡ x → x ≡ false) [
      | true ↦ λ p. true_false (ap (λ n. is_named a n) (same_name b a p) ∙ named_itself a) h
      | false ↦ λ p. refl
    ] refl

-- a name that is not in a list is not among names of the list
pub not_among : (n : Name) (ns ms : List Name) → is_in n ns ≡ false → list_all (λ m. is_in m ns) ms ≡ true → is_in n ms ≡ false
not_among n ns ms out all =
    any_none (is_named n) (λ m. is_in m ns) ms (λ m here. elim (is_named n m) as (λ x. is_named n m ≡ x → x ≡ false) [
      | true ↦ λ p. true_false (ap (λ k. is_in k ns) (same_name n m p) ∙ here) out
      | false ↦ λ p. refl
    ] refl) all

-- a name without a hyphen, for an attribute's list
pub any_mapped : {A B : Type 0} (p : B → Bool) (f : A → B) (xs : List A) → list_any p (map f xs) ≡ list_any (λ x. p (f x)) xs
any_mapped p f xs = any-map p f xs

-- all of a list

pub and_true : (a b : Bool) → a ≡ true → b ≡ true → (a && b) ≡ true
and_true a b p q = ap (λ x. x && b) p ∙ q

pub all_more : {A : Type 0} (p q : A → Bool) (xs : List A) → ((x : A) → p x ≡ true → q x ≡ true) → list_all p xs ≡ true → list_all q xs ≡ true
all_more p q [] h all = refl
all_more p q (x ∷ xs) h all = and_true _ _ (h x (and_left (p x) _ all)) (all_more p q xs h (and_right (p x) _ all))

pub all_one_more : {A : Type 0} (p : A → Bool) (xs : List A) (x : A) → list_all p xs ≡ true → p x ≡ true → list_all p (xs ++ x ∷ []) ≡ true
all_one_more p [] x all h = and_true _ _ h refl
all_one_more p (y ∷ xs) x all h = and_true _ _ (and_left (p y) _ all) (all_one_more p xs x (and_right (p y) _ all) h)

pub all-map : {A B : Type 0} (p : B → Bool) (f : A → B) (xs : List A) → list_all p (map f xs) ≡ list_all (λ x. p (f x)) xs
all-map p f [] = refl
all-map p f (x ∷ xs) = ap (λ b. p (f x) && b) (all-map p f xs)

pub all_both : {A : Type 0} (p q : A → Bool) (xs : List A) → list_all p xs ≡ true → list_all q xs ≡ true → list_all (λ x. p x && q x) xs ≡ true
all_both p q [] a b = refl
all_both p q (x ∷ xs) a b = and_true _ _ (and_true _ _ (and_left (p x) _ a) (and_left (q x) _ b)) (all_both p q xs (and_right (p x) _ a) (and_right (q x) _ b))

pub all-append : {A : Type 0} (p : A → Bool) (xs ys : List A) → list_all p xs ≡ true → list_all p ys ≡ true → list_all p (xs ++ ys) ≡ true
all-append p [] ys a b = b
all-append p (x ∷ xs) ys a b = and_true _ _ (and_left (p x) _ a) (all-append p xs ys (and_right (p x) _ a) b)

pub all-append_right : {A : Type 0} (p : A → Bool) (xs ys : List A) → list_all p (xs ++ ys) ≡ true → list_all p ys ≡ true
all-append_right p [] ys h = h
all-append_right p (x ∷ xs) ys h = all-append_right p xs ys (and_right (p x) _ h)

pub all-append_left : {A : Type 0} (p : A → Bool) (xs ys : List A) → list_all p (xs ++ ys) ≡ true → list_all p xs ≡ true
all-append_left p [] ys h = refl
all-append_left p (x ∷ xs) ys h = and_true _ _ (and_left (p x) _ h) (all-append_left p xs ys (and_right (p x) _ h))

-- what passes a test where another finds nothing
pub all_kept : {A : Type 0} (q p r : A → Bool) (xs : List A) → ((x : A) → q x ≡ false → p x ≡ true → r x ≡ true) → list_any q xs ≡ false → list_all p xs ≡ true → list_all r xs ≡ true
all_kept q p r [] h none all = refl
all_kept q p r (x ∷ xs) h none all = and_true _ _ (h x (or_left (q x) _ none) (and_left (p x) _ all)) (all_kept q p r xs h (or_right (q x) _ none) (and_right (p x) _ all))

-- what none has where none has either of two others
pub any_less_both : {A : Type 0} (p q r : A → Bool) (xs : List A) → ((x : A) → p x ≡ false → q x ≡ false → r x ≡ false) → list_any p xs ≡ false → list_any q xs ≡ false → list_any r xs ≡ false
any_less_both p q r [] h a b = refl
any_less_both p q r (x ∷ xs) h a b = or_false _ _ (h x (or_left (p x) _ a) (or_left (q x) _ b)) (any_less_both p q r xs h (or_right (p x) _ a) (or_right (q x) _ b))

pub none_all : {A : Type 0} (p : A → Bool) (xs : List A) → list_any p xs ≡ false → list_all (λ x. not (p x)) xs ≡ true
none_all p [] h = refl
none_all p (x ∷ xs) h = and_true _ _ (ap not (or_left (p x) _ h)) (none_all p xs (or_right (p x) _ h))

pub all_none : {A : Type 0} (p : A → Bool) (xs : List A) → list_any (λ x. not (p x)) xs ≡ false → list_all p xs ≡ true
all_none p [] h = refl
all_none p (x ∷ xs) h = and_true _ _ (not_false (p x) (or_left (not (p x)) _ h)) (all_none p xs (or_right (not (p x)) _ h))

pub map_append_one : {A B : Type 0} (f : A → B) (xs : List A) (x : A) → map f (xs ++ x ∷ []) ≡ map f xs ++ f x ∷ []
map_append_one f [] x = refl
map_append_one f (y ∷ xs) x = ap (λ zs. f y ∷ zs) (map_append_one f xs x)

-- a case on a test, with what it says
pub whether : {A : Type 0} (b : Bool) → (b ≡ true → A) → (b ≡ false → A) → A
whether {A = A} b if_so if_not = elim b as (λ x. b ≡ x → A) [ true ↦ λ p. if_so p | false ↦ λ p. if_not p ] refl
