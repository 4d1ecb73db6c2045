-- Lists read and written one by one.
use Rattle.std.proofs.Common.{◌-◌, ◌&&◌, ◌≡◌, ◌+◌, ◌<◌, ◌++◌, ◌∷◌, ℕ, suc, Bool, true, false, List, [], Option, None, Some, refl, sym, ◌∙◌, ap, subst, arith}
use Rattle.std.specs.List.{list_all}
use Rattle.std.specs.Option.{option_map}
use Rattle.std.proofs.lemmas.List.{append-nil, append_assoc}
use Rattle.lq_codec.specs.Codec.{Codec, ahead, counted, optional, read_each, then_more, write_each}
use Rattle.lq_codec.specs.State.{OnTrue, free, if_any}
use Rattle.lq_codec.specs.Words.{count}
use Rattle.lq_codec.proofs.Laws.{both_true}

-- a list read one by one: what was read stands before the rest
abbrev pub prefixed : {A : Type 0} → List A → Option (List A × List ℕ) → Option (List A × List ℕ)
prefixed xs None = None
prefixed xs (Some (ys, rest)) = Some (xs ++ ys, rest)

pub each_start : {A : Type 0} (o : Option (List A × List ℕ)) → o ≡ prefixed [] o
each_start None = refl
each_start (Some (ys, rest)) = refl

pub each_end : {A : Type 0} (c : Codec A) (xs : List A) (rest : List ℕ) → prefixed xs (read_each c 0 rest) ≡ Some (xs, rest)
each_end c xs rest = ap (λ (l : List _). Some (l, rest)) (append-nil xs)

ahead_of : {A : Type 0} (xs : List A) (a : A) (o : Option (List A × List ℕ)) → prefixed xs (option_map (ahead a) o) ≡ prefixed (xs ++ a ∷ []) o
ahead_of xs a None = refl
ahead_of xs a (Some (ys, rest)) = ap (λ (l : List _). Some (l, rest)) (sym (append_assoc xs (a ∷ []) ys))

pub each_more : {A : Type 0} (c : Codec A) (xs : List A) (n i : ℕ) (rest after : List ℕ) (a : A) → i < n → c.read rest ≡ Some (a, after) → prefixed xs (read_each c (n - i) rest) ≡ prefixed (xs ++ a ∷ []) (read_each c (n - (i + 1)) after)
each_more c xs n i rest after a lt is =
    let next : n - i ≡ suc (n - (i + 1)) = omega (arith, lt) in
    ap (λ (k : ℕ). prefixed xs (read_each c k rest)) next
    ∙ ap (λ (o : Option (_ × List ℕ)). prefixed xs (then_more (read_each c (n - (i + 1))) o)) is
    ∙ ahead_of xs a (read_each c (n - (i + 1)) after)

pub each_none : {A : Type 0} (c : Codec A) (xs : List A) (n i : ℕ) (rest : List ℕ) → i < n → c.read rest ≡ None → prefixed xs (read_each c (n - i) rest) ≡ None
each_none c xs n i rest lt is =
    let next : n - i ≡ suc (n - (i + 1)) = omega (arith, lt) in
    ap (λ (k : ℕ). prefixed xs (read_each c k rest)) next
    ∙ ap (λ (o : Option (_ × List ℕ)). prefixed xs (then_more (read_each c (n - (i + 1))) o)) is

-- what was written of the first of them, and what is still to be written
pub one_written : {A : Type 0} (c : Codec A) (rest more : List A) (x : A) (before after goal : List ℕ) → rest ≡ x ∷ more → after ≡ before ++ c.write x → before ++ write_each c rest ≡ goal → after ++ write_each c more ≡ goal
one_written c rest more x before after goal is wrote all =
    ap (λ (l : List ℕ). l ++ write_each c more) wrote
    ∙ append_assoc before (c.write x) (write_each c more)
    ∙ ap (λ (l : List _). before ++ write_each c l) (sym is)
    ∙ all

pub all_written : {A : Type 0} (c : Codec A) (rest : List A) (now goal : List ℕ) → rest ≡ [] → now ++ write_each c rest ≡ goal → now ≡ goal
all_written c rest now goal is all = sym (append-nil now) ∙ ap (λ (l : List _). now ++ write_each c l) (sym is) ∙ all

abbrev pub AreFit : {A : Type 0} → (A → Bool) → (A → Bool) → List A → Type 0
AreFit within ok xs = OnTrue (list_all within xs) (list_all ok xs ≡ true)

pub pair_fits : (p q a b : Bool) → OnTrue p (a ≡ true) → OnTrue q (b ≡ true) → OnTrue (p && q) (a && b ≡ true)
pair_fits true true a b x y = both_true a b x y
pair_fits true false a b x y = tt
pair_fits false q a b x y = tt

pub one_fits : {A : Type 0} (within ok : A → Bool) (rest more whole : List A) (x : A) → rest ≡ x ∷ more → OnTrue (within x) (ok x ≡ true) → (AreFit within ok rest → AreFit within ok whole) → AreFit within ok more → AreFit within ok whole
one_fits within ok rest more whole x is fits all those =
    all (subst (AreFit within ok) (sym is) (pair_fits (within x) (list_all within more) (ok x) (list_all ok more) fits those))

pub all_fit : {A : Type 0} (within ok : A → Bool) (rest whole : List A) → rest ≡ [] → (AreFit within ok rest → AreFit within ok whole) → AreFit within ok whole
all_fit within ok rest whole is all = all (subst (AreFit within ok) (sym is) refl)

-- with their count before them
pub list_fits : (p a b : Bool) → a ≡ true → OnTrue p (b ≡ true) → OnTrue p (a && b ≡ true)
list_fits true a b x y = both_true a b x y
list_fits false a b x y = tt

-- where there is no limit all keep to it
pub freed : {A : Type 0} (xs : List A) (P : Type 0) → OnTrue (list_all free xs) P → P
freed [] P it = it
freed (x ∷ xs) P it = freed xs P it

pub freed_any : {A : Type 0} (o : Option A) (P : Type 0) → OnTrue (if_any free o) P → P
freed_any None P it = it
freed_any (Some a) P it = it

pub list_free : {A : Type 0} (c : Codec A) (xs : List A) → OnTrue (list_all free xs) ((counted count c).ok xs ≡ true) → (counted count c).ok xs ≡ true
list_free c xs it = freed xs ((counted count c).ok xs ≡ true) it

pub option_free : {A : Type 0} (c : Codec A) (o : Option A) → OnTrue (if_any free o) ((optional c).ok o ≡ true) → (optional c).ok o ≡ true
option_free c o it = freed_any o ((optional c).ok o ≡ true) it

-- where the last of three has a limit
pub query_fits : (p a b c : Bool) → a ≡ true → b ≡ true → OnTrue p (c ≡ true) → OnTrue p (a && (b && c) ≡ true)
query_fits true a b c x y z = both_true a (b && c) x (both_true b c y z)
query_fits false a b c x y z = tt
