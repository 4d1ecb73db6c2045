-- What a rule of the grammar reads where names have left out their quotes: the laws of what rules are made of.
use Rattle.std.proofs.Common.{◌≡◌, suc, Bool, true, false, if◌then◌else◌, List, [], ◌∷◌, length, Option, Some, None, ◌⊎◌, inl, inr, ap, ◌∙◌, sym, subst, refl}
use denote.Enum.Bare.{same_true}
use Rattle.lq_model.specs.contracts.word.WordKind.{the_type}
use Rattle.lq_model.specs.SqlParser.{Outcome, Parser, ◌>>=◌, after, and_then, eat, expect, given, kind, next, peek, pure, refuse, same_kind, sees, skip, taken, text}
use Rattle.lq_model.specs.SqlWord.{may_be_name}
use Rattle.lq_model.specs.declared.word.Word.{Word}
use Rattle.lq_model.specs.declared.word.WordKind.{WordKind}
use Rattle.lq_model.specs.declared.word.WordKind.TheVariants as word
use Rattle.lq_spelling.specs.Laws.{AreBare, IsBare}

-- words without their quotes

pub kind_bare : (i j : List Word) → AreBare i j → IsBare (kind i) (kind j)
kind_bare [] [] same = inl refl
kind_bare (v ∷ vs) (w ∷ ws) same = same.0
kind_bare [] (w ∷ ws) same = absurd same
kind_bare (v ∷ vs) [] same = absurd same

text_bare : (i j : List Word) → AreBare i j → text i ≡ text j
text_bare [] [] same = refl
text_bare (v ∷ vs) (w ∷ ws) same = same.1
text_bare [] (w ∷ ws) same = absurd same
text_bare (v ∷ vs) [] same = absurd same

pub next_bare : (i j : List Word) → AreBare i j → AreBare (next i) (next j)
next_bare [] [] same = tt
next_bare (v ∷ vs) (w ∷ ws) same = same.2
next_bare [] (w ∷ ws) same = absurd same
next_bare (v ∷ vs) [] same = absurd same

pub length_bare : (i j : List Word) → AreBare i j → length i ≡ length j
length_bare [] [] same = refl
length_bare (v ∷ vs) (w ∷ ws) same = ap suc (length_bare vs ws same.2)
length_bare [] (w ∷ ws) same = absurd same
length_bare (v ∷ vs) [] same = absurd same

-- two kinds of which a test tells one are not the same
pub told_apart : (test : WordKind → Bool) (n k : WordKind) → test n ≡ true → test k ≡ false → same_kind n k ≡ false
unfolding same_kind
told_apart test n k held none = by (same_kind n k) refl
  where
    by : (same : Bool) → same_kind n k ≡ same → same ≡ false
    by true is = let e : n ≡ k = same_true the_type tt n k is in let both : false ≡ true = sym none ∙ sym (ap test e) ∙ held in absurd (cc)
    by false is = refl

-- what stays what it is: the words that are no names
pub same_bare : (k n m : WordKind) → may_be_name k ≡ false → IsBare n m → same_kind n k ≡ same_kind m k
same_bare k n m none (inl e) = ap (λ it. same_kind it k) e
same_bare k n m none (inr h) = ap (λ it. same_kind it k) h.0 ∙ told_apart may_be_name word.Quoted k refl none ∙ sym (told_apart may_be_name m k h.1 none)

-- what is read of them

-- where the clauses or the columns of a list may be at their end, no statement goes on with such a word
abbrev pub halts : WordKind → Bool
halts word.Quoted = true
halts word.Open = true
halts _ = false

abbrev pub IsStuck : Bool → List Word → Type 0
IsStuck true i = halts (kind i) ≡ true
IsStuck false i = ⊥

-- where something is read of the one words, then the same of the other ones; or else, where that may be, the reading is stuck
abbrev pub Alike : Bool → {A : Type 0} → Outcome A → Outcome A → Type 0
Alike stuck None o = Unit {0}
Alike stuck (Some x) None = IsStuck stuck x.1
Alike stuck (Some x) (Some y) = ((x.0 ≡ y.0) × AreBare x.1 y.1) ⊎ IsStuck stuck x.1

pub record Blind (stuck : Bool) {A : Type 0} (p : Parser A) : Type 0 where
  pub at : (i j : List Word) → AreBare i j → Alike stuck (p i) (p j)

-- what is stuck stays so

abbrev pub Halted : {A : Type 0} → Outcome A → Type 0
Halted None = Unit {0}
Halted (Some x) = halts (kind x.1) ≡ true

pub record Stays {A : Type 0} (p : Parser A) : Type 0 where
  pub at : (i : List Word) → halts (kind i) ≡ true → Halted (p i)

pub record Refuses {A : Type 0} (p : Parser A) : Type 0 where
  pub at : (i : List Word) → halts (kind i) ≡ true → p i ≡ None

pub halted_alike : {A : Type 0} (o e : Outcome A) → Halted o → Alike true o e
halted_alike None e h = tt
halted_alike (Some x) None h = h
halted_alike (Some x) (Some y) h = inr h

stuck_alike : {A : Type 0} (stuck : Bool) (i : List Word) (o e : Outcome A) → IsStuck stuck i → (halts (kind i) ≡ true → Halted o) → Alike stuck o e
stuck_alike true i o e h stays = halted_alike o e (stays h)
stuck_alike false i o e h stays = absurd h

-- one after the other

pub blind_then : {A B : Type 0} (stuck : Bool) (p : Parser A) (f : A → Parser B) → Blind false p → ((x : A) → Blind stuck (f x)) → Blind stuck (p >>= f)
blind_then {A = A} stuck p f first more = record { at = λ i j same. by (p i) (p j) (first.at i j same) }
  where
    by : (o e : Outcome A) → Alike false o e → Alike stuck (and_then o f) (and_then e f)
    by None e h = tt
    by (Some x) None h = absurd h
    by (Some x) (Some y) (inl h) = subst (λ (a : A). Alike stuck (f x.0 x.1) (f a y.1)) h.0 ((more x.0).at x.1 y.1 h.1)
    by (Some x) (Some y) (inr h) = absurd h

-- what may be stuck, and what leaves it so
pub blind_along : {A B : Type 0} (stuck : Bool) (p : Parser A) (f : A → Parser B) → Blind stuck p → ((x : A) → Blind stuck (f x)) → ((x : A) → Stays (f x)) → Blind stuck (p >>= f)
blind_along {A = A} stuck p f first more stays = record { at = λ i j same. by (p i) (p j) (first.at i j same) }
  where
    by : (o e : Outcome A) → Alike stuck o e → Alike stuck (and_then o f) (and_then e f)
    by None e h = tt
    by (Some x) None h = stuck_alike stuck x.1 (f x.0 x.1) None h ((stays x.0).at x.1)
    by (Some x) (Some y) (inl h) = subst (λ (a : A). Alike stuck (f x.0 x.1) (f a y.1)) h.0 ((more x.0).at x.1 y.1 h.1)
    by (Some x) (Some y) (inr h) = stuck_alike stuck x.1 (f x.0 x.1) (f y.0 y.1) h ((stays x.0).at x.1)

-- what may be stuck, and what refuses it then
pub blind_until : {A B : Type 0} (p : Parser A) (f : A → Parser B) → Blind true p → ((x : A) → Blind false (f x)) → ((x : A) → Refuses (f x)) → Blind false (p >>= f)
blind_until {A = A} p f first more refuses = record { at = λ i j same. by (p i) (p j) (first.at i j same) }
  where
    by : (o e : Outcome A) → Alike true o e → Alike false (and_then o f) (and_then e f)
    by None e h = tt
    by (Some x) None h = subst (λ o. Alike false o None) (sym ((refuses x.0).at x.1 h)) tt
    by (Some x) (Some y) (inl h) = subst (λ (a : A). Alike false (f x.0 x.1) (f a y.1)) h.0 ((more x.0).at x.1 y.1 h.1)
    by (Some x) (Some y) (inr h) = subst (λ o. Alike false o (f y.0 y.1)) (sym ((refuses x.0).at x.1 h)) tt

pub blind_so : {A : Type 0} (stuck : Bool) (p : Parser A) → Blind false p → Blind stuck p
blind_so {A = A} stuck p is = record { at = λ i j same. by (p i) (p j) (is.at i j same) }
  where
    by : (o e : Outcome A) → Alike false o e → Alike stuck o e
    by None e h = tt
    by (Some x) None h = absurd h
    by (Some x) (Some y) (inl h) = inl h
    by (Some x) (Some y) (inr h) = absurd h

pub blind_pure : {A : Type 0} (stuck : Bool) (x : A) → Blind stuck (pure x)
blind_pure stuck x = record { at = λ i j same. inl (refl, same) }

pub blind_refuse : {A : Type 0} (stuck : Bool) → Blind stuck {A = A} refuse
blind_refuse stuck = record { at = λ i j same. tt }

pub blind_given : {A : Type 0} (stuck : Bool) (o : Option A) → Blind stuck (given o)
blind_given stuck None = blind_refuse stuck
blind_given stuck (Some x) = blind_pure stuck x

pub blind_if : {A : Type 0} (stuck b : Bool) (p q : Parser A) → Blind stuck p → Blind stuck q → Blind stuck (if b then p else q)
blind_if stuck true p q first second = first
blind_if stuck false p q first second = second

pub stays_then : {A B : Type 0} (p : Parser A) (f : A → Parser B) → Stays p → ((x : A) → Stays (f x)) → Stays (p >>= f)
stays_then {A = A} p f first more = record { at = λ i h. by (p i) (first.at i h) }
  where
    by : (o : Outcome A) → Halted o → Halted (and_then o f)
    by None h = tt
    by (Some x) h = (more x.0).at x.1 h

pub stays_pure : {A : Type 0} (x : A) → Stays (pure x)
stays_pure x = record { at = λ i h. h }

pub stays_refuse : {A : Type 0} → Stays {A = A} refuse
stays_refuse = record { at = λ i h. tt }

pub stays_given : {A : Type 0} (o : Option A) → Stays (given o)
stays_given None = stays_refuse
stays_given (Some x) = stays_pure x

pub stays_if : {A : Type 0} (b : Bool) (p q : Parser A) → Stays p → Stays q → Stays (if b then p else q)
stays_if true p q first second = first
stays_if false p q first second = second

pub refuses_first : {A B : Type 0} (p : Parser A) (f : A → Parser B) → Refuses p → Refuses (p >>= f)
refuses_first p f first = record { at = λ i h. ap (λ o. and_then o f) (first.at i h) }

pub refuses_after : {A B : Type 0} (p : Parser A) (f : A → Parser B) → Stays p → ((x : A) → Refuses (f x)) → Refuses (p >>= f)
refuses_after {A = A} p f first more = record { at = λ i h. by (p i) (first.at i h) }
  where
    by : (o : Outcome A) → Halted o → and_then o f ≡ None
    by None h = refl
    by (Some x) h = (more x.0).at x.1 h

-- the next word

pub blind_skip : Blind false skip
blind_skip = record { at = λ i j same. inl (refl, next_bare i j same) }

pub blind_taken : Blind false taken
blind_taken = record { at = λ i j same. inl (text_bare i j same, next_bare i j same) }

pub sees_bare : (k : WordKind) → may_be_name k ≡ false → (i j : List Word) → AreBare i j → sees k i ≡ sees k j
unfolding sees
sees_bare k none i j same = same_bare k (kind i) (kind j) none (kind_bare i j same)

pub blind_eat : (k : WordKind) → may_be_name k ≡ false → Blind false (eat k)
unfolding after
blind_eat k none = record { at = λ i j same. inl (sees_bare k none i j same, by i j same (sees k i) (sees k j) (sees_bare k none i j same)) }
  where
    by : (i j : List Word) → AreBare i j → (here there : Bool) → here ≡ there → AreBare (if here then next i else i) (if there then next j else j)
    by i j same true true e = next_bare i j same
    by i j same false false e = same
    by i j same true false e = absurd (cc)
    by i j same false true e = absurd (cc)

abbrev pub is_quoted : WordKind → Bool
is_quoted word.Quoted = true
is_quoted _ = false

pub blind_expect : (k : WordKind) → is_quoted k ≡ false → Blind false (expect k)
unfolding expect sees
blind_expect k none = record { at = λ i j same. by i j same (kind_bare i j same) }
  where
    taken_alike : (i j : List Word) → AreBare i j → (here : Bool) → Alike false (if here then Some (tt {0}, next i) else None) (if here then Some (tt {0}, next j) else None)
    taken_alike i j same true = inl (refl, next_bare i j same)
    taken_alike i j same false = tt

    by : (i j : List Word) → AreBare i j → IsBare (kind i) (kind j) → Alike false (if same_kind (kind i) k then Some (tt {0}, next i) else None) (if same_kind (kind j) k then Some (tt {0}, next j) else None)
    by i j same (inl e) =
        subst (λ (n : WordKind). Alike false (if same_kind (kind i) k then Some (tt {0}, next i) else None) (if same_kind n k then Some (tt {0}, next j) else None)) e (taken_alike i j same (same_kind (kind i) k))
    by i j same (inr h) =
        let other : same_kind (kind i) k ≡ false = ap (λ n. same_kind n k) h.0 ∙ told_apart is_quoted word.Quoted k refl none in
        subst (λ (here : Bool). Alike false (if here then Some (tt {0}, next i) else None) (if same_kind (kind j) k then Some (tt {0}, next j) else None)) (sym other) tt

-- by the next word's kind
pub blind_peek : {A : Type 0} (stuck : Bool) (f : WordKind → Parser A) → ((k : WordKind) → Blind stuck (f k))
    → ((i j : List Word) (n : WordKind) → AreBare i j → kind i ≡ word.Quoted → may_be_name n ≡ true → Alike stuck (f word.Quoted i) (f n j)) → Blind stuck (peek >>= f)
blind_peek stuck f each quoted = record { at = λ i j same. by i j same (kind_bare i j same) }
  where
    by : (i j : List Word) → AreBare i j → IsBare (kind i) (kind j) → Alike stuck (f (kind i) i) (f (kind j) j)
    by i j same (inl e) = subst (λ (n : WordKind). Alike stuck (f (kind i) i) (f n j)) e ((each (kind i)).at i j same)
    by i j same (inr h) = subst (λ (k : WordKind). Alike stuck (f k i) (f (kind j) j)) (sym h.0) (quoted i j (kind j) same h.0 h.1)

-- where nothing begins with a name
pub blind_by : {A : Type 0} (stuck : Bool) (f : WordKind → Parser A) → ((k : WordKind) → Blind stuck (f k)) → ((i : List Word) → f word.Quoted i ≡ None) → Blind stuck (peek >>= f)
blind_by stuck f each none = blind_peek stuck f each (λ i j n same is may. subst (λ o. Alike stuck o (f n j)) (sym (none i)) tt)

-- where a name is as any other word
pub blind_test : {A : Type 0} (stuck : Bool) (test : WordKind → Bool) (p q : Parser A) → ((n : WordKind) → may_be_name n ≡ true → test n ≡ false) → Blind stuck p → Blind stuck q
    → Blind stuck (peek >>= (λ found. if test found then p else q))
blind_test stuck test p q other first second =
    blind_peek stuck _ (λ k. blind_if stuck (test k) p q first second) (λ i j n same is may.
    subst (λ (b : Bool). Alike stuck ((if b then p else q) i) ((if test n then p else q) j)) (sym (other word.Quoted refl))
    (subst (λ (b : Bool). Alike stuck (q i) ((if b then p else q) j)) (sym (other n may)) (second.at i j same)))

-- such a word is not taken

pub stays_eat : (k : WordKind) → halts k ≡ false → Stays (eat k)
unfolding after sees
stays_eat k none = record { at = λ i h. subst (λ (seen : Bool). halts (kind (if seen then next i else i)) ≡ true) (sym (told_apart halts (kind i) k h none)) h }

pub refuses_expect : (k : WordKind) → halts k ≡ false → Refuses (expect k)
unfolding expect sees
refuses_expect k none = record { at = λ i h. ap (λ seen. if seen then Some (tt, next i) else None) (told_apart halts (kind i) k h none) }
