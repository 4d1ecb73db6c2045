-- How a parser comes over an unquoted word that is not reserved: it does not reach it, or it takes it as a word of the statements, or as a name.
use Rattle.std.proofs.Common.{◌≡◌, ℕ, zero, suc, Bool, true, false, if◌then◌else◌, List, [], ◌∷◌, ◌++◌, length, Option, Some, None, ◌⊎◌, inl, inr, ap, ◌∙◌, sym, refl}
use Rattle.std.specs.Str.{str_eq_ignore_ascii_case}
use Rattle.lq_model.specs.SqlParser.{Outcome, Parser, ◌>>=◌, after, and_more, and_then, eat, enclosed, ended, expect, given, led_by, many, many_of, peek, pure, refuse, same_kind, sees, separated, skip, taken}
use Rattle.lq_model.specs.SqlWord.{may_be_name, with_text}
use Rattle.lq_model.specs.declared.word.Word.{Word}
use Rattle.lq_model.specs.declared.word.WordKind.{WordKind}
use Rattle.lq_model.specs.declared.word.WordKind.TheVariants as word
use Rattle.lq_spelling.proofs.ServeKinds.{Loose, apart, kind_at, kind_of}

-- what a word of some text in one place gives, and the words behind it
pub data Went (l : Loose) (said : List ℕ) (back : List Word) {A : Type 0} (o : Word → Outcome A) (r : A) (rest : List Word) : Type 0 where
  before : (front : List Word) → rest ≡ front ++ with_text (kind_of l) said ∷ back
      → ((unquoted : Bool) (other : List ℕ) → o (with_text (kind_at l unquoted) other) ≡ Some (r, front ++ with_text (kind_at l unquoted) other ∷ back)) → Went l said back o r rest
  said_there : ((other : List ℕ) → str_eq_ignore_ascii_case said other ≡ true → o (with_text (kind_of l) other) ≡ Some (r, rest)) → Went l said back o r rest
  named_there : o (with_text word.Quoted said) ≡ Some (r, rest) → Went l said back o r rest

abbrev pub Goes : (l : Loose) (said : List ℕ) (back : List Word) {A : Type 0} → (Word → Outcome A) → Type 0
Goes l said back {A = A} o = (r : A) (rest : List Word) → o (with_text (kind_of l) said) ≡ Some (r, rest) → Went l said back o r rest

pub record Serves {A : Type 0} (p : Parser A) : Type 0 where
  pub at : (l : Loose) (said : List ℕ) (front back : List Word) → Goes l said back (λ w. p (front ++ w ∷ back))

-- what gives the same of all such words goes the same way
pub alike : (l : Loose) (said : List ℕ) (back : List Word) {A : Type 0} (o other : Word → Outcome A) → ((unquoted : Bool) (t : List ℕ) → o (with_text (kind_at l unquoted) t) ≡ other (with_text (kind_at l unquoted) t))
    → Goes l said back other → Goes l said back o
alike l said back {A = A} o other same goes r rest is =
    by r rest (goes r rest (sym (same true said) ∙ is))
  where
    by : (r : A) (rest : List Word) → Went l said back other r rest → Went l said back o r rest
    by r rest (before front there each) = before front there (λ unquoted t. same unquoted t ∙ each unquoted t)
    by r rest (said_there each) = said_there (λ t cased. same true t ∙ each t cased)
    by r rest (named_there named) = named_there (same false said ∙ named)

-- what one such word gives

same_pair : {A B : Type 0} (a b : A × B) → Some a ≡ Some b → a ≡ b
same_pair a b is = cc

pub not_reached : (l : Loose) (said : List ℕ) (back : List Word) {A : Type 0} (o : Word → Outcome A) (a : A) (front : List Word)
    → ((unquoted : Bool) (t : List ℕ) → o (with_text (kind_at l unquoted) t) ≡ Some (a, front ++ with_text (kind_at l unquoted) t ∷ back)) → Goes l said back o
not_reached l said back o a front each r rest is =
    let both : (a, front ++ with_text (kind_of l) said ∷ back) ≡ (r, rest) = same_pair _ _ (sym (each true said) ∙ is) in
    before front (sym (ap (λ found. found.1) both)) (λ unquoted t. each unquoted t ∙ ap (λ found. Some (found.0, front ++ with_text (kind_at l unquoted) t ∷ back)) both)

pub refused : (l : Loose) (said : List ℕ) (back : List Word) {A : Type 0} (o : Word → Outcome A) → o (with_text (kind_of l) said) ≡ None → Goes l said back o
refused l said back o none r rest is = absurd (cc)

pub serves_pure : {A : Type 0} (x : A) → Serves (pure x)
serves_pure x = record { at = λ l said front back. not_reached l said back _ x front (λ unquoted t. refl) }

pub serves_refuse : {A : Type 0} → Serves {A = A} refuse
serves_refuse = record { at = λ l said front back. refused l said back _ refl }

pub then_at : (l : Loose) (said : List ℕ) (back : List Word) {A B : Type 0} (o : Word → Outcome A) (f : A → Parser B) → Goes l said back o → ((x : A) → Serves (f x)) → Goes l said back (λ w. and_then (o w) f)
then_at l said back {A = A} {B = B} o f first more r rest is =
    by (o (with_text (kind_of l) said)) refl is
  where
    joined : (a : A) (i : List Word) → Went l said back o a i → f a i ≡ Some (r, rest) → Went l said back (λ w. and_then (o w) f) r rest
    joined a i (before front there each) h =
        alike l said back (λ w. and_then (o w) f) (λ w. f a (front ++ w ∷ back)) (λ unquoted t. ap (λ found. and_then found f) (each unquoted t)) ((more a).at l said front back) r rest
        (ap (λ found. and_then found f) (each true said) ∙ ap (f a) (sym there) ∙ h)
    joined a i (said_there each) h = said_there (λ t cased. ap (λ found. and_then found f) (each t cased) ∙ h)
    joined a i (named_there named) h = named_there (ap (λ found. and_then found f) named ∙ h)

    by : (found : Outcome A) → o (with_text (kind_of l) said) ≡ found → and_then found f ≡ Some (r, rest) → Went l said back (λ w. and_then (o w) f) r rest
    by None e h = absurd (cc)
    by (Some found) e h = joined found.0 found.1 (first found.0 found.1 e) h

pub serves_then : {A B : Type 0} (p : Parser A) (f : A → Parser B) → Serves p → ((x : A) → Serves (f x)) → Serves (p >>= f)
serves_then p f first more = record { at = λ l said front back. then_at l said back (λ w. p (front ++ w ∷ back)) f (first.at l said front back) more }

pub serves_if : {A : Type 0} (b : Bool) (p q : Parser A) → Serves p → Serves q → Serves (if b then p else q)
serves_if true p q first second = first
serves_if false p q first second = second

pub serves_given : {A : Type 0} (o : Option A) → Serves (given o)
serves_given None = serves_refuse
serves_given (Some x) = serves_pure x

-- the next word

pub serves_skip : Serves skip
serves_skip =
    record { at = by }
  where
    by : (l : Loose) (said : List ℕ) (front back : List Word) → Goes l said back (λ w. skip (front ++ w ∷ back))
    by l said [] back = λ r rest is. said_there (λ t cased. is)
    by l said (y ∷ front) back = not_reached l said back _ tt front (λ unquoted t. refl)

pub serves_taken : Serves taken
serves_taken =
    record { at = by }
  where
    by : (l : Loose) (said : List ℕ) (front back : List Word) → Goes l said back (λ w. taken (front ++ w ∷ back))
    by l said [] back = λ r rest is. named_there is
    by l said (y ∷ front) back = not_reached l said back _ y.text front (λ unquoted t. refl)

pub serves_eat : (k : WordKind) → may_be_name k ≡ false → Serves (eat k)
unfolding sees after
serves_eat k reserved =
    record { at = by }
  where
    by_flag : (l : Loose) (said : List ℕ) (y : Word) (front back : List Word) (flag : Bool)
        → Goes l said back (λ w. Some (flag, if flag then front ++ w ∷ back else y ∷ (front ++ w ∷ back)))
    by_flag l said y front back true = not_reached l said back _ true front (λ unquoted t. refl)
    by_flag l said y front back false = not_reached l said back _ false (y ∷ front) (λ unquoted t. refl)

    by : (l : Loose) (said : List ℕ) (front back : List Word) → Goes l said back (λ w. eat k (front ++ w ∷ back))
    by l said [] back = not_reached l said back _ false [] (λ unquoted t. rw (apart l unquoted k reserved) refl)
    by l said (y ∷ front) back = by_flag l said y front back (same_kind y.kind k)

pub serves_expect : (k : WordKind) → Serves (expect k)
unfolding expect sees
serves_expect k =
    record { at = by }
  where
    by_flag : (l : Loose) (said : List ℕ) (front back : List Word) (flag : Bool) → Goes l said back (λ w. if flag then Some (tt {0}, front ++ w ∷ back) else None)
    by_flag l said front back true = not_reached l said back _ tt front (λ unquoted t. refl)
    by_flag l said front back false = refused l said back _ refl

    by : (l : Loose) (said : List ℕ) (front back : List Word) → Goes l said back (λ w. expect k (front ++ w ∷ back))
    by l said [] back = λ r rest is. said_there (λ t cased. is)
    by l said (y ∷ front) back = by_flag l said front back (same_kind y.kind k)

-- a rule by the kind of the next word: of such a word's kind it does what it does of a name in quotes, or it takes the word whatever its text
abbrev pub Tells : {A : Type 0} → (WordKind → Parser A) → Type 0
Tells f = (l : Loose) → ((i : List Word) → f word.Quoted i ≡ f (kind_of l) i)
    ⊎ ((said other : List ℕ) (back : List Word) → f (kind_of l) (with_text (kind_of l) other ∷ back) ≡ f (kind_of l) (with_text (kind_of l) said ∷ back))

pub serves_peek : {A : Type 0} (f : WordKind → Parser A) → Tells f → ((k : WordKind) → Serves (f k)) → Serves (peek >>= f)
serves_peek {A = A} f tells each =
    record { at = by }
  where
    kinds : (l : Loose) → ((i : List Word) → f word.Quoted i ≡ f (kind_of l) i) → (unquoted : Bool) (i : List Word) → f (kind_at l unquoted) i ≡ f (kind_of l) i
    kinds l same true i = refl
    kinds l same false i = same i

    first : (l : Loose) (said : List ℕ) (back : List Word) → ((i : List Word) → f word.Quoted i ≡ f (kind_of l) i)
        ⊎ ((said other : List ℕ) (back : List Word) → f (kind_of l) (with_text (kind_of l) other ∷ back) ≡ f (kind_of l) (with_text (kind_of l) said ∷ back))
        → Goes l said back (λ w. f w.kind (w ∷ back))
    first l said back (inl same) =
        alike l said back (λ w. f w.kind (w ∷ back)) (λ w. f (kind_of l) (w ∷ back)) (λ unquoted t. kinds l same unquoted (with_text (kind_at l unquoted) t ∷ back)) ((each (kind_of l)).at l said [] back)
    first l said back (inr takes) = λ r rest is. said_there (λ t cased. takes said t back ∙ is)

    by : (l : Loose) (said : List ℕ) (front back : List Word) → Goes l said back (λ w. (peek >>= f) (front ++ w ∷ back))
    by l said [] back = first l said back (tells l)
    by l said (y ∷ front) back = (each y.kind).at l said (y ∷ front) back

-- lists

serves_more : {A : Type 0} (more : Parser (List A)) → Serves more → (found : Option A) → Serves (and_more found more)
serves_more more is None = serves_pure []
serves_more more is (Some x) = serves_then more _ is (λ xs. serves_pure (x ∷ xs))

pub serves_many_of : {A : Type 0} (item : Parser (Option A)) → Serves item → (n : ℕ) → Serves (many_of item n)
unfolding many_of
serves_many_of item is zero = serves_pure []
serves_many_of item is (suc n) = serves_then item _ is (serves_more (many_of item n) (serves_many_of item is n))

lengths : (front back : List Word) (w v : Word) → length (front ++ w ∷ back) ≡ length (front ++ v ∷ back)
lengths [] back w v = refl
lengths (y ∷ front) back w v = ap suc (lengths front back w v)

pub serves_many : {A : Type 0} (item : Parser (Option A)) → Serves item → Serves (many item)
unfolding many
serves_many item is = record {
  at = λ l said front back.
      alike l said back (λ w. many_of item (length (front ++ w ∷ back)) (front ++ w ∷ back)) (λ w. many_of item (length (front ++ with_text word.Quoted [] ∷ back)) (front ++ w ∷ back))
      (λ unquoted t. ap (λ n. many_of item n (front ++ with_text (kind_at l unquoted) t ∷ back)) (lengths front back (with_text (kind_at l unquoted) t) (with_text word.Quoted [])))
      ((serves_many_of item is (length (front ++ with_text word.Quoted [] ∷ back))).at l said front back);
}

pub serves_led : {A : Type 0} (k : WordKind) → may_be_name k ≡ false → (item : Parser A) → Serves item → Serves (led_by k item)
unfolding led_by
serves_led k reserved item is =
    serves_then (eat k) _ (serves_eat k reserved) (λ led. serves_if led _ _ (serves_then item _ is (λ x. serves_pure (Some x))) (serves_pure None))

pub serves_separated : {A : Type 0} (item : Parser A) → Serves item → Serves (separated item)
unfolding separated
serves_separated item is =
    serves_then item _ is (λ first. serves_then (many (led_by word.Comma item)) _ (serves_many (led_by word.Comma item) (serves_led word.Comma refl item is)) (λ more. serves_pure (first ∷ more)))

pub serves_enclosed : {A : Type 0} (item : Parser A) → Serves item → Serves (enclosed item)
unfolding enclosed
serves_enclosed item is =
    serves_then (expect word.Open) _ (serves_expect word.Open) (λ a. serves_then (separated item) _ (serves_separated item is) (λ found.
    serves_then (expect word.Close) _ (serves_expect word.Close) (λ b. serves_pure found)))

pub serves_ended : {A : Type 0} (it : A) → Serves (ended it)
unfolding ended
serves_ended it = serves_then (eat word.Semicolon) _ (serves_eat word.Semicolon refl) (λ a. serves_then (expect word.End) _ (serves_expect word.End) (λ b. serves_pure it))
