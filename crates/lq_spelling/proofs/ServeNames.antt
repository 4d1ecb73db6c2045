-- Names, literals and kinds: an unquoted word that is not reserved is a name there, or the word of a kind.
use Rattle.std.proofs.Common.{◌≡◌, ℕ, Bool, true, false, if◌then◌else◌, List, [], ◌∷◌, ◌++◌, Some, None, inl, ap, ◌∙◌, sym, refl}
use Rattle.std.specs.Map.{lookup}
use Rattle.std.specs.Prelude.{◌==◌, ◌&&◌, ◌||◌, codes}
use Rattle.std.specs.Str.{bytes_eq, str_eq_ignore_ascii_case, str_to_ascii_lowercase}
use Rattle.std.proofs.lemmas.Slice.Eq.{bytes_eq-Decides}
use Rattle.lq_base.specs.Kind.{decimal_kind, is_kind, kind_words, plain_kind, plain_number, sized_kind}
use Rattle.lq_base.specs.declared.dialect.Dialect.TheVariants.{Mysql, Postgresql}
use Rattle.lq_base.specs.declared.dialect.Dialect.{Dialect}
use Rattle.lq_base.specs.declared.kind.Kind.{Kind}
use Rattle.lq_base.specs.declared.kind.Kind.TheVariants.{Decimal, Moment, Varchar}
use Rattle.lq_base.specs.declared.literal.Literal.TheVariants as constant
use Rattle.lq_model.specs.SqlParser.{Outcome, Parser, ◌>>=◌, and_then, eat, expect, given, refuse, same_kind, skip, taken}
use Rattle.lq_model.specs.SqlPart.{column_kind, decimal_with, kind_number, kind_with, literal, literal_by, name, name_of, number, object, qualified, sized_with}
use Rattle.lq_model.specs.SqlWord.{may_be_name}
use Rattle.lq_model.specs.declared.word.Word.{Word}
use Rattle.lq_model.specs.declared.word.WordKind.{WordKind}
use Rattle.lq_model.specs.declared.word.WordKind.TheVariants as word
use Rattle.lq_spelling.proofs.ServeKinds as loose
use Rattle.lq_spelling.proofs.ServeKinds.{Loose, apart, kind_of, name_at}
use Rattle.lq_spelling.proofs.ServeParts.{Goes, Serves, Tells, said_there, serves_eat, serves_expect, serves_given, serves_if, serves_peek, serves_pure, serves_refuse, serves_skip, serves_taken, serves_then}

pub serves_name : Serves name
unfolding name
serves_name =
    serves_peek _ (λ l. inl (λ i. ap (λ can. (if can then taken >>= (λ it. given (name_of it)) else refuse) i) (sym (name_at l true))))
    (λ k. serves_if (may_be_name k) _ _ (serves_then taken _ serves_taken (λ it. serves_given (name_of it))) serves_refuse)

pub serves_object : (d : Dialect) → Serves (object d)
unfolding object
serves_object Mysql = serves_name
serves_object Postgresql =
    serves_then name _ serves_name (λ first. serves_then (eat word.Dot) _ (serves_eat word.Dot refl) (λ more.
    serves_if more _ _ (serves_then name _ serves_name (λ text. serves_given (qualified first text))) (serves_pure first)))

pub serves_literal : Serves literal
unfolding literal
serves_literal =
    serves_peek literal_by tells by
  where
    tells : Tells literal_by
    tells loose.Plain = inl (λ i. refl)
    tells _ = inl (λ i. refl)

    by : (k : WordKind) → Serves (literal_by k)
    by word.Null = serves_then skip _ serves_skip (λ it. serves_pure constant.Null)
    by word.True = serves_then skip _ serves_skip (λ it. serves_pure (constant.Bool true))
    by word.False = serves_then skip _ serves_skip (λ it. serves_pure (constant.Bool false))
    by word.Text = serves_then taken _ serves_taken (λ it. serves_pure (constant.Text it))
    by word.Number = serves_then taken _ serves_taken (λ it. serves_given (number it))
    by _ = serves_refuse

-- kinds

serves_kind_number : Serves kind_number
unfolding kind_number
serves_kind_number =
    serves_peek _ (λ l. inl (λ i. ap (λ is. (if is then taken >>= (λ it. given (plain_number it)) else refuse) i) (apart l false word.Number refl ∙ sym (apart l true word.Number refl))))
    (λ k. serves_if (same_kind k word.Number) _ _ (serves_then taken _ serves_taken (λ it. serves_given (plain_number it))) serves_refuse)

serves_kind_with : (said : List ℕ) → Serves (kind_with said)
unfolding kind_with decimal_with sized_with
serves_kind_with said =
    serves_then kind_number _ serves_kind_number (λ first. serves_then (eat word.Comma) _ (serves_eat word.Comma refl) (λ more. serves_if more _ _
    (serves_then kind_number _ serves_kind_number (λ second. serves_then (expect word.Close) _ (serves_expect word.Close) (λ a. serves_given (decimal_kind said first second))))
    (serves_then (expect word.Close) _ (serves_expect word.Close) (λ a. serves_given (sized_kind said first)))))

-- the word of a kind is read alike in any case

small : (a b : List ℕ) → str_eq_ignore_ascii_case a b ≡ true → str_to_ascii_lowercase a ≡ str_to_ascii_lowercase b
small a b same = (bytes_eq-Decides (str_to_ascii_lowercase a) (str_to_ascii_lowercase b)).0 same

plain_same : (a b : List ℕ) → str_to_ascii_lowercase a ≡ str_to_ascii_lowercase b → plain_kind a ≡ plain_kind b
unfolding plain_kind
plain_same a b same = ap (λ low. lookup (λ known. bytes_eq low (str_to_ascii_lowercase known)) kind_words) same

sized_same : (a b : List ℕ) (n : ℕ) → str_to_ascii_lowercase a ≡ str_to_ascii_lowercase b → sized_kind a n ≡ sized_kind b n
unfolding sized_kind
sized_same a b n same =
    ap (λ low. if bytes_eq low (str_to_ascii_lowercase (codes "varchar")) then (if is_kind (Varchar n) then Some (Varchar n) else None)
    else (if bytes_eq low (str_to_ascii_lowercase (codes "datetime")) && n == 3 then Some Moment else None)) same

decimal_same : (a b : List ℕ) (n m : ℕ) → str_to_ascii_lowercase a ≡ str_to_ascii_lowercase b → decimal_kind a n m ≡ decimal_kind b n m
unfolding decimal_kind
decimal_same a b n m same =
    ap (λ low. if (bytes_eq low (str_to_ascii_lowercase (codes "decimal")) || bytes_eq low (str_to_ascii_lowercase (codes "numeric"))) && is_kind (Decimal n m)
    then Some (Decimal n m) else None) same

-- parsers that give the same of all words

same_then : {A B : Type 0} (p : Parser A) (f g : A → Parser B) → ((x : A) (i : List Word) → f x i ≡ g x i) → (i : List Word) → (p >>= f) i ≡ (p >>= g) i
same_then {A = A} p f g same i =
    by (p i)
  where
    by : (o : Outcome A) → and_then o f ≡ and_then o g
    by None = refl
    by (Some found) = same found.0 found.1

same_if : {A : Type 0} (b : Bool) (p q r s : Parser A) → ((i : List Word) → p i ≡ r i) → ((i : List Word) → q i ≡ s i) → (i : List Word) → (if b then p else q) i ≡ (if b then r else s) i
same_if true p q r s first second = first
same_if false p q r s first second = second

kinds_same : (a b : List ℕ) → str_to_ascii_lowercase a ≡ str_to_ascii_lowercase b → (i : List Word) → kind_with a i ≡ kind_with b i
unfolding kind_with decimal_with sized_with
kinds_same a b same =
    same_then kind_number _ _ (λ first. same_then (eat word.Comma) _ _ (λ more. same_if more _ _ _ _
    (same_then kind_number _ _ (λ second. same_then (expect word.Close) _ _ (λ x i. ap (λ it. given it i) (decimal_same a b first second same))))
    (same_then (expect word.Close) _ _ (λ x i. ap (λ it. given it i) (sized_same a b first same)))))

-- behind the word of a kind
abbrev behind : WordKind → List ℕ → Parser Kind
behind k said = eat word.Open >>= (λ sized. if same_kind k word.Plain then (if sized then kind_with said else given (plain_kind said)) else refuse)

serves_behind : (k : WordKind) (said : List ℕ) → Serves (behind k said)
serves_behind k said =
    serves_then (eat word.Open) _ (serves_eat word.Open refl) (λ sized. serves_if (same_kind k word.Plain) _ _
    (serves_if sized _ _ (serves_kind_with said) (serves_given (plain_kind said))) serves_refuse)

behind_same : (k : WordKind) (a b : List ℕ) → str_to_ascii_lowercase a ≡ str_to_ascii_lowercase b → (i : List Word) → behind k a i ≡ behind k b i
behind_same k a b same =
    same_then (eat word.Open) _ _ (λ sized. same_if (same_kind k word.Plain) _ (refuse {A = Kind}) _ (refuse {A = Kind})
    (same_if sized _ _ _ _ (kinds_same a b same) (λ i. ap (λ it. given it i) (plain_same a b same))) (λ i. refl))

pub serves_kind : Serves column_kind
unfolding column_kind
serves_kind =
    record { at = by }
  where
    by : (l : Loose) (said : List ℕ) (front back : List Word) → Goes l said back (λ w. column_kind (front ++ w ∷ back))
    by l said [] back = λ r rest is. said_there (λ t cased. sym (behind_same (kind_of l) said t (small said t cased) back) ∙ is)
    by l said (y ∷ front) back = (serves_behind y.kind y.text).at l said front back
