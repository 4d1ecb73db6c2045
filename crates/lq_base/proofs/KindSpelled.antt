-- The kind that is read is the one that the text names.
use Rattle.std.proofs.Common.{◌≡◌, ◌↔◌, inl, inr, ℕ, ◌-◌, ◌^◌, ◌<◌, Bool, true, false, cond, ◌&&◌, ◌||◌, ltb, leb, eqb, List, [], ◌∷◌, ◌++◌, length, take, get_or, map, codes, Option, Some, None, option_and_then, refl, ap, ◌∙◌, sym, subst, append_assoc, append-nil, bytes_eq, arith, rules, tests, true≢false}
use Rattle.std.specs.Char.{is_ascii_digit, to_ascii_lowercase}
use Rattle.std.specs.Fmt.{decimal}
use Rattle.std.specs.List.{list_all, list_any, before_first, after_first}
use Rattle.std.specs.Map.{lookup}
use Rattle.std.specs.Str.{str_eq_ignore_ascii_case, str_to_ascii_lowercase}
use Rattle.std.proofs.lemmas.Bool.{and_parts, and_from, or_left, or_right, or_from, or_parts, eqb-true, eq-eqb, leb-true, ltb-true, cond-true, cond-false}
use Rattle.std.proofs.lemmas.Option.{cond_some, option_and_then_some, same_Some, none-some}
use Rattle.std.proofs.lemmas.Slice.Eq.{bytes_eq-Decides}
use Rattle.std.proofs.lemmas.Fmt.{decimal_digit}
use Rattle.lq_base.specs.declared.dialect.Dialect.{Dialect}
use Rattle.lq_base.specs.declared.dialect.Dialect.TheVariants.{Postgresql, Mysql}
use Rattle.lq_base.specs.declared.kind.Kind.{Kind}
use Rattle.lq_base.specs.declared.kind.Kind.TheVariants.{Int, BigInt, Boolean, Varchar, Text, Moment, Decimal}
use Rattle.lq_base.specs.Kind.{is_kind, kind_words, plain_kind, sized_kind, decimal_kind, is_blank, is_comma, is_open, spaced_number, kind_with, kind_after_open, kind_of, kind_text}
use Rattle.lq_base.specs.Spells.{is_word_of, IsSpaced, IsSized, IsSizedTwice, NamesKind}
use Rattle.lq_base.proofs.NumberLemmas.{both_some}
use Rattle.lq_base.proofs.ReadLemmas.{read_is_steps}
use Rattle.lq_base.proofs.SplitLemmas.{Lacks, place, lacks_from_all, lacks-append, split_none, split_place, at_split, at_last, last_is}
use Rattle.lq_base.proofs.SpacedLemmas.{decimal_digits, spaced_number-from, spaced_number-gives}

-- what is said of a text without regard to case holds of each word that it is

same_word : (a b : List ℕ) → str_eq_ignore_ascii_case a b ≡ true → str_to_ascii_lowercase a ≡ str_to_ascii_lowercase b
same_word a b e = search (rules, bytes_eq-Decides)

abbrev OfEach : (List ℕ → Type 0) → List (List ℕ) → Type 0
OfEach P [] = Unit {0}
OfEach P (w ∷ words) = P (str_to_ascii_lowercase w) × OfEach P words

word_cases : (P : List ℕ → Type 0) (words : List (List ℕ)) (text : List ℕ) → is_word_of words text ≡ true → OfEach P words → P (str_to_ascii_lowercase text)
word_cases P [] text e h = absurd (search (rules, tests))
word_cases P (w ∷ words) text e h = by (word_cases P words text) (str_eq_ignore_ascii_case text w) refl e
  where
    by : (is_word_of words text ≡ true → OfEach P words → P (str_to_ascii_lowercase text)) → (is : Bool) → str_eq_ignore_ascii_case text w ≡ is → (is || is_word_of words text) ≡ true → P (str_to_ascii_lowercase text)
    by more true f e = subst P (sym (same_word text w f)) h.0
    by more false f e = more e h.1

-- a byte that is no letter stands in a text where it does in the small letters
lacks_small : (c : ℕ) → to_ascii_lowercase c ≡ c → (text : List ℕ) → Lacks c (str_to_ascii_lowercase text) → Lacks c text
lacks_small c same [] h = refl
lacks_small c same (x ∷ xs) h =
    let parts = or_parts (eqb (to_ascii_lowercase x) c) (list_any (λ b. eqb b c) (map to_ascii_lowercase xs)) h in
    or_from (eqb x c) (list_any (λ b. eqb b c) xs) (by (eqb x c) refl parts.0) (lacks_small c same xs parts.1)
  where
    by : (is : Bool) → eqb x c ≡ is → eqb (to_ascii_lowercase x) c ≡ false → is ≡ false
    by true e f = absurd (true≢false (sym (eq-eqb _ _ (ap to_ascii_lowercase (eqb-true x c e) ∙ same)) ∙ f))
    by false e f = refl

word_lacks : (c : ℕ) → to_ascii_lowercase c ≡ c → (words : List (List ℕ)) (text : List ℕ) → is_word_of words text ≡ true → OfEach (Lacks c) words → Lacks c text
word_lacks c same words text e h = lacks_small c same text (word_cases (Lacks c) words text e h)

-- a text without `(` names what its word names
plain_named : (text : List ℕ) (words : List (List ℕ)) (kind : Kind) → is_word_of words text ≡ true → OfEach (Lacks 40) words → OfEach (λ small. lookup (λ w. bytes_eq small (str_to_ascii_lowercase w)) kind_words ≡ Some kind) words → kind_of text ≡ Some kind
unfolding kind_of plain_kind
plain_named text words kind e lacks found =
    cond-false _ _ _ (split_none 40 text (word_lacks 40 refl words text e lacks))
    ∙ word_cases (λ small. lookup (λ w. bytes_eq small (str_to_ascii_lowercase w)) kind_words ≡ Some kind) words text e found

spaced_lacks : (c : ℕ) → is_blank c ≡ false → is_ascii_digit c ≡ false → (text : List ℕ) (n : ℕ) → n < 2 ^ 64 → IsSpaced text n → Lacks c text
spaced_lacks c no_blank no_digit text n small h =
    ap (λ t. list_any (λ b. eqb b c) t) h.is
    ∙ lacks-append c (h.before ++ decimal n) h.after
    (lacks-append c h.before (decimal n) (lacks_from_all is_blank c no_blank h.before h.blanks.0) (lacks_from_all is_ascii_digit c no_digit (decimal n) (and_parts (ltb 0 (length (decimal n))) (list_all is_ascii_digit (decimal n)) (decimal_digits n small)).1))
    (lacks_from_all is_blank c no_blank h.after h.blanks.1)

-- what stands in parentheses after a word
opened : (word inside : List ℕ) → Lacks 40 word → kind_of (word ++ 40 ∷ (inside ++ 41 ∷ [])) ≡ kind_with word inside
unfolding kind_of
opened word inside lacks =
    at_split kind_after_open (plain_kind (word ++ 40 ∷ (inside ++ 41 ∷ []))) 40 word (inside ++ 41 ∷ []) lacks
    ∙ at_last (kind_with word) None 41 inside

one_number : (word inside : List ℕ) (n : ℕ) → n < 2 ^ 64 → IsSpaced inside n → kind_with word inside ≡ sized_kind word n
one_number word inside n small h =
    cond-false _ _ _ (split_none 44 inside (spaced_lacks 44 refl refl inside n small h))
    ∙ ap (option_and_then (sized_kind word)) (spaced_number-from inside n small h)

abbrev two_spaced : List ℕ → List ℕ → List ℕ → Option Kind
two_spaced word first second = option_and_then (λ digits. option_and_then (decimal_kind word digits) (spaced_number second)) (spaced_number first)

two_numbers : (word first second : List ℕ) (n m : ℕ) → n < 2 ^ 64 → m < 2 ^ 64 → IsSpaced first n → IsSpaced second m → kind_with word (first ++ 44 ∷ second) ≡ decimal_kind word n m
two_numbers word first second n m few fewer h k =
    at_split (two_spaced word) (option_and_then (sized_kind word) (spaced_number (first ++ 44 ∷ second))) 44 first second (spaced_lacks 44 refl refl first n few h)
    ∙ ap (option_and_then (λ digits. option_and_then (decimal_kind word digits) (spaced_number second))) (spaced_number-from first n few h)
    ∙ ap (option_and_then (decimal_kind word n)) (spaced_number-from second m fewer k)

sized_named : (words : List (List ℕ)) (text : List ℕ) (n : ℕ) (kind : Kind) → n < 2 ^ 64 → OfEach (Lacks 40) words → ((word : List ℕ) → is_word_of words word ≡ true → sized_kind word n ≡ Some kind) → IsSized words text n → kind_of text ≡ Some kind
sized_named words text n kind small lacks named h =
    ap kind_of (h.is ∙ append_assoc h.word (40 ∷ h.inside) (41 ∷ []))
    ∙ opened h.word h.inside (word_lacks 40 refl words h.word h.is_word lacks)
    ∙ one_number h.word h.inside n small h.number
    ∙ named h.word h.is_word

decimal_named : (words : List (List ℕ)) (text : List ℕ) (n m : ℕ) (kind : Kind) → n < 2 ^ 64 → m < 2 ^ 64 → OfEach (Lacks 40) words → ((word : List ℕ) → is_word_of words word ≡ true → decimal_kind word n m ≡ Some kind) → IsSizedTwice words text n m → kind_of text ≡ Some kind
decimal_named words text n m kind few fewer lacks named h =
    ap kind_of (h.is ∙ ap (λ t. t ++ 41 ∷ []) (append_assoc h.word (40 ∷ h.first) (44 ∷ h.second)) ∙ append_assoc h.word (40 ∷ (h.first ++ 44 ∷ h.second)) (41 ∷ []))
    ∙ opened h.word (h.first ++ 44 ∷ h.second) (word_lacks 40 refl words h.word h.is_word lacks)
    ∙ two_numbers h.word h.first h.second n m few fewer h.numbers.0 h.numbers.1
    ∙ named h.word h.is_word

varchar_word : (most : ℕ) → is_kind (Varchar most) ≡ true → (word : List ℕ) → is_word_of (codes "varchar" ∷ []) word ≡ true → sized_kind word most ≡ Some (Varchar most)
unfolding sized_kind
varchar_word most fits word e =
    cond-true _ _ _ (word_cases (λ small. bytes_eq small (str_to_ascii_lowercase (codes "varchar")) ≡ true) (codes "varchar" ∷ []) word e (refl, tt))
    ∙ cond-true _ _ _ fits

datetime_word : (word : List ℕ) → is_word_of (codes "datetime" ∷ []) word ≡ true → sized_kind word 3 ≡ Some Moment
unfolding sized_kind
datetime_word word e =
    cond-false _ _ _ (word_cases (λ small. bytes_eq small (str_to_ascii_lowercase (codes "varchar")) ≡ false) (codes "datetime" ∷ []) word e (refl, tt))
    ∙ cond-true _ _ _ (and_from _ true (word_cases (λ small. bytes_eq small (str_to_ascii_lowercase (codes "datetime")) ≡ true) (codes "datetime" ∷ []) word e (refl, tt)) refl)

decimal_word : (n m : ℕ) → is_kind (Decimal n m) ≡ true → (word : List ℕ) → is_word_of (codes "decimal" ∷ codes "numeric" ∷ []) word ≡ true → decimal_kind word n m ≡ Some (Decimal n m)
unfolding decimal_kind
decimal_word n m fits word e =
    cond-true _ _ _ (and_from _ (is_kind (Decimal n m)) (word_cases (λ small. (bytes_eq small (str_to_ascii_lowercase (codes "decimal")) || bytes_eq small (str_to_ascii_lowercase (codes "numeric"))) ≡ true) (codes "decimal" ∷ codes "numeric" ∷ []) word e (refl, (refl, tt))) fits)

varchar_small : (most : ℕ) → is_kind (Varchar most) ≡ true → most < 2 ^ 64
varchar_small most h = omega (arith, leb-true _ _ (and_parts (leb 1 most) (leb most 10_000) h).1)

decimal_small : (n m : ℕ) → is_kind (Decimal n m) ≡ true → (n < 2 ^ 64) × (m < 2 ^ 64)
decimal_small n m h =
    let parts = and_parts (leb 1 n && leb n 38) (leb m n) h in
    let most = leb-true _ _ (and_parts (leb 1 n) (leb n 38) parts.0).1 in
    let less = leb-true _ _ parts.1 in
    (omega (arith, most), omega (arith, most, less))

pub names-kind_of : (text : List ℕ) (kind : Kind) → NamesKind text kind → kind_of text ≡ Some kind
names-kind_of text Int h = plain_named text (codes "int" ∷ codes "integer" ∷ []) Int h (refl, (refl, tt)) (refl, (refl, tt))
names-kind_of text BigInt h = plain_named text (codes "bigint" ∷ []) BigInt h (refl, tt) (refl, tt)
names-kind_of text Boolean h = plain_named text (codes "boolean" ∷ codes "bool" ∷ []) Boolean h (refl, (refl, tt)) (refl, (refl, tt))
names-kind_of text Text h = plain_named text (codes "text" ∷ codes "clob" ∷ []) Text h (refl, (refl, tt)) (refl, (refl, tt))
names-kind_of text (Varchar most) h = sized_named (codes "varchar" ∷ []) text most (Varchar most) (varchar_small most h.0) (refl, tt) (varchar_word most h.0) h.1
names-kind_of text (Decimal n m) h = let few = decimal_small n m h.0 in decimal_named (codes "decimal" ∷ codes "numeric" ∷ []) text n m (Decimal n m) few.0 few.1 (refl, (refl, tt)) (decimal_word n m h.0) h.1
names-kind_of text Moment (inl h) = plain_named text (codes "timestamp" ∷ codes "datetime" ∷ []) Moment h (refl, (refl, tt)) (refl, (refl, tt))
names-kind_of text Moment (inr h) = sized_named (codes "datetime" ∷ []) text 3 Moment (omega arith) (refl, tt) datetime_word h

-- from what is read to what the text is made of

either : (a b : Bool) → (a || b) ≡ true → (a || (b || false)) ≡ true
either true b e = refl
either false true e = refl
either false false e = e

abbrev EachNames : List ℕ → List (List ℕ × Kind) → Type 0
EachNames text [] = Unit {0}
EachNames text (e ∷ es) = (str_eq_ignore_ascii_case text e.0 ≡ true → NamesKind text e.1) × EachNames text es

found-names : (text : List ℕ) (kind : Kind) (es : List (List ℕ × Kind)) → EachNames text es → lookup (str_eq_ignore_ascii_case text) es ≡ Some kind → NamesKind text kind
found-names text kind [] h e = absurd (none-some kind e)
found-names text kind (entry ∷ es) h e = by (found-names text kind es h.1) (str_eq_ignore_ascii_case text entry.0) refl e
  where
    by : (lookup (str_eq_ignore_ascii_case text) es ≡ Some kind → NamesKind text kind) → (is : Bool) → str_eq_ignore_ascii_case text entry.0 ≡ is → cond is (Some entry.1) (lookup (str_eq_ignore_ascii_case text) es) ≡ Some kind → NamesKind text kind
    by more true f e = subst (NamesKind text) (same_Some _ _ e) (h.0 f)
    by more false f e = more e

plain-names : (text : List ℕ) (kind : Kind) → plain_kind text ≡ Some kind → NamesKind text kind
unfolding plain_kind
plain-names text kind e =
    found-names text kind kind_words (
      λ h. or_left _ _ h,
      (
        λ h. or_right _ _ (or_left _ _ h),
        (
          λ h. or_left _ _ h,
          (
            λ h. or_left _ _ h,
            (
              λ h. or_right _ _ (or_left _ _ h),
              (λ h. or_left _ _ h, (λ h. or_right _ _ (or_left _ _ h), (λ h. inl (or_left _ _ h), (λ h. inl (or_right _ _ (or_left _ _ h)), tt)))),
            ),
          ),
        ),
      ),
    )
    e

sized-names : (text word inside : List ℕ) (n : ℕ) (kind : Kind) → text ≡ word ++ 40 ∷ (inside ++ 41 ∷ []) → spaced_number inside ≡ Some n → sized_kind word n ≡ Some kind → NamesKind text kind
unfolding sized_kind
sized-names text word inside n kind is number = by (str_eq_ignore_ascii_case word (codes "varchar")) refl
  where
    by : (is : Bool) → str_eq_ignore_ascii_case word (codes "varchar") ≡ is → cond is (cond (is_kind (Varchar n)) (Some (Varchar n)) None) (cond (str_eq_ignore_ascii_case word (codes "datetime") && eqb n 3) (Some Moment) None) ≡ Some kind → NamesKind text kind
    by true f e =
        let parts = cond_some (is_kind (Varchar n)) (Varchar n) kind e in
        subst (NamesKind text) parts.1 (parts.0, record { word = word; inside = inside; is = is ∙ sym (append_assoc word (40 ∷ inside) (41 ∷ [])); is_word = or_left _ _ f; number = spaced_number-gives inside n (varchar_small n parts.0) number })
    by false f e =
        let parts = cond_some (str_eq_ignore_ascii_case word (codes "datetime") && eqb n 3) Moment kind e in
        let both = and_parts (str_eq_ignore_ascii_case word (codes "datetime")) (eqb n 3) parts.0 in
        let three : spaced_number inside ≡ Some 3 = number ∙ ap Some (eqb-true n 3 both.1) in
        subst (NamesKind text) parts.1 (inr (record { word = word; inside = inside; is = is ∙ sym (append_assoc word (40 ∷ inside) (41 ∷ [])); is_word = or_left _ _ both.0; number = spaced_number-gives inside 3 (omega arith) three }))

decimal-names : (text word first second : List ℕ) (n m : ℕ) (kind : Kind) → text ≡ word ++ 40 ∷ ((first ++ 44 ∷ second) ++ 41 ∷ []) → spaced_number first ≡ Some n → spaced_number second ≡ Some m → decimal_kind word n m ≡ Some kind → NamesKind text kind
unfolding decimal_kind
decimal-names text word first second n m kind is one two e =
    let parts = cond_some ((str_eq_ignore_ascii_case word (codes "decimal") || str_eq_ignore_ascii_case word (codes "numeric")) && is_kind (Decimal n m)) (Decimal n m) kind e in
    let both = and_parts (str_eq_ignore_ascii_case word (codes "decimal") || str_eq_ignore_ascii_case word (codes "numeric")) (is_kind (Decimal n m)) parts.0 in
    let few = decimal_small n m both.1 in
    subst (NamesKind text) parts.1 (
      both.1,
      record {
        word = word;
        first = first;
        second = second;
        is = is ∙ sym (append_assoc word (40 ∷ (first ++ 44 ∷ second)) (41 ∷ [])) ∙ ap (λ t. t ++ 41 ∷ []) (sym (append_assoc word (40 ∷ first) (44 ∷ second)));
        is_word = either _ _ both.0;
        numbers = (spaced_number-gives first n few.0 one, spaced_number-gives second m few.1 two);
      },
    )

with-names : (text word inside : List ℕ) (kind : Kind) → text ≡ word ++ 40 ∷ (inside ++ 41 ∷ []) → kind_with word inside ≡ Some kind → NamesKind text kind
with-names text word inside kind is = by (ltb (place 44 inside) (length inside)) refl
  where
    by : (comma : Bool) → ltb (place 44 inside) (length inside) ≡ comma → cond comma (two_spaced word (before_first is_comma inside) (after_first is_comma inside)) (option_and_then (sized_kind word) (spaced_number inside)) ≡ Some kind → NamesKind text kind
    by true f e =
        option_and_then_some (λ digits. option_and_then (decimal_kind word digits) (spaced_number (after_first is_comma inside))) (spaced_number (before_first is_comma inside)) kind e
        (λ n one more. option_and_then_some (decimal_kind word n) (spaced_number (after_first is_comma inside)) kind more
        (λ m two last. decimal-names text word (before_first is_comma inside) (after_first is_comma inside) n m kind (is ∙ ap (λ t. word ++ 40 ∷ (t ++ 41 ∷ [])) (split_place 44 inside (ltb-true _ _ f))) one two last))
    by false f e = option_and_then_some (sized_kind word) (spaced_number inside) kind e (λ n number last. sized-names text word inside n kind is number last)

after_open-names : (text word rest : List ℕ) (kind : Kind) → text ≡ word ++ 40 ∷ rest → kind_after_open word rest ≡ Some kind → NamesKind text kind
after_open-names text word rest kind is e =
    let parts = both_some (eqb (get_or rest (length rest - 1) 0) 41) (kind_with word (take (length rest - 1) rest)) kind e in
    with-names text word (take (length rest - 1) rest) kind (is ∙ ap (λ r. word ++ 40 ∷ r) (last_is 41 rest (omega arith) (eqb-true _ _ parts.0))) parts.1

pub kind_of-names : (text : List ℕ) (kind : Kind) → kind_of text ≡ Some kind → NamesKind text kind
unfolding kind_of
kind_of-names text kind = by (ltb (place 40 text) (length text)) refl
  where
    by : (found : Bool) → ltb (place 40 text) (length text) ≡ found → cond found (kind_after_open (before_first is_open text) (after_first is_open text)) (plain_kind text) ≡ Some kind → NamesKind text kind
    by true f e = after_open-names text (before_first is_open text) (after_first is_open text) kind (split_place 40 text (ltb-true _ _ f)) e
    by false f e = plain-names text kind e

-- a kind's spelling

alone : (n : ℕ) → IsSpaced (decimal n) n
alone n = record { before = []; after = []; is = sym (append-nil (decimal n)); blanks = (refl, refl) }

after_blank : (n : ℕ) → IsSpaced (32 ∷ decimal n) n
after_blank n = record { before = 32 ∷ []; after = []; is = ap (λ t. 32 ∷ t) (sym (append-nil (decimal n))); blanks = (refl, refl) }

pub kind_text-names : (dialect : Dialect) (kind : Kind) → is_kind kind ≡ true → NamesKind (kind_text dialect kind) kind
kind_text-names Postgresql Int h = refl
kind_text-names Mysql Int h = refl
kind_text-names dialect BigInt h = refl
kind_text-names dialect Boolean h = refl
kind_text-names dialect (Varchar most) h = (h, record { word = codes "VARCHAR"; inside = decimal most; is = refl; is_word = refl; number = alone most })
kind_text-names dialect Text h = refl
kind_text-names Postgresql Moment h = inl refl
kind_text-names Mysql Moment h = inr (record { word = codes "DATETIME"; inside = codes "3"; is = refl; is_word = refl; number = record { before = []; after = []; is = three; blanks = (refl, refl) } })
  where
    three : codes "3" ≡ [] ++ decimal 3 ++ []
    three = sym (append-nil (decimal 3) ∙ decimal_digit 3 (omega arith))
kind_text-names dialect (Decimal n m) h = (h, record { word = codes "DECIMAL"; first = decimal n; second = 32 ∷ decimal m; is = ap (λ t. t ++ 41 ∷ []) (append_assoc (codes "DECIMAL(" ++ decimal n) (codes ", ") (decimal m)); is_word = refl; numbers = (alone n, after_blank m) })

-- an answer that is the kind which the text names is what the steps give
pub read_is_kind_of : (text : List ℕ) (answer : Option Kind) → ((kind : Kind) → (answer ≡ Some kind) ↔ NamesKind text kind) → answer ≡ kind_of text
read_is_kind_of text = read_is_steps (NamesKind text) (kind_of text) (kind_of-names text) (names-kind_of text)
