-- Lists with commas: their canonical words, and that they are read from them.
use Rattle.std.proofs.Common.{◌≡◌, ◌≤◌, ℕ, zero, suc, true, false, List, [], ◌∷◌, ◌++◌, length, map, Option, Some, None, option_map, ap, ◌∙◌, refl, arith}
use Rattle.std.specs.Prelude.{codes}
use Rattle.lq_base.specs.Sql.{length_at}
use Rattle.lq_base.specs.declared.dialect.Dialect.{Dialect}
use Rattle.lq_base.specs.declared.dialect.Dialect.TheVariants.{Postgresql, Mysql}
use Rattle.lq_model.specs.TestText as text
use Rattle.lq_model.specs.SqlParser.{Parser, led_by, many, many_of, same_kind, sees, separated}
use Rattle.lq_model.specs.SqlWord.{bare, kind_of_word, words}
use Rattle.lq_model.specs.TestText.{after_commas, listed}
use Rattle.lq_model.specs.declared.phrase.Phrase.TheVariants as phrase
use Rattle.lq_model.specs.declared.word.Word.{Word}
use Rattle.lq_model.specs.declared.word.WordKind.TheVariants as word
use Rattle.lq_parse.proofs.Bytes.{Stops}
use Rattle.lq_parse.proofs.Chains.{led_next, led_none, many_end, many_next}
use Rattle.lq_parse.proofs.Fronts.{Says, blank_says, mark_says}
use Rattle.lq_parse.proofs.Spoken.{Below, then}

-- the words of further items, with a comma before each
abbrev pub tail_words : {A : Type 0} → (A → List Word → List Word) → List A → List Word → List Word
tail_words w [] rest = rest
tail_words w (x ∷ xs) rest = bare word.Comma ∷ w x (tail_words w xs rest)

abbrev pub EachItem : {A : Type 0} → (A → Type 0) → List A → Type 0
EachItem P [] = Unit {0}
EachItem P (x ∷ xs) = P x × EachItem P xs

-- what is written of an item is read again, whatever follows
pub record IsAgain {A : Type 0} (P : A → Type 0) (p : Parser A) (w : A → List Word → List Word) : Type 0 where
  pub read : (x : A) (rest : List Word) → P x → p (w x rest) ≡ Some (x, rest)
  pub long : (x : A) (rest : List Word) → suc (length rest) ≤ length (w x rest)

-- the same where only some words may come behind an item
pub record IsAgainBefore {A : Type 0} (Ends : List Word → Type 0) (P : A → Type 0) (p : Parser A) (w : A → List Word → List Word) : Type 0 where
  pub read : (x : A) (rest : List Word) → P x → Ends rest → p (w x rest) ≡ Some (x, rest)
  pub long : (x : A) (rest : List Word) → suc (length rest) ≤ length (w x rest)
  pub comma : (rest : List Word) → Ends (bare word.Comma ∷ rest)

comma_here : (rest : List Word) → sees word.Comma (bare word.Comma ∷ rest) ≡ true
unfolding sees same_kind
comma_here rest = refl

module _ {A : Type 0} (Ends : List Word → Type 0) (P : A → Type 0) (p : Parser A) (w : A → List Word → List Word) (it : IsAgainBefore Ends P p w) where
  tail_ends : (xs : List A) (rest : List Word) → Ends rest → Ends (tail_words w xs rest)
  tail_ends [] rest end = end
  tail_ends (x ∷ xs) rest end = it.comma (w x (tail_words w xs rest))

  tail_again : (xs : List A) (n : ℕ) (rest : List Word) → EachItem P xs → length xs ≤ n → Ends rest → sees word.Comma rest ≡ false → many_of (led_by word.Comma p) n (tail_words w xs rest) ≡ Some (xs, rest)
  tail_again [] n rest each enough end last = many_end (led_by word.Comma p) n rest (led_none word.Comma p rest last)
  tail_again (x ∷ xs) zero rest each enough end last = absurd (omega arith)
  tail_again (x ∷ xs) (suc n) rest each enough end last =
      let more = tail_words w xs rest in
      many_next (led_by word.Comma p) n x xs _ more rest
      (led_next word.Comma p (bare word.Comma) x (w x more) more (comma_here (w x more)) (it.read x more each.0 (tail_ends xs rest end)))
      (tail_again xs n rest each.1 (omega arith) end last)

  tail_long : (xs : List A) (rest : List Word) → length xs ≤ length (tail_words w xs rest)
  tail_long [] rest = omega arith
  tail_long (x ∷ xs) rest = omega (arith, it.long x (tail_words w xs rest), tail_long xs rest)

  pub separated_before : (x : A) (xs : List A) (rest : List Word) → P x → EachItem P xs → Ends rest → sees word.Comma rest ≡ false → separated p (w x (tail_words w xs rest)) ≡ Some (x ∷ xs, rest)
  unfolding separated many
  separated_before x xs rest one each end last =
      rw (it.read x (tail_words w xs rest) one (tail_ends xs rest end), tail_again xs (length (tail_words w xs rest)) rest each (tail_long xs rest) end last) refl

pub separated_again : {A : Type 0} (P : A → Type 0) (p : Parser A) (w : A → List Word → List Word) (it : IsAgain P p w) (x : A) (xs : List A) (rest : List Word)
    → P x → EachItem P xs → sees word.Comma rest ≡ false → separated p (w x (tail_words w xs rest)) ≡ Some (x ∷ xs, rest)
separated_again P p w it x xs rest one each end =
    separated_before (λ more. Unit {0}) P p w (record { read = λ y more is any. it.read y more is; long = it.long; comma = λ more. tt }) x xs rest one each tt end

-- the canonical text of a list has these words

pub comma_says : Below → (d : Dialect) (rest : List ℕ) → Says d (text.words phrase.Comma) (λ ws. bare word.Comma ∷ ws) rest
unfolding text.words length_at kind_of_word
comma_says below Postgresql rest = mark_says below.go_on Postgresql (codes ",") (32 ∷ rest) word.Comma (omega arith) refl refl refl ∙ ap (option_map (λ ws. bare word.Comma ∷ ws)) (blank_says below.go_on Postgresql rest)
comma_says below Mysql rest = mark_says below.go_on Mysql (codes ",") (32 ∷ rest) word.Comma (omega arith) refl refl refl ∙ ap (option_map (λ ws. bare word.Comma ∷ ws)) (blank_says below.go_on Mysql rest)

abbrev pub ItemSays : Dialect → {A : Type 0} → (A → Type 0) → (A → List ℕ) → (A → List Word → List Word) → Type 0
ItemSays d {A} P bytes w = (x : A) (rest : List ℕ) → P x → Stops rest → Says d (bytes x) (w x) rest

same_words : (o : Option (List Word)) → o ≡ option_map (λ ws. ws) o
same_words None = refl
same_words (Some ws) = refl

pub tail_stops : {A : Type 0} (bytes : A → List ℕ) (xs : List A) (rest : List ℕ) → Stops rest → Stops (after_commas (map bytes xs) ++ rest)
unfolding text.words
tail_stops bytes [] rest stop = stop
tail_stops bytes (x ∷ xs) rest stop = refl

pub tail_says : Below → (d : Dialect) {A : Type 0} (P : A → Type 0) (bytes : A → List ℕ) (w : A → List Word → List Word) → ItemSays d P bytes w → (xs : List A) (rest : List ℕ)
    → EachItem P xs → Stops rest → Says d (after_commas (map bytes xs)) (tail_words w xs) rest
tail_says below d P bytes w item [] rest each stop = same_words (words d rest)
tail_says below d P bytes w item (x ∷ xs) rest each stop =
    let more = after_commas (map bytes xs) in
    then d (text.words phrase.Comma ++ bytes x) more rest (λ ws. bare word.Comma ∷ w x ws) (tail_words w xs)
    (then d (text.words phrase.Comma) (bytes x) (more ++ rest) (λ ws. bare word.Comma ∷ ws) (w x)
    (comma_says below d (bytes x ++ (more ++ rest)))
    (item x (more ++ rest) each.0 (tail_stops bytes xs rest stop)))
    (tail_says below d P bytes w item xs rest each.1 stop)

pub listed_says : Below → (d : Dialect) {A : Type 0} (P : A → Type 0) (bytes : A → List ℕ) (w : A → List Word → List Word) → ItemSays d P bytes w → (x : A) (xs : List A) (rest : List ℕ)
    → P x → EachItem P xs → Stops rest → Says d (listed (map bytes (x ∷ xs))) (λ ws. w x (tail_words w xs ws)) rest
listed_says below d P bytes w item x xs rest one each stop =
    then d (bytes x) (after_commas (map bytes xs)) rest (w x) (tail_words w xs)
    (item x (after_commas (map bytes xs) ++ rest) one (tail_stops bytes xs rest stop))
    (tail_says below d P bytes w item xs rest each stop)
