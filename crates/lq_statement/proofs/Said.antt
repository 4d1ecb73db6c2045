-- Parts of a canonical text, with the words that they have wherever they stand.
use Rattle.std.proofs.Common.{◌≡◌, ℕ, Bool, true, ◌&&◌, not, List, [], ◌∷◌, ◌++◌, Option, Some, None, option_map, ap, ◌∙◌, refl, append_assoc}
use Rattle.std.specs.List.{list_all}
use Rattle.std.proofs.lemmas.Bool.{and_parts}
use Rattle.lq_base.specs.declared.dialect.Dialect.{Dialect}
use Rattle.lq_model.specs.Catalogue.{is_empty}
use Rattle.lq_model.specs.SqlWord.{folded, kind_of_word, unquoted_word, words}
use Rattle.lq_model.specs.declared.word.Word.{Word}
use Rattle.lq_model.specs.declared.word.WordKind.TheVariants as word
use Rattle.lq_sqllex.specs.Laws.{LexemesGoOn}
use Rattle.lq_parse.proofs.Bytes.{Stops, is_one_of}
use Rattle.lq_parse.proofs.Fronts.{Says, blank_says, capitals, keyword_says, last_keyword_says}
use Rattle.lq_parse.proofs.Spoken.{then}

-- a part that ends with a blank or a mark
pub record Open (d : Dialect) (bytes : List ℕ) : Type 0 where
  pub these : List Word → List Word
  pub is : (rest : List ℕ) → Says d bytes these rest

-- and that begins with a blank or a mark
pub record Lead (d : Dialect) (bytes : List ℕ) : Type 0 where
  pub these : List Word → List Word
  pub is : (rest : List ℕ) → Says d bytes these rest
  pub stops : (rest : List ℕ) → Stops (bytes ++ rest)

-- a part that ends with a word
pub record Closed (d : Dialect) (bytes : List ℕ) : Type 0 where
  pub these : List Word → List Word
  pub is : (rest : List ℕ) → Stops rest → Says d bytes these rest

-- and that begins with a blank or a mark, where it is not empty
pub record Tail (d : Dialect) (bytes : List ℕ) : Type 0 where
  pub these : List Word → List Word
  pub is : (rest : List ℕ) → Stops rest → Says d bytes these rest
  pub stops : (rest : List ℕ) → Stops rest → Stops (bytes ++ rest)

abbrev pub oo : {d : Dialect} {a b : List ℕ} → Open d a → Open d b → Open d (a ++ b)
oo {d} {a} {b} x y = record { these = λ ws. x.these (y.these ws); is = λ rest. then d a b rest x.these y.these (x.is (b ++ rest)) (y.is rest) }

abbrev pub ol : {d : Dialect} {a b : List ℕ} → Open d a → Lead d b → Open d (a ++ b)
ol {d} {a} {b} x y = record { these = λ ws. x.these (y.these ws); is = λ rest. then d a b rest x.these y.these (x.is (b ++ rest)) (y.is rest) }

abbrev pub oc : {d : Dialect} {a b : List ℕ} → Open d a → Closed d b → Closed d (a ++ b)
oc {d} {a} {b} x y = record { these = λ ws. x.these (y.these ws); is = λ rest stop. then d a b rest x.these y.these (x.is (b ++ rest)) (y.is rest stop) }

abbrev pub ot : {d : Dialect} {a b : List ℕ} → Open d a → Tail d b → Closed d (a ++ b)
ot {d} {a} {b} x y = record { these = λ ws. x.these (y.these ws); is = λ rest stop. then d a b rest x.these y.these (x.is (b ++ rest)) (y.is rest stop) }

abbrev pub cl : {d : Dialect} {a b : List ℕ} → Closed d a → Lead d b → Open d (a ++ b)
cl {d} {a} {b} x y = record { these = λ ws. x.these (y.these ws); is = λ rest. then d a b rest x.these y.these (x.is (b ++ rest) (y.stops rest)) (y.is rest) }

abbrev pub ct : {d : Dialect} {a b : List ℕ} → Closed d a → Tail d b → Closed d (a ++ b)
ct {d} {a} {b} x y = record { these = λ ws. x.these (y.these ws); is = λ rest stop. then d a b rest x.these y.these (x.is (b ++ rest) (y.stops rest stop)) (y.is rest stop) }

-- words in capitals, with a blank after each

abbrev pub spaced : List (List ℕ) → List ℕ
spaced [] = []
spaced (w ∷ ws) = w ++ 32 ∷ spaced ws

abbrev pub said : Dialect → List (List ℕ) → List Word → List Word
said d [] rest = rest
said d (w ∷ ws) rest = unquoted_word (kind_of_word word.Plain w) (folded d w) ∷ said d ws rest

abbrev pub is_word : List ℕ → Bool
is_word w = not (is_empty w) && list_all (is_one_of capitals) w

abbrev pub are_words : List (List ℕ) → Bool
are_words ws = list_all is_word ws

pub same_words : (o : Option (List Word)) → o ≡ option_map (λ ws. ws) o
same_words None = refl
same_words (Some ws) = refl

twice : (f g : List Word → List Word) (o : Option (List Word)) → option_map f (option_map g o) ≡ option_map (λ ws. f (g ws)) o
twice f g None = refl
twice f g (Some ws) = refl

pub spaced_says : LexemesGoOn → (d : Dialect) (ws : List (List ℕ)) (rest : List ℕ) → are_words ws ≡ true → Says d (spaced ws) (said d ws) rest
spaced_says go_on d [] rest all = same_words (words d rest)
spaced_says go_on d ([] ∷ ws) rest all = absurd cc
spaced_says go_on d ((b ∷ w) ∷ ws) rest all =
    let both = and_parts (is_word (b ∷ w)) (are_words ws) all in
    ap (words d) (append_assoc (b ∷ w) (32 ∷ spaced ws) rest)
    ∙ keyword_says go_on d b w (spaced ws ++ rest) (unquoted_word (kind_of_word word.Plain (b ∷ w)) (folded d (b ∷ w))) both.0 refl
    ∙ ap (option_map (λ more. unquoted_word (kind_of_word word.Plain (b ∷ w)) (folded d (b ∷ w)) ∷ more)) (spaced_says go_on d ws rest both.1)
    ∙ twice (λ more. unquoted_word (kind_of_word word.Plain (b ∷ w)) (folded d (b ∷ w)) ∷ more) (said d ws) (words d rest)

-- after a blank
pub lead_says : LexemesGoOn → (d : Dialect) (ws : List (List ℕ)) (rest : List ℕ) → are_words ws ≡ true → Says d (32 ∷ spaced ws) (said d ws) rest
lead_says go_on d ws rest all = blank_says go_on d (spaced ws ++ rest) ∙ spaced_says go_on d ws rest all

-- and with a word at the end
pub tail_says : LexemesGoOn → (d : Dialect) (ws : List (List ℕ)) (b : ℕ) (w rest : List ℕ) → are_words ws ≡ true → list_all (is_one_of capitals) (b ∷ w) ≡ true → Stops rest
    → Says d (32 ∷ (spaced ws ++ (b ∷ w))) (λ more. said d ws (unquoted_word (kind_of_word word.Plain (b ∷ w)) (folded d (b ∷ w)) ∷ more)) rest
tail_says go_on d ws b w rest all last stop =
    blank_says go_on d ((spaced ws ++ (b ∷ w)) ++ rest)
    ∙ then d (spaced ws) (b ∷ w) rest (said d ws) (λ more. unquoted_word (kind_of_word word.Plain (b ∷ w)) (folded d (b ∷ w)) ∷ more)
    (spaced_says go_on d ws ((b ∷ w) ++ rest) all)
    (last_keyword_says go_on d b w rest (unquoted_word (kind_of_word word.Plain (b ∷ w)) (folded d (b ∷ w))) last stop refl)

-- what ends with a mark may stand before what ends a word
abbrev pub ready : {d : Dialect} {a : List ℕ} → Open d a → Closed d a
ready x = record { these = x.these; is = λ rest stop. x.is rest }

abbrev pub opened : {d : Dialect} {a : List ℕ} → Lead d a → Open d a
opened x = record { these = x.these; is = x.is }
