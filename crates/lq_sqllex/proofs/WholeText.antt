-- What a text is taken apart into is the text.
use Rattle.std.proofs.Common.{◌≡◌, ◌≤◌, length-append, ◌<◌, ℕ, zero, suc, ◌+◌, ◌-◌, Bool, true, false, if◌then◌else◌, List, [], ◌∷◌, ◌++◌, length, take, drop, get_or, Option, Some, None, ◌∙◌, ap, sym, subst, refl, arith, append_assoc}
use Rattle.std.specs.Prelude.{option_map, not, All}
use Rattle.std.specs.List.{flat_map}
use Rattle.std.proofs.lemmas.List.{append-nil, take-append-drop, take_at}
use Rattle.std.proofs.lemmas.List.Concat.{flat_map-cons}
use Rattle.std.proofs.lemmas.List.Elements.{filter_passes}
use Rattle.std.proofs.lemmas.Option.{option_and_then_some}
use Rattle.lq_base.specs.declared.dialect.Dialect.{Dialect}
use Rattle.lq_base.specs.declared.lexeme.LexemeSort.{LexemeSort}
use Rattle.lq_base.specs.declared.lexeme.LexemeSort.TheVariants.{Blank, LineComment, BlockComment, Name, Text, Number, Word, Mark}
use Rattle.lq_sqllex.specs.Laws.{LexemesAreTheText, PiecesAreTheText, PiecesHaveWords, joined}
use Rattle.lq_base.specs.Sql.{sort_at, length_of, length_at, lexeme_at, lexemes, is_trivia, after, units}
use Rattle.lq_marks.specs.Enclosed.{is_enclosed}
use Rattle.lq_sqllex.specs.Pieces.{is_delimited, together, unit_at, onto, between, cut, kept, pieces}
use Rattle.lq_sqllex.proofs.PieceSteps.{begins_with, delimiter_begins}

pub map_some : {A B P : Type 0} (f : A → B) (o : Option A) (y : B) → option_map f o ≡ Some y → ((x : A) → o ≡ Some x → f x ≡ y → P) → P
map_some f None y e go = absurd (cc)
map_some f (Some x) y e go = go x refl cc

no_more : (n : ℕ) → drop {A = ℕ} n [] ≡ []
no_more zero = refl
no_more (suc n) = refl

-- the rest of a text after its first unit
past_first : (b : ℕ) (rest : List ℕ) (count : ℕ) → 0 < count → take count (b ∷ rest) ++ drop (count - 1) rest ≡ b ∷ rest
past_first b rest count some =
    let all : count ≡ suc (count - 1) = omega arith in
    ap (λ z. take count (b ∷ rest) ++ z) (sym (ap (λ n. drop n (b ∷ rest)) all)) ∙ take-append-drop count (b ∷ rest)

-- ---- lexemes

after_some : (count : ℕ) (more : Option ℕ) (n : ℕ) → 0 < count → after count more ≡ Some n → 0 < n
after_some count more n some e = map_some (λ m. count + m) more n e (λ m _ same. omega arith)

one_more : (more n : ℕ) → Some (1 + more) ≡ Some n → 0 < n
one_more more n e = let same : 1 + more ≡ n = cc in omega arith

one_or_two : (is_two : Bool) (n : ℕ) → Some (if is_two then 2 else 1) ≡ Some n → 0 < n
one_or_two true n e = let same : 2 ≡ n = cc in omega arith
one_or_two false n e = let same : 1 ≡ n = cc in omega arith

length_some : (d : Dialect) (sort : LexemeSort) (text : List ℕ) (n : ℕ) → length_of d sort text ≡ Some n → 0 < n
length_some d Blank text n e = one_more _ n e
length_some d LineComment text n e = one_more _ n e
length_some d BlockComment text n e = after_some 2 _ n (omega arith) e
length_some d Name text n e = after_some 1 _ n (omega arith) e
length_some d Text text n e = after_some 1 _ n (omega arith) e
length_some d Number text n e = one_more _ n e
length_some d Word text n e = one_more _ n e
length_some d Mark text n e = one_or_two _ n e

units_whole : {A : Type 0} (front : List ℕ → Option (A × ℕ)) → ((text : List ℕ) (unit : A × ℕ) → front text ≡ Some unit → 0 < unit.1)
    → (begun : ℕ) (text : List ℕ) (found : List (A × List ℕ)) → units front begun text ≡ Some found → flat_map (λ unit. unit.1) found ≡ drop begun text
units_whole front some begun [] found e = let none : found ≡ [] = cc in ap (flat_map (λ unit. unit.1)) none ∙ sym (no_more begun)
units_whole front some (suc begun) (b ∷ rest) found e = units_whole front some begun rest found e
units_whole front some zero (b ∷ rest) found e =
    option_and_then_some _ (front (b ∷ rest)) found e (λ unit here e2.
    map_some _ (units front (unit.1 - 1) rest) found e2 (λ more left same.
    ap (flat_map (λ unit. unit.1)) (sym same) ∙ flat_map-cons (λ unit. unit.1) (unit.0, take unit.1 (b ∷ rest)) more
    ∙ ap (λ z. take unit.1 (b ∷ rest) ++ z) (units_whole front some (unit.1 - 1) rest more left) ∙ past_first b rest unit.1 (some (b ∷ rest) unit here)))

pub lexemes_whole : LexemesAreTheText
unfolding lexemes length_at
lexemes_whole d text found e =
    units_whole (lexeme_at d) (λ here unit is. map_some (λ n. (sort_at d here, n)) (length_of d (sort_at d here) here) unit is (λ n closed same.
    let more : 0 < n = length_some d (sort_at d here) here n closed in
    let count : n ≡ unit.1 = ap (λ u. u.1) same in
    omega arith)) 0 text found e

-- ---- pieces

joined_next : (delimiter : List ℕ) (is_delimiter : Bool) (bytes : List ℕ) (pieces : List (List ℕ))
    → joined delimiter ([] ∷ (if is_delimiter then [] ∷ pieces else onto bytes pieces)) ≡ delimiter ++ joined delimiter (if is_delimiter then [] ∷ pieces else onto bytes pieces)
joined_next delimiter true bytes pieces = refl
joined_next delimiter false bytes [] = refl
joined_next delimiter false bytes (piece ∷ more) = refl

joined_past : (delimiter : List ℕ) (units : List (Bool × List ℕ)) → joined delimiter ([] ∷ between units) ≡ delimiter ++ joined delimiter (between units)
joined_past delimiter [] = refl
joined_past delimiter (unit ∷ more) = joined_next delimiter unit.0 unit.1 (between more)

joined_onto : (delimiter bytes : List ℕ) (pieces : List (List ℕ)) → joined delimiter (onto bytes pieces) ≡ bytes ++ joined delimiter pieces
joined_onto delimiter bytes [] = sym (append-nil bytes)
joined_onto delimiter bytes (piece ∷ []) = refl
joined_onto delimiter bytes (piece ∷ next ∷ more) = append_assoc bytes piece (delimiter ++ joined delimiter (next ∷ more))

joined_unit : (delimiter : List ℕ) (is_delimiter : Bool) (bytes : List ℕ) (units : List (Bool × List ℕ))
    → joined delimiter (if is_delimiter then [] ∷ between units else onto bytes (between units)) ≡ (if is_delimiter then delimiter else bytes) ++ joined delimiter (between units)
joined_unit delimiter true bytes units = joined_past delimiter units
joined_unit delimiter false bytes units = joined_onto delimiter bytes (between units)

together_some : (d : Dialect) (text : List ℕ) (n : ℕ) → together d text ≡ Some n → 0 < n
unfolding length_at
together_some d text n e =
    elim (is_enclosed (sort_at d text)) as (λ enclosed. (if enclosed then length_of d (sort_at d text) text else Some 1) ≡ Some n → 0 < n) [
      | true ↦ λ closed. length_some d (sort_at d text) text n closed
      | false ↦ λ one. (let same : 1 ≡ n = cc in omega arith)
    ] e

-- what a unit is: of one byte at least; a delimiter where it is told to be one, and else what stands together
pub record IsUnit (d : Dialect) (delimiter text : List ℕ) (unit : Bool × ℕ) : Type 0 where
  pub some : 0 < unit.1
  pub bytes : (if unit.0 then delimiter else take unit.1 text) ≡ take unit.1 text
  pub told : unit.0 ≡ true → (unit.1 ≡ length delimiter) × (length delimiter ≤ length text)
  pub other : unit.0 ≡ false → (is_delimited d delimiter text ≡ false) × (together d text ≡ Some unit.1)

delimiter_is : (d : Dialect) (delimiter text : List ℕ) → 0 < length delimiter → is_delimited d delimiter text ≡ true → IsUnit d delimiter text (true, length delimiter)
delimiter_is d delimiter text some there =
    let whole = begins_with delimiter text (delimiter_begins d delimiter text there) in
    record {
      some = some;
      bytes = sym (ap (take (length delimiter)) whole ∙ take_at delimiter _ _ refl);
      told = λ _. (refl, omega (arith, ap length whole, length-append delimiter (drop (length delimiter) text)));
      other = λ e. absurd (cc);
    }

part_is : (d : Dialect) (delimiter text : List ℕ) (count : ℕ) → is_delimited d delimiter text ≡ false → together d text ≡ Some count → IsUnit d delimiter text (false, count)
part_is d delimiter text count other closed =
    record { some = together_some d text count closed; bytes = refl; told = λ e. absurd (cc); other = λ _. (other, closed) }

pub unit_is : (d : Dialect) (delimiter text : List ℕ) (unit : Bool × ℕ) → 0 < length delimiter → unit_at d delimiter text ≡ Some unit → IsUnit d delimiter text unit
unit_is d delimiter text unit some e =
    elim (is_delimited d delimiter text) as (λ there. is_delimited d delimiter text ≡ there
    → (if there then Some (true, length delimiter) else option_map (λ n. (false, n)) (together d text)) ≡ Some unit → IsUnit d delimiter text unit) [
      | true ↦ λ there is. (let same : (true, length delimiter) ≡ unit = cc in subst (IsUnit d delimiter text) same (delimiter_is d delimiter text some there))
      | false ↦ λ other is. map_some (λ n. (false, n)) (together d text) unit is (λ n closed same. subst (IsUnit d delimiter text) same (part_is d delimiter text n other closed))
    ] refl e

cut_whole : (d : Dialect) (delimiter : List ℕ) → 0 < length delimiter → (begun : ℕ) (text : List ℕ) (found : List (Bool × List ℕ))
    → units (unit_at d delimiter) begun text ≡ Some found → joined delimiter (between found) ≡ drop begun text
cut_whole d delimiter some begun [] found e = let none : found ≡ [] = cc in ap (λ us. joined delimiter (between us)) none ∙ sym (no_more begun)
cut_whole d delimiter some (suc begun) (b ∷ rest) found e = cut_whole d delimiter some begun rest found e
cut_whole d delimiter some zero (b ∷ rest) found e =
    option_and_then_some _ (unit_at d delimiter (b ∷ rest)) found e (λ unit here e2.
    map_some _ (units (unit_at d delimiter) (unit.1 - 1) rest) found e2 (λ more left same.
    let is : IsUnit d delimiter (b ∷ rest) unit = unit_is d delimiter (b ∷ rest) unit some here in
    ap (λ us. joined delimiter (between us)) (sym same)
    ∙ joined_unit delimiter unit.0 (take unit.1 (b ∷ rest)) more
    ∙ ap (λ z. z ++ joined delimiter (between more)) is.bytes
    ∙ ap (λ z. take unit.1 (b ∷ rest) ++ z) (cut_whole d delimiter some (unit.1 - 1) rest more left)
    ∙ past_first b rest unit.1 is.some))

pub pieces_whole : PiecesAreTheText
unfolding cut
pieces_whole d text delimiter found some e =
    map_some between (units (unit_at d delimiter) 0 text) found e (λ us is same. ap (joined delimiter) (sym same) ∙ cut_whole d delimiter some 0 text us is)

not_true : (b : Bool) → not b ≡ true → b ≡ false
not_true true e = absurd (cc)
not_true false e = refl

all_words : (d : Dialect) (ps : List (List ℕ)) → All (λ piece. not (is_trivia d piece) ≡ true) ps → All (λ piece. is_trivia d piece ≡ false) ps
all_words d ps all = λ k piece here. not_true (is_trivia d (get_or ps k piece)) (all k piece here)

pub words_kept : PiecesHaveWords
unfolding pieces
words_kept d text delimiter found e =
    map_some (kept d) (cut d text delimiter) found e (λ ps is same.
    subst (All (λ piece. is_trivia d piece ≡ false)) same (all_words d (kept d ps) (filter_passes (λ piece. not (is_trivia d piece)) ps)))
