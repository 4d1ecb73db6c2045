-- Lists in parentheses: their words, and that they are read from them.
use Rattle.std.proofs.Common.{◌≡◌, ◌≤◌, ℕ, suc, true, false, List, [], ◌∷◌, length, map, Some, refl, arith}
use Rattle.std.specs.List.{list_all}
use Rattle.std.proofs.lemmas.Bool.{and_parts}
use Rattle.lq_base.specs.declared.dialect.Dialect.{Dialect}
use Rattle.lq_base.specs.declared.literal.Literal.{Literal}
use Rattle.lq_base.specs.declared.literal.Literal.TheVariants as constant
use Rattle.lq_model.specs.Comparison.{is_literal}
use Rattle.lq_model.specs.SqlParser.{Parser, after, enclosed, expect, same_kind, sees}
use Rattle.lq_model.specs.SqlPart.{literal, name}
use Rattle.lq_model.specs.SqlWord.{bare}
use Rattle.lq_model.specs.TestText.{listed, literal_text, names_text}
use Rattle.lq_model.specs.declared.word.Word.{Word}
use Rattle.lq_model.specs.declared.word.WordKind.TheVariants as word
use Rattle.lq_parse.proofs.Again.{IsLiteral, literal_again, literal_words}
use Rattle.lq_parse.proofs.Lists.{EachItem, IsAgain, listed_says, separated_again, tail_words}
use Rattle.lq_parse.proofs.Objects.{IsReadName, name_word}
use Rattle.lq_parse.proofs.QueryAgain.{name_again, names_say, names_words}
use Rattle.lq_parse.proofs.Spoken.{Below, literal_says}
use Rattle.lq_parse.proofs.Written.{literal_fact}
use Rattle.lq_statement.proofs.Said.{Closed}

no_comma : (rest : List Word) → sees word.Comma (bare word.Close ∷ rest) ≡ false
unfolding sees same_kind
no_comma rest = refl

pub enclosed_again : {A : Type 0} (P : A → Type 0) (p : Parser A) (w : A → List Word → List Word) (it : IsAgain P p w) (x : A) (xs : List A) (rest : List Word)
    → P x → EachItem P xs → enclosed p (bare word.Open ∷ w x (tail_words w xs (bare word.Close ∷ rest))) ≡ Some (x ∷ xs, rest)
unfolding enclosed expect sees after same_kind
enclosed_again P p w it x xs rest one each = rw (separated_again P p w it x xs (bare word.Close ∷ rest) one each (no_comma rest)) refl

pub names_again : (n : List ℕ) (ns : List (List ℕ)) (rest : List Word) → IsReadName n → EachItem IsReadName ns
    → enclosed name (bare word.Open ∷ names_words (n ∷ ns) (bare word.Close ∷ rest)) ≡ Some (n ∷ ns, rest)
names_again n ns rest one each = enclosed_again IsReadName name name_word name_again n ns rest one each

abbrev pub names_said : Below → (d : Dialect) (n : List ℕ) (ns : List (List ℕ)) → Closed d (names_text d (n ∷ ns))
names_said below d n ns = record { these = names_words (n ∷ ns); is = λ rest stop. names_say below d n ns rest stop }

-- literals

pub literal_long : (l : Literal) (rest : List Word) → suc (length rest) ≤ length (literal_words l rest)
literal_long constant.Null rest = omega arith
literal_long (constant.Bool true) rest = omega arith
literal_long (constant.Bool false) rest = omega arith
literal_long (constant.Text t) rest = omega arith
literal_long (constant.Int n) rest = omega arith
literal_long (constant.Fixed units scale) rest = omega arith

literals_again : IsAgain IsLiteral literal literal_words
literals_again = record { read = literal_again; long = literal_long }

pub values_again : (l : Literal) (ls : List Literal) (rest : List Word) → IsLiteral l → EachItem IsLiteral ls
    → enclosed literal (bare word.Open ∷ literal_words l (tail_words literal_words ls (bare word.Close ∷ rest))) ≡ Some (l ∷ ls, rest)
values_again l ls rest one each = enclosed_again IsLiteral literal literal_words literals_again l ls rest one each

abbrev pub CanStand : Literal → Type 0
CanStand l = is_literal l ≡ true

pub each_stands : (ls : List Literal) → list_all is_literal ls ≡ true → EachItem CanStand ls
each_stands [] all = tt
each_stands (l ∷ ls) all = let both = and_parts (is_literal l) (list_all is_literal ls) all in (both.0, each_stands ls both.1)

pub each_literal : Below → (ls : List Literal) → list_all is_literal ls ≡ true → EachItem IsLiteral ls
each_literal below [] all = tt
each_literal below (l ∷ ls) all =
    let both = and_parts (is_literal l) (list_all is_literal ls) all in
    (literal_fact below l both.0, each_literal below ls both.1)

abbrev pub literal_said : Below → (d : Dialect) (l : Literal) → is_literal l ≡ true → Closed d (literal_text d l)
literal_said below d l is = record { these = literal_words l; is = λ rest stop. literal_says below d l rest is stop }

abbrev pub values_said : Below → (d : Dialect) (l : Literal) (ls : List Literal) → is_literal l ≡ true → list_all is_literal ls ≡ true → Closed d (listed (map (literal_text d) (l ∷ ls)))
values_said below d l ls one all = record {
  these = λ ws. literal_words l (tail_words literal_words ls ws);
  is = λ rest stop. listed_says below d CanStand (literal_text d) literal_words (λ x more is end. literal_says below d x more is end) l ls rest one (each_stands ls all) stop;
}
