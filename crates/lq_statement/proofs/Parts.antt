-- What the laws of statements ask of their parts.
use Rattle.std.proofs.Common.{◌≡◌, ℕ, Bool, true, ◌&&◌, List, [], ◌∷◌, Some, None, IfSome}
use Rattle.std.proofs.lemmas.Bool.{and_from}
use Rattle.lq_base.specs.declared.dialect.Dialect.{Dialect}
use Rattle.lq_model.specs.SqlParser.{Parser, enclosed, expect, separated}
use Rattle.lq_model.specs.Step.{is_name_list, is_statement}
use Rattle.lq_model.specs.declared.statement.Statement.{Statement}
use Rattle.lq_model.specs.declared.word.WordKind.TheVariants as word
use Rattle.lq_parse.proofs.CanWrite.{names_are}
use Rattle.lq_parse.proofs.Makes.{AllSo, IsNameText, Makes, SomeSo, makes_after, makes_pure, makes_then, separated_makes}

-- a statement of the dialect
abbrev pub Is : Dialect → Statement → Type 0
Is d s = is_statement d s ≡ true

pub join : {a x : Bool} → a ≡ true → x ≡ true → (a && x) ≡ true
join {a} {x} h g = and_from a x h g

-- lists in parentheses

pub enclosed_makes : {A : Type 0} (P : A → Type 0) (item : Parser A) → Makes P item → Makes (SomeSo P) (enclosed item)
unfolding enclosed
enclosed_makes P item h =
    makes_after (SomeSo P) (expect word.Open) _ (λ a. makes_then (SomeSo P) (SomeSo P) (separated item) _ (separated_makes P item h) (λ found so. makes_after (SomeSo P) (expect word.Close) _ (λ b. makes_pure (SomeSo P) found so)))

pub each_so : {A : Type 0} (P : A → Type 0) (xs : List A) → SomeSo P xs → AllSo P xs
each_so P [] so = absurd so
each_so P (x ∷ xs) so = so

pub makes_more : {A : Type 0} (P Q : A → Type 0) (p : Parser A) → ((x : A) → P x → Q x) → Makes P p → Makes Q p
makes_more P Q p more h = record {
  at = λ i. elim (p i) as (λ o. IfSome o (λ found. P found.0) → IfSome o (λ found. Q found.0)) [ None ↦ λ q. tt | Some found ↦ λ q. more found.0 q ] (h.at i);
}

pub some_all : {A : Type 0} (P : A → Type 0) (p : Parser (List A)) → Makes (SomeSo P) p → Makes (AllSo P) p
some_all P p h = makes_more (SomeSo P) (AllSo P) p (each_so P) h

-- a list of names
pub names_list : (ns : List (List ℕ)) → SomeSo IsNameText ns → is_name_list ns ≡ true
names_list [] so = absurd so
names_list (n ∷ ns) so = names_are (n ∷ ns) so
