-- The kinds that are read are kinds.
use Rattle.std.proofs.Common.{◌≡◌, ℕ, Bool, true, false, ◌&&◌, ◌||◌, ◌==◌, if◌then◌else◌, List, Option, Some, None, IfSome, refl}
use Rattle.std.specs.Prelude.{codes}
use Rattle.std.specs.Str.{str_eq_ignore_ascii_case}
use Rattle.std.proofs.lemmas.Bool.{and_parts}
use Rattle.lq_base.specs.Kind.{decimal_kind, is_kind, plain_kind, sized_kind}
use Rattle.lq_base.specs.declared.kind.Kind.{Kind}
use Rattle.lq_base.specs.declared.kind.Kind.TheVariants as kind
use Rattle.lq_model.specs.SqlParser.{eat, expect, peek, same_kind, taken}
use Rattle.lq_model.specs.SqlPart.{column_kind, decimal_with, kind_number, kind_with, sized_with}
use Rattle.lq_model.specs.declared.word.WordKind.TheVariants as word
use Rattle.lq_parse.proofs.Makes.{Makes, if_some, makes_after, makes_given, makes_if, makes_refuse}

abbrev pub IsKind : Kind → Type 0
IsKind k = is_kind k ≡ true

either : {A : Type 0} (P : A → Type 0) (b : Bool) (x : A) (o : Option A) → P x → IfSome o P → IfSome (if b then Some x else o) P
either P true x o h g = h
either P false x o h g = g

plain_is : (said : List ℕ) → IfSome (plain_kind said) IsKind
unfolding plain_kind
plain_is said =
    either IsKind (str_eq_ignore_ascii_case said (codes "int")) kind.Int _ refl (either IsKind (str_eq_ignore_ascii_case said (codes "integer")) kind.Int _ refl (either IsKind (str_eq_ignore_ascii_case said (codes "bigint")) kind.BigInt _ refl
    (either IsKind (str_eq_ignore_ascii_case said (codes "boolean")) kind.Boolean _ refl (either IsKind (str_eq_ignore_ascii_case said (codes "bool")) kind.Boolean _ refl (either IsKind (str_eq_ignore_ascii_case said (codes "text")) kind.Text _ refl
    (either IsKind (str_eq_ignore_ascii_case said (codes "clob")) kind.Text _ refl (either IsKind (str_eq_ignore_ascii_case said (codes "timestamp")) kind.Moment _ refl (either IsKind (str_eq_ignore_ascii_case said (codes "datetime")) kind.Moment None refl tt))))))))

both : {A : Type 0} (P : A → Type 0) (b : Bool) (o r : Option A) → IfSome o P → IfSome r P → IfSome (if b then o else r) P
both P true o r h g = h
both P false o r h g = g

sized_is : (said : List ℕ) (n : ℕ) → IfSome (sized_kind said n) IsKind
unfolding sized_kind
sized_is said n =
    both IsKind (str_eq_ignore_ascii_case said (codes "varchar")) _ _ (if_some IsKind (is_kind (kind.Varchar n)) (kind.Varchar n) (λ is. is))
    (if_some IsKind (str_eq_ignore_ascii_case said (codes "datetime") && n == 3) kind.Moment (λ is. refl))

decimal_is : (said : List ℕ) (digits scale : ℕ) → IfSome (decimal_kind said digits scale) IsKind
unfolding decimal_kind
decimal_is said digits scale =
    let named = str_eq_ignore_ascii_case said (codes "decimal") || str_eq_ignore_ascii_case said (codes "numeric") in
    if_some IsKind (named && is_kind (kind.Decimal digits scale)) (kind.Decimal digits scale) (λ is. (and_parts named (is_kind (kind.Decimal digits scale)) is).1)

sized_makes : (said : List ℕ) (n : ℕ) → Makes IsKind (sized_with said n)
unfolding sized_with
sized_makes said n = makes_after IsKind (expect word.Close) _ (λ a. makes_given IsKind (sized_kind said n) (sized_is said n))

decimal_makes : (said : List ℕ) (n : ℕ) → Makes IsKind (decimal_with said n)
unfolding decimal_with
decimal_makes said n = makes_after IsKind kind_number _ (λ second. makes_after IsKind (expect word.Close) _ (λ a. makes_given IsKind (decimal_kind said n second) (decimal_is said n second)))

with_makes : (said : List ℕ) → Makes IsKind (kind_with said)
unfolding kind_with
with_makes said = makes_after IsKind kind_number _ (λ first. makes_after IsKind (eat word.Comma) _ (λ more. makes_if IsKind more _ _ (decimal_makes said first) (sized_makes said first)))

pub kind_makes : Makes IsKind column_kind
unfolding column_kind
kind_makes =
    makes_after IsKind peek _ (λ found. makes_after IsKind taken _ (λ said. makes_after IsKind (eat word.Open) _ (λ sized. makes_if IsKind (same_kind found word.Plain) _ _
    (makes_if IsKind sized _ _ (with_makes said) (makes_given IsKind (plain_kind said) (plain_is said)))
    (makes_refuse IsKind))))
