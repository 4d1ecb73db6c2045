-- Worked examples: a literal, a next number or a row's value that is out of its kind.
use Rattle.std.specs.List.{flat_map}
use Rattle.std.specs.Prelude.{List, None, Some, [], codes, false, neg_ℤ, pos, refl, true, ℕ, ◌∷◌, ◌≡◌}
use Rattle.lq_base.specs.Number.{char_count}
use Rattle.lq_base.specs.Value.{into_kind, is_value_of}
use Rattle.lq_base.specs.declared.dialect.Dialect.TheVariants.{Mysql, Postgresql}
use Rattle.lq_base.specs.declared.kind.Kind.{Kind}
use Rattle.lq_base.specs.declared.kind.Kind.TheVariants as kind
use Rattle.lq_base.specs.declared.literal.Literal.{Literal}
use Rattle.lq_base.specs.declared.literal.Literal.TheVariants as literal
use Rattle.lq_base.specs.declared.name.Name.{Name}
use Rattle.lq_base.specs.declared.reason.Reason.TheVariants.{TooWide}
use Rattle.lq_base.specs.declared.value.Value.{Value}
use Rattle.lq_base.specs.declared.value.Value.TheVariants as value
use Rattle.lq_model.specs.Catalogue.{Catalogue}
use Rattle.lq_model.specs.Plan.{decide}
use Rattle.lq_model.specs.declared.caller.By.TheVariants.{User}
use Rattle.lq_model.specs.declared.statement.Statement.{Statement}
use Rattle.lq_model.specs.declared.statement.Statement.TheVariants.{AddColumn, CreateTable, Insert, Modify, SetDefault, Update}
use Rattle.lq_model.proofs.ExampleWorld.{another, at, code, column, def, id, key_on, number}
use Rattle.lq_model.proofs.Matrix.Tables.{Are, fresh, of_tables, plain, table}

-- a table with a column of this kind
abbrev with_kind : Kind → Catalogue
with_kind k = of_tables ((another, table (plain code kind.Text ∷ plain id k ∷ []) None [] [] [] []) ∷ [])

-- what takes a literal as that kind, whether there is a row or none
abbrev takes_literal : Kind → Literal → List Statement
takes_literal k l =
    CreateTable fresh (def code kind.Text None ∷ def id k (Some l) ∷ []) None [] []
    ∷ AddColumn another (def at k (Some l))
    ∷ SetDefault another id l
    ∷ Insert another (id ∷ []) (l ∷ [])
    ∷ Insert another [] (literal.Null ∷ l ∷ [])
    ∷ Update another ((code, literal.Null) ∷ (id, l) ∷ []) None
    ∷ []

-- the last literals of a kind on both sides, and the first ones past them
pub literals_at_the_edge :
    Are (Some TooWide) User Postgresql (with_kind kind.Int) (flat_map (takes_literal kind.Int) (number (pos 2147483648) ∷ number (neg_ℤ (pos 2147483649)) ∷ []))
    × Are None User Postgresql (with_kind kind.Int) (flat_map (takes_literal kind.Int) (number (pos 2147483647) ∷ number (neg_ℤ (pos 2147483648)) ∷ []))
    × Are (Some TooWide) User Mysql (with_kind kind.Int) (flat_map (takes_literal kind.Int) (number (pos 2147483648) ∷ []))
    × Are (Some TooWide) User Postgresql (with_kind kind.BigInt) (flat_map (takes_literal kind.BigInt) (number (pos 9223372036854775808) ∷ number (neg_ℤ (pos 9223372036854775809)) ∷ []))
    × Are None User Postgresql (with_kind kind.BigInt) (flat_map (takes_literal kind.BigInt) (number (pos 9223372036854775807) ∷ number (neg_ℤ (pos 9223372036854775808)) ∷ []))
    × Are (Some TooWide) User Postgresql (with_kind (kind.Decimal 3 1)) (flat_map (takes_literal (kind.Decimal 3 1)) (number (pos 100) ∷ literal.Fixed (pos 1000) 1 ∷ literal.Fixed (pos 125) 2 ∷ []))
    × Are None User Postgresql (with_kind (kind.Decimal 3 1)) (flat_map (takes_literal (kind.Decimal 3 1)) (number (pos 99) ∷ literal.Fixed (pos 999) 1 ∷ []))
unfolding decide into_kind
literals_at_the_edge = (refl, refl, refl, refl, refl, refl, refl)

-- a numbered column whose next number is this one
abbrev counting : Kind → ℕ → Catalogue
counting k next = of_tables ((another, record (table (column id k false None true ∷ plain code kind.Text ∷ []) (Some (key_on (codes "PRIMARY") (id ∷ []))) [] [] [] []) { next = next }) ∷ [])

-- the next number counts where no number is stated
abbrev unnumbered : Statement
unnumbered = Insert another (code ∷ []) (literal.Null ∷ [])

abbrev numbered : Statement
numbered = Insert another (id ∷ []) (number (pos 1) ∷ [])

pub next_number_at_the_edge :
    Are (Some TooWide) User Postgresql (counting kind.Int 2147483648) (unnumbered ∷ [])
    × Are None User Postgresql (counting kind.Int 2147483648) (numbered ∷ [])
    × Are None User Postgresql (counting kind.Int 2147483647) (unnumbered ∷ numbered ∷ [])
    × Are (Some TooWide) User Mysql (counting kind.Int 2147483648) (unnumbered ∷ [])
    × Are None User Mysql (counting kind.Int 2147483647) (unnumbered ∷ numbered ∷ [])
    × Are (Some TooWide) User Postgresql (counting kind.BigInt 9223372036854775808) (unnumbered ∷ [])
    × Are None User Postgresql (counting kind.BigInt 9223372036854775807) (unnumbered ∷ [])
unfolding decide into_kind
next_number_at_the_edge = (refl, refl, refl, refl, refl, refl, refl)

-- a row's value that the new kind is too narrow for
abbrev holds : Kind → Value → Catalogue
holds k v = of_tables ((another, table (plain code kind.Text ∷ plain id k ∷ []) None [] [] [] ((value.Null ∷ value.Null ∷ []) ∷ (value.Null ∷ v ∷ []) ∷ [])) ∷ [])

pub values_at_the_edge :
    Are (Some TooWide) User Mysql (holds kind.BigInt (value.Int (pos 2147483648))) (Modify another id kind.Int true ∷ [])
    × Are (Some TooWide) User Mysql (holds kind.BigInt (value.Int (neg_ℤ (pos 2147483649)))) (Modify another id kind.Int true ∷ [])
    × Are None User Mysql (holds kind.BigInt (value.Int (pos 2147483647))) (Modify another id kind.Int true ∷ [])
    × Are (Some TooWide) User Mysql (holds (kind.Decimal 5 2) (value.Fixed (pos 10000) 2)) (Modify another id (kind.Decimal 4 2) true ∷ [])
    × Are None User Mysql (holds (kind.Decimal 5 2) (value.Fixed (pos 9999) 2)) (Modify another id (kind.Decimal 4 2) true ∷ [])
unfolding decide is_value_of
values_at_the_edge = (refl, refl, refl, refl, refl)

-- a text of more characters than its kind has: whichever text it is, its characters decide
abbrev Long : Kind → Literal → Type 0
Long k l = Are (Some TooWide) User Postgresql (with_kind k) (takes_literal k l) × Are (Some TooWide) User Mysql (with_kind k) (takes_literal k l)

abbrev Short : Kind → Literal → Type 0
Short k l = Are None User Postgresql (with_kind k) (takes_literal k l) × Are None User Mysql (with_kind k) (takes_literal k l)

pub characters_at_the_edge : (x : Name)
    → (char_count x ≡ 11 → Long (kind.Varchar 10) (literal.Text x))
    × (char_count x ≡ 10 → Short (kind.Varchar 10) (literal.Text x))
    × (char_count x ≡ 11 → Are (Some TooWide) User Mysql (holds kind.Text (value.Text x)) (Modify another id (kind.Varchar 10) true ∷ []))
    × (char_count x ≡ 10 → Are None User Mysql (holds kind.Text (value.Text x)) (Modify another id (kind.Varchar 10) true ∷ []))
unfolding decide into_kind is_value_of
characters_at_the_edge x = (λ is. (rw (is) refl, rw (is) refl), λ is. (rw (is) refl, rw (is) refl), λ is. rw (is) refl, λ is. rw (is) refl)
