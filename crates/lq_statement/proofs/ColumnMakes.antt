-- The columns that are read are those of a statement.
use Rattle.std.proofs.Common.{◌≡◌, ℕ, true, false, List, [], ◌∷◌, Option, Some, None, IfSome, refl}
use Rattle.std.specs.Option.{option_or}
use Rattle.std.proofs.lemmas.Bool.{and_from}
use Rattle.lq_base.specs.Kind.{is_kind}
use Rattle.lq_base.specs.Laws.{NumberOfSpells}
use Rattle.lq_base.specs.declared.dialect.Dialect.{Dialect}
use Rattle.lq_base.specs.declared.dialect.Dialect.TheVariants.{Postgresql, Mysql}
use Rattle.lq_base.specs.declared.literal.Literal.{Literal}
use Rattle.lq_model.specs.Sound.{foreign_name, key_name, unique_name}
use Rattle.lq_model.specs.SqlTable.{added_column, clause_by, column_clause, column_foreign, column_key, column_of, column_unique, column_with, default_by, differ, first_said, foreign_to, has_constraint, identity, stated_column, target, target_by}
use Rattle.lq_model.specs.SqlParser.{expect, given, many, peek, skip}
use Rattle.lq_model.specs.SqlPart.{column_kind, literal, name, name_of, object}
use Rattle.lq_model.specs.Step.{is_column_def}
use Rattle.lq_model.specs.declared.column.ColumnDef.{ColumnDef}
use Rattle.lq_model.specs.declared.constraint.ForeignKey.{ForeignKey}
use Rattle.lq_model.specs.declared.constraint.Key.{Key}
use Rattle.lq_model.specs.declared.constraint.Unique.{Unique}
use Rattle.lq_model.specs.declared.table_item.ColumnClause.{ColumnClause}
use Rattle.lq_model.specs.declared.table_item.ColumnClause.TheVariants as clause
use Rattle.lq_model.specs.declared.table_item.StatedColumn.{StatedColumn}
use Rattle.lq_model.specs.declared.table_item.Target.{Target}
use Rattle.lq_model.specs.declared.word.WordKind.{WordKind}
use Rattle.lq_model.specs.declared.word.WordKind.TheVariants as word
use Rattle.lq_parse.proofs.CanWrite.{literals}
use Rattle.lq_parse.proofs.Makes.{AllSo, IsLiteralText, IsNameText, IsObjectText, Makes, MaybeSo, makes_after, makes_given, makes_if, makes_pure, makes_refuse, makes_then, many_makes, name_makes, name_of_makes, object_makes}
use Rattle.lq_statement.proofs.ConstraintMakes.{IsForeignText, IsKeyName, IsKeyText, IsUniqueText, foreign_is, key_is, key_name_is, unique_is}
use Rattle.lq_statement.proofs.KindMakes.{IsKind, kind_makes}
use Rattle.lq_statement.proofs.Parts.{join}

abbrev pub IsTarget : Dialect → Target → Type 0
IsTarget d t = IsObjectText d t.table × IsNameText t.column

pub record IsStated (d : Dialect) (c : StatedColumn) : Type 0 where
  pub name : IsNameText c.name
  pub kind : is_kind c.kind ≡ true
  pub default : IfSome c.default IsLiteralText
  pub target : IfSome c.target (IsTarget d)

target_makes : (d : Dialect) → Makes (IsTarget d) (target d)
unfolding target
target_makes d =
    makes_then (IsObjectText d) (IsTarget d) (object d) _ (object_makes d) (λ t h. makes_after (IsTarget d) (expect word.Open) _ (λ a. makes_then IsNameText (IsTarget d) name _ name_makes (λ c g. makes_after (IsTarget d) (expect word.Close) _ (λ b.
    makes_pure (IsTarget d) (record { table = t; column = c }) (h, g)))))

-- what a clause states of a default and of a target
pub record IsClause (d : Dialect) (c : ColumnClause) : Type 0 where
  pub default : IfSome (default_by c) IsLiteralText
  pub target : IfSome (target_by c) (IsTarget d)

clause_makes : NumberOfSpells → (d : Dialect) → Makes (MaybeSo (IsClause d)) (column_clause d)
unfolding column_clause
clause_makes spells d = makes_after (MaybeSo (IsClause d)) peek (clause_by d) (by d)
  where
    plain : (d : Dialect) (c : ColumnClause) → default_by c ≡ None → target_by c ≡ None → MaybeSo (IsClause d) (Some c)
    plain d c h g = record { default = rw h tt; target = rw g tt }

    by : (d : Dialect) (k : WordKind) → Makes (MaybeSo (IsClause d)) (clause_by d k)
    by d word.Not = makes_after (MaybeSo (IsClause d)) skip _ (λ a. makes_after (MaybeSo (IsClause d)) (expect word.Null) _ (λ b. makes_pure (MaybeSo (IsClause d)) (Some (clause.Nullable false)) (plain d (clause.Nullable false) refl refl)))
    by d word.Null = makes_after (MaybeSo (IsClause d)) skip _ (λ a. makes_pure (MaybeSo (IsClause d)) (Some (clause.Nullable true)) (plain d (clause.Nullable true) refl refl))
    by d word.Default =
        makes_after (MaybeSo (IsClause d)) skip _ (λ a. makes_then IsLiteralText (MaybeSo (IsClause d)) literal _ (literals spells) (λ it h.
        makes_pure (MaybeSo (IsClause d)) (Some (clause.Default it)) (record { default = h; target = tt })))
    by d word.Primary = makes_after (MaybeSo (IsClause d)) skip _ (λ a. makes_after (MaybeSo (IsClause d)) (expect word.Key) _ (λ b. makes_pure (MaybeSo (IsClause d)) (Some clause.PrimaryKey) (plain d clause.PrimaryKey refl refl)))
    by d word.Unique = makes_after (MaybeSo (IsClause d)) skip _ (λ a. makes_pure (MaybeSo (IsClause d)) (Some clause.Unique) (plain d clause.Unique refl refl))
    by d word.References =
        makes_after (MaybeSo (IsClause d)) skip _ (λ a. makes_then (IsTarget d) (MaybeSo (IsClause d)) (target d) _ (target_makes d) (λ it h.
        makes_pure (MaybeSo (IsClause d)) (Some (clause.References it)) (record { default = tt; target = h })))
    by Postgresql word.Generated = makes_after (MaybeSo (IsClause Postgresql)) identity _ (λ a. makes_pure (MaybeSo (IsClause Postgresql)) (Some clause.Numbered) (plain Postgresql clause.Numbered refl refl))
    by Mysql word.AutoIncrement = makes_after (MaybeSo (IsClause Mysql)) skip _ (λ a. makes_pure (MaybeSo (IsClause Mysql)) (Some clause.Numbered) (plain Mysql clause.Numbered refl refl))
    by d _ = makes_pure (MaybeSo (IsClause d)) None tt

-- the first that says such a thing

first_of_two : {A : Type 0} (P : A → Type 0) (o p : Option A) → IfSome o P → IfSome p P → IfSome (option_or o p) P
first_of_two P None p h g = g
first_of_two P (Some x) p h g = h

default_is : (d : Dialect) (cs : List ColumnClause) → AllSo (IsClause d) cs → IfSome (first_said default_by cs) IsLiteralText
default_is d [] are = tt
default_is d (c ∷ cs) are = first_of_two IsLiteralText (default_by c) (first_said default_by cs) are.0.default (default_is d cs are.1)

target_is : (d : Dialect) (cs : List ColumnClause) → AllSo (IsClause d) cs → IfSome (first_said target_by cs) (IsTarget d)
target_is d [] are = tt
target_is d (c ∷ cs) are = first_of_two (IsTarget d) (target_by c) (first_said target_by cs) are.0.target (target_is d cs are.1)

pub stated_makes : NumberOfSpells → (d : Dialect) → Makes (IsStated d) (stated_column d)
unfolding stated_column
stated_makes spells d =
    makes_then IsNameText (IsStated d) name _ name_makes (λ n h. makes_then IsKind (IsStated d) column_kind _ kind_makes (λ k g. makes_then (AllSo (IsClause d)) (IsStated d) (many (column_clause d)) _ (many_makes (IsClause d) (column_clause d) (clause_makes spells d)) (λ cs are.
    makes_if (IsStated d) (differ cs) _ _ (makes_pure (IsStated d) (column_with n k cs) (record { name = h; kind = g; default = default_is d cs are; target = target_is d cs are })) (makes_refuse (IsStated d)))))

abbrev pub IsDef : ColumnDef → Type 0
IsDef c = is_column_def c ≡ true

pub column_is : (d : Dialect) (c : StatedColumn) → (IsStated d) c → IsDef (column_of c)
column_is d c is = by c.default is.default
  where
    by : (default : Option Literal) → IfSome default IsLiteralText → IsDef (record { name = c.name; kind = c.kind; nullable = (column_of c).nullable; default = default; numbered = c.numbered })
    by None h = join is.name (and_from (is_kind c.kind) _ is.kind refl)
    by (Some l) h = join is.name (and_from (is_kind c.kind) _ is.kind h)

pub added_makes : NumberOfSpells → (d : Dialect) → Makes IsDef (added_column d)
unfolding added_column
added_makes spells d = makes_then (IsStated d) IsDef (stated_column d) _ (stated_makes spells d) (λ c is. makes_if IsDef (has_constraint c) _ _ (makes_refuse IsDef) (makes_pure IsDef (column_of c) (column_is d c is)))

-- the constraints of clauses

abbrev pub MayBeKey : Dialect → Option Key → Type 0
MayBeKey d o = IfSome o (IsKeyText d)

abbrev pub MayBeUnique : Option Unique → Type 0
MayBeUnique o = IfSome o IsUniqueText

abbrev pub MayBeForeign : Dialect → Option ForeignKey → Type 0
MayBeForeign d o = IfSome o (IsForeignText d)

pub column_key_makes : (d : Dialect) (table : List ℕ) (c : StatedColumn) → (IsStated d) c → Makes (MayBeKey d) (column_key d table c)
unfolding column_key
column_key_makes d table c is =
    makes_if (MayBeKey d) c.key _ _
    (makes_then (IsKeyName d) (MayBeKey d) (given (name_of (key_name d table))) _ (makes_given (IsKeyName d) (name_of (key_name d table)) (key_name_is d table)) (λ n h.
    makes_pure (MayBeKey d) (Some (record { name = n; columns = c.name ∷ [] })) (key_is d n (c.name ∷ []) h (is.name, tt))))
    (makes_pure (MayBeKey d) None tt)

pub column_unique_makes : (d : Dialect) (table : List ℕ) (c : StatedColumn) → (IsStated d) c → Makes MayBeUnique (column_unique table c)
unfolding column_unique
column_unique_makes d table c is =
    makes_if MayBeUnique c.unique _ _
    (makes_then IsNameText MayBeUnique (given (name_of (unique_name table (c.name ∷ [])))) _ (makes_given IsNameText (name_of (unique_name table (c.name ∷ []))) (name_of_makes (unique_name table (c.name ∷ [])))) (λ n h.
    makes_pure MayBeUnique (Some (record { name = n; columns = c.name ∷ [] })) (unique_is n (c.name ∷ []) h (is.name, tt))))
    (makes_pure MayBeUnique None tt)

pub column_foreign_makes : (d : Dialect) (table column : List ℕ) (o : Option Target) → IsNameText column → IfSome o (IsTarget d) → Makes (MayBeForeign d) (column_foreign table column o)
unfolding column_foreign foreign_to
column_foreign_makes d table column None h g = makes_pure (MayBeForeign d) None tt
column_foreign_makes d table column (Some it) h g =
    makes_then IsNameText (MayBeForeign d) (given (name_of (foreign_name table (column ∷ [])))) _ (makes_given IsNameText (name_of (foreign_name table (column ∷ []))) (name_of_makes (foreign_name table (column ∷ [])))) (λ n is.
    makes_pure (MayBeForeign d) (Some (record { name = n; columns = column ∷ []; table = it.table; targets = it.column ∷ []; cascade = false })) (foreign_is d n it.table (column ∷ []) (it.column ∷ []) false is (h, tt) g.0 (g.1, tt)))
