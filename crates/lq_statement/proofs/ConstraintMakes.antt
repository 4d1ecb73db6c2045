-- The constraints that are read are those of a statement.
use Rattle.std.proofs.Common.{◌≡◌, ℕ, Bool, true, List, Option, Some, None, IfSome, refl}
use Rattle.std.proofs.lemmas.Bool.{and_from}
use Rattle.lq_base.specs.Name.{is_name, is_object}
use Rattle.lq_base.specs.declared.dialect.Dialect.{Dialect}
use Rattle.lq_base.specs.declared.dialect.Dialect.TheVariants.{Postgresql, Mysql}
use Rattle.lq_model.specs.Sound.{foreign_name, key_name, unique_name, is_key_name, primary}
use Rattle.lq_model.specs.SqlConstraint.{constraint_by, foreign, key, key_name_or, name_or, on_delete, stated_name, table_constraint, unique}
use Rattle.lq_model.specs.SqlParser.{eat, enclosed, expect, peek}
use Rattle.lq_model.specs.SqlPart.{name, name_of, object}
use Rattle.lq_model.specs.Step.{is_foreign, is_key, is_name_list, is_unique}
use Rattle.lq_model.specs.declared.constraint.ForeignKey.{ForeignKey}
use Rattle.lq_model.specs.declared.constraint.Key.{Key}
use Rattle.lq_model.specs.declared.constraint.Unique.{Unique}
use Rattle.lq_model.specs.declared.table_item.TableConstraint.{TableConstraint}
use Rattle.lq_model.specs.declared.table_item.TableConstraint.TheVariants as constraint
use Rattle.lq_model.specs.declared.word.WordKind.{WordKind}
use Rattle.lq_model.specs.declared.word.WordKind.TheVariants as word
use Rattle.lq_parse.proofs.Makes.{IsNameText, IsObjectText, Makes, SomeSo, if_some, makes_after, makes_given, makes_if, makes_pure, makes_refuse, makes_then, name_makes, name_of_makes, object_makes}
use Rattle.lq_statement.proofs.Parts.{enclosed_makes, names_list}

abbrev pub IsKeyName : Dialect → List ℕ → Type 0
IsKeyName d n = IsNameText n × (is_key_name d n ≡ true)

abbrev pub IsKeyText : Dialect → Key → Type 0
IsKeyText d k = is_key d k ≡ true

abbrev pub IsUniqueText : Unique → Type 0
IsUniqueText u = is_unique u ≡ true

abbrev pub IsForeignText : Dialect → ForeignKey → Type 0
IsForeignText d f = is_foreign d f ≡ true

abbrev pub IsConstraint : Dialect → TableConstraint → Type 0
IsConstraint d (constraint.Key k) = IsKeyText d k
IsConstraint d (constraint.Unique u) = IsUniqueText u
IsConstraint d (constraint.Foreign f) = IsForeignText d f

abbrev pub MayBeName : Option (List ℕ) → Type 0
MayBeName o = IfSome o IsNameText

-- names

name_or_makes : (other : List ℕ) (stated : Option (List ℕ)) → MayBeName stated → Makes IsNameText (name_or other stated)
name_or_makes other None h = makes_given IsNameText (name_of other) (name_of_makes other)
name_or_makes other (Some n) h = makes_pure IsNameText n h

pub key_name_is : (d : Dialect) (table : List ℕ) → IfSome (name_of (key_name d table)) (IsKeyName d)
unfolding name_of key_name
key_name_is Postgresql table = if_some (IsKeyName Postgresql) (is_name (key_name Postgresql table)) (key_name Postgresql table) (λ is. (is, refl))
key_name_is Mysql table = if_some (IsKeyName Mysql) (is_name primary) primary (λ is. (is, refl))

key_name_makes : (d : Dialect) (table : List ℕ) (stated : Option (List ℕ)) → MayBeName stated → Makes (IsKeyName d) (key_name_or d table stated)
key_name_makes Postgresql table None h = makes_given (IsKeyName Postgresql) (name_of (key_name Postgresql table)) (key_name_is Postgresql table)
key_name_makes Postgresql table (Some n) h = makes_pure (IsKeyName Postgresql) n (h, refl)
key_name_makes Mysql table stated h = makes_given (IsKeyName Mysql) (name_of (key_name Mysql table)) (key_name_is Mysql table)

-- constraints

pub key_is : (d : Dialect) (n : List ℕ) (columns : List (List ℕ)) → IsKeyName d n → SomeSo IsNameText columns → IsKeyText d (record { name = n; columns = columns })
key_is d n columns h so = and_from (is_name n) _ h.0 (and_from (is_key_name d n) (is_name_list columns) h.1 (names_list columns so))

pub unique_is : (n : List ℕ) (columns : List (List ℕ)) → IsNameText n → SomeSo IsNameText columns → IsUniqueText (record { name = n; columns = columns })
unique_is n columns h so = and_from (is_name n) (is_name_list columns) h (names_list columns so)

pub foreign_is : (d : Dialect) (n table : List ℕ) (columns targets : List (List ℕ)) (cascade : Bool) → IsNameText n → SomeSo IsNameText columns → IsObjectText d table → SomeSo IsNameText targets
    → IsForeignText d (record { name = n; columns = columns; table = table; targets = targets; cascade = cascade })
foreign_is d n table columns targets cascade h so g more = and_from (is_name n) _ h (and_from (is_name_list columns) _ (names_list columns so) (and_from (is_object d table) (is_name_list targets) g (names_list targets more)))

key_makes : (d : Dialect) (table : List ℕ) (stated : Option (List ℕ)) → MayBeName stated → Makes (IsKeyText d) (key d table stated)
unfolding key
key_makes d table stated h =
    makes_after (IsKeyText d) (expect word.Primary) _ (λ a. makes_after (IsKeyText d) (expect word.Key) _ (λ b. makes_then (SomeSo IsNameText) (IsKeyText d) (enclosed name) _ (enclosed_makes IsNameText name name_makes) (λ columns so.
    makes_then (IsKeyName d) (IsKeyText d) (key_name_or d table stated) _ (key_name_makes d table stated h) (λ n g. makes_pure (IsKeyText d) (record { name = n; columns = columns }) (key_is d n columns g so)))))

unique_makes : (table : List ℕ) (stated : Option (List ℕ)) → MayBeName stated → Makes IsUniqueText (unique table stated)
unfolding unique
unique_makes table stated h =
    makes_after IsUniqueText (expect word.Unique) _ (λ a. makes_then (SomeSo IsNameText) IsUniqueText (enclosed name) _ (enclosed_makes IsNameText name name_makes) (λ columns so.
    makes_then IsNameText IsUniqueText (name_or (unique_name table columns) stated) _ (name_or_makes (unique_name table columns) stated h) (λ n g. makes_pure IsUniqueText (record { name = n; columns = columns }) (unique_is n columns g so))))

foreign_makes : (d : Dialect) (table : List ℕ) (stated : Option (List ℕ)) → MayBeName stated → Makes (IsForeignText d) (foreign d table stated)
unfolding foreign
foreign_makes d table stated h =
    makes_after (IsForeignText d) (expect word.Foreign) _ (λ a. makes_after (IsForeignText d) (expect word.Key) _ (λ b. makes_then (SomeSo IsNameText) (IsForeignText d) (enclosed name) _ (enclosed_makes IsNameText name name_makes) (λ columns so.
    makes_after (IsForeignText d) (expect word.References) _ (λ c. makes_then (IsObjectText d) (IsForeignText d) (object d) _ (object_makes d) (λ target is_target. makes_then (SomeSo IsNameText) (IsForeignText d) (enclosed name) _ (enclosed_makes IsNameText name name_makes) (λ targets more.
    makes_after (IsForeignText d) on_delete _ (λ cascade. makes_then IsNameText (IsForeignText d) (name_or (foreign_name table columns) stated) _ (name_or_makes (foreign_name table columns) stated h) (λ n g.
    makes_pure (IsForeignText d) (record { name = n; columns = columns; table = target; targets = targets; cascade = cascade }) (foreign_is d n target columns targets cascade g so is_target more)))))))))

stated_makes : Makes MayBeName stated_name
unfolding stated_name
stated_makes =
    makes_after MayBeName (eat word.Constraint) _ (λ stated. makes_if MayBeName stated _ _
    (makes_then IsNameText MayBeName name _ name_makes (λ n h. makes_pure MayBeName (Some n) h))
    (makes_pure MayBeName None tt))

pub constraint_makes : (d : Dialect) (table : List ℕ) → Makes (IsConstraint d) (table_constraint d table)
unfolding table_constraint
constraint_makes d table =
    makes_then MayBeName (IsConstraint d) stated_name _ stated_makes (λ stated h. makes_after (IsConstraint d) peek _ (λ found. by stated h found))
  where
    by : (stated : Option (List ℕ)) → MayBeName stated → (k : WordKind) → Makes (IsConstraint d) (constraint_by d table stated k)
    by stated h word.Primary = makes_then (IsKeyText d) (IsConstraint d) (key d table stated) _ (key_makes d table stated h) (λ it g. makes_pure (IsConstraint d) (constraint.Key it) g)
    by stated h word.Unique = makes_then IsUniqueText (IsConstraint d) (unique table stated) _ (unique_makes table stated h) (λ it g. makes_pure (IsConstraint d) (constraint.Unique it) g)
    by stated h word.Foreign = makes_then (IsForeignText d) (IsConstraint d) (foreign d table stated) _ (foreign_makes d table stated h) (λ it g. makes_pure (IsConstraint d) (constraint.Foreign it) g)
    by stated h _ = makes_refuse (IsConstraint d)
