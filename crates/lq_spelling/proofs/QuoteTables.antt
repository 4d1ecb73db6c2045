-- Columns, constraints and tables are read alike where names have left out their quotes.
use Rattle.std.proofs.Common.{◌≡◌, Bool, true, false, if◌then◌else◌, List, [], ◌∷◌, Option, Some, None, ap, sym, refl}
use Rattle.lq_base.specs.declared.dialect.Dialect.{Dialect}
use Rattle.lq_base.specs.declared.dialect.Dialect.TheVariants.{Postgresql, Mysql}
use Rattle.lq_base.specs.declared.name.Name.{Name}
use Rattle.lq_model.specs.Sound.{foreign_name, key_name, unique_name}
use Rattle.lq_model.specs.SqlTable.{added_column, clause_by, column_clause, column_foreign, column_key, column_of, column_unique, column_with, differ, foreign_to, has_constraint, identity, stated_column, target, column_item, create_table, table_item, table_of}
use Rattle.lq_model.specs.SqlConstraint.{begins_constraint, constraint_by, foreign, key, key_name_or, name_or, on_delete, on_delete_by, stated_name, table_constraint, unique}
use Rattle.lq_model.specs.SqlParser.{Parser, ◌>>=◌, eat, enclosed, expect, given, kind, many, pure, refuse, skip}
use Rattle.lq_model.specs.SqlPart.{column_kind, literal, name, name_of, object}
use Rattle.lq_model.specs.SqlWord.{may_be_name}
use Rattle.lq_model.specs.declared.table_item.ColumnClause.TheVariants as clause
use Rattle.lq_model.specs.declared.table_item.StatedColumn.{StatedColumn}
use Rattle.lq_model.specs.declared.table_item.TableConstraint.TheVariants as constraint
use Rattle.lq_model.specs.declared.table_item.TableItem.TheVariants as item
use Rattle.lq_model.specs.declared.table_item.Target.{Target}
use Rattle.lq_model.specs.declared.word.Word.{Word}
use Rattle.lq_model.specs.declared.word.WordKind.{WordKind}
use Rattle.lq_model.specs.declared.word.WordKind.TheVariants as word
use Rattle.lq_spelling.proofs.QuoteLists.{blind_enclosed, blind_many}
use Rattle.lq_spelling.proofs.QuoteParts.{Blind, Halted, Stays, blind_along, blind_by, blind_eat, blind_expect, blind_given, blind_if, blind_peek, blind_pure, blind_refuse, blind_skip, blind_so, blind_test, blind_then, halted_alike, halts, stays_given, stays_if, stays_pure, stays_refuse, stays_then}
use Rattle.lq_spelling.proofs.QuoteTests.{blind_kind, blind_literal, blind_name, blind_object}

-- what may follow where the reading may be stuck

record Idle {A : Type 0} (p : Parser A) : Type 0 where
  blind : Blind true p
  stays : Stays p

idle_then : {A B : Type 0} (p : Parser A) (f : A → Parser B) → Idle p → ((x : A) → Idle (f x)) → Idle (p >>= f)
idle_then p f first more = record {
  blind = blind_along true p f first.blind (λ x. (more x).blind) (λ x. (more x).stays);
  stays = stays_then p f first.stays (λ x. (more x).stays);
}

idle_pure : {A : Type 0} (x : A) → Idle (pure x)
idle_pure x = record { blind = blind_pure true x; stays = stays_pure x }

idle_refuse : {A : Type 0} → Idle {A = A} refuse
idle_refuse = record { blind = blind_refuse true; stays = stays_refuse }

idle_given : {A : Type 0} (o : Option A) → Idle (given o)
idle_given o = record { blind = blind_given true o; stays = stays_given o }

idle_if : {A : Type 0} (b : Bool) (p q : Parser A) → Idle p → Idle q → Idle (if b then p else q)
idle_if b p q first second = record { blind = blind_if true b p q first.blind second.blind; stays = stays_if b p q first.stays second.stays }

blind_idle : {A B : Type 0} (p : Parser A) (f : A → Parser B) → Blind true p → ((x : A) → Idle (f x)) → Blind true (p >>= f)
blind_idle p f first more = blind_along true p f first (λ x. (more x).blind) (λ x. (more x).stays)

-- columns

blind_identity : Blind false identity
unfolding identity
blind_identity =
    blind_then false (expect word.Generated) _ (blind_expect word.Generated refl) (λ a. blind_then false (expect word.By) _ (blind_expect word.By refl) (λ b.
    blind_then false (expect word.Default) _ (blind_expect word.Default refl) (λ c. blind_then false (expect word.As) _ (blind_expect word.As refl) (λ e. blind_expect word.Identity refl))))

blind_target : (d : Dialect) → Blind false (target d)
unfolding target
blind_target d =
    blind_then false (object d) _ (blind_object d) (λ table. blind_then false (expect word.Open) _ (blind_expect word.Open refl) (λ a. blind_then false name _ blind_name (λ column.
    blind_then false (expect word.Close) _ (blind_expect word.Close refl) (λ b. blind_pure false (record { table = table; column = column })))))

-- a name is no clause, and nothing follows the clauses that begins with one
blind_clause : (d : Dialect) → Blind true (column_clause d)
unfolding column_clause
blind_clause d = blind_peek true (clause_by d) (by d) (λ i j n same is may. halted_alike (clause_by d word.Quoted i) (clause_by d n j) (quoted d i (ap halts is)))
  where
    by : (d : Dialect) (k : WordKind) → Blind true (clause_by d k)
    by d word.Not = blind_then true skip _ blind_skip (λ a. blind_then true (expect word.Null) _ (blind_expect word.Null refl) (λ b. blind_pure true (Some (clause.Nullable false))))
    by d word.Null = blind_then true skip _ blind_skip (λ a. blind_pure true (Some (clause.Nullable true)))
    by d word.Default = blind_then true skip _ blind_skip (λ a. blind_then true literal _ blind_literal (λ it. blind_pure true (Some (clause.Default it))))
    by d word.Primary = blind_then true skip _ blind_skip (λ a. blind_then true (expect word.Key) _ (blind_expect word.Key refl) (λ b. blind_pure true (Some clause.PrimaryKey)))
    by d word.Unique = blind_then true skip _ blind_skip (λ a. blind_pure true (Some clause.Unique))
    by d word.References = blind_then true skip _ blind_skip (λ a. blind_then true (target d) _ (blind_target d) (λ it. blind_pure true (Some (clause.References it))))
    by Postgresql word.Generated = blind_then true identity _ blind_identity (λ a. blind_pure true (Some clause.Numbered))
    by Mysql word.AutoIncrement = blind_then true skip _ blind_skip (λ a. blind_pure true (Some clause.Numbered))
    by d _ = blind_pure true None

    quoted : (d : Dialect) (i : List Word) → halts (kind i) ≡ true → Halted (clause_by d word.Quoted i)
    quoted Postgresql i h = h
    quoted Mysql i h = h

stays_clause : (d : Dialect) → Stays (column_clause d)
unfolding column_clause
stays_clause d = record { at = λ i h. by d (kind i) h i h }
  where
    by : (d : Dialect) (k : WordKind) → halts k ≡ true → (i : List Word) → halts (kind i) ≡ true → Halted (clause_by d k i)
    by Postgresql word.Quoted h i is = is
    by Postgresql word.Open h i is = is
    by Mysql word.Quoted h i is = is
    by Mysql word.Open h i is = is
    by d _ h i is = absurd (cc)

blind_stated : (d : Dialect) → Blind true (stated_column d)
unfolding stated_column
blind_stated d =
    blind_then true name _ blind_name (λ named. blind_then true column_kind _ blind_kind (λ of. blind_idle (many (column_clause d)) _ (blind_many true (column_clause d) (blind_clause d) (stays_clause d)) (λ found.
    idle_if (differ found) _ _ (idle_pure (column_with named of found)) idle_refuse)))

pub blind_added : (d : Dialect) → Blind true (added_column d)
unfolding added_column
blind_added d = blind_idle (stated_column d) _ (blind_stated d) (λ c. idle_if (has_constraint c) _ _ idle_refuse (idle_pure (column_of c)))

idle_key : (d : Dialect) (table : Name) (c : StatedColumn) → Idle (column_key d table c)
unfolding column_key
idle_key d table c = idle_if c.key _ _ (idle_then (given (name_of (key_name d table))) _ (idle_given (name_of (key_name d table))) (λ n. idle_pure (Some (record { name = n; columns = c.name ∷ [] })))) (idle_pure None)

idle_unique : (table : Name) (c : StatedColumn) → Idle (column_unique table c)
unfolding column_unique
idle_unique table c =
    let by_default = name_of (unique_name table (c.name ∷ [])) in
    idle_if c.unique _ _ (idle_then (given by_default) _ (idle_given by_default) (λ n. idle_pure (Some (record { name = n; columns = c.name ∷ [] })))) (idle_pure None)

idle_foreign : (table column : Name) (o : Option Target) → Idle (column_foreign table column o)
unfolding column_foreign foreign_to
idle_foreign table column None = idle_pure None
idle_foreign table column (Some it) =
    let by_default = name_of (foreign_name table (column ∷ [])) in
    idle_then (given by_default) _ (idle_given by_default) (λ n. idle_pure (Some (record { name = n; columns = column ∷ []; table = it.table; targets = it.column ∷ []; cascade = false })))

-- constraints

blind_name_or : (other : Name) (stated : Option Name) → Blind false (name_or other stated)
blind_name_or other None = blind_given false (name_of other)
blind_name_or other (Some n) = blind_pure false n

blind_key_name : (d : Dialect) (table : Name) (stated : Option Name) → Blind false (key_name_or d table stated)
blind_key_name Postgresql table stated = blind_name_or (key_name Postgresql table) stated
blind_key_name Mysql table stated = blind_name_or (key_name Mysql table) None

pub blind_names : Blind false (enclosed name)
blind_names = blind_enclosed name (blind_so true name blind_name)

blind_key : (d : Dialect) (table : Name) (stated : Option Name) → Blind false (key d table stated)
unfolding key
blind_key d table stated =
    blind_then false (expect word.Primary) _ (blind_expect word.Primary refl) (λ a. blind_then false (expect word.Key) _ (blind_expect word.Key refl) (λ b. blind_then false (enclosed name) _ blind_names (λ columns.
    blind_then false (key_name_or d table stated) _ (blind_key_name d table stated) (λ n. blind_pure false (record { name = n; columns = columns })))))

blind_unique : (table : Name) (stated : Option Name) → Blind false (unique table stated)
unfolding unique
blind_unique table stated =
    blind_then false (expect word.Unique) _ (blind_expect word.Unique refl) (λ a. blind_then false (enclosed name) _ blind_names (λ columns.
    blind_then false (name_or (unique_name table columns) stated) _ (blind_name_or (unique_name table columns) stated) (λ n. blind_pure false (record { name = n; columns = columns }))))

blind_on_delete : Blind false on_delete
unfolding on_delete
blind_on_delete =
    blind_then false (eat word.On) _ (blind_eat word.On refl) (λ stated.
    blind_if false stated _ _ (blind_then false (expect word.Delete) _ (blind_expect word.Delete refl) (λ a. blind_by false on_delete_by by (λ i. refl))) (blind_pure false false))
  where
    by : (k : WordKind) → Blind false (on_delete_by k)
    by word.Cascade = blind_then false skip _ blind_skip (λ a. blind_pure false true)
    by word.Restrict = blind_then false skip _ blind_skip (λ a. blind_pure false false)
    by word.No = blind_then false skip _ blind_skip (λ a. blind_then false (expect word.Action) _ (blind_expect word.Action refl) (λ b. blind_pure false false))
    by _ = blind_refuse false

blind_foreign : (d : Dialect) (table : Name) (stated : Option Name) → Blind false (foreign d table stated)
unfolding foreign
blind_foreign d table stated =
    blind_then false (expect word.Foreign) _ (blind_expect word.Foreign refl) (λ a. blind_then false (expect word.Key) _ (blind_expect word.Key refl) (λ b. blind_then false (enclosed name) _ blind_names (λ columns.
    blind_then false (expect word.References) _ (blind_expect word.References refl) (λ c. blind_then false (object d) _ (blind_object d) (λ to. blind_then false (enclosed name) _ blind_names (λ targets. blind_then false on_delete _ blind_on_delete (λ cascade.
    blind_then false (name_or (foreign_name table columns) stated) _ (blind_name_or (foreign_name table columns) stated) (λ n.
    blind_pure false (record { name = n; columns = columns; table = to; targets = targets; cascade = cascade })))))))))

blind_stated_name : Blind false stated_name
unfolding stated_name
blind_stated_name = blind_then false (eat word.Constraint) _ (blind_eat word.Constraint refl) (λ stated. blind_if false stated _ _ (blind_then false name _ blind_name (λ found. blind_pure false (Some found))) (blind_pure false None))

pub blind_constraint : (d : Dialect) (table : Name) → Blind false (table_constraint d table)
unfolding table_constraint
blind_constraint d table = blind_then false stated_name _ blind_stated_name (λ stated. blind_by false (constraint_by d table stated) (by stated) (λ i. refl))
  where
    by : (stated : Option Name) (k : WordKind) → Blind false (constraint_by d table stated k)
    by stated word.Primary = blind_then false (key d table stated) _ (blind_key d table stated) (λ found. blind_pure false (constraint.Key found))
    by stated word.Unique = blind_then false (unique table stated) _ (blind_unique table stated) (λ found. blind_pure false (constraint.Unique found))
    by stated word.Foreign = blind_then false (foreign d table stated) _ (blind_foreign d table stated) (λ found. blind_pure false (constraint.Foreign found))
    by stated _ = blind_refuse false

pub no_constraint : (n : WordKind) → may_be_name n ≡ true → begins_constraint n ≡ false
no_constraint word.Constraint may = sym may
no_constraint word.Primary may = sym may
no_constraint word.Unique may = sym may
no_constraint word.Foreign may = sym may
no_constraint _ may = refl

-- tables

blind_column : (d : Dialect) (table : Name) → Blind true (column_item d table)
unfolding column_item
blind_column d table =
    blind_idle (stated_column d) _ (blind_stated d) (λ c. idle_then (column_key d table c) _ (idle_key d table c) (λ of_key. idle_then (column_unique table c) _ (idle_unique table c) (λ of_unique.
    idle_then (column_foreign table c.name c.target) _ (idle_foreign table c.name c.target) (λ of_foreign. idle_pure (item.Column (column_of c) of_key of_unique of_foreign)))))

blind_item : (d : Dialect) (table : Name) → Blind true (table_item d table)
unfolding table_item
blind_item d table =
    blind_test true begins_constraint _ _ no_constraint (blind_then true (table_constraint d table) _ (blind_constraint d table) (λ it. blind_pure true (item.Constraint it))) (blind_column d table)

pub blind_create_table : (d : Dialect) → Blind false (create_table d)
unfolding create_table
blind_create_table d =
    blind_then false (object d) _ (blind_object d) (λ table. blind_then false (enclosed (table_item d table)) _ (blind_enclosed (table_item d table) (blind_item d table)) (λ items. blind_given false (table_of table items)))
